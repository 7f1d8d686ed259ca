use Rattle.std.proofs.Common.{◌≡◌, ◌+◌, ◌-◌, ◌<◌, ◌≤◌, ℕ, List, Option, Ok, true, [], ◌∷◌, ◌++◌, length, take, drop, take-append-drop, ap, refl, sym, ◌∙◌, subst, arith, rules}
use Rattle.std.proofs.lemmas.Grind.{common_steps}
use Rattle.std.proofs.lemmas.List.{length-take-le}
use borrow.Rule.Slice.PartMut.{mid_of, mid_len, put_mid}
use Rattle.wsn_wire.specs.Frame.{IsBytes, first_byte}
use Rattle.wsn_wire.proofs.FrameLemmas.{IsBytes-right}
use Rattle.wsn_frame.specs.declared.kept_message.OpenMessage.{OpenMessage}
use Rattle.wsn_rules.specs.Group.{unfinished}
use Rattle.wsn_frame.specs.KeptMessages.{IsOpenMessage}
use Rattle.wsn_frame.specs.PartialHeads.{IsHead}
use Rattle.wsn_frame.specs.PayloadChecks.{IsChecked}
use Rattle.wsn_frame.specs.Payloads.{unmasked_by}
use Rattle.wsn_frame.proofs.FrameStarts.{goes_on, begins}
use Rattle.wsn_frame.proofs.FramesAtOnce.{payload_after, masked_back, head_and_payload, holds_at_once}
use Rattle.wsn_frame.proofs.PayloadMore.{length-unmasked_by}
use Rattle.wsn_scan.specs.declared.scan.events.EventFrame.{EventFrame}
use Rattle.wsn_scan.specs.EventFrames.{IsEventFrame}
use Rattle.wsn_scan.proofs.EmptyFrames.{empty_event, kept_after_head}
use Rattle.wsn_scan.proofs.EventFrames.{ends_event, first_of, key_fits, key_room, written_after, kept_before}
use Rattle.wsn_rules.proofs.PlanTheory.MessageFrames.{bytes_take}
use Rattle.wsn_scan.proofs.scan.events.take_event_after.Goals as goal

pub returns-clause-taken : goal.returns-clause-taken
returns-clause-taken c in_chunk =
    let head = c.in_ok-start.head in
    let role = c.args.context.now.role in
    let limits = c.args.context.now.limits in
    let start = c.in_ok-start.start in
    let end = start + head.len in
    let chunk = c.args.chunk.now in
    let found = c.in_ok-start.ensures in
    let plain = c.is_plain.ensures c.if-not-is_plain.false in
    let front = take start chunk in
    let wire = mid_of start (end - start) chunk in
    let came = take end chunk in
    let within : end ≤ length chunk = omega (arith, found.1, c.if-head-room.false) in
    let ordered : start ≤ end = omega arith in
    let size : length wire ≡ head.len = mid_len start end chunk within ∙ omega arith in
    let parts : came ≡ front ++ wire = head_and_payload start end chunk ordered in
    let in_came : IsBytes (front ++ wire) = subst IsBytes parts (bytes_take end chunk in_chunk) in
    let in_wire : IsBytes wire = IsBytes-right front wire in_came in
    let fed = mid_of start (end - start) (put_mid start (end - start) chunk c.unmask.new.bytes) in
    let fed_is : fed ≡ unmasked_by head.key 0 wire = payload_after head.key start end chunk c.unmask.new.bytes ordered within c.unmask.ensures in (
      plain.1,
      λ fs range lawful no_close none.
          let group = unfinished fs in
          let first = first_byte head.first.fin head.first.op in
          let is_head : IsHead role limits group head front = found.2 group (subst (λ (m : Option OpenMessage). IsOpenMessage m group) (sym c.requires.none_open) none) in
          let valid = c.is_valid.ensures (search rules) plain.0 group none (goes_on role limits group head front is_head) (begins role limits group head front is_head) in
          let total : length fed ≡ head.len = ap (λ (bs : List ℕ). length bs) fed_is ∙ length-unmasked_by head.key 0 wire ∙ size in
          let all : IsChecked group first head.len [] (unmasked_by head.key 0 wire) (Ok valid.1) =
          subst (λ (bs : List ℕ). IsChecked group first head.len [] bs (Ok valid.1)) fed_is
          (subst (λ (n : ℕ). IsChecked group first n [] fed (Ok valid.1)) total valid.3) in
          let holds = holds_at_once role limits group head valid.0 valid.1 front wire (front ++ wire) refl in_wire is_head valid.2 (omega (arith, c.if-head-eq0.false)) size all in
          ends_event role limits fs head valid.1 front wire range lawful none is_head holds size in_came plain.0 plain.2 chunk _ end parts
          (written_after head.key start end chunk c.unmask.new.bytes ordered within c.unmask.ensures c.clear_key.new.head c.clear_key.ensures c.clear_key.auto.head),
    )

pub returns-clause-kept : goal.returns-clause-kept
returns-clause-kept c =
    let start = c.in_ok-start.start in
    let end = start + c.in_ok-start.head.len in
    let within : end ≤ length c.args.chunk.now = omega (arith, c.in_ok-start.ensures.1, c.if-head-room.false) in
    kept_before c.in_ok-start.head.key start end c.args.chunk.now c.unmask.new.bytes (omega arith) within c.unmask.ensures c.clear_key.new.head c.clear_key.auto.head

pub clear_key-requires : goal.clear_key-requires
clear_key-requires c =
    let head = c.in_ok-start.head in
    let start = c.in_ok-start.start in
    let end = start + head.len in
    let chunk = c.args.chunk.now in
    let within : end ≤ length chunk = omega (arith, c.in_ok-start.ensures.1, c.if-head-room.false) in
    let is_head = c.in_ok-start.ensures.2 [] (subst (λ (m : Option OpenMessage). IsOpenMessage m []) (sym c.requires.none_open) refl) in
    key_room head.key start end chunk c.unmask.new.bytes (omega arith) within c.unmask.ensures (key_fits c.args.context.now.role c.args.context.now.limits [] head (take start chunk) is_head)

pub returns-then-not-is_valid-clause-none : goal.returns-then-not-is_valid-clause-none
returns-then-not-is_valid-clause-none c =
    let start = c.in_ok-start.start in
    let end = start + c.in_ok-start.head.len in
    masked_back c.in_ok-start.head.key start end c.args.chunk.now c.unmask.new.bytes (omega arith) (omega (arith, c.in_ok-start.ensures.1, c.if-head-room.false)) c.unmask.ensures c.unmask-then-not-is_valid.new.bytes c.unmask-then-not-is_valid.ensures

pub take_empty-requires : goal.take_empty-requires
take_empty-requires c =
    let head = c.in_ok-start.head in
    let start = c.in_ok-start.start in
    key_fits c.args.context.now.role c.args.context.now.limits [] head (take start c.args.chunk.now)
    (c.in_ok-start.ensures.2 [] (subst (λ (m : Option OpenMessage). IsOpenMessage m []) (sym c.requires.none_open) refl))

pub returns-then-head-eq0-clause-taken : goal.returns-then-head-eq0-clause-taken
returns-then-head-eq0-clause-taken c in_chunk =
    let role = c.args.context.now.role in
    let limits = c.args.context.now.limits in
    let head = c.in_ok-start.head in
    let start = c.in_ok-start.start in
    let chunk = c.args.chunk.now in
    let found = c.in_ok-start.ensures in
    let e = c.in_ok-frame.ensures in
    let bytes = c.take_empty.new.bytes in
    subst (λ (frame : EventFrame). IsEventFrame role limits chunk (bytes ++ drop start chunk) frame) (sym e.taken)
    (empty_event role limits head chunk bytes start c.if-head-eq0.true found.1 e.cleared c.take_empty.auto.bytes in_chunk
    (λ group none. found.2 group (subst (λ (m : Option OpenMessage). IsOpenMessage m group) (sym c.requires.none_open) none)) e.plain.0 e.plain.1 e.plain.2)

pub returns-clause-first : goal.returns-clause-first
returns-clause-first c =
    let head = c.in_ok-start.head in
    let start = c.in_ok-start.start in
    let is_head = c.in_ok-start.ensures.2 [] (subst (λ (m : Option OpenMessage). IsOpenMessage m []) (sym c.requires.none_open) refl) in
    first_of c.args.context.now.role c.args.context.now.limits head c.args.chunk.now start c.in_ok-start.ensures.0 is_head (c.is_plain.ensures c.if-not-is_plain.false).0

pub returns-then-head-eq0-clause-first : goal.returns-then-head-eq0-clause-first
returns-then-head-eq0-clause-first c =
    let head = c.in_ok-start.head in
    let start = c.in_ok-start.start in
    let e = c.in_ok-frame.ensures in
    let is_head = c.in_ok-start.ensures.2 [] (subst (λ (m : Option OpenMessage). IsOpenMessage m []) (sym c.requires.none_open) refl) in
    subst (λ (frame : EventFrame). take 1 c.args.chunk.now ≡ first_byte true frame.op ∷ []) (sym e.taken)
    (first_of c.args.context.now.role c.args.context.now.limits head c.args.chunk.now start c.in_ok-start.ensures.0 is_head e.plain.0)

pub returns-in_err-frame-clause-first : goal.returns-in_err-frame-clause-first
returns-in_err-frame-clause-first c = grind (arith, common_steps)

pub returns-in_err-start-clause-first : goal.returns-in_err-start-clause-first
returns-in_err-start-clause-first c = grind (arith, common_steps)

pub returns-then-head-eq0-clause-within : goal.returns-then-head-eq0-clause-within
returns-then-head-eq0-clause-within c =
    let start = c.in_ok-start.start in
    let chunk = c.args.chunk.now in
    let found = c.in_ok-start.ensures in
    let size : length (take start chunk) ≡ start = length-take-le start chunk found.1 in
    let some = found.0 in
    subst (λ (frame : EventFrame). (0 < frame.size) × (frame.size ≤ length chunk) × (frame.len ≤ frame.size)) (sym c.in_ok-frame.ensures.taken)
    (omega (arith, size, some), omega (arith, size, found.1), omega arith)

pub returns-then-head-eq0-clause-kept : goal.returns-then-head-eq0-clause-kept
returns-then-head-eq0-clause-kept c =
    let start = c.in_ok-start.start in
    let chunk = c.args.chunk.now in
    let bytes = c.take_empty.new.bytes in
    let e = c.in_ok-frame.ensures in
    subst (λ (frame : EventFrame). drop frame.size (bytes ++ drop start chunk) ≡ drop frame.size chunk) (sym e.taken)
    (kept_after_head c.args.context.now.role c.args.context.now.limits c.in_ok-start.head chunk bytes start c.if-head-eq0.true c.in_ok-start.ensures.1 e.cleared c.take_empty.auto.bytes)

pub returns-in_err-frame-clause-none : goal.returns-in_err-frame-clause-none
returns-in_err-frame-clause-none c =
    let start = c.in_ok-start.start in
    let chunk = c.args.chunk.now in
    let same : c.take_empty.new.bytes ++ drop start chunk ≡ chunk = ap (λ (bs : List ℕ). bs ++ drop start chunk) c.in_err-frame.ensures.none ∙ take-append-drop start chunk in
    search rules

pub returns-in_err-frame-clause-taken : goal.returns-in_err-frame-clause-taken
returns-in_err-frame-clause-taken c = grind (arith, common_steps)

pub returns-in_err-frame-clause-within : goal.returns-in_err-frame-clause-within
returns-in_err-frame-clause-within c = grind (arith, common_steps)

pub returns-in_err-frame-clause-kept : goal.returns-in_err-frame-clause-kept
returns-in_err-frame-clause-kept c = grind (arith, common_steps)

pub slice_bounds-take_empty-end : goal.slice_bounds-take_empty-end
slice_bounds-take_empty-end c = search rules

pub slice_bounds-take_empty-end-then-head-eq0 : goal.slice_bounds-take_empty-end-then-head-eq0
slice_bounds-take_empty-end-then-head-eq0 c = grind (arith, common_steps)

pub returns-in_err-start-clause-taken : goal.returns-in_err-start-clause-taken
returns-in_err-start-clause-taken c = search rules

pub returns-in_err-start-clause-within : goal.returns-in_err-start-clause-within
returns-in_err-start-clause-within c = search rules

pub returns-in_err-start-clause-kept : goal.returns-in_err-start-clause-kept
returns-in_err-start-clause-kept c = grind (arith, common_steps)

pub returns-in_err-start-clause-none : goal.returns-in_err-start-clause-none
returns-in_err-start-clause-none c = grind (arith, common_steps)

pub overflow_sub-room : goal.overflow_sub-room
overflow_sub-room c = search rules

pub returns-then-head-room-clause-none : goal.returns-then-head-room-clause-none
returns-then-head-room-clause-none c = search rules

pub overflow_add-end : goal.overflow_add-end
overflow_add-end c = search rules

pub slice_bounds-unmask-count : goal.slice_bounds-unmask-count
slice_bounds-unmask-count c = search rules

pub slice_bounds-unmask-start : goal.slice_bounds-unmask-start
slice_bounds-unmask-start c = search rules

pub slice_bounds-unmask-end : goal.slice_bounds-unmask-end
slice_bounds-unmask-end c = search rules

pub unmask-requires : goal.unmask-requires
unmask-requires c = omega arith

pub slice_bounds-is_valid-count : goal.slice_bounds-is_valid-count
slice_bounds-is_valid-count c = grind (arith, common_steps)

pub slice_bounds-is_valid-start : goal.slice_bounds-is_valid-start
slice_bounds-is_valid-start c = grind (arith, common_steps)

pub slice_bounds-is_valid-end : goal.slice_bounds-is_valid-end
slice_bounds-is_valid-end c = grind (arith, common_steps)

pub is_valid-requires : goal.is_valid-requires
is_valid-requires c = record { some = search rules; no_close = (c.is_plain.ensures c.if-not-is_plain.false).1 }

pub slice_bounds-clear_key-end : goal.slice_bounds-clear_key-end
slice_bounds-clear_key-end c = grind (arith, common_steps)

pub slice_bounds-clear_key-end-2 : goal.slice_bounds-clear_key-end-2
slice_bounds-clear_key-end-2 c = grind (arith, common_steps)

pub slice_bounds-unmask-count-then-not-is_valid : goal.slice_bounds-unmask-count-then-not-is_valid
slice_bounds-unmask-count-then-not-is_valid c = search rules

pub slice_bounds-unmask-start-then-not-is_valid : goal.slice_bounds-unmask-start-then-not-is_valid
slice_bounds-unmask-start-then-not-is_valid c = search rules

pub slice_bounds-unmask-end-then-not-is_valid : goal.slice_bounds-unmask-end-then-not-is_valid
slice_bounds-unmask-end-then-not-is_valid c = search rules

pub unmask-requires-then-not-is_valid : goal.unmask-requires-then-not-is_valid
unmask-requires-then-not-is_valid c = search rules

pub shape_of-chunk : goal.shape_of-chunk
shape_of-chunk c = search rules

pub returns-clause-within : goal.returns-clause-within
returns-clause-within c = grind (arith, common_steps)

pub shape_of-chunk-then-not-is_valid : goal.shape_of-chunk-then-not-is_valid
shape_of-chunk-then-not-is_valid c = grind (arith, common_steps)

pub whole_head_after-requires : goal.whole_head_after-requires
whole_head_after-requires c = c.requires.first
