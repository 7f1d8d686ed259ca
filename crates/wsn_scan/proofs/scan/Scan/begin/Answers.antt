use Rattle.std.proofs.Common.{◌≡◌, ◌+◌, ◌-◌, ◌≤◌, ℕ, nat_eq, true, inl, Ok, Option, List, [], ◌++◌, length, take, drop, refl, sym, ap, ◌∙◌, subst, arith, append_assoc, rules}
use Rattle.std.proofs.lemmas.Grind.{common_steps}
use Rattle.std.proofs.lemmas.Bool.{eq-eqb}
use Rattle.std.proofs.lemmas.List.{length-take-le}
use borrow.Rule.Slice.PartMut.{mid_of, mid_len, put_mid}
use Rattle.wsn_wire.specs.declared.refusal.Reason.{Reason}
use Rattle.wsn_wire.specs.Frame.{IsBytes, first_byte}
use Rattle.wsn_wire.proofs.FrameLemmas.{first_byte_fields, IsBytes-right}
use Rattle.wsn_frame.specs.declared.kept_message.OpenMessage.{OpenMessage}
use Rattle.wsn_frame.specs.KeptMessages.{IsOpenMessage}
use Rattle.wsn_rules.specs.Evidence.{EvidentByPayload}
use Rattle.wsn_rules.specs.Group.{unfinished}
use Rattle.wsn_frame.specs.PayloadChecks.{IsChecked}
use Rattle.wsn_frame.specs.Payloads.{unmasked_by}
use Rattle.wsn_frame.proofs.FrameStarts.{goes_on, begins}
use Rattle.wsn_frame.proofs.FramesAtOnce.{kept_after_frame, payload_after, masked_back, head_and_payload}
use Rattle.wsn_frame.proofs.PayloadBytes.{cut_at_start}
use Rattle.wsn_frame.proofs.PayloadMore.{length-unmasked_by}
use Rattle.wsn_rules.proofs.PlanTheory.MessageFrames.{bytes_take}
use Rattle.wsn_scan.proofs.BegunFrames.{holds_begun, drop_mid, total_is, begun_part, not_all}
use Rattle.wsn_scan.proofs.scan.Scan.begin.Goals as goal

pub returns-then-not-takes-clause-none : goal.returns-then-not-takes-clause-none
returns-then-not-takes-clause-none c =
    let start = c.args.start in
    let end = start + c.min-count.result in
    let within : end ≤ length c.args.chunk.now = omega (arith, c.requires.within, c.min-count.ensures) in
    (refl, masked_back c.args.head.now.key start end c.args.chunk.now c.unmask.new.bytes (omega arith) within c.unmask.ensures c.unmask-then-not-takes.new.bytes c.unmask-then-not-takes.ensures)

pub returns-then-not-takes-clause-cut : goal.returns-then-not-takes-clause-cut
returns-then-not-takes-clause-cut c empty role limits group bytes is_open is_head =
    let head = c.args.head.now in
    let start = c.args.start in
    let end = start + c.min-count.result in
    let chunk = c.args.chunk.now in
    let within : end ≤ length chunk = omega (arith, c.requires.within, c.min-count.ensures) in
    let checked = c.new-check.ensures group is_open (goes_on role limits group head bytes is_head) (begins role limits group head bytes is_head) in
    let fed_is = payload_after head.key start end chunk c.unmask.new.bytes (omega arith) within c.unmask.ensures in
    let size = ap (λ (bs : List ℕ). length bs) fed_is ∙ length-unmasked_by head.key 0 (mid_of start (end - start) chunk) ∙ mid_len start end chunk within in
    let no_more : end - start ≡ 0 = omega (arith, c.min-count.ensures, empty) in
    let row = c.takes.ensures.cut (search rules) (size ∙ no_more) group (first_byte head.first.fin head.first.op) checked (first_byte_fields head.first.fin head.first.op).fin_is in
    cut_at_start role limits group head bytes is_head c.new-check.result checked empty row.0 row.1

pub returns-clause-taken : goal.returns-clause-taken
returns-clause-taken c role limits bytes rest fs in_chunk has_consumed none some is_head =
    let head = c.args.head.now in
    let start = c.args.start in
    let count = c.min-count.result in
    let end = start + count in
    let chunk = c.args.chunk.now in
    let group = unfinished fs in
    let first = first_byte head.first.fin head.first.op in
    let wire = mid_of start (end - start) chunk in
    let came = take end chunk in
    let within : end ≤ length chunk = omega (arith, c.requires.within, c.min-count.ensures) in
    let size : length wire ≡ count = mid_len start end chunk within ∙ omega arith in
    let parts : came ≡ take start chunk ++ wire = head_and_payload start end chunk (omega arith) in
    let in_came : IsBytes came = bytes_take end chunk in_chunk in
    let in_wire : IsBytes wire = IsBytes-right (take start chunk) wire (subst IsBytes parts in_came) in
    let is_open : IsOpenMessage c.args.message.now group = subst (λ (m : Option OpenMessage). IsOpenMessage m group) (sym c.requires.open) has_consumed.message in
    let checked = c.new-check.ensures group is_open (goes_on role limits group head (rest ++ take start chunk) is_head) (begins role limits group head (rest ++ take start chunk) is_head) in
    let fed_is = payload_after head.key start end chunk c.unmask.new.bytes (omega arith) within c.unmask.ensures in
    let fed_size = ap (λ (bs : List ℕ). length bs) fed_is ∙ length-unmasked_by head.key 0 wire ∙ size in
    let yes : c.takes.result ≡ true = c.if-not-takes.false in
    let fed : IsChecked group first head.len [] (unmasked_by head.key 0 wire) (Ok c.takes.new.check) =
    subst (λ (bs : List ℕ). IsChecked group first head.len [] bs (Ok c.takes.new.check)) fed_is
    (c.takes.ensures.taken yes group first head.len [] checked (first_byte_fields head.first.fin head.first.op).fin_is (total_is count head.len _ fed_size) (omega (arith, fed_size, c.min-count.ensures))) in
    let quiet : head.len ≡ 0 → (reason : Reason) → EvidentByPayload group reason first 0 [] → ⊥ = λ empty.
    let no_more : count ≡ head.len = omega (arith, c.min-count.ensures, empty) in
    let last : nat_eq count head.len ≡ true = eq-eqb count head.len no_more in
    c.takes.ensures.whole yes last (omega (arith, fed_size, c.min-count.ensures, empty)) group first checked (first_byte_fields head.first.fin head.first.op).fin_is in
    let whole : rest ++ came ≡ (rest ++ take start chunk) ++ wire = ap (λ (bs : List ℕ). rest ++ bs) parts ∙ sym (append_assoc rest (take start chunk) wire) in
    let holds = holds_begun role limits group head c.new-check.result c.takes.new.check (rest ++ take start chunk) wire (rest ++ came) whole in_wire is_head checked (omega (arith, size, c.min-count.ensures)) fed quiet in
    let added = c.add_part.ensures.taken role limits bytes rest came wire [] (unmasked_by head.key 0 wire) fs has_consumed none in_came (length-take-le end chunk within) holds (sym size) (omega (arith, size, c.min-count.ensures)) refl in
    let shown = drop_mid start count chunk c.unmask.new.bytes head.key within c.unmask.ensures in (
      record {
        frames = added.frames;
        since = added.since;
        position = added.position;
        has_scanned = added.has_scanned;
        found = record {
          before = [];
          is_at = (refl, refl);
          goes_on = begun_part fs c.add_part.new.part (unmasked_by head.key 0 wire) _ added.frames added.position (ap (λ (n : ℕ). drop n (take end (put_mid start (end - start) chunk c.unmask.new.bytes))) c.add_part.ensures.start ∙ shown) added.found;
        };
      },
      (
        λ more. omega (arith, some),
        λ is. let other : (count ≡ head.len) → ⊥ = not_all c.add_part.new.part.ends count head.len c.add_part.ensures.ends is in inl (omega (arith, other, c.min-count.ensures, c.requires.within)),
      ),
    )

pub overflow_sub-chunk : goal.overflow_sub-chunk
overflow_sub-chunk c = search rules

pub overflow_add-end : goal.overflow_add-end
overflow_add-end c = search rules

pub slice_bounds-unmask-count : goal.slice_bounds-unmask-count
slice_bounds-unmask-count c = search rules

pub slice_bounds-unmask-start : goal.slice_bounds-unmask-start
slice_bounds-unmask-start c = search rules

pub slice_bounds-unmask-end : goal.slice_bounds-unmask-end
slice_bounds-unmask-end c = search rules

pub unmask-requires : goal.unmask-requires
unmask-requires c = search rules

pub slice_bounds-takes-count : goal.slice_bounds-takes-count
slice_bounds-takes-count c = search rules

pub slice_bounds-takes-start : goal.slice_bounds-takes-start
slice_bounds-takes-start c = search rules

pub slice_bounds-takes-end : goal.slice_bounds-takes-end
slice_bounds-takes-end c = grind (arith, common_steps)

pub slice_bounds-unmask-count-then-not-takes : goal.slice_bounds-unmask-count-then-not-takes
slice_bounds-unmask-count-then-not-takes c = grind (arith, common_steps)

pub slice_bounds-unmask-start-then-not-takes : goal.slice_bounds-unmask-start-then-not-takes
slice_bounds-unmask-start-then-not-takes c = search rules

pub slice_bounds-unmask-end-then-not-takes : goal.slice_bounds-unmask-end-then-not-takes
slice_bounds-unmask-end-then-not-takes c = search rules

pub unmask-requires-then-not-takes : goal.unmask-requires-then-not-takes
unmask-requires-then-not-takes c = search rules

pub shape_of-chunk-then-not-takes : goal.shape_of-chunk-then-not-takes
shape_of-chunk-then-not-takes c = search rules

pub add_part-requires-clause-fits : goal.add_part-requires-clause-fits
add_part-requires-clause-fits c = grind (arith, common_steps)

pub add_part-requires-clause-open : goal.add_part-requires-clause-open
add_part-requires-clause-open c = search rules

pub shape_of-chunk : goal.shape_of-chunk
shape_of-chunk c = grind (arith, common_steps)

pub returns-clause-start : goal.returns-clause-start
returns-clause-start c = search rules

pub returns-clause-part : goal.returns-clause-part
returns-clause-part c =
    let start = c.args.start in
    let end = start + c.min-count.result in
    let kept = kept_after_frame c.args.head.now.key start end c.args.chunk.now c.unmask.new.bytes (omega arith) (omega (arith, c.requires.within, c.min-count.ensures)) c.unmask.ensures in (
      (grind (arith, common_steps), kept, grind (arith, common_steps)),
      (grind (arith, common_steps), grind (arith, common_steps), grind (arith, common_steps)),
      grind (arith, common_steps),
    )
