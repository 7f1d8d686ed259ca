use Rattle.std.proofs.Common.{ℕ, ◌-◌, [], ◌∷◌, true, refl, sym, ap, ◌∙◌, subst, arith, rules}
use Rattle.std.proofs.lemmas.Grind.{common_steps}
use Rattle.wsn_wire.specs.Frame.{first_byte}
use Rattle.wsn_wire.specs.declared.opcode.Op.{Op}
use Rattle.wsn_scan.specs.declared.part.Taken.TheVariants as taken
use Rattle.wsn_scan.specs.Scans.{AdvancesFrom}
use Rattle.wsn_scan.proofs.EventParts.{event_part}
use Rattle.wsn_rules.specs.declared.head_info.HeadInfo.{HeadInfo}
use Rattle.wsn_scan.specs.EventFrames.{info_found, whole_part}
use Rattle.wsn_scan.specs.Feeding.{ConsumesPrefix}
use Rattle.wsn_scan.proofs.EventHeads.{event_head}
use Rattle.wsn_scan.proofs.EventRuns.{IsPastEvent, after_frames, takes_event}
use Rattle.wsn_scan.proofs.scan.Scan.next_event_after.Goals as goal

pub returns-clause-taken : goal.returns-clause-taken
returns-clause-taken c in_chunk =
    let self = c.args.self.now in
    let chunk = c.args.chunk.now in
    let frame = c.in_ok-frame.frame in
    let found = c.in_ok-frame.ensures in
    let idle = c.is_idle.ensures c.if-not-is_idle.false in
    let next = after_frames self frame.size c.with-self.result in
    let past : IsPastEvent self next frame = record {
      idle = idle;
      sender = refl;
      under = refl;
      room = omega (arith, c.requires.fits, found.within);
      used = refl;
      counts = c.with-self.ensures;
    } in
    let takes = takes_event self next chunk c.take_event_after.new.chunk frame idle past found.within.1 in_chunk (found.taken in_chunk) in
    subst (λ (head : HeadInfo). ConsumesPrefix self (record self { room = self.room - frame.size; used = c.taken-self.result; counts = c.with-self.result }) chunk frame.size (head ∷ [])) (sym c.info-head.ensures)
    (subst (λ (used : ℕ). ConsumesPrefix self (record self { room = self.room - frame.size; used = used; counts = c.with-self.result }) chunk frame.size (info_found self.used frame ∷ [])) (sym c.taken-self.ensures)
    (event_head self next chunk c.take_event_after.new.chunk frame idle takes))

pub returns-clause-part : goal.returns-clause-part
returns-clause-part c =
    let self = c.args.self.now in
    let chunk = c.args.chunk.now in
    let after = c.take_event_after.new.chunk in
    let frame = c.in_ok-frame.frame in
    let found = c.in_ok-frame.ensures in
    let idle = c.is_idle.ensures c.if-not-is_idle.false in
    let next = after_frames self frame.size c.with-self.result in
    let past : IsPastEvent self next frame = record {
      idle = idle;
      sender = refl;
      under = refl;
      room = omega (arith, c.requires.fits, found.within);
      used = refl;
      counts = c.with-self.ensures;
    } in
    subst (λ (head : HeadInfo). AdvancesFrom self.stage self (record self { room = self.room - frame.size; used = c.taken-self.result; counts = c.with-self.result }) chunk after frame.size taken.Part (whole_part head frame.size)) (sym c.info-head.ensures)
    (subst (λ (used : ℕ). AdvancesFrom self.stage self (record self { room = self.room - frame.size; used = used; counts = c.with-self.result }) chunk after frame.size taken.Part (whole_part (info_found self.used frame) frame.size)) (sym c.taken-self.ensures)
    (event_part self next chunk after frame idle (λ in_chunk. takes_event self next chunk after frame idle past found.within.1 in_chunk (found.taken in_chunk)) found.within.0 (omega (arith, found.within, c.take_event_after.auto.chunk))))

pub returns-clause-first : goal.returns-clause-first
returns-clause-first c = (
  ap (λ (head : HeadInfo). head.fin) c.info-head.ensures,
  c.in_ok-frame.ensures.first ∙ ap (λ (op : Op). first_byte true op ∷ []) (sym (ap (λ (head : HeadInfo). head.op) c.info-head.ensures)),
)

pub returns-clause-whole : goal.returns-clause-whole
returns-clause-whole c = grind (arith, common_steps)

pub returns-clause-reported : goal.returns-clause-reported
returns-clause-reported c = search rules

pub returns-then-not-is_idle-clause-part : goal.returns-then-not-is_idle-clause-part
returns-then-not-is_idle-clause-part c = search rules

pub returns-then-not-is_idle-clause-first : goal.returns-then-not-is_idle-clause-first
returns-then-not-is_idle-clause-first c = search rules

pub returns-then-not-is_idle-clause-whole : goal.returns-then-not-is_idle-clause-whole
returns-then-not-is_idle-clause-whole c = search rules

pub returns-then-not-is_idle-clause-reported : goal.returns-then-not-is_idle-clause-reported
returns-then-not-is_idle-clause-reported c = search rules

pub returns-in_err-frame-clause-part : goal.returns-in_err-frame-clause-part
returns-in_err-frame-clause-part c = grind (arith, common_steps)

pub returns-in_err-frame-clause-first : goal.returns-in_err-frame-clause-first
returns-in_err-frame-clause-first c = grind (arith, common_steps)

pub returns-in_err-frame-clause-whole : goal.returns-in_err-frame-clause-whole
returns-in_err-frame-clause-whole c = grind (arith, common_steps)

pub returns-in_err-frame-clause-reported : goal.returns-in_err-frame-clause-reported
returns-in_err-frame-clause-reported c = grind (arith, common_steps)

pub returns-then-not-is_idle-clause-taken : goal.returns-then-not-is_idle-clause-taken
returns-then-not-is_idle-clause-taken c = search rules

pub returns-then-not-is_idle-clause-within : goal.returns-then-not-is_idle-clause-within
returns-then-not-is_idle-clause-within c = search rules

pub returns-then-not-is_idle-clause-kept : goal.returns-then-not-is_idle-clause-kept
returns-then-not-is_idle-clause-kept c = search rules

pub returns-then-not-is_idle-clause-room : goal.returns-then-not-is_idle-clause-room
returns-then-not-is_idle-clause-room c = search rules

pub returns-then-not-is_idle-clause-none : goal.returns-then-not-is_idle-clause-none
returns-then-not-is_idle-clause-none c = search rules

pub take_event_after-requires-clause-none_open : goal.take_event_after-requires-clause-none_open
take_event_after-requires-clause-none_open c = search rules

pub returns-in_err-frame-clause-taken : goal.returns-in_err-frame-clause-taken
returns-in_err-frame-clause-taken c = grind (arith, common_steps)

pub returns-in_err-frame-clause-within : goal.returns-in_err-frame-clause-within
returns-in_err-frame-clause-within c = search rules

pub returns-in_err-frame-clause-kept : goal.returns-in_err-frame-clause-kept
returns-in_err-frame-clause-kept c = grind (arith, common_steps)

pub returns-in_err-frame-clause-room : goal.returns-in_err-frame-clause-room
returns-in_err-frame-clause-room c = grind (arith, common_steps)

pub returns-in_err-frame-clause-none : goal.returns-in_err-frame-clause-none
returns-in_err-frame-clause-none c = grind (arith, common_steps)

pub overflow_sub-self : goal.overflow_sub-self
overflow_sub-self c = grind (arith, common_steps)

pub returns-clause-within : goal.returns-clause-within
returns-clause-within c = grind (arith, common_steps)

pub returns-clause-kept : goal.returns-clause-kept
returns-clause-kept c = search rules

pub returns-clause-room : goal.returns-clause-room
returns-clause-room c = grind (arith, common_steps)

pub take_event_after-requires-clause-first : goal.take_event_after-requires-clause-first
take_event_after-requires-clause-first c = c.requires.first
