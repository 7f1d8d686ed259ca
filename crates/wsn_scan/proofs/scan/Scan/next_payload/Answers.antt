use Rattle.std.proofs.Common.{◌≡◌, ◌+◌, ◌≤◌, ◌^◌, ℕ, List, ◌++◌, length, take, drop, Ok, Err, inl, inr, refl, sym, ap, ◌∙◌, subst, arith, append_assoc, length-append, rules, ◌-◌}
use borrow.Rule.Slice.PartMut.{post_of}
use Rattle.std.proofs.lemmas.Grind.{common_steps}
use Rattle.std.proofs.lemmas.List.{length-take-le, take-take}
use Rattle.wsn_wire.specs.Frame.{first_byte, stream}
use Rattle.wsn_wire.proofs.FrameLemmas.{first_byte_fields}
use Rattle.wsn_rules.specs.Group.{unfinished}
use Rattle.wsn_rules.specs.Evidence.{HasNoEvidence}
use Rattle.wsn_frame.specs.PartialHeads.{IsEvidentLast, info_at}
use Rattle.wsn_frame.specs.PayloadChecks.{IsChecked}
use Rattle.wsn_frame.specs.Payloads.{unmasked_by}
use Rattle.wsn_rules.specs.Heads.{IsBegun}
use Rattle.wsn_scan.specs.Positions.{Position, begun_at}
use Rattle.wsn_scan.specs.Parts.{IsPart}
use Rattle.wsn_scan.proofs.HeadsReported.{head_begins, front_without_evidence}
use Rattle.wsn_rules.proofs.PlanTheory.MessageFrames.{bytes_take}
use Rattle.wsn_frame.proofs.PayloadMore.{payload_on, holds_on, evident_last, checked_share, masked_again, length-unmasked_by}
use Rattle.wsn_scan.proofs.Refusals.{refuses}
use Rattle.wsn_scan.proofs.PayloadPrefixes.{handed_out, of_its_head}
use Rattle.wsn_scan.proofs.BegunFrames.{not_all, goes_on_as}
use Rattle.wsn_scan.proofs.UnmaskedParts.{front_stays}
use Rattle.wsn_scan.specs.Parts.{unmasked_at}
use Rattle.wsn_scan.proofs.scan.Scan.next_payload.Goals as goal

pub returns-in-Ok-clause-taken : goal.returns-in-Ok-clause-taken
returns-in-Ok-clause-taken c role limits bytes rest fs at in_bytes has_scanned =
    let head = c.args.inside.head in
    let group = unfinished fs in
    let chunk = c.args.chunk.now in
    let count = c.min-count.result in
    let w = take count chunk in
    let here = has_scanned.is_at.1.1 in
    let before = has_scanned.is_at.1.0 in
    let wire = here.wire in
    let h = here.holds in
    let within : count ≤ length chunk = omega (arith, c.min-count.ensures) in
    let size : length w ≡ count = length-take-le count chunk within in
    let fits : length wire + length w ≤ head.len = omega (arith, size, here.done, here.short, c.min-count.ensures, c.saturating_sub-left.ensures) in
    let checked : IsChecked group (first_byte head.first.fin head.first.op) head.len (unmasked_by head.key 0 wire) (unmasked_by head.key (length wire) w) (Ok c.in-Ok.check) =
    checked_share group (first_byte head.first.fin head.first.op) head.len head.key c.args.inside.done count c.saturating_sub-left.result wire chunk c.unmask.new.bytes (Ok c.in-Ok.check) within
    here.done here.short c.saturating_sub-left.ensures fits c.unmask.ensures
    (c.in-Ok.ensures.checked group (first_byte head.first.fin head.first.op) head.len (unmasked_by head.key 0 wire) h.checked (first_byte_fields head.first.fin head.first.op).fin_is) in
    let in_w = bytes_take count chunk in_bytes in
    let joined : length (wire ++ w) ≡ length wire + length w = length-append wire w in
    let payload : before ++ take count (c.unmask.new.bytes ++ drop count chunk) ≡ unmasked_by head.key 0 (wire ++ w) =
    payload_on head.key c.args.inside.done count chunk c.unmask.new.bytes within c.unmask.ensures wire before here.done here.unmasked in
    let added = c.add_part.ensures.taken role limits bytes rest w (wire ++ w) before (take count (c.unmask.new.bytes ++ drop count chunk)) fs has_scanned.has_consumed has_scanned.is_at.0 in_w size
    (holds_on role limits group head c.args.inside.check wire rest h w fits c.in-Ok.check in_w checked) (omega (arith, joined, size, here.done)) (omega (arith, joined, fits)) payload in
    let shown = ap (λ (n : ℕ). drop n (take count (c.unmask.new.bytes ++ drop count chunk))) c.add_part.ensures.start in
    let head_is = c.add_part.ensures.head ∙ ap (λ (n : ℕ). info_at n head) has_scanned.has_consumed.used in (
      record {
        frames = added.frames;
        since = added.since;
        position = added.position;
        has_scanned = added.has_scanned;
        found = subst (λ (p : Position). IsPart fs p c.add_part.new.part (drop c.add_part.new.part.start (take count (c.unmask.new.bytes ++ drop count chunk))) added.frames added.position) (sym has_scanned.is_at.1.2)
            (record { before = before; is_at = (c.add_part.ensures.begins, head_is, refl); goes_on = goes_on_as fs before c.add_part.new.part _ _ added.frames added.position shown added.found });
      },
      (
        λ more. omega (arith, c.if-count-eq0.false),
        λ is. inl (
            let other = not_all c.add_part.new.part.ends _ head.len c.add_part.ensures.ends is in
            omega (arith, other, c.min-count.ensures, c.saturating_sub-left.ensures, here.done, here.short)),
      ),
    )

pub returns-in-Err-clause-taken : goal.returns-in-Err-clause-taken
returns-in-Err-clause-taken c role limits bytes rest fs at in_bytes has_scanned =
    let head = c.args.inside.head in
    let group = unfinished fs in
    let chunk = c.args.chunk.now in
    let count = c.min-count.result in
    let w = take count chunk in
    let here = has_scanned.is_at.1.1 in
    let before = has_scanned.is_at.1.0 in
    let wire = here.wire in
    let h = here.holds in
    let bad = c.in-Err.bad in
    let taken = c.min-taken.result in
    let within : count ≤ length chunk = omega (arith, c.min-count.ensures) in
    let size : length w ≡ count = length-take-le count chunk within in
    let fits : length wire + length w ≤ head.len = omega (arith, size, here.done, here.short, c.min-count.ensures, c.saturating_sub-left.ensures) in
    let checked : IsChecked group (first_byte head.first.fin head.first.op) head.len (unmasked_by head.key 0 wire) (unmasked_by head.key (length wire) w) (Err bad) =
    checked_share group (first_byte head.first.fin head.first.op) head.len head.key c.args.inside.done count c.saturating_sub-left.result wire chunk c.unmask.new.bytes (Err bad) within
    here.done here.short c.saturating_sub-left.ensures fits c.unmask.ensures
    (c.in-Err.ensures.checked group (first_byte head.first.fin head.first.op) head.len (unmasked_by head.key 0 wire) h.checked (first_byte_fields head.first.fin head.first.op).fin_is) in
    let small : bad.at + 1 ≤ count = omega (arith, checked.0, length-unmasked_by head.key (length wire) w, size) in
    let input : limits.input ≤ 2 ^ 40 = has_scanned.has_consumed.in_range.input in
    let is_taken : taken ≡ bad.at + 1 = omega (arith, c.min-taken.ensures, c.saturating_add.ensures, small, within, c.requires, has_scanned.has_consumed.room, input) in
    let last = take taken chunk in
    let same : rest ++ take (bad.at + 1) w ≡ rest ++ last = ap (λ (bs : List ℕ). rest ++ bs) (take-take (bad.at + 1) count chunk small ∙ ap (λ (n : ℕ). take n chunk) (sym is_taken)) in
    let is_evident : IsEvidentLast role limits group bad.reason (rest ++ last) =
    subst (λ (bs : List ℕ). IsEvidentLast role limits group bad.reason bs) same (evident_last role limits group head c.args.inside.check wire rest h w fits bad checked) in
    let has_no_evidence = front_without_evidence role limits group h.head_bytes wire (subst (HasNoEvidence role limits group) h.whole h.has_no_evidence) in
    let whole : rest ++ last ≡ h.head_bytes ++ (wire ++ last) = ap (λ (bs : List ℕ). bs ++ last) h.whole ∙ append_assoc h.head_bytes wire last in
    let info = info_at (length (stream fs)) head in
    let begun : IsBegun role limits fs (rest ++ last) (begun_at at) =
    subst (λ (p : Position). IsBegun role limits fs (rest ++ last) (begun_at p)) (sym has_scanned.is_at.1.2)
    (inr (inr (has_scanned.is_at.0, (info, refl, head_begins role limits fs head h.head_bytes (wire ++ last) (rest ++ last) h.is_head has_no_evidence whole)))) in
    let prefix = of_its_head fs (bytes ++ last) at info before has_scanned.is_at.1.2
    (handed_out role limits fs head h.head_bytes wire last (bytes ++ last) (rest ++ last) before h.is_head has_no_evidence whole
    (ap (λ (bs : List ℕ). bs ++ last) has_scanned.has_consumed.whole ∙ append_assoc (stream fs) rest last) (omega (arith, here.short)) here.unmasked) in
    let there = refuses role limits c.args.self.now bytes rest last fs at taken bad.reason has_scanned.has_consumed has_scanned.is_at.0 (length-take-le taken chunk (omega (arith, is_taken, small, within)))
    (omega (arith, is_taken, small, within, c.requires)) (bytes_take taken chunk in_bytes) (omega (arith, is_taken)) is_evident begun prefix in
    rw (c.refuse.ensures.reported.0, c.refuse.ensures.reported.1, c.refuse.ensures.after) (record { frames = fs; since = rest ++ last; position = at; has_scanned = there; found = (refl, refl) }, tt)

pub returns-then-count-eq0-clause-taken : goal.returns-then-count-eq0-clause-taken
returns-then-count-eq0-clause-taken c = grind (arith, common_steps)

pub returns-then-count-eq0-clause-untouched : goal.returns-then-count-eq0-clause-untouched
returns-then-count-eq0-clause-untouched c = search rules

pub slice_bounds-unmask-end : goal.slice_bounds-unmask-end
slice_bounds-unmask-end c = grind (arith, common_steps)

pub slice_bounds-unmask-end-2 : goal.slice_bounds-unmask-end-2
slice_bounds-unmask-end-2 c = grind (arith, common_steps)

pub unmask-requires : goal.unmask-requires
unmask-requires c = grind (arith, common_steps)

pub slice_bounds-feed-end : goal.slice_bounds-feed-end
slice_bounds-feed-end c = grind (arith, common_steps)

pub slice_bounds-feed-end-2 : goal.slice_bounds-feed-end-2
slice_bounds-feed-end-2 c = grind (arith, common_steps)

pub feed-requires : goal.feed-requires
feed-requires c = search rules

pub overflow_add-done : goal.overflow_add-done
overflow_add-done c = omega arith

pub add_part-requires-clause-fits : goal.add_part-requires-clause-fits
add_part-requires-clause-fits c = grind (arith, common_steps)

pub add_part-requires-clause-open : goal.add_part-requires-clause-open
add_part-requires-clause-open c = grind (arith, common_steps)

pub overflow_add-done-in-Err : goal.overflow_add-done-in-Err
overflow_add-done-in-Err c = search rules

pub slice_bounds-unmask-count : goal.slice_bounds-unmask-count
slice_bounds-unmask-count c = search rules

pub slice_bounds-unmask-start : goal.slice_bounds-unmask-start
slice_bounds-unmask-start c = grind (arith, common_steps)

pub slice_bounds-unmask-end-in-Err : goal.slice_bounds-unmask-end-in-Err
slice_bounds-unmask-end-in-Err c = omega arith

pub unmask-requires-in-Err : goal.unmask-requires-in-Err
unmask-requires-in-Err c = search rules

pub refuse-requires : goal.refuse-requires
refuse-requires c = grind (arith, common_steps)

pub returns-in-Ok-clause-untouched : goal.returns-in-Ok-clause-untouched
returns-in-Ok-clause-untouched c = search rules

pub returns-in-Err-clause-untouched : goal.returns-in-Err-clause-untouched
returns-in-Err-clause-untouched c = grind (arith, common_steps)

pub returns-in-Err-clause-refused : goal.returns-in-Err-clause-refused
returns-in-Err-clause-refused c is role limits bytes rest fs at has_scanned =
    let head = c.args.inside.head in
    let chunk = c.args.chunk.now in
    let count = c.min-count.result in
    let taken = c.min-taken.result in
    let here = has_scanned.is_at.1.1 in
    let payload = has_scanned.is_at.1.0 in
    let size : c.args.inside.done ≡ length payload = here.done ∙ sym (ap (λ (bs : List ℕ). length bs) here.unmasked ∙ length-unmasked_by head.key 0 here.wire) in
    let front = front_stays head.key c.args.inside.done count taken chunk c.unmask.new.bytes (c.unmask-in-Err.new.bytes ++ post_of taken (count - taken) (c.unmask.new.bytes ++ drop count chunk)) (omega (arith, c.min-taken.ensures)) (omega (arith, c.min-count.ensures)) c.unmask.ensures in
    rw c.refuse.ensures.reported.0 (front ∙ ap (λ (n : ℕ). unmasked_by head.key n (take taken chunk)) size ∙ sym (ap (λ (p : Position). unmasked_at p (take taken chunk)) has_scanned.is_at.1.2))

pub returns-then-count-eq0-clause-refused : goal.returns-then-count-eq0-clause-refused
returns-then-count-eq0-clause-refused c = search rules

pub returns-in-Ok-clause-refused : goal.returns-in-Ok-clause-refused
returns-in-Ok-clause-refused c = grind (arith, common_steps)

pub returns-in-Err-clause-found : goal.returns-in-Err-clause-found
returns-in-Err-clause-found c = (
  (
    search rules,
    (rw c.refuse.ensures.reported.0 (masked_again c.args.inside.head.key c.args.inside.done c.min-count.result c.args.chunk.now c.unmask.new.bytes (omega (arith, c.min-count.ensures)) c.unmask.ensures
        c.min-taken.result c.unmask-in-Err.new.bytes (omega (arith, c.min-taken.ensures)) c.unmask-in-Err.ensures)),
    search rules,
  ),
  search rules,
  search rules,
)

pub returns-then-count-eq0-clause-found : goal.returns-then-count-eq0-clause-found
returns-then-count-eq0-clause-found c = search rules

pub returns-in-Ok-clause-found : goal.returns-in-Ok-clause-found
returns-in-Ok-clause-found c = ((search rules, grind (arith, common_steps), search rules), search rules, search rules)
