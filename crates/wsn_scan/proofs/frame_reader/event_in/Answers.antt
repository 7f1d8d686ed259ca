use Rattle.std.proofs.Common.{◌≡◌, ℕ, ◌+◌, ◌-◌, ◌<◌, ◌≤◌, Option, None, Some, IfSome, List, length, drop, sym, subst, ◌∙◌, arith}
use Rattle.std.proofs.lemmas.Grind.{common_steps, elements}
use Rattle.std.proofs.lemmas.Slice.{between-put_mid}
use Rattle.std.specs.List.{slice_range}
use borrow.Rule.Slice.PartMut.{mid_of, mid_len, put_mid}
use Rattle.wsn_rules.specs.declared.head_info.HeadInfo.{HeadInfo}
use Rattle.wsn_scan.specs.declared.part.Taken.TheVariants as taken
use Rattle.wsn_scan.specs.EventFrames.{whole_part}
use Rattle.wsn_scan.specs.Scans.{AdvancesFrom}
use Rattle.wsn_scan.proofs.ReaderBuffers.{part_after, range_after}
use Rattle.wsn_scan.proofs.frame_reader.event_in.Goals as goal

-- the bytes after those consumed don't change
kept_after : (at end : ℕ) (buffer chunk : List ℕ) (found : Option (ℕ × HeadInfo)) → at ≤ end → end ≤ length buffer → length chunk ≡ end - at
    → IfSome found (λ f. (0 < f.0) × (f.0 ≤ length (mid_of at (end - at) buffer))) → IfSome found (λ f. drop f.0 chunk ≡ drop f.0 (mid_of at (end - at) buffer))
    → IfSome found (λ f. slice_range (put_mid at (end - at) buffer chunk) (at + f.0) end ≡ slice_range buffer (at + f.0) end)
kept_after at end buffer chunk None ordered within size some kept = tt
kept_after at end buffer chunk (Some f) ordered within size some kept =
    let part = mid_len at end buffer within in
    let fits : at + f.0 ≤ end = omega (arith, some, part, ordered) in
    part_after at end f.0 buffer chunk ordered within size fits ∙ kept ∙ sym (range_after at end f.0 buffer ordered within fits)

pub returns-clause-kept : goal.returns-clause-kept
returns-clause-kept c =
    kept_after c.args.at c.args.end c.args.buffer.now c.next_event_after.new.chunk c.next_event_after.result c.requires.within.0 c.requires.within.1 (c.next_event_after.auto.chunk ∙ mid_len c.args.at c.args.end c.args.buffer.now c.requires.within.1) c.next_event_after.ensures.within c.next_event_after.ensures.kept

pub returns-clause-taken : goal.returns-clause-taken
returns-clause-taken c =
    let at = c.args.at in
    let end = c.args.end in
    let buffer = c.args.buffer.now in
    let chunk = c.next_event_after.new.chunk in
    let part = mid_len at end buffer c.requires.within.1 in
    let same : slice_range (put_mid at (end - at) buffer chunk) at end ≡ chunk = between-put_mid at (end - at) buffer chunk end (omega (arith, c.requires.within)) (c.next_event_after.auto.chunk ∙ part) in
    subst (λ (after : List ℕ). IfSome c.next_event_after.result (λ found.
    AdvancesFrom c.args.scan.now.stage c.args.scan.now c.next_event_after.new.self (slice_range buffer at end) after found.0 taken.Part (whole_part found.1 found.0))) (sym same) c.next_event_after.ensures.part

pub returns-clause-none : goal.returns-clause-none
returns-clause-none c = grind (arith, common_steps)

pub returns-clause-in_bytes : goal.returns-clause-in_bytes
returns-clause-in_bytes c = grind (arith, elements)
