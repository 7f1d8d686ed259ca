use Rattle.std.proofs.Common.{◌≡◌, ℕ, ◌+◌, ◌-◌, ◌≤◌, List, ◌++◌, length, take, drop, sym, ap, ◌∙◌, subst, append_assoc, arith, length-append, length-drop}
use Rattle.std.proofs.Math.Seq.{take-add}
use Rattle.std.proofs.lemmas.List.{length-take-le}
use borrow.Rule.Slice.PartMut.{mid_of, put_mid, same_len_mid}
use Rattle.wsn_scan.proofs.EventRuns.{taken_with}
use Rattle.wsn_scan.proofs.FedChunks.{share_is, same_further, kept_after}
use Rattle.wsn_redact.specs.RedactedParts.{HasRedacted}
use Rattle.wsn_redact.proofs.redacting.redact_chunk.Goals as goal

pub redact_part-at-requires-clause-begun : goal.redact_part-at-requires-clause-begun
redact_part-at-requires-clause-begun c =
    let b = c.requires in
    let known = c.loop-at.invariant in
    let i = c.loop-at.at in
    let here = c.loop-at.chunk in
    let chunk = c.args.chunk.now in
    let share : mid_of i (length here - i) here ≡ drop i here = share_is i here in
    let size = ap (λ (bs : List ℕ). length bs) share in
    let within = b.within in
    record {
      role = b.role;
      limits = b.limits;
      came = b.came ++ take i chunk;
      written = b.written ++ take i here;
      has_redacted = known.redacts b.role b.limits b.came b.written b.has_redacted;
      within = omega (arith, within, size, known.size, known.within, length-drop i here, length-append b.came (take i chunk), length-take-le i chunk known.within);
    }

pub loop-at-preserved : goal.loop-at-preserved
loop-at-preserved c =
    let known = c.loop-at.invariant in
    let i = c.loop-at.at in
    let here = c.loop-at.chunk in
    let chunk = c.args.chunk.now in
    let n = c.redact_part-at.result in
    let new = c.redact_part-at.new.chunk in
    let share = mid_of i (length here - i) here in
    let share_here : share ≡ drop i here = share_is i here in
    let is : share ≡ drop i chunk = share_here ∙ known.kept in
    let size : length share ≡ length (drop i here) = ap (λ (bs : List ℕ). length bs) share_here in
    let in_here : i ≤ length here = omega (arith, known.within, known.size) in
    let next = put_mid i (length here - i) here new in
    record {
      within = omega (arith, size, known.size, length-drop i here, c.redact_part-at.ensures.within, known.within);
      size = same_len_mid i (length here - i) here new c.redact_part-at.auto.chunk ∙ known.size;
      kept =
          kept_after i (length here - i) n here new in_here c.redact_part-at.ensures.within c.redact_part-at.auto.chunk c.redact_part-at.ensures.kept
          ∙ same_further i n here chunk in_here known.within known.kept;
      redacts = λ role limits came written h.
          let step = c.redact_part-at.ensures.redacts role limits (came ++ take i chunk) (written ++ take i here) (known.redacts role limits came written h) in
          let came_is : (came ++ take i chunk) ++ take n share ≡ came ++ take (i + n) chunk =
          append_assoc came (take i chunk) (take n share) ∙ ap (λ (bs : List ℕ). came ++ (take i chunk ++ take n bs)) is ∙ ap (λ (bs : List ℕ). came ++ bs) (sym (take-add i n chunk)) in
          let written_is : (written ++ take i here) ++ take n new ≡ written ++ take (i + n) next = append_assoc written (take i here) (take n new) ∙ ap (λ (bs : List ℕ). written ++ bs) (sym (taken_with i n here new in_here (omega (arith, c.redact_part-at.ensures.within, c.redact_part-at.auto.chunk)))) in
          subst (λ (bs : List ℕ). HasRedacted role limits c.redact_part-at.new.scan c.redact_part-at.new.redactor bs (written ++ take (i + n) next)) came_is
          (subst (λ (bs : List ℕ). HasRedacted role limits c.redact_part-at.new.scan c.redact_part-at.new.redactor ((came ++ take i chunk) ++ take n share) bs) written_is step);
    }

pub returns : goal.returns
returns c role limits came written h =
    let i = c.loop-at.at in
    let chunk = c.args.chunk.now in
    let known = c.loop-at.invariant in
    let all : take i chunk ≡ take (length chunk) chunk = ap (λ (m : ℕ). take m chunk) (omega (arith, known.size, known.within, c.loop-at-test.false)) in
    let whole : take i c.loop-at.chunk ≡ take (length chunk) c.loop-at.chunk = ap (λ (m : ℕ). take m c.loop-at.chunk) (omega (arith, known.size, known.within, c.loop-at-test.false)) in
    subst (λ (bs : List ℕ). HasRedacted role limits c.loop-at.scan c.loop-at.redactor (came ++ bs) (written ++ take (length chunk) c.loop-at.chunk)) all
    (subst (λ (bs : List ℕ). HasRedacted role limits c.loop-at.scan c.loop-at.redactor (came ++ take i chunk) (written ++ bs)) whole (known.redacts role limits came written h))
