-- For an input whose bytes are known one answer is right, unless a read fails.
use Rattle.std.proofs.Common.{◌≡◌, ℕ, ◌+◌, ◌<◌, false, true, Option, None, Some, Result, Ok, Err, List, ◌++◌, length, take, refl, sym, ap, ◌∙◌, subst, append-nil, arith}
use Rattle.std.proofs.lemmas.List.{take-take}
use Rattle.std.specs.Io.KnownBytes.{Consumes, IsAtEnd}
use Rattle.wsn_wire.specs.declared.endpoint.Role.{Role}
use Rattle.wsn_wire.specs.Frame.{Frame}
use Rattle.wsn_io.specs.Transfer.{Incoming}
use Rattle.wsn_rules.specs.declared.verdict.Verdict.{Verdict}
use Rattle.wsn_rules.specs.declared.verdict.Verdict.TheVariants.{Accepted, Cut, Refused}
use Rattle.wsn_io.specs.declared.stop.Stop.{Stop}
use Rattle.wsn_io.specs.declared.stop.Stop.TheVariants as stop
use Rattle.wsn_rules.specs.Limits.{Limits}
use Rattle.wsn_rules.specs.Verdict.{IsVerdict, IsUnrefused}
use Rattle.wsn_scan.specs.Judging.{IsJudged, IsReached}
use Rattle.wsn_rules.proofs.OneVerdict.{one_verdict}
use Rattle.wsn_rules.proofs.StaysRefused.{refused_alike}
use Rattle.wsn_scan.proofs.JudgedInputs.{whole_verdict, whole_limit}

module _ (role : Role) (limits : Limits) (old : Incoming) (all : List ℕ) (known : old.remaining ≡ Some all) where
  -- what came before the end is all of the input
  all_came : (new : Incoming) (came : List ℕ) → Consumes old.remaining new.remaining came → IsAtEnd new.remaining → all ≡ came
  all_came new came consumed at_end = by_rest new.remaining (subst (λ (a : Option (List ℕ)). Consumes a new.remaining came) known consumed) at_end
    where
      by_rest : (rest : Option (List ℕ)) → Consumes (Some all) rest came → IsAtEnd rest → all ≡ came
      by_rest None is end = absurd is
      by_rest (Some rest) is end = is ∙ ap (λ (bs : List ℕ). came ++ bs) end ∙ append-nil came

  -- a verdict, or more bytes than the limit allows, and those within it not refused
  not_both : (new other : Incoming) (verdict : Verdict) → IsJudged role limits old new (Ok verdict) → IsJudged role limits old other (Err stop.InputLimit) → ⊥
  not_both new other verdict judged stopped =
      let limit = whole_limit role limits old other all stopped known in
      let whole = whole_verdict role limits old new verdict all judged known in
      by_verdict verdict judged.1.answer whole.0 whole.1 limit.0 limit.1
    where
      by_verdict : (v : Verdict) → IsReached role limits new judged.0 v → (fs : List Frame) → IsVerdict role limits all fs v → limits.input < length all → IsUnrefused role limits (take limits.input all) → ⊥
      by_verdict (Accepted s) reached fs is more none = let size = ap (λ (bs : List ℕ). length bs) (all_came new judged.0 judged.1.received.consumed.consumed reached.2) in omega (arith, reached.3)
      by_verdict (Cut s) reached fs is more none = let size = ap (λ (bs : List ℕ). length bs) (all_came new judged.0 judged.1.received.consumed.consumed reached.2) in omega (arith, reached.3)
      by_verdict (Refused r) reached fs is more none =
          none fs r.offset r.reason (refused_alike role limits fs all (take limits.input all) r.offset r.reason (take-take (r.offset + 1) limits.input all (omega (arith, reached.3))) is)

  pub one_answer : (new other : Incoming) (result same : Result Verdict Stop) → new.failed ≡ false → other.failed ≡ false → IsJudged role limits old new result → IsJudged role limits old other same → result ≡ same
  one_answer new other (Ok v) (Ok w) unfailed also judged again =
      let first = whole_verdict role limits old new v all judged known in
      let second = whole_verdict role limits old other w all again known in
      ap (λ (u : Verdict). let answer : Result Verdict Stop = Ok u in answer) (one_verdict role limits all first.0 second.0 v w first.1 second.1).1
  one_answer new other (Ok v) (Err stopped) unfailed also judged again = by_stop stopped again
    where
      by_stop : (s : Stop) → IsJudged role limits old other (Err s) → Ok v ≡ Err s
      by_stop stop.Read is = let both : false ≡ true = sym also ∙ is.1.answer.0 in cc
      by_stop stop.InputLimit is = absurd (not_both new other v judged is)
      by_stop stop.Memory is = absurd is.1.answer
      by_stop stop.Write is = absurd is.1.answer
  one_answer new other (Err stopped) same unfailed also judged again = by_stop stopped same judged again
    where
      by_stop : (s : Stop) (r : Result Verdict Stop) → IsJudged role limits old new (Err s) → IsJudged role limits old other r → Err s ≡ r
      by_stop stop.Read r is that = let both : false ≡ true = sym unfailed ∙ is.1.answer.0 in cc
      by_stop stop.InputLimit (Ok w) is that = absurd (not_both other new w that is)
      by_stop stop.InputLimit (Err stop.Read) is that = let both : false ≡ true = sym also ∙ that.1.answer.0 in cc
      by_stop stop.InputLimit (Err stop.InputLimit) is that = refl
      by_stop stop.InputLimit (Err stop.Memory) is that = absurd that.1.answer
      by_stop stop.InputLimit (Err stop.Write) is that = absurd that.1.answer
      by_stop stop.Memory r is that = absurd is.1.answer
      by_stop stop.Write r is that = absurd is.1.answer
