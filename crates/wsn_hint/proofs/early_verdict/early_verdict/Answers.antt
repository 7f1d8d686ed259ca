use Rattle.std.proofs.Common.{◌≡◌, ℕ, Option, Some, Result, Ok, Err, List, take, sym, ap, ◌∙◌, subst, arith}
use Rattle.std.proofs.lemmas.Grind.{common_steps}
use Rattle.std.specs.Prelude.{IfOk, IfSome}
use Rattle.std.specs.Result.{result_ok}
use Rattle.wsn_wire.specs.declared.endpoint.Role.{Role}
use Rattle.wsn_rules.specs.declared.verdict.Verdict.{Verdict}
use Rattle.wsn_rules.specs.Limits.{Limits}
use Rattle.wsn_hint.specs.Hints.{IsVerdictOnBytes}
use Rattle.wsn_hint.proofs.early_verdict.early_verdict.Goals as goal

-- A verdict on all bytes that were given is one on these.
verdict_of : {E : Type 0} (role : Role) (limits : Limits) (bytes : List ℕ) (given : Option (List ℕ)) (result : Result Verdict E) (ok : Option Verdict)
    → ok ≡ result_ok result → given ≡ Some bytes → IfOk result (λ verdict. (all : List ℕ) → given ≡ Some all → IsVerdictOnBytes role limits all verdict)
    → IfSome ok (IsVerdictOnBytes role limits bytes)
verdict_of role limits bytes given (Ok verdict) ok value is whole =
    subst (λ (o : Option Verdict). IfSome o (IsVerdictOnBytes role limits bytes)) (sym value) (whole bytes is)
verdict_of role limits bytes given (Err stop) ok value is whole =
    subst (λ (o : Option Verdict). IfSome o (IsVerdictOnBytes role limits bytes)) (sym value) tt

pub returns-clause-verdict : goal.returns-clause-verdict
returns-clause-verdict c =
    let first = c.args.first.now in
    let same : take c.min.result first ≡ take 2 first = grind (arith, common_steps) in
    verdict_of c.args.role c.args.limits (take 2 first) c.lent.result.remaining c.judge.result c.ok.result c.ok.ensures.value
    (c.lent.ensures.remaining ∙ ap (λ (bs : List ℕ). Some bs) same) c.judge.ensures.whole
