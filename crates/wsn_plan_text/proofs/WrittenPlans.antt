-- A plan's lines as they are gathered and written, up to a failed write.
use Rattle.std.proofs.Common.{◌≡◌, ℕ, suc, ◌+◌, ◌<◌, Result, Err, List, [], ◌∷◌, ◌++◌, length, take, drop, get_or, sym, ap, subst, ◌∙◌, arith}
use Rattle.std.specs.Prelude.{IsErrAnd}
use Rattle.std.proofs.Math.Seq.{take-suc}
use Rattle.std.proofs.lemmas.List.{append-nil, take-append-drop}
use Rattle.std.proofs.lemmas.Grind.{flat_map-append}
use Rattle.wsn_io.specs.Transfer.{Outgoing}
use Rattle.wsn_rules.specs.declared.step.Step.{Step}
use Rattle.wsn_io.specs.declared.stop.Stop.{Stop}
use Rattle.wsn_io.specs.Stops.{IsWrittenOrStops}
use Rattle.wsn_print.proofs.Gathered.{IsGathered, gathers_on, gathering_stopped}
use Rattle.wsn_plan_text.specs.PlanText.{step_line, plan_text}

-- the text of one more step
text_next : (plan : List Step) (k : ℕ) (default : Step) → k < length plan
    → plan_text (take (k + 1) plan) ≡ plan_text (take k plan) ++ step_line (get_or plan k default)
text_next plan k default within =
    let one : k + 1 ≡ suc k = omega arith in
    ap (λ (n : ℕ). plan_text (take n plan)) one ∙ ap plan_text (take-suc plan k default within)
    ∙ flat_map-append step_line (take k plan) (get_or plan k default ∷ [])
    ∙ ap (λ (line : List ℕ). plan_text (take k plan) ++ line) (append-nil (step_line (get_or plan k default)))

-- More of what is held is written, and then the line of a step is added.
pub plan_goes_on : (before mid after : Outgoing) (plan : List Step) (k : ℕ) (default : Step) (held rest new : List ℕ) → k < length plan
    → IsGathered before mid (plan_text (take k plan)) held → IsGathered mid after held rest → new ≡ rest ++ step_line (get_or plan k default)
    → IsGathered before after (plan_text (take (k + 1) plan)) new
plan_goes_on before mid after plan k default held rest new within one two is =
    subst (λ (text : List ℕ). IsGathered before after text new) (sym (text_next plan k default within))
    (gathers_on before mid after (plan_text (take k plan)) held rest new (step_line (get_or plan k default)) one two is)

-- A write of the front of what is held fails.
pub plan_stopped : (before mid after : Outgoing) (plan : List Step) (k : ℕ) (held front rest : List ℕ) (stopped : Stop) (result : Result (Unit {0}) Stop)
    → IsGathered before mid (plan_text (take k plan)) held → front ++ rest ≡ held → IsWrittenOrStops {A = Unit {0}} mid after front (Err stopped)
    → IsErrAnd result (λ other. other ≡ stopped) → IsWrittenOrStops before after (plan_text plan) result
plan_stopped before mid after plan k held front rest stopped result one held_is put is =
    gathering_stopped before mid after (plan_text (take k plan)) held front rest (plan_text (drop k plan)) (plan_text plan) stopped result one
    (ap plan_text (sym (take-append-drop k plan)) ∙ flat_map-append step_line (take k plan) (drop k plan)) held_is put is
