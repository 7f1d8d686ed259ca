use Rattle.std.proofs.Common.{◌≡◌, ℕ, List, Option, refl, sym, subst, rules}
use Rattle.wsn_wire.specs.declared.endpoint.Role.{Role}
use Rattle.wsn_command.specs.declared.answered.Answer.{Answer}
use Rattle.wsn_command.specs.declared.answered.Answer.TheVariants.{Verdict, Report, Other, FaultyLine, Stopped}
use Rattle.wsn_command.specs.declared.job.Job.{Job}
use Rattle.wsn_hint.specs.declared.hint.Hint.{Hint}
use Rattle.wsn_hint.specs.Hints.{HintFits, IsFirstFit, capture_hints}
use Rattle.wsn_cli.specs.Requests.{job_limits}
use Rattle.wsn_cli.specs.RunHints.{IsCaptureHint, IsLinesHint}
use Rattle.wsn_cli.proofs.hints.hint_on_capture.Goals as goal

-- an answer that is no stop
of_lines : {A : Type 0} (job : Job A) (side : Option Role) (text : List ℕ) (answer : Answer) (result : Option Hint) → (answer ≡ FaultyLine → ⊥) → (answer ≡ Stopped → ⊥)
    → IsLinesHint job side text answer result → IsCaptureHint job side text answer result
of_lines job side text (Verdict verdict) result faulty stopped is = is
of_lines job side text (Report report) result faulty stopped is = is
of_lines job side text Other result faulty stopped is = is
of_lines job side text FaultyLine result faulty stopped is = absurd (faulty refl)
of_lines job side text Stopped result faulty stopped is = absurd (stopped refl)

pub returns-in-FaultyLine : goal.returns-in-FaultyLine
returns-in-FaultyLine g c =
    let limits = job_limits c.args.job.now in
    let result = c.capture_hint_of.result in
    subst (λ (answer : Answer). IsCaptureHint c.args.job.now c.args.side c.args.first.now answer result) (sym c.in-FaultyLine.is)
    (subst (λ (bytes : List ℕ). IsFirstFit (HintFits limits bytes) capture_hints result) c.mark_of.ensures (c.capture_hint_of.ensures.first limits))

pub returns-in_default : goal.returns-in_default
returns-in_default g c =
    of_lines c.args.job.now c.args.side c.args.first.now c.args.answer c.hint_on_lines.result c.in_default.not-FaultyLine c.in_default.not-Stopped
    c.hint_on_lines.ensures

pub returns-in-Stopped : goal.returns-in-Stopped
returns-in-Stopped g c = search rules
