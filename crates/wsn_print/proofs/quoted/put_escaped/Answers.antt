use Rattle.std.proofs.Common.{◌≡◌, ◌++◌, ℕ, List, [], ap, ◌∙◌, subst, append-nil}
use Rattle.wsn_io.specs.Stops.{IsWrittenOrStops}
use Rattle.wsn_print.specs.Runs.{escaped}
use Rattle.wsn_print.proofs.Gathered.{adding_stopped, gathering_ended}
use Rattle.wsn_print.proofs.quoted.put_escaped.Goals as goal

pub returns-in_err-hold_escaped : goal.returns-in_err-hold_escaped
returns-in_err-hold_escaped g c =
    let added : List ℕ = escaped c.args.escapes c.args.text.now in
    let none : c.new-held.result ++ added ++ [] ≡ added = append-nil (c.new-held.result ++ added) ∙ ap (λ (held : List ℕ). held ++ added) c.new-held.ensures in
    subst (λ (t : List ℕ). IsWrittenOrStops c.args.to.now c.hold_escaped.new.to t c.from_residual.result) none
    (adding_stopped c.args.to.now c.hold_escaped.new.to (c.new-held.result ++ added) [] c.in_err-hold_escaped.field-0.0 c.from_residual.result c.in_err-hold_escaped.ensures c.from_residual.ensures.1)

pub returns : goal.returns
returns g c =
    let added : List ℕ = escaped c.args.escapes c.args.text.now in
    let held = c.in_ok-hold_escaped.ensures in
    gathering_ended c.args.to.now c.hold_escaped.new.to c.put_line.new.to added c.hold_escaped.new.held c.put_line.result
    (held.0, held.1 ∙ ap (λ (before : List ℕ). before ++ added) c.new-held.ensures, held.2)
    (subst (λ (t : List ℕ). IsWrittenOrStops c.hold_escaped.new.to c.put_line.new.to t c.put_line.result) c.as_slice.ensures.value c.put_line.ensures)
