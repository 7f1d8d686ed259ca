use Rattle.std.proofs.Common.{◌≡◌, ◌++◌, ℕ, List, [], ap, ◌∙◌, subst, append-nil}
use Rattle.wsn_io.specs.Stops.{IsWrittenOrStops}
use Rattle.wsn_print.specs.EscapedText.{quoted}
use Rattle.wsn_print.proofs.Gathered.{adding_stopped, gathering_ended}
use Rattle.wsn_print.proofs.quoted.put_quoted.Goals as goal

pub returns-in_err-hold_quoted-clause-text : goal.returns-in_err-hold_quoted-clause-text
returns-in_err-hold_quoted-clause-text g c = λ utf8.
    let text : List ℕ = quoted c.args.text.now in
    let none : c.new-held.result ++ text ++ [] ≡ text = append-nil (c.new-held.result ++ text) ∙ ap (λ (held : List ℕ). held ++ text) c.new-held.ensures in
    subst (λ (t : List ℕ). IsWrittenOrStops c.args.to.now c.hold_quoted.new.to t c.from_residual.result) none
    (adding_stopped c.args.to.now c.hold_quoted.new.to (c.new-held.result ++ text) [] c.in_err-hold_quoted.field-0.0 c.from_residual.result (c.in_err-hold_quoted.ensures.text utf8) c.from_residual.ensures.1)

pub returns-clause-text : goal.returns-clause-text
returns-clause-text g c = λ utf8.
    let text : List ℕ = quoted c.args.text.now in
    let held = c.in_ok-hold_quoted.ensures.text utf8 in
    gathering_ended c.args.to.now c.hold_quoted.new.to c.put_line.new.to text c.hold_quoted.new.held c.put_line.result
    (held.0, held.1 ∙ ap (λ (before : List ℕ). before ++ text) c.new-held.ensures, held.2)
    (subst (λ (t : List ℕ). IsWrittenOrStops c.hold_quoted.new.to c.put_line.new.to t c.put_line.result) c.as_slice.ensures.value c.put_line.ensures)
