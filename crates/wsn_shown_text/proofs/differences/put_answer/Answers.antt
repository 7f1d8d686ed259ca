use Rattle.std.proofs.Common.{List, ℕ, ◌∙◌, sym, ap, subst}
use Rattle.wsn_io.specs.Stops.{IsWrittenOrStops}
use Rattle.wsn_shown_text.specs.declared.fields.Shape.{Shape}
use Rattle.wsn_shown_text.specs.DifferenceText.{answer_in}
use Rattle.wsn_shown_text.proofs.differences.put_answer.Goals as goal

pub returns-in-Object-clause-text : goal.returns-in-Object-clause-text
returns-in-Object-clause-text g c =
    subst (λ (t : List ℕ). IsWrittenOrStops c.args.to.now c.put_line-in-Object.new.to t c.put_line-in-Object.result)
    (c.bytes-in-Object.ensures ∙ c.line_of_answer.ensures ∙ ap (λ (s : Shape). answer_in s c.args.index) (sym c.in-Object.is)) c.put_line-in-Object.ensures
