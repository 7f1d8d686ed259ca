use Rattle.std.proofs.Common.{[], ◌∙◌, sym, ap}
use Rattle.wsn_plan_text.specs.PlanText.{step_line}
use Rattle.wsn_plan_text.proofs.StepLines.{piece_of_parts, last_of_parts, control_of_parts}
use Rattle.wsn_plan_text.proofs.step_lines.put_step.Goals as goal

pub returns-in-Piece-clause-written : goal.returns-in-Piece-clause-written
returns-in-Piece-clause-written c =
    piece_of_parts c.in-Piece.len c.in-Piece.key c.in-Piece.form [] _ _ _ _ _ c.put-at.ensures.written c.put_number-at.ensures.written c.put-at-in-Piece.ensures.written
    c.put_key-at.ensures.written c.put_form.ensures.written
    ∙ ap step_line (sym c.in-Piece.is)

pub returns-in-Last-clause-written : goal.returns-in-Last-clause-written
returns-in-Last-clause-written c =
    last_of_parts c.in-Last.key c.in-Last.form [] _ _ _ c.put-at-in-Last.ensures.written c.put_key-at-in-Last.ensures.written c.put_form-in-Last.ensures.written
    ∙ ap step_line (sym c.in-Last.is)

pub returns-in-Control-clause-written : goal.returns-in-Control-clause-written
returns-in-Control-clause-written c =
    control_of_parts c.in-Control.key [] _ _ _ c.put-at-in-Control.ensures.written c.put_key-at-in-Control.ensures.written c.put.ensures.written
    ∙ ap step_line (sym c.in-Control.is)
