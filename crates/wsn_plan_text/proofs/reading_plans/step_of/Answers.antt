use Rattle.std.proofs.Common.{rules}
use Rattle.wsn_plan_text.proofs.reading_plans.step_of.Goals as goal

pub returns-in_ok-form_of-in-Piece : goal.returns-in_ok-form_of-in-Piece
returns-in_ok-form_of-in-Piece c = search rules

pub returns-in_err-fields : goal.returns-in_err-fields
returns-in_err-fields c = search rules

pub returns-in_err-number_of-in-Piece : goal.returns-in_err-number_of-in-Piece
returns-in_err-number_of-in-Piece c = search rules

pub returns-in_err-key_of-in-Piece : goal.returns-in_err-key_of-in-Piece
returns-in_err-key_of-in-Piece c = search rules

pub returns-in_err-form_of-in-Piece : goal.returns-in_err-form_of-in-Piece
returns-in_err-form_of-in-Piece c = search rules

pub returns-in_err-key_of-in-Last : goal.returns-in_err-key_of-in-Last
returns-in_err-key_of-in-Last c = search rules

pub returns-in_err-form_of-in-Last : goal.returns-in_err-form_of-in-Last
returns-in_err-form_of-in-Last c = search rules

pub returns-in_err-key_of-in-Control : goal.returns-in_err-key_of-in-Control
returns-in_err-key_of-in-Control c = search rules

pub returns-in_ok-form_of-in-Last : goal.returns-in_ok-form_of-in-Last
returns-in_ok-form_of-in-Last c = search rules

pub returns-in_ok-key_of-in-Control : goal.returns-in_ok-key_of-in-Control
returns-in_ok-key_of-in-Control c = search rules
