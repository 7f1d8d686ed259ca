use Rattle.std.proofs.Common.{refl}
use Rattle.std.specs.Fmt.{digits}
use Rattle.wsn_laws.proofs.printed_lines.of_recut_faults.Goals as goal

pub returns-clause-key_mismatch : goal.returns-clause-key_mismatch
unfolding digits
returns-clause-key_mismatch c = refl

pub returns-clause-steps_left : goal.returns-clause-steps_left
unfolding digits
returns-clause-steps_left c = refl

pub returns-clause-no_message : goal.returns-clause-no_message
unfolding digits
returns-clause-no_message c = refl

pub returns-clause-piece_too_long : goal.returns-clause-piece_too_long
unfolding digits
returns-clause-piece_too_long c = refl

pub returns-clause-too_many_pieces : goal.returns-clause-too_many_pieces
unfolding digits
returns-clause-too_many_pieces c = refl

pub returns-clause-not_a_control : goal.returns-clause-not_a_control
unfolding digits
returns-clause-not_a_control c = refl

pub returns-clause-not_a_message : goal.returns-clause-not_a_message
unfolding digits
returns-clause-not_a_message c = refl

pub returns-clause-wrong_form : goal.returns-clause-wrong_form
unfolding digits
returns-clause-wrong_form c = refl

pub returns-clause-events_left : goal.returns-clause-events_left
unfolding digits
returns-clause-events_left c = refl

pub returns-clause-unfinished : goal.returns-clause-unfinished
unfolding digits
returns-clause-unfinished c = refl
