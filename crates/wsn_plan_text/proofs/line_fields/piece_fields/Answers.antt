use Rattle.std.proofs.Common.{ap}
use Rattle.std.specs.Option.{option_copied}
use Rattle.wsn_plan_text.proofs.FieldsAfterWords.{piece_at_cut}
use Rattle.wsn_plan_text.proofs.SplitLines.{empty_text, piece_ends, piece_without_key}
use Rattle.wsn_plan_text.proofs.line_fields.piece_fields.Goals as goal

pub returns-then-is_empty : goal.returns-then-is_empty
returns-then-is_empty c = λ fields are.
    (piece_at_cut c.args.rest.now c.split.result.0.now (option_copied c.split.result.1) fields c.split.ensures are).0
    (empty_text c.split.result.0.now c.is_empty.result c.is_empty.ensures c.if-is_empty.true)

pub returns-in_err-rest : goal.returns-in_err-rest
returns-in_err-rest c =
    rw c.from_residual.ensures
    (λ fields are. piece_ends c.args.rest.now c.split.result.0.now (option_copied c.split.result.1) fields c.split.ensures (ap option_copied c.in_err-rest.was) are)

pub returns-in_err-key : goal.returns-in_err-key
returns-in_err-key c =
    rw c.from_residual-in_err-key.ensures
    (λ fields are.
    piece_without_key c.args.rest.now c.split.result.0.now c.in_ok-rest.field-0.now (option_copied c.split.result.1) fields c.split.ensures
    (ap option_copied c.in_ok-rest.was) c.in_err-key.ensures are)
