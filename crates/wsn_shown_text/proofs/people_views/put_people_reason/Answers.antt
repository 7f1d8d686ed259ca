use Rattle.std.proofs.Common.{◌≡◌, ℕ, ◌≢◌, Bool, nat_lt, if◌then◌else◌, Option, None, Some, List, [], ◌∷◌, ◌++◌, length, replicate, codes, decimal, refl, sym, ap, ◌∙◌, subst, append_assoc, append-nil, rules}
use Rattle.wsn_io.specs.Transfer.{IsWritten, IsPartlyWritten}
use Rattle.wsn_io.specs.declared.stop.Stop.TheVariants as stop
use Rattle.wsn_io.specs.Stops.{IsWrittenOrStops}
use Rattle.wsn_print.proofs.Pieces.{first_stops, two_pieces}
use Rattle.wsn_shown_text.specs.PeopleText.{people_reason}
use Rattle.wsn_print.specs.EscapedText.{comment_text}
use Rattle.wsn_shown_text.proofs.PeopleTexts.{reason_is}
use Rattle.wsn_shown_text.proofs.people_views.put_people_reason.Goals as goal

pub returns-in_err-put_line : goal.returns-in_err-put_line
returns-in_err-put_line g c =
    let reason = c.args.reason.now in
    first_stops c.args.to.now c.put_line.new.to (codes " ") (comment_text reason) (people_reason reason) c.in_err-put_line.field-0.0 c.from_residual.result
    (reason_is reason (sym c.is_empty.ensures ∙ c.if-is_empty.false)) (c.in_err-put_line.ensures) c.from_residual.ensures.1

pub returns : goal.returns
returns g c =
    let reason = c.args.reason.now in
    two_pieces c.args.to.now c.put_line.new.to c.put_comment_text.new.to (codes " ") (comment_text reason) (people_reason reason) c.put_comment_text.result
    (reason_is reason (sym c.is_empty.ensures ∙ c.if-is_empty.false)) (c.in_ok-put_line.ensures) (c.put_comment_text.ensures)
