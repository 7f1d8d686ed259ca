use Rattle.std.proofs.Common.{◌≡◌, ℕ, ◌≢◌, Bool, nat_lt, if◌then◌else◌, Option, None, Some, List, [], ◌∷◌, ◌++◌, length, replicate, codes, decimal, refl, sym, ap, ◌∙◌, subst, append_assoc, append-nil, rules}
use Rattle.wsn_io.specs.Transfer.{IsWritten, IsPartlyWritten}
use Rattle.wsn_io.specs.declared.stop.Stop.TheVariants as stop
use Rattle.wsn_io.specs.Stops.{IsWrittenOrStops}
use Rattle.wsn_print.proofs.Pieces.{first_stops, two_pieces}
use Rattle.wsn_shown_text.specs.PeopleText.{people_shown, people_reason}
use Rattle.wsn_shown_text.specs.Views.Shown.{Code}
use Rattle.wsn_shown_text.proofs.people_views.put_people_code.Goals as goal

pub returns-in_err-put_line : goal.returns-in_err-put_line
returns-in_err-put_line g c =
    let code = c.args.code in
    let reason = c.args.reason.now in
    first_stops c.args.to.now c.put_line.new.to (decimal code) (people_reason reason) (people_shown (Code code reason)) c.in_err-put_line.field-0.0 c.from_residual.result
    (refl) (subst (λ (t : List ℕ). (c.in_err-put_line.field-0.0 ≡ stop.Write) × IsPartlyWritten c.args.to.now c.put_line.new.to t) (c.bytes.ensures ∙ c.line_of_code.ensures) (c.in_err-put_line.ensures)) c.from_residual.ensures.1

pub returns : goal.returns
returns g c =
    let code = c.args.code in
    let reason = c.args.reason.now in
    two_pieces c.args.to.now c.put_line.new.to c.put_people_reason.new.to (decimal code) (people_reason reason) (people_shown (Code code reason)) c.put_people_reason.result
    (refl) (subst (IsWritten c.args.to.now c.put_line.new.to) (c.bytes.ensures ∙ c.line_of_code.ensures) (c.in_ok-put_line.ensures)) (c.put_people_reason.ensures)
