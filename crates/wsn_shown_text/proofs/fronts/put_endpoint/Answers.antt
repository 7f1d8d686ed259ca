use Rattle.std.proofs.Common.{◌≡◌, ℕ, List, ◌++◌, codes, append_assoc, subst}
use Rattle.wsn_io.specs.Transfer.{IsWritten, IsPartlyWritten}
use Rattle.wsn_io.specs.declared.stop.Stop.TheVariants as stop
use Rattle.wsn_io.specs.Stops.{IsWrittenOrStops}
use Rattle.wsn_shown_text.specs.ShownText.{role_letter, time_text}
use Rattle.wsn_print.specs.ShownParts.{time_of}
use Rattle.wsn_print.proofs.Pieces.{first_stops, two_pieces}
use Rattle.wsn_shown_text.proofs.fronts.put_endpoint.Goals as goal

pub returns-in_err-put_line : goal.returns-in_err-put_line
returns-in_err-put_line g c =
    let letter = role_letter c.args.front.now.role ++ codes " " in
    let time = time_text (time_of c.args.front.now) in
    first_stops c.args.to.now c.put_line-2.new.to letter time (role_letter c.args.front.now.role ++ codes " " ++ time) c.in_err-put_line.field-0.0 c.from_residual.result (simp append_assoc)
    (subst (λ (t : List ℕ). (c.in_err-put_line.field-0.0 ≡ stop.Write) × IsPartlyWritten c.args.to.now c.put_line-2.new.to t) c.letter_of.ensures c.in_err-put_line.ensures) c.from_residual.ensures.1

pub returns : goal.returns
returns g c =
    let letter = role_letter c.args.front.now.role ++ codes " " in
    let time = time_text (time_of c.args.front.now) in
    let is : c.in-Some.seconds.now ≡ time = cc in
    two_pieces c.args.to.now c.put_line-2.new.to c.put_line-3.new.to letter time (role_letter c.args.front.now.role ++ codes " " ++ time) c.put_line-3.result (simp append_assoc)
    (subst (IsWritten c.args.to.now c.put_line-2.new.to) c.letter_of.ensures c.in_ok-put_line.ensures)
    (subst (λ (t : List ℕ). IsWrittenOrStops c.put_line-2.new.to c.put_line-3.new.to t c.put_line-3.result) is c.put_line-3.ensures)
