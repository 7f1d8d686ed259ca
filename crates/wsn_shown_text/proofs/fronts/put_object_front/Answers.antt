use Rattle.std.proofs.Common.{◌≡◌, ℕ, List, ◌++◌, codes, ◌∙◌, subst, refl}
use Rattle.wsn_io.specs.Transfer.{IsWritten, IsPartlyWritten}
use Rattle.wsn_io.specs.declared.stop.Stop.TheVariants as stop
use Rattle.wsn_io.specs.Stops.{IsWrittenOrStops}
use Rattle.wsn_shown_text.specs.ShownObjects.{object_front, line_field, side_word, time_key, time_value}
use Rattle.wsn_print.specs.Json.{string_field}
use Rattle.wsn_print.specs.ShownParts.{position_of}
use Rattle.wsn_print.proofs.Pieces.{first_stops, two_pieces}
use Rattle.wsn_shown_text.proofs.fronts.put_object_front.Goals as goal

pub returns-in_err-put_line : goal.returns-in_err-put_line
returns-in_err-put_line g c =
    let at = position_of c.args.front.now.origin in
    let front = codes "{\"type\":\"" ++ c.args.kind.now ++ codes "\"" ++ line_field at ++ string_field (codes "side") (side_word c.args.front.now.role) ++ time_key at in
    first_stops c.args.to.now c.put_line.new.to (front) (time_value (position_of c.args.front.now.origin)) (object_front c.args.kind.now c.args.front.now.role (position_of c.args.front.now.origin)) c.in_err-put_line.field-0.0 c.from_residual.result (refl) (subst (λ (t : List ℕ). (c.in_err-put_line.field-0.0 ≡ stop.Write) × IsPartlyWritten c.args.to.now c.put_line.new.to t) (c.bytes.ensures ∙ c.push_object_front.ensures.text) c.in_err-put_line.ensures) c.from_residual.ensures.1

pub returns : goal.returns
returns g c =
    let at = position_of c.args.front.now.origin in
    let front = codes "{\"type\":\"" ++ c.args.kind.now ++ codes "\"" ++ line_field at ++ string_field (codes "side") (side_word c.args.front.now.role) ++ time_key at in
    two_pieces c.args.to.now c.put_line.new.to c.put_line-2.new.to (front) (time_value (position_of c.args.front.now.origin)) (object_front c.args.kind.now c.args.front.now.role (position_of c.args.front.now.origin)) c.put_line-2.result (refl) (subst (IsWritten c.args.to.now c.put_line.new.to) (c.bytes.ensures ∙ c.push_object_front.ensures.text) c.in_ok-put_line.ensures) (subst (λ (t : List ℕ). IsWrittenOrStops c.put_line.new.to c.put_line-2.new.to t c.put_line-2.result) (c.seconds_of.ensures) c.put_line-2.ensures)
