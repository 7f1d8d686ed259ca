use Rattle.std.proofs.Common.{◌≡◌, ℕ, List, ◌++◌, codes, ap, ◌∙◌, subst}
use Rattle.wsn_io.specs.Stops.{IsWrittenOrStops}
use Rattle.wsn_print.specs.ShownParts.{position_of}
use Rattle.wsn_shown_text.specs.Members.Member.{Mark}
use Rattle.wsn_shown_text.specs.EntryFormats.{end_mark_in, front_in, offset_in, member_in, end_in}
use Rattle.wsn_shown_text.proofs.Entries.{end_mark}
use Rattle.wsn_print.proofs.Pieces.{first_stops, two_pieces}
use Rattle.wsn_shown_text.proofs.entry_formats.put_end_in.Goals as goal

pub returns-in_err-put_front : goal.returns-in_err-put_front
returns-in_err-put_front g c =
    let shape = c.args.shape in
    let front = c.args.front.now in
    let at = position_of front.origin in
    first_stops c.args.to.now c.put_front.new.to (front_in shape (codes "end") front.role at) (offset_in shape front.offset ++ member_in shape (Mark (codes "end")) ++ end_in shape) (end_mark_in shape front.role at front.offset) c.in_err-put_front.field-0.0 c.from_residual.result
    (end_mark shape front.role at front.offset) c.in_err-put_front.ensures c.from_residual.ensures.1

pub returns : goal.returns
returns g c =
    let shape = c.args.shape in
    let front = c.args.front.now in
    let at = position_of front.origin in
    let line : List ℕ = offset_in shape front.offset ++ member_in shape (Mark (codes "end")) ++ end_in shape in
    let is = c.bytes.ensures ∙ c.push_end_mark.ensures ∙ ap (λ (bs : List ℕ). bs ++ offset_in shape front.offset ++ member_in shape (Mark (codes "end")) ++ end_in shape) c.new-line.ensures in
    two_pieces c.args.to.now c.put_front.new.to c.put_line.new.to (front_in shape (codes "end") front.role at) line (end_mark_in shape front.role at front.offset) c.put_line.result
    (end_mark shape front.role at front.offset) c.in_ok-put_front.ensures (subst (λ (t : List ℕ). IsWrittenOrStops c.put_front.new.to c.put_line.new.to t c.put_line.result) is c.put_line.ensures)
