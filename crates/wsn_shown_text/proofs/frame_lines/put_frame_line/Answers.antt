use Rattle.std.proofs.Common.{◌≡◌, List, ℕ, [], ◌++◌, sym, ap, ◌∙◌, subst}
use Rattle.std.proofs.lemmas.List.{append-nil}
use Rattle.wsn_io.specs.Stops.{IsWrittenOrStops}
use Rattle.wsn_rules.specs.ShownStream.Item.{Head}
use Rattle.wsn_print.specs.ShownParts.{position_of}
use Rattle.wsn_print.proofs.Pieces.{first_stops, two_pieces}
use Rattle.wsn_shown_text.specs.declared.fields.Shape.TheVariants.{Line as words}
use Rattle.wsn_shown_text.specs.Members.Member.{Frame}
use Rattle.wsn_shown_text.specs.Members.{item_type}
use Rattle.wsn_shown_text.specs.EntryFormats.{item_in, front_in, offset_in, member_in, end_in}
use Rattle.wsn_shown_text.proofs.Entries.{frame_entry}
use Rattle.wsn_shown_text.proofs.frame_lines.put_frame_line.Goals as goal

pub returns-in_err-put_side : goal.returns-in_err-put_side
returns-in_err-put_side g c = λ n.
    let front = c.args.front.now in
    let at = position_of front.origin in
    let info = record c.args.head.now { offset = front.offset } in
    let start = front_in words (item_type (Head info)) front.role at in
    let fields = offset_in words front.offset ++ member_in words (Frame c.args.head.now) ++ end_in words in
    let whole = ap (λ (bs : List ℕ). start ++ bs) (sym (append-nil fields)) ∙ frame_entry words n front.role at c.args.head.now front.offset in
    first_stops c.args.to.now c.put_side.new.to start fields (item_in words n front.role at (Head info)) c.in_err-put_side.field-0.0 c.from_residual.result
    whole c.in_err-put_side.ensures c.from_residual.ensures.1

pub returns : goal.returns
returns g c = λ n.
    let front = c.args.front.now in
    let at = position_of front.origin in
    let info = record c.args.head.now { offset = front.offset } in
    let start = front_in words (item_type (Head info)) front.role at in
    let fields = offset_in words front.offset ++ member_in words (Frame c.args.head.now) ++ end_in words in
    let whole = ap (λ (bs : List ℕ). start ++ bs) (sym (append-nil fields)) ∙ frame_entry words n front.role at c.args.head.now front.offset in
    two_pieces c.args.to.now c.put_side.new.to c.put_line.new.to start fields (item_in words n front.role at (Head info)) c.put_line.result
    whole c.in_ok-put_side.ensures
    (subst (λ (t : List ℕ). IsWrittenOrStops c.put_side.new.to c.put_line.new.to t c.put_line.result) (c.bytes.ensures ∙ c.frame_line.ensures) c.put_line.ensures)
