use Rattle.std.proofs.Common.{◌≡◌, ℕ, List, [], ◌++◌, codes, refl, sym, ap, ◌∙◌, subst}
use Rattle.wsn_io.specs.Stops.{IsWrittenOrStops}
use Rattle.wsn_io.specs.Transfer.{IsWritten, IsPartlyWritten}
use Rattle.wsn_io.specs.declared.stop.Stop.TheVariants as stop
use Rattle.wsn_rules.specs.Meaning.{MeantEvent}
use Rattle.wsn_rules.specs.ShownStream.Item.{Event}
use Rattle.wsn_shown_text.specs.declared.fields.Shape.{Shape}
use Rattle.wsn_print.specs.declared.shown.PlacedEvent.{PlacedEvent}
use Rattle.wsn_print.specs.HeadText.{op_word}
use Rattle.wsn_print.specs.ShownParts.{IsPlaced}
use Rattle.wsn_print.specs.ShownParts.EntryPosition.{InStream}
use Rattle.wsn_wire.specs.declared.endpoint.Role.{Role}
use Rattle.wsn_shown_text.specs.Members.{Member, event_members, event_word, event_size}
use Rattle.wsn_shown_text.specs.EntryFormats.{open_entry, front_in, offset_in, members_in, space_in, seen_in}
use Rattle.wsn_shown_text.specs.Views.{PayloadView, view_of_event, IsReadable}
use Rattle.wsn_shown_text.proofs.TextFronts.{event_readable, has_reason}
use Rattle.wsn_shown_text.proofs.Entries.{represented, open_is}
use Rattle.wsn_print.proofs.Pieces.{first_stops, second_stops, three_pieces}
use Rattle.wsn_shown_text.proofs.items.put_placed.Goals as goal

-- The offset, the fields, and what is in front of the view.
abbrev line_of : Shape → PlacedEvent → MeantEvent → List ℕ
line_of shape placed event =
    offset_in shape placed.offset ++ members_in shape (event_members (event_word event) (event_size event) placed.event.frames) ++ space_in shape

whole : (shape : Shape) (n : ℕ) (role : Role) (placed : PlacedEvent) (offset : ℕ) (event : MeantEvent) (frames : ℕ) → IsPlaced n placed offset event frames
    → front_in shape (codes "event") role InStream ++ (line_of shape placed event ++ seen_in shape n (view_of_event n event)) ≡ open_entry shape n role InStream (Event offset event frames)
whole shape n role placed offset event frames is =
    open_is shape n role InStream (Event placed.offset event placed.event.frames) (event_members (event_word event) (event_size event) placed.event.frames) (view_of_event n event) refl
    ∙ ap (λ (at : ℕ). open_entry shape n role InStream (Event at event placed.event.frames)) is.offset_is
    ∙ ap (λ (k : ℕ). open_entry shape n role InStream (Event offset event k)) is.frames_are

line_is : (shape : Shape) (n : ℕ) (placed : PlacedEvent) (offset : ℕ) (event : MeantEvent) (frames : ℕ) (line old : List ℕ) → IsPlaced n placed offset event frames → old ≡ []
    → line ≡ old ++ offset_in shape placed.offset ++ members_in shape (event_members (op_word placed.event.op) placed.event.bytes placed.event.frames) ++ space_in shape
    → line ≡ line_of shape placed event
line_is shape n placed offset event frames line old is none pushed =
    let pieces = λ (bs : List ℕ) (ms : List Member). bs ++ offset_in shape placed.offset ++ members_in shape ms ++ space_in shape in
    pushed
    ∙ ap (λ (bs : List ℕ). pieces bs (event_members (op_word placed.event.op) placed.event.bytes placed.event.frames)) none
    ∙ ap (pieces []) (represented n placed.event event (λ word bytes. event_members word bytes placed.event.frames) is.represents)

pub returns-in_err-put_front-clause-text : goal.returns-in_err-put_front-clause-text
returns-in_err-put_front-clause-text g c = λ offset event frames is.
    let shape = c.args.shape in
    let n = c.args.view in
    let placed = c.args.placed.now in
    first_stops c.args.to.now c.put_front.new.to (front_in shape (codes "event") c.args.role InStream) (line_of shape placed event ++ seen_in shape n (view_of_event n event)) (open_entry shape n c.args.role InStream (Event offset event frames)) c.in_err-put_front.field-0.0 c.from_residual.result
    (whole shape n c.args.role placed offset event frames is) c.in_err-put_front.ensures c.from_residual.ensures.1

pub returns-in_err-put_line-clause-text : goal.returns-in_err-put_line-clause-text
returns-in_err-put_line-clause-text g c = λ offset event frames is.
    let shape = c.args.shape in
    let n = c.args.view in
    let placed = c.args.placed.now in
    let line = c.bytes.ensures ∙ line_is shape n placed offset event frames c.push_event.new.line c.new-line.result is c.new-line.ensures c.push_event.ensures in
    second_stops c.args.to.now c.put_front.new.to c.put_line.new.to (front_in shape (codes "event") c.args.role InStream) (line_of shape placed event) (seen_in shape n (view_of_event n event)) (open_entry shape n c.args.role InStream (Event offset event frames)) c.in_err-put_line.field-0.0 c.from_residual-in_err-put_line.result
    (whole shape n c.args.role placed offset event frames is) c.in_ok-put_front.ensures
    (subst (λ (t : List ℕ). (c.in_err-put_line.field-0.0 ≡ stop.Write) × IsPartlyWritten c.put_front.new.to c.put_line.new.to t) line c.in_err-put_line.ensures) c.from_residual-in_err-put_line.ensures.1

pub returns-clause-text : goal.returns-clause-text
returns-clause-text g c = λ offset event frames is.
    let shape = c.args.shape in
    let n = c.args.view in
    let placed = c.args.placed.now in
    let line = c.bytes.ensures ∙ line_is shape n placed offset event frames c.push_event.new.line c.new-line.result is c.new-line.ensures c.push_event.ensures in
    let view = c.view_of_event.ensures event is.represents is.text in
    let readable = subst (λ (v : PayloadView). IsReadable v.shown) (sym view) (event_readable n event (has_reason event is.text)) in
    three_pieces c.args.to.now c.put_front.new.to c.put_line.new.to c.put_shown.new.to (front_in shape (codes "event") c.args.role InStream) (line_of shape placed event) (seen_in shape n (view_of_event n event)) (open_entry shape n c.args.role InStream (Event offset event frames)) c.put_shown.result
    (whole shape n c.args.role placed offset event frames is) c.in_ok-put_front.ensures (subst (IsWritten c.put_front.new.to c.put_line.new.to) line c.in_ok-put_line.ensures)
    (subst (λ (v : PayloadView). IsWrittenOrStops c.put_line.new.to c.put_shown.new.to (seen_in shape n v) c.put_shown.result) view (c.put_shown.ensures.text readable))
