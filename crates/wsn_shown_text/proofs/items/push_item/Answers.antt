use Rattle.std.proofs.Common.{◌≡◌, ℕ, false, None, List, [], ◌∷◌, ◌++◌, length, codes, refl, sym, ap, ◌∙◌, subst, append_assoc}
use Rattle.wsn_wire.specs.declared.endpoint.Role.{Role}
use Rattle.wsn_rules.specs.ShownStream.{Item}
use Rattle.wsn_rules.specs.ShownStream.Item.{Event, Head, Unfinished, UnfinishedHead, RefusedFrame}
use Rattle.wsn_rules.specs.ShownOffsets.{offset_of}
use Rattle.wsn_shown_text.specs.declared.fields.Shape.{Shape}
use Rattle.wsn_print.specs.HeadText.{op_word}
use Rattle.wsn_print.specs.ShownParts.{EntryPosition, time_at, remainder_word, character_in, item_of_remainder}
use Rattle.wsn_shown_text.specs.declared.items.Rest.{Rest}
use Rattle.wsn_shown_text.specs.declared.items.Rest.TheVariants as rest
use Rattle.wsn_shown_text.specs.declared.items.ShownItem.{ShownItem}
use Rattle.wsn_shown_text.specs.declared.views.View.{View}
use Rattle.wsn_shown_text.specs.Members.{Member, event_word, event_size, event_members, unfinished_members, members, item_type}
use Rattle.wsn_shown_text.specs.Members.Member.{Mark, Number, Frame, Refused, Seen}
use Rattle.wsn_shown_text.specs.ShownText.{item_line}
use Rattle.wsn_shown_text.specs.CharacterText.{item_lines}
use Rattle.wsn_shown_text.specs.EntryFormats.{item_in, front_in, offset_in, member_in, members_in, space_in, seen_in, end_in}
use Rattle.wsn_shown_text.specs.ShownItems.{IsItem, IsRest, evidence_in}
use Rattle.wsn_shown_text.specs.Views.{PayloadView, view_of_bytes, view_of_event, view_of_unfinished, view_in, IsReadable}
use Rattle.wsn_shown_text.specs.Views.Shown.{Hex}
use Rattle.wsn_shown_text.proofs.HeldViews.{as_view}
use Rattle.wsn_shown_text.proofs.TextFronts.{event_readable, unfinished_readable, has_reason}
use Rattle.wsn_shown_text.proofs.Entries.{represented, seen_entry, remainder_entry, frame_entry, refused_entry}
use Rattle.wsn_shown_text.proofs.items.push_item.Goals as goal

-- This line is the one before and fields, and these and then what is left are an item's entry.
abbrev Splits : Shape → ℕ → List ℕ → List ℕ → Rest → Item → Type 0
Splits shape n old line left item =
    (role : Role) → (position : EntryPosition) → (fields : List ℕ) × (text : List ℕ) × (line ≡ old ++ fields) × IsRest shape n role position left text
    × (front_in shape (item_type item) role position ++ (fields ++ text) ≡ item_in shape n role position item)

-- The offset, these fields, and what is in front of a view.
abbrev line_of : Shape → ℕ → List Member → List ℕ
line_of shape offset fields = offset_in shape offset ++ members_in shape fields ++ space_in shape

after : (old offset fields last : List ℕ) → old ++ offset ++ fields ++ last ≡ old ++ (offset ++ fields ++ last)
after old offset fields last = simp append_assoc

from_old : (shape : Shape) (offset : ℕ) (line old : List ℕ) (fields : List Member) → line ≡ old ++ offset_in shape offset ++ members_in shape fields ++ space_in shape
    → line ≡ old ++ line_of shape offset fields
from_old shape offset line old fields is = is ∙ after old (offset_in shape offset) (members_in shape fields) (space_in shape)

with_view : (shape : Shape) (n : ℕ) (old line : List ℕ) (item : Item) (fields : List Member) (view : PayloadView) (held : View) → line ≡ old ++ line_of shape (offset_of item) fields → fields ++ (Seen n view ∷ []) ≡ members n item
    → ((role : Role) (position : EntryPosition) → item_lines n role (time_at position) item ≡ item_line n role (time_at position) item) → view_in held ≡ view → IsReadable view.shown → Splits shape n old line (rest.Seen held) item
with_view shape n old line item fields view held is are one is_view readable role position =
    let front = front_in shape (item_type item) role position in (
      line_of shape (offset_of item) fields,
      seen_in shape n (view_in held) ++ end_in shape,
      is,
      (refl, subst (λ (v : PayloadView). IsReadable v.shown) (sym is_view) readable),
      ap (λ (v : PayloadView). front ++ (line_of shape (offset_of item) fields ++ (seen_in shape n v ++ end_in shape))) is_view
          ∙ seen_entry shape n role position item fields view are (one role position),
    )

pub returns-in-Event : goal.returns-in-Event
returns-in-Event c = λ shown held.
    let shape = c.args.shape in
    let n = c.args.view in
    let event = c.in-Event.event in
    let old = c.args.line.now in
    let line = c.push_event.new.line in
    let item = subst (λ (i : ShownItem). IsItem n c.args.offset i shown) c.in-Event.is held in
    let is = from_old shape c.args.offset line old (event_members (op_word event.op) event.bytes event.frames) c.push_event.ensures
    ∙ ap (λ (fields : List Member). old ++ line_of shape c.args.offset fields) (represented n event item.0 (λ word bytes. event_members word bytes event.frames) item.1) in
    subst (Splits shape n old line (rest.Seen c.view_of_event.result)) (sym item.3)
    (with_view shape n old line (Event c.args.offset item.0 event.frames) (event_members (event_word item.0) (event_size item.0) event.frames) (view_of_event n item.0) c.view_of_event.result is refl (λ role position. refl)
    (c.view_of_event.ensures item.0 item.1 item.2) (event_readable n item.0 (has_reason item.0 item.2)))

pub returns-in-Unfinished : goal.returns-in-Unfinished
returns-in-Unfinished c = λ shown held.
    let shape = c.args.shape in
    let n = c.args.view in
    let event = c.in-Unfinished.event in
    let lacks = c.in-Unfinished.lacks in
    let old = c.args.line.now in
    let line = c.push_unfinished.new.line in
    let item = subst (λ (i : ShownItem). IsItem n c.args.offset i shown) c.in-Unfinished.is held in
    let is = from_old shape c.args.offset line old (unfinished_members (op_word event.op) event.bytes event.frames lacks) c.push_unfinished.ensures
    ∙ ap (λ (fields : List Member). old ++ line_of shape c.args.offset fields) (represented n event item.0 (λ word bytes. unfinished_members word bytes event.frames lacks) item.1) in
    subst (Splits shape n old line (rest.Seen c.view_of_unfinished.result)) (sym item.3)
    (with_view shape n old line (Unfinished c.args.offset item.0 event.frames lacks) (unfinished_members (event_word item.0) (event_size item.0) event.frames lacks) (view_of_unfinished n item.0) c.view_of_unfinished.result is refl (λ role position. refl)
    (c.view_of_unfinished.ensures item.0 item.1 item.2) (unfinished_readable n item.0))

pub returns-in-UnfinishedHead : goal.returns-in-UnfinishedHead
returns-in-UnfinishedHead c = λ shown held.
    let shape = c.args.shape in
    let n = c.args.view in
    let old = c.args.line.now in
    let line = c.push_unfinished_head.new.line in
    let item = subst (λ (i : ShownItem). IsItem n c.args.offset i shown) c.in-UnfinishedHead.is held in
    let fields : List Member = unfinished_members (codes "head") 0 0 None in
    let is = from_old shape c.args.offset line old fields c.push_unfinished_head.ensures in
    subst (Splits shape n old line (rest.Seen c.no_bytes.result)) (sym item)
    (with_view shape n old line (UnfinishedHead c.args.offset) fields (as_view (Hex []) false) c.no_bytes.result is refl (λ role position. refl) c.no_bytes.ensures tt)

pub returns-in-Frame : goal.returns-in-Frame
returns-in-Frame c = λ shown held.
    let shape = c.args.shape in
    let n = c.args.view in
    let head = c.in-Frame.head in
    let old = c.args.line.now in
    let line = c.push_frame.new.line in
    let fields = offset_in shape c.args.offset ++ member_in shape (Frame head) ++ end_in shape in
    let item = subst (λ (i : ShownItem). IsItem n c.args.offset i shown) c.in-Frame.is held in
    let is = c.push_frame.ensures ∙ after old (offset_in shape c.args.offset) (member_in shape (Frame head)) (end_in shape) in
    subst (Splits shape n old line rest.Nothing) (sym item)
    (λ role position. (fields, [], is, refl, frame_entry shape n role position head c.args.offset))

pub returns-in-Refused : goal.returns-in-Refused
returns-in-Refused c = λ shown held.
    let shape = c.args.shape in
    let n = c.args.view in
    let refusal = c.in-Refused.refusal in
    let character = character_in c.in-Refused.character in
    let old = c.args.line.now in
    let line = c.push_refused.new.line in
    let fields = offset_in shape c.args.offset ++ member_in shape (Refused refusal) ++ space_in shape in
    let item = subst (λ (i : ShownItem). IsItem n c.args.offset i shown) c.in-Refused.is held in
    let is = c.push_refused.ensures ∙ after old (offset_in shape c.args.offset) (member_in shape (Refused refusal)) (space_in shape) in
    subst (Splits shape n old line (rest.Evidence c.in-Refused.evidence c.in-Refused.character)) (sym item.2)
    (λ role position. (fields, evidence_in shape n role position item.0 character, is, (item.0, item.1, refl), refused_entry shape n role position c.args.offset refusal item.0 character))

pub returns-in-Remainder : goal.returns-in-Remainder
returns-in-Remainder c = λ shown held.
    let shape = c.args.shape in
    let n = c.args.view in
    let which = c.in-Remainder.which in
    let old = c.args.line.now in
    let line = c.push_remainder.new.line in
    let item = subst (λ (i : ShownItem). IsItem n c.args.offset i shown) c.in-Remainder.is held in
    let all = item.0 in
    let fields = λ (k : ℕ). Mark (remainder_word which) ∷ Number (codes "bytes") k ∷ [] in
    let is = from_old shape c.args.offset line old (fields c.in-Remainder.bytes.bytes) c.push_remainder.ensures
    ∙ ap (λ (k : ℕ). old ++ line_of shape c.args.offset (fields k)) item.1.0 in
    let is_view = c.view_of_bytes.ensures all item.1 in
    subst (Splits shape n old line (rest.Seen c.view_of_bytes.result)) (sym item.2)
    (λ role position.
    let front = front_in shape (item_type (item_of_remainder which c.args.offset all)) role position in (
      line_of shape c.args.offset (fields (length all)),
      seen_in shape n (view_in c.view_of_bytes.result) ++ end_in shape,
      is,
      (refl, subst (λ (v : PayloadView). IsReadable v.shown) (sym is_view) tt),
      ap (λ (v : PayloadView). front ++ (line_of shape c.args.offset (fields (length all)) ++ (seen_in shape n v ++ end_in shape))) is_view
          ∙ remainder_entry shape n role position which c.args.offset all,
    ))
