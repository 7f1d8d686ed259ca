-- The pieces of entries.
use Rattle.std.proofs.Common.{◌≡◌, ℕ, false, ◌==◌, Option, List, [], ◌∷◌, ◌++◌, length, refl, sym, ap, ◌∙◌, codes, append_assoc, append-nil}
use Rattle.std.proofs.lemmas.Grind.{flat_map-append}
use Rattle.wsn_wire.specs.declared.endpoint.Role.{Role}
use Rattle.wsn_wire.specs.declared.opcode.Op.{Op}
use Rattle.wsn_wire.specs.declared.opcode.Op.TheVariants.{Continue, Text, Binary, Close, Ping, Pong}
use Rattle.wsn_rules.specs.BadCharacter.{BadCharacter}
use Rattle.wsn_rules.specs.declared.head_info.HeadInfo.{HeadInfo}
use Rattle.wsn_rules.specs.declared.verdict.Refusal.{Refusal}
use Rattle.wsn_rules.specs.Meaning.{MeantEvent}
use Rattle.wsn_rules.specs.ShownStream.{Item}
use Rattle.wsn_rules.specs.ShownStream.Item.{Head, RefusedFrame}
use Rattle.wsn_rules.specs.ShownOffsets.{offset_of}
use Rattle.wsn_shown_text.specs.declared.fields.Shape.{Shape}
use Rattle.wsn_shown_text.specs.declared.fields.Shape.TheVariants as shapes
use Rattle.wsn_print.specs.declared.shown.ShownEvent.{ShownEvent}
use Rattle.wsn_print.specs.declared.shown.Remainder.{Remainder}
use Rattle.wsn_print.specs.declared.shown.Remainder.TheVariants as remainders
use Rattle.wsn_print.specs.HeadText.{op_word}
use Rattle.wsn_print.specs.EscapedText.{quoted}
use Rattle.wsn_print.specs.ShownParts.{EntryPosition, time_at, event_of, Represents, remainder_word, item_of_remainder}
use Rattle.wsn_shown_text.specs.Members.{Member, event_word, event_size, item_type, members}
use Rattle.wsn_shown_text.specs.Members.Member.{Mark, Number, Frame, Refused, Seen}
use Rattle.wsn_shown_text.specs.ShownText.{item_line, end_view, member_text}
use Rattle.wsn_shown_text.specs.CharacterText.{item_lines, character_lines, character_fields}
use Rattle.wsn_shown_text.specs.ShownObjects.{end_fields, member_field, object_front, reason_field}
use Rattle.wsn_shown_text.specs.EntryFormats.{item_in, end_mark_in, open_entry, front_in, offset_in, member_in, members_in, space_in, seen_in, end_in}
use Rattle.wsn_shown_text.specs.ShownItems.{evidence_in}
use Rattle.wsn_shown_text.specs.Views.{PayloadView, view_of_bytes, view_of_end}

-- ---- an event that is represented

word_is : (op : Op) (payload : List ℕ) → op_word op ≡ event_word (event_of op payload)
word_is Continue payload = refl
word_is Text payload = refl
word_is Binary payload = refl
word_is Close payload = refl
word_is Ping payload = refl
word_is Pong payload = refl

size_is : (op : Op) (payload : List ℕ) → length payload ≡ event_size (event_of op payload)
size_is Continue payload = refl
size_is Text payload = refl
size_is Binary payload = refl
size_is Close payload = refl
size_is Ping payload = refl
size_is Pong payload = refl

-- Its word and its size are those of the event.
pub represented : {A : Type 0} (n : ℕ) (shown : ShownEvent) (e : MeantEvent) (f : List ℕ → ℕ → A) → Represents n shown e
    → f (op_word shown.op) shown.bytes ≡ f (event_word e) (event_size e)
represented n shown e f shows =
    ap (λ (w : List ℕ). f w shown.bytes) (word_is shown.op shows.payload ∙ ap event_word (sym shows.is))
    ∙ ap (λ (k : ℕ). f (event_word e) k) (shows.size ∙ size_is shown.op shows.payload ∙ ap event_size (sym shows.is))

-- ---- entries with a view

seen_is : (shape : Shape) (n : ℕ) (view : PayloadView) → member_in shape (Seen n view) ≡ space_in shape ++ seen_in shape n view
seen_is shapes.Line n view = refl
seen_is shapes.Object n view = refl

last_is : (shape : Shape) (fields : List Member) (n : ℕ) (view : PayloadView)
    → members_in shape (fields ++ (Seen n view ∷ [])) ≡ members_in shape fields ++ (space_in shape ++ seen_in shape n view)
last_is shape fields n view =
    flat_map-append (member_in shape) fields (Seen n view ∷ [])
    ∙ ap (λ (bs : List ℕ). members_in shape fields ++ bs) (append-nil (member_in shape (Seen n view)) ∙ seen_is shape n view)

open_parts : (front offset fields space view : List ℕ) → front ++ ((offset ++ fields ++ space) ++ view) ≡ front ++ offset ++ (fields ++ (space ++ view))
open_parts front offset fields space view = simp append_assoc

pub open_is : (shape : Shape) (n : ℕ) (role : Role) (position : EntryPosition) (item : Item) (fields : List Member) (view : PayloadView) → fields ++ (Seen n view ∷ []) ≡ members n item
    → front_in shape (item_type item) role position ++ ((offset_in shape (offset_of item) ++ members_in shape fields ++ space_in shape) ++ seen_in shape n view) ≡ open_entry shape n role position item
open_is shape n role position item fields view are =
    let front = front_in shape (item_type item) role position in
    let offset = offset_in shape (offset_of item) in
    open_parts front offset (members_in shape fields) (space_in shape) (seen_in shape n view)
    ∙ ap (λ (bs : List ℕ). front ++ offset ++ bs) (sym (last_is shape fields n view) ∙ ap (members_in shape) are)

-- An entry of one line is what is written without the end, and the end.
closed : (shape : Shape) (n : ℕ) (role : Role) (position : EntryPosition) (item : Item) → item_lines n role (time_at position) item ≡ item_line n role (time_at position) item
    → open_entry shape n role position item ++ end_in shape ≡ item_in shape n role position item
closed shapes.Line n role position item one = sym one
closed shapes.Object n role position item one = refl

with_end : (front line view end : List ℕ) → front ++ (line ++ (view ++ end)) ≡ (front ++ (line ++ view)) ++ end
with_end front line view end = simp append_assoc

pub seen_entry : (shape : Shape) (n : ℕ) (role : Role) (position : EntryPosition) (item : Item) (fields : List Member) (view : PayloadView) → fields ++ (Seen n view ∷ []) ≡ members n item
    → item_lines n role (time_at position) item ≡ item_line n role (time_at position) item
    → front_in shape (item_type item) role position ++ ((offset_in shape (offset_of item) ++ members_in shape fields ++ space_in shape) ++ (seen_in shape n view ++ end_in shape))
    ≡ item_in shape n role position item
seen_entry shape n role position item fields view are one =
    with_end (front_in shape (item_type item) role position) (offset_in shape (offset_of item) ++ members_in shape fields ++ space_in shape) (seen_in shape n view) (end_in shape)
    ∙ ap (λ (bs : List ℕ). bs ++ end_in shape) (open_is shape n role position item fields view are)
    ∙ closed shape n role position item one

pub remainder_entry : (shape : Shape) (n : ℕ) (role : Role) (position : EntryPosition) (which : Remainder) (offset : ℕ) (all : List ℕ)
    → front_in shape (item_type (item_of_remainder which offset all)) role position
    ++ ((offset_in shape offset ++ members_in shape (Mark (remainder_word which) ∷ Number (codes "bytes") (length all) ∷ []) ++ space_in shape)
    ++ (seen_in shape n (view_of_bytes n all) ++ end_in shape))
    ≡ item_in shape n role position (item_of_remainder which offset all)
remainder_entry shape n role position remainders.Unread offset all =
    seen_entry shape n role position (item_of_remainder remainders.Unread offset all) (Mark (codes "unread") ∷ Number (codes "bytes") (length all) ∷ []) (view_of_bytes n all) refl refl
remainder_entry shape n role position remainders.Tail offset all =
    seen_entry shape n role position (item_of_remainder remainders.Tail offset all) (Mark (codes "tail") ∷ Number (codes "bytes") (length all) ∷ []) (view_of_bytes n all) refl refl

-- ---- other entries

frame_is : (shape : Shape) (head : HeadInfo) (offset : ℕ) → member_in shape (Frame head) ≡ member_in shape (Frame (record head { offset = offset }))
frame_is shapes.Line head offset = refl
frame_is shapes.Object head offset = refl

frame_parts : (front offset head end : List ℕ) → front ++ ((offset ++ head ++ end) ++ []) ≡ (front ++ offset ++ (head ++ [])) ++ end
frame_parts front offset head end = simp (append_assoc, append-nil)

pub frame_entry : (shape : Shape) (n : ℕ) (role : Role) (position : EntryPosition) (head : HeadInfo) (offset : ℕ)
    → front_in shape (codes "frame") role position ++ ((offset_in shape offset ++ member_in shape (Frame head) ++ end_in shape) ++ [])
    ≡ item_in shape n role position (Head (record head { offset = offset }))
frame_entry shape n role position head offset =
    frame_parts (front_in shape (codes "frame") role position) (offset_in shape offset) (member_in shape (Frame head)) (end_in shape)
    ∙ ap (λ (bs : List ℕ). (front_in shape (codes "frame") role position ++ offset_in shape offset ++ (bs ++ [])) ++ end_in shape) (frame_is shape head offset)
    ∙ closed shape n role position (Head (record head { offset = offset })) refl

lines_parts : (front offset verdict space view end lines : List ℕ)
    → front ++ ((offset ++ verdict ++ space) ++ (view ++ end ++ lines)) ≡ (front ++ offset ++ (verdict ++ ((space ++ view) ++ [])) ++ end) ++ lines
lines_parts front offset verdict space view end lines = simp (append_assoc, append-nil)

object_parts : (front offset verdict view character end : List ℕ)
    → front ++ ((offset ++ verdict ++ []) ++ (view ++ character ++ end)) ≡ (front ++ offset ++ (verdict ++ (view ++ (character ++ [])))) ++ end
object_parts front offset verdict view character end = simp (append_assoc, append-nil)

pub refused_entry : (shape : Shape) (n : ℕ) (role : Role) (position : EntryPosition) (offset : ℕ) (refusal : Refusal) (all : List ℕ) (character : Option BadCharacter)
    → front_in shape (codes "refused") role position ++ ((offset_in shape offset ++ member_in shape (Refused refusal) ++ space_in shape) ++ evidence_in shape n role position all character)
    ≡ item_in shape n role position (RefusedFrame offset refusal all character)
refused_entry shapes.Line n role position offset refusal all character =
    lines_parts (front_in shapes.Line (codes "refused") role position) (offset_in shapes.Line offset) (member_text (Refused refusal)) (codes " ") (end_view n all) (codes "\n") (character_lines n role (time_at position) all character)
refused_entry shapes.Object n role position offset refusal all character =
    object_parts (object_front (codes "refused") role position) (offset_in shapes.Object offset) (member_field (Refused refusal)) (end_fields (view_of_end n all)) (character_fields n all character) (codes "}\n")

mark_parts : (front offset word end : List ℕ) → front ++ (offset ++ word ++ end) ≡ front ++ offset ++ (word ++ []) ++ end
mark_parts front offset word end = simp (append_assoc, append-nil)

pub end_mark : (shape : Shape) (role : Role) (position : EntryPosition) (sent : ℕ)
    → front_in shape (codes "end") role position ++ (offset_in shape sent ++ member_in shape (Mark (codes "end")) ++ end_in shape) ≡ end_mark_in shape role position sent
end_mark shapes.Line role position sent = mark_parts (front_in shapes.Line (codes "end") role position) (offset_in shapes.Line sent) (codes " end") (codes "\n")
end_mark shapes.Object role position sent = mark_parts (object_front (codes "end") role position) (offset_in shapes.Object sent) [] (codes "}\n")

-- ---- views

-- The quoted reason of a Close.
pub reason_field_is : (reason : List ℕ) → (length reason == 0) ≡ false → codes ",\"reason\":" ++ quoted reason ≡ reason_field reason
reason_field_is [] some = cc
reason_field_is (b ∷ reason) some = refl
