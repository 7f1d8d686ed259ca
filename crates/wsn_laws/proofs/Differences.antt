-- The value of the object of two streams that differ, and that the object is JSON with distinct names.
use Rattle.std.proofs.Common.{◌≡◌, ℕ, ◌+◌, ◌-◌, ◌≤◌, ◌==◌, ◌||◌, Bool, true, false, if◌then◌else◌, Option, None, Some, List, [], ◌∷◌, ◌++◌, length, take, drop, codes, refl, subst, arith, append_assoc}
use Rattle.std.specs.Prelude.{nat_lt, decimal, IfSome}
use Rattle.std.proofs.lemmas.List.{length-take}
use Rattle.std.proofs.lemmas.Str.{utf8_valid_len_le}
use Rattle.wsn_wire.specs.declared.endpoint.Role.{Role}
use Rattle.wsn_wire.specs.declared.opcode.Kind.TheVariants as kinds
use Rattle.wsn_wire.specs.Frame.{IsBytes}
use Rattle.wsn_rules.specs.Meaning.{MeantEvent, Message, Control, payload_in}
use Rattle.wsn_rules.specs.ShownStream.{Item}
use Rattle.wsn_rules.specs.ShownStream.Item.{Event}
use Rattle.wsn_rules.specs.ShownOffsets.{offset_of}
use Rattle.wsn_print.specs.Json.{field, string_field, number_field}
use Rattle.wsn_print.specs.ShownParts.{text_part}
use Rattle.wsn_shown_text.specs.QuotedTexts.{ShowsTextReason}
use Rattle.wsn_shown_text.specs.Members.{item_type}
use Rattle.wsn_shown_text.specs.ShownObjects.{view_fields, side_word}
use Rattle.wsn_shown_text.specs.Views.{PayloadView, view_of_part}
use Rattle.wsn_print.specs.ShownParts.EntryPosition.{InStream}
use Rattle.wsn_print.specs.DifferingPayloads.{common_length, place_in, view_start, payload_on, part_length, event_in}
use Rattle.wsn_shown_text.specs.DifferingText.{view_value, place_value, differ_field}
use Rattle.wsn_shown_text.specs.DifferenceText.{event_value, difference_object}
use Rattle.wsn_shown_text.proofs.TextFronts.{part_is_utf8}
use Rattle.wsn_laws.specs.JsonText.{Value, Null, String, Object, Members, End, Member, IsValue, HasDistinctNames, AreDistinct, IsJsonLine, IsObjectLine}
use Rattle.wsn_laws.specs.Answers.{IsInU64}
use Rattle.wsn_laws.specs.ShownItems.{AreBytesInRange, IsItemInRange}
use Rattle.wsn_laws.specs.ShownDifferences.{IsDifferenceInRange}
use Rattle.wsn_laws.proofs.Distinct.{distinct}
use Rattle.wsn_laws.proofs.Fields.{number}
use Rattle.wsn_laws.proofs.Texts.{IsTextOf, AreTextsOf, member, last, null_text, number_text, word_text, object_text, typed_text, typed_line}
use Rattle.wsn_laws.proofs.ShownJson.{view_json, item_json, placed_json, IsShownInRange, view_texts, take_bytes, drop_bytes, fields_of, item_texts, plain_side, plain_type, offset_fits}
use Rattle.wsn_laws.proofs.ShownNames.{new_to, view_names, IsView, view_is, IsItem, item_is, placed_distinct}

-- ---- an item of one of the streams

abbrev pub stream_members : ℕ → Role → Item → Members
stream_members n role item = placed_json role InStream (offset_of item) (item_json n item)

abbrev pub stream_json : ℕ → Role → Option Item → Value
stream_json n role None = Null
stream_json n role (Some item) = Object (Member (codes "type") (String (item_type item)) (stream_members n role item))

stream_parts : (a k q s o f z : List ℕ) → a ++ (k ++ (q ++ ((s ++ (o ++ f)) ++ z))) ≡ ((a ++ k ++ q ++ [] ++ s ++ [] ++ []) ++ o ++ f) ++ z
stream_parts a k q s o f z = simp append_assoc

stream_text : (n : ℕ) (role : Role) (one : Option Item) → IfSome one IsItemInRange → IfSome one ShowsTextReason → IsTextOf (stream_json n role one) (event_value n role one)
stream_text n role None fits reason = null_text
stream_text n role (Some item) fits reason =
    let offset = member (codes "offset") refl (number_text (offset_of item) (offset_fits item fits)) (item_texts n item fits reason) in
    let side = member (codes "side") refl (word_text (side_word role) (plain_side role)) offset in
    let is = typed_text (item_type item) (string_field (codes "side") (side_word role) ++ (number_field (codes "offset") (offset_of item) ++ fields_of n item)) (stream_members n role item) (plain_type item) side in
    record {
      is =
          subst (λ (text : List ℕ). IsValue (stream_json n role (Some item)) text)
          (stream_parts (codes "{\"type\":\"") (item_type item) (codes "\"") (string_field (codes "side") (side_word role)) (number_field (codes "offset") (offset_of item)) (fields_of n item) (codes "}"))
          is.is;
    }

stream_distinct : (n : ℕ) (role : Role) (one : Option Item) → HasDistinctNames (stream_json n role one)
stream_distinct n role None = tt
stream_distinct n role (Some item) = placed_distinct role InStream (offset_of item) (item_type item) (item_json n item) (item_is n item)

-- ---- the view around a place

abbrev pub view_members : ℕ → ℕ → MeantEvent → Members
view_members n place event =
    Member (codes "from") (number (view_start place event)) (view_json (view_of_part n place event))

abbrev pub around_json : ℕ → ℕ → MeantEvent → Value
around_json n place event = if n == 0 then Null else Object (view_members n place event)

part_bytes : (k j : ℕ) (bytes : List ℕ) → IsBytes bytes → IsBytes (take k (drop j bytes))
part_bytes k j bytes are = take_bytes k (drop j bytes) (drop_bytes j bytes are)

part_fits : (n place : ℕ) (event : MeantEvent) → IsBytes (payload_in event) → IsShownInRange (view_of_part n place event).shown
part_fits n place (Message kinds.Text payload) are =
    part_is_utf8 (place - view_start place (Message kinds.Text payload) + n) (payload_on place (Message kinds.Text payload))
part_fits n place (Message kinds.Binary payload) are = part_bytes (part_length n place (Message kinds.Binary payload)) (place - 8) payload are
part_fits n place (Control op body) are = part_bytes (part_length n place (Control op body)) (place - 8) body are

text_part_fits : (k : ℕ) (text : List ℕ) → IsInU64 (length text) → IsInU64 (text_part k text)
text_part_fits k text fits = omega (arith, fits, utf8_valid_len_le (take k text), length-take k text)

pub start_fits : (place : ℕ) (event : MeantEvent) → IsInU64 place → AreBytesInRange (payload_in event) → IsInU64 (view_start place event)
start_fits place (Message kinds.Text payload) fits are = text_part_fits (place - 8) payload are.0
start_fits place (Message kinds.Binary payload) fits are = omega arith
start_fits place (Control op body) fits are = omega arith

view_parts : (start view : List ℕ) → codes "{\"from\":" ++ (start ++ (view ++ codes "}")) ≡ codes "{\"from\":" ++ start ++ view ++ codes "}"
view_parts start view = simp append_assoc

view_text : (n place : ℕ) (event : MeantEvent) → IsInU64 place → AreBytesInRange (payload_in event) → IsTextOf (around_json n place event) (view_value n place event)
view_text n place event fits are = by (n == 0)
  where
    by : (none : Bool)
        → IsTextOf (if none then Null else Object (view_members n place event))
        (if none then codes "null" else codes "{\"from\":" ++ decimal (view_start place event) ++ view_fields (view_of_part n place event) ++ codes "}")
    by true = null_text
    by false =
        object_text (codes "from") (codes "{\"from\":" ++ decimal (view_start place event) ++ view_fields (view_of_part n place event) ++ codes "}") refl
        (number_text (view_start place event) (start_fits place event fits are)) (view_texts (view_of_part n place event) (part_fits n place event are.1))
        (view_parts (decimal (view_start place event)) (view_fields (view_of_part n place event)))

part_distinct : (start : ℕ) (view : PayloadView) → AreDistinct (Member (codes "from") (number start) (view_json view))
part_distinct start view =
    let names : IsView (view_json view) = view_is view in
    (new_to view_names (codes "from") refl (view_json view) names.names, tt, names.are_distinct)

view_distinct : (n place : ℕ) (event : MeantEvent) → HasDistinctNames (around_json n place event)
view_distinct n place event = by (n == 0)
  where
    by : (none : Bool) → HasDistinctNames (if none then Null else Object (view_members n place event))
    by true = tt
    by false = part_distinct (view_start place event) (view_of_part n place event)

-- ---- where the payloads differ

abbrev pub place_json : ℕ → Option ℕ → Option MeantEvent → Option MeantEvent → Value
place_json n (Some place) (Some event) (Some other) =
    Object (Member (codes "in_payload") (number place) (Member (codes "first") (around_json n place event) (Member (codes "second") (around_json n place other) End)))
place_json n place event other = Null

-- The payload of an event is in range.
abbrev pub IsEventInRange : MeantEvent → Type 0
IsEventInRange event = AreBytesInRange (payload_in event)

common_most : (payload other : List ℕ) → common_length payload other ≤ length payload
common_most [] other = omega arith
common_most (a ∷ payload) [] = omega arith
common_most (a ∷ payload) (b ∷ other) = by (a == b) (common_most payload other)
  where
    by : (t : Bool) → common_length payload other ≤ length payload → (if t then common_length payload other + 1 else 0) ≤ length (a ∷ payload)
    by true most = omega (arith, most)
    by false most = omega arith

pub place_fits : (one two : Option MeantEvent) → IfSome one IsEventInRange → IfSome (place_in one two) IsInU64
place_fits None two fits = tt
place_fits (Some event) None fits = tt
place_fits (Some event) (Some other) fits = by (nat_lt (common_length (payload_in event) (payload_in other)) (length (payload_in event)) || nat_lt (common_length (payload_in event) (payload_in other)) (length (payload_in other)))
  where
    by : (t : Bool) → IfSome (if t then Some (common_length (payload_in event) (payload_in other)) else None) IsInU64
    by true = omega (arith, fits.0, common_most (payload_in event) (payload_in other))
    by false = tt

pub event_fits : (one : Option Item) → IfSome one IsItemInRange → IfSome (event_in one) IsEventInRange
event_fits None fits = tt
event_fits (Some (Event offset event frames)) fits = fits.2
event_fits (Some item) fits = tt

place_parts : (place first second : List ℕ) → codes "{\"in_payload\":" ++ (place ++ (((codes ",\"first\":" ++ first) ++ (codes ",\"second\":" ++ second)) ++ codes "}"))
    ≡ codes "{\"in_payload\":" ++ place ++ codes ",\"first\":" ++ first ++ codes ",\"second\":" ++ second ++ codes "}"
place_parts place first second = simp append_assoc

place_text : (n : ℕ) (place : Option ℕ) (one two : Option MeantEvent) → IfSome place IsInU64 → IfSome one IsEventInRange → IfSome two IsEventInRange → IsTextOf (place_json n place one two) (place_value n place one two)
place_text n (Some place) (Some event) (Some other) fits one two =
    object_text (codes "in_payload") (place_value n (Some place) (Some event) (Some other)) refl (number_text place fits)
    (member (codes "first") refl (view_text n place event fits one) (last (codes "second") refl (view_text n place other fits two)))
    (place_parts (decimal place) (view_value n place event) (view_value n place other))
place_text n place event other fits one two = null_text

place_distinct : (n : ℕ) (place : Option ℕ) (one two : Option MeantEvent) → HasDistinctNames (place_json n place one two)
place_distinct n (Some place) (Some event) (Some other) =
    distinct (Member (codes "in_payload") (number place) (Member (codes "first") (around_json n place event) (Member (codes "second") (around_json n place other) End))) refl
    (tt, (view_distinct n place event, (view_distinct n place other, tt)))
place_distinct n place event other = tt

abbrev pub differ_json : ℕ → Option Item → Option Item → Value
differ_json n one other = place_json n (place_in (event_in one) (event_in other)) (event_in one) (event_in other)

-- ---- the whole

abbrev pub difference_rest : ℕ → Role → ℕ → Option Item → Option Item → Members
difference_rest n role k one other =
    Member (codes "answer") (String (codes "different")) (Member (codes "event") (number k)
    (Member (codes "first") (stream_json n role one) (Member (codes "second") (stream_json n role other) (Member (codes "differ_at") (differ_json n one other) End))))

abbrev pub difference_members : ℕ → Role → ℕ → Option Item → Option Item → Members
difference_members n role k one other = Member (codes "type") (String (codes "comparison")) (difference_rest n role k one other)

difference_parts : (a e f s d : List ℕ) → codes "{\"type\":\"comparison\"" ++ ((a ++ (e ++ (f ++ (s ++ d)))) ++ codes "}\n") ≡ (codes "{\"type\":\"comparison\"" ++ a ++ e) ++ f ++ s ++ d ++ codes "}\n"
difference_parts a e f s d = simp append_assoc

pub difference_json_line : (n : ℕ) (role : Role) (k : ℕ) (one other : Option Item) → IsDifferenceInRange k one other
    → IsJsonLine (Object (difference_members n role k one other)) (difference_object n role k one other)
difference_json_line n role k one other fits =
    let place = place_text n (place_in (event_in one) (event_in other)) (event_in one) (event_in other) (place_fits (event_in one) (event_in other) (event_fits one fits.first)) (event_fits one fits.first) (event_fits other fits.second) in
    let texts =
    member (codes "answer") refl (word_text (codes "different") refl)
    (member (codes "event") refl (number_text k fits.number)
    (member (codes "first") refl (stream_text n role one fits.first fits.first_reason)
    (member (codes "second") refl (stream_text n role other fits.second fits.second_reason)
    (last (codes "differ_at") refl place)))) in
    let answer = string_field (codes "answer") (codes "different") in
    let event = number_field (codes "event") k in
    let first = field (codes "first") (event_value n role one) in
    let second = field (codes "second") (event_value n role other) in
    let differ = differ_field n one other in
    subst (IsJsonLine (Object (difference_members n role k one other)))
    (difference_parts answer event first second differ)
    (typed_line (codes "comparison") (answer ++ (event ++ (first ++ (second ++ differ)))) (difference_rest n role k one other) refl texts)

pub difference_line : (n : ℕ) (role : Role) (k : ℕ) (one other : Option Item) → IsDifferenceInRange k one other
    → IsObjectLine (difference_object n role k one other)
difference_line n role k one other fits = (
  difference_members n role k one other,
  difference_json_line n role k one other fits,
  distinct (difference_members n role k one other) refl
      (tt, (tt, (tt, (stream_distinct n role one, (stream_distinct n role other, (place_distinct n (place_in (event_in one) (event_in other)) (event_in one) (event_in other), tt)))))),
)
