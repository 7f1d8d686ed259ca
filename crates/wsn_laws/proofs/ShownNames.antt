-- The names in a shown item's object are distinct.
use Rattle.std.proofs.Common.{◌≡◌, ◌≢◌, ℕ, ◌/◌, ◌==◌, Bool, true, false, ◌||◌, if◌then◌else◌, None, Some, List, [], ◌∷◌, ◌-◌, length, drop, codes, refl, sym, ap, ◌∙◌}
use Rattle.std.specs.Prelude.{nat_lt, ⊤}
use Rattle.std.specs.Str.{chars, bytes_eq}
use Rattle.wsn_wire.specs.declared.endpoint.Role.{Role}
use Rattle.hex.specs.Hex.{encode_lower}
use Rattle.wsn_wire.specs.Refusal.{word_of, code_of}
use Rattle.wsn_rules.specs.BadCharacter.{BadCharacter}
use Rattle.wsn_rules.specs.ShownStream.{Item}
use Rattle.wsn_rules.specs.ShownStream.Item.{Event, Head, Unfinished, UnfinishedHead, RefusedFrame, Unread, Tail}
use Rattle.wsn_rules.specs.ShownOffsets.{offset_of}
use Rattle.wsn_shown_text.specs.QuotedTexts.{ShowsTextReason}
use Rattle.wsn_shown_text.specs.CharacterText.{text_before, leaves_out, shown_bytes}
use Rattle.wsn_print.specs.ShownParts.{EntryPosition}
use Rattle.wsn_shown_text.specs.Views.{Shown, PayloadView, view_of_bytes, view_of_event, view_of_unfinished}
use Rattle.wsn_shown_text.specs.Views.Shown.{Text, Ascii, Hex, Code, NoCode}
use Rattle.wsn_shown_text.specs.Members.{event_word, event_size, item_type}
use Rattle.wsn_shown_text.specs.ShownObjects.{side_word, item_object}
use Rattle.wsn_print.specs.ShownParts.EntryPosition.{InLine, AtEnd, InStream}
use Rattle.wsn_laws.specs.JsonText.{Value, Null, True, Number, String, Object, Members, End, Member, IsNew, HasDistinctNames, AreDistinct, IsObjectLine}
use Rattle.wsn_laws.specs.ShownItems.{IsPositionInRange, IsItemInRange}
use Rattle.wsn_laws.proofs.Fields.{number, optional_number, optional_distinct}
use Rattle.wsn_laws.proofs.Distinct.{differ, distinct}
use Rattle.wsn_laws.proofs.ObjectLines.{boolean_distinct, key_distinct}
use Rattle.wsn_laws.proofs.ShownJson.{character_members, part_json, view_json, event_json, item_json, placed_json, shown_json, shown_line}

-- ---- names among some

abbrev pub is_among : List ℕ → List (List ℕ) → Bool
is_among name [] = false
is_among name (other ∷ names) = bytes_eq name other || is_among name names

abbrev pub AreAmong : List (List ℕ) → Members → Type 0
AreAmong names End = ⊤
AreAmong names (Member name value others) = (is_among name names ≡ true) × AreAmong names others

-- A name that isn't among them is new to members whose names are.
pub new_to : (names : List (List ℕ)) (name : List ℕ) → is_among name names ≡ false → (m : Members) → AreAmong names m → IsNew name m
new_to names name none End are = tt
new_to names name none (Member other value others) are =
    (λ same. different (sym none ∙ ap (λ (n : List ℕ). is_among n names) same ∙ are.0), new_to names name none others are.1)
  where
    different : false ≡ true → ⊥
    different same = cc

-- ---- views

abbrev pub view_names : List (List ℕ)
view_names = codes "text" ∷ codes "hex" ∷ codes "truncated" ∷ codes "code" ∷ codes "reason" ∷ []

-- The members of a view have names of views, which are distinct.
pub record IsView (m : Members) : Type 0 where
  pub names : AreAmong view_names m
  pub are_distinct : AreDistinct m

shown_by : (t : Bool) (value : Value) → HasDistinctNames value → (name : List ℕ) → is_among name view_names ≡ true → name ≢ codes "truncated"
    → IsView (Member name value (if t then Member (codes "truncated") True End else End))
shown_by true value is name among other = record { names = (among, (refl, tt)); are_distinct = ((other, tt), is, (tt, tt, tt)) }
shown_by false value is name among other = record { names = (among, tt); are_distinct = (tt, is, tt) }

code_by : (code : ℕ) (reason : List ℕ) (t : Bool) → IsView (part_json (Code code reason) (if t then Member (codes "truncated") True End else End))
code_by code [] t = shown_by t (number code) tt (codes "code") refl (differ (codes "code") (codes "truncated") refl)
code_by code (b ∷ reason) true = record {
  names = (refl, (refl, (refl, tt)));
  are_distinct = (
    (differ (codes "code") (codes "reason") refl, (differ (codes "code") (codes "truncated") refl, tt)),
    tt,
    ((differ (codes "reason") (codes "truncated") refl, tt), tt, (tt, tt, tt)),
  );
}
code_by code (b ∷ reason) false = record { names = (refl, (refl, tt)); are_distinct = ((differ (codes "code") (codes "reason") refl, tt), tt, (tt, tt, tt)) }

part_names : (shown : Shown) (t : Bool) → IsView (part_json shown (if t then Member (codes "truncated") True End else End))
part_names (Text text) t = shown_by t (String (chars text)) tt (codes "text") refl (differ (codes "text") (codes "truncated") refl)
part_names (Ascii text) t = shown_by t (String (chars text)) tt (codes "text") refl (differ (codes "text") (codes "truncated") refl)
part_names (Hex bytes) t = shown_by t (String (encode_lower bytes)) tt (codes "hex") refl (differ (codes "hex") (codes "truncated") refl)
part_names (Code code reason) t = code_by code reason t
part_names NoCode t = shown_by t Null tt (codes "code") refl (differ (codes "code") (codes "truncated") refl)

pub view_is : (view : PayloadView) → IsView (view_json view)
view_is view = part_names view.shown view.more

-- ---- items

abbrev pub item_names : List (List ℕ)
item_names =
    codes "text" ∷ codes "hex" ∷ codes "truncated" ∷ codes "code" ∷ codes "reason" ∷ codes "event" ∷ codes "bytes" ∷ codes "frames" ∷ codes "lacks" ∷ codes "place"
    ∷ codes "fin" ∷ codes "opcode" ∷ codes "key" ∷ codes "length" ∷ codes "form" ∷ codes "character" ∷ []

-- The names of an item's members after the offset.
pub record IsItem (m : Members) : Type 0 where
  pub names : AreAmong item_names m
  pub are_distinct : AreDistinct m

wider_by : (a b c d e : Bool) (f : Bool) → (a || (b || (c || (d || (e || false))))) ≡ true → (a || (b || (c || (d || (e || f))))) ≡ true
wider_by true b c d e f is = refl
wider_by false true c d e f is = refl
wider_by false false true d e f is = refl
wider_by false false false true e f is = refl
wider_by false false false false true f is = refl
wider_by false false false false false f is = absurd cc

wider : (m : Members) → AreAmong view_names m → AreAmong item_names m
wider End are = tt
wider (Member name value others) are = (
  wider_by (bytes_eq name (codes "text")) (bytes_eq name (codes "hex")) (bytes_eq name (codes "truncated")) (bytes_eq name (codes "code")) (bytes_eq name (codes "reason"))
      (is_among name (codes "event" ∷ codes "bytes" ∷ codes "frames" ∷ codes "lacks" ∷ codes "place" ∷ codes "fin" ∷ codes "opcode" ∷ codes "key" ∷ codes "length" ∷ codes "form" ∷ codes "character" ∷ [])) are.0,
  wider others are.1,
)

pub event_names : (word : List ℕ) (bytes frames : ℕ) (m : Members) → IsView m → IsItem (event_json word bytes frames m)
event_names word bytes frames m view = record {
  names = (refl, (refl, (refl, wider m view.names)));
  are_distinct = (
    (differ (codes "event") (codes "bytes") refl, (differ (codes "event") (codes "frames") refl, new_to view_names (codes "event") refl m view.names)),
    tt,
    (
      (differ (codes "bytes") (codes "frames") refl, new_to view_names (codes "bytes") refl m view.names),
      tt,
      (new_to view_names (codes "frames") refl m view.names, tt, view.are_distinct),
    ),
  );
}

-- A member that no view has, in front of a view.
before_view : (name : List ℕ) (value : Value) (m : Members) → is_among name view_names ≡ false → is_among name item_names ≡ true → HasDistinctNames value → IsView m → IsItem (Member name value m)
before_view name value m new among is view = record {
  names = (among, wider m view.names);
  are_distinct = (new_to view_names name new m view.names, is, view.are_distinct);
}

-- An event whose view has `lacks` in front.
lacking_names : (word : List ℕ) (bytes frames : ℕ) (lacks : Value) (m : Members) → HasDistinctNames lacks → IsView m → IsItem (event_json word bytes frames (Member (codes "lacks") lacks m))
lacking_names word bytes frames lacks m is view = record {
  names = (refl, (refl, (refl, (refl, wider m view.names))));
  are_distinct = (
    (differ (codes "event") (codes "bytes") refl, (differ (codes "event") (codes "frames") refl, (differ (codes "event") (codes "lacks") refl, new_to view_names (codes "event") refl m view.names))),
    tt,
    (
      (differ (codes "bytes") (codes "frames") refl, (differ (codes "bytes") (codes "lacks") refl, new_to view_names (codes "bytes") refl m view.names)),
      tt,
      (
        (differ (codes "frames") (codes "lacks") refl, new_to view_names (codes "frames") refl m view.names),
        tt,
        (new_to view_names (codes "lacks") refl m view.names, is, view.are_distinct),
      ),
    ),
  );
}

character_by : (t : Bool) (offset place : ℕ) (digits characters : List ℕ)
    → AreDistinct (Member (codes "offset") (number offset) (Member (codes "in_payload") (number place) (Member (codes "hex") (String digits) (Member (codes "before") (String characters) (if t then Member (codes "truncated") True End else End)))))
character_by true offset place digits characters =
    distinct (Member (codes "offset") (number offset) (Member (codes "in_payload") (number place) (Member (codes "hex") (String digits) (Member (codes "before") (String characters) (Member (codes "truncated") True End))))) refl (tt, (tt, (tt, (tt, (tt, tt)))))
character_by false offset place digits characters =
    distinct (Member (codes "offset") (number offset) (Member (codes "in_payload") (number place) (Member (codes "hex") (String digits) (Member (codes "before") (String characters) End)))) refl (tt, (tt, (tt, (tt, tt))))

character_names : (n : ℕ) (evidence : List ℕ) (character : BadCharacter) → AreDistinct (character_members n evidence character)
character_names n evidence character =
    character_by (n == 0 || leaves_out n evidence character) character.offset character.in_payload (encode_lower (shown_bytes n character)) (chars (text_before n evidence character))

abbrev refused_members : Bool → ℕ → ℕ → List ℕ → List ℕ → Members → Members
refused_members t place code word digits others =
    Member (codes "place") (number place) (Member (codes "reason") (String word) (Member (codes "code") (number code) (Member (codes "hex") (String digits) (if t then Member (codes "truncated") True others else others))))

refused_by : (t : Bool) (place code : ℕ) (word digits : List ℕ) → IsItem (refused_members t place code word digits End)
refused_by true place code word digits = record {
  names = (refl, (refl, (refl, (refl, (refl, tt)))));
  are_distinct = distinct (refused_members true place code word digits End) refl (tt, (tt, (tt, (tt, (tt, tt)))));
}
refused_by false place code word digits = record {
  names = (refl, (refl, (refl, (refl, tt))));
  are_distinct = distinct (refused_members false place code word digits End) refl (tt, (tt, (tt, (tt, tt))));
}

refused_with : (t : Bool) (place code : ℕ) (word digits : List ℕ) (members : Members) → AreDistinct members
    → IsItem (refused_members t place code word digits (Member (codes "character") (Object members) End))
refused_with true place code word digits members are = record {
  names = (refl, (refl, (refl, (refl, (refl, (refl, tt))))));
  are_distinct = distinct (refused_members true place code word digits (Member (codes "character") (Object members) End)) refl (tt, (tt, (tt, (tt, (tt, (are, tt))))));
}
refused_with false place code word digits members are = record {
  names = (refl, (refl, (refl, (refl, (refl, tt)))));
  are_distinct = distinct (refused_members false place code word digits (Member (codes "character") (Object members) End)) refl (tt, (tt, (tt, (tt, (are, tt)))));
}

pub item_is : (n : ℕ) (item : Item) → IsItem (item_json n item)
item_is n (Event offset event frames) = event_names (event_word event) (event_size event) frames (view_json (view_of_event n event)) (view_is (view_of_event n event))
item_is n (Head h) = record {
  names = (refl, (refl, (refl, (refl, (refl, tt)))));
  are_distinct = distinct (item_json n (Head h)) refl (boolean_distinct h.fin, (tt, (key_distinct h.key, (tt, (tt, tt)))));
}
item_is n (Unfinished offset event frames lacks) =
    lacking_names (event_word event) (event_size event) frames (optional_number lacks) (view_json (view_of_unfinished n event)) (optional_distinct lacks) (view_is (view_of_unfinished n event))
item_is n (UnfinishedHead offset) = record {
  names = (refl, (refl, (refl, (refl, (refl, tt)))));
  are_distinct = distinct (item_json n (UnfinishedHead offset)) refl (tt, (tt, (tt, (tt, (tt, tt)))));
}
item_is n (RefusedFrame offset refusal evidence None) =
    refused_by (nat_lt (n / 2) (length evidence)) refusal.offset (code_of refusal.reason) (word_of refusal.reason) (encode_lower (drop (length evidence - n / 2) evidence))
item_is n (RefusedFrame offset refusal evidence (Some character)) =
    refused_with (nat_lt (n / 2) (length evidence)) refusal.offset (code_of refusal.reason) (word_of refusal.reason) (encode_lower (drop (length evidence - n / 2) evidence))
    (character_members n evidence character) (character_names n evidence character)
item_is n (Unread offset bytes) = before_view (codes "bytes") (number (length bytes)) (view_json (view_of_bytes n bytes)) refl refl tt (view_is (view_of_bytes n bytes))
item_is n (Tail offset bytes) = before_view (codes "bytes") (number (length bytes)) (view_json (view_of_bytes n bytes)) refl refl tt (view_is (view_of_bytes n bytes))

-- ---- the whole

offset_distinct : (offset : ℕ) (m : Members) → IsItem m → AreDistinct (Member (codes "offset") (number offset) m)
offset_distinct offset m is = (new_to item_names (codes "offset") refl m is.names, tt, is.are_distinct)

timed_distinct : (role : Role) (time : Value) (offset : ℕ) (m : Members) → HasDistinctNames time → IsItem m
    → AreDistinct (Member (codes "side") (String (side_word role)) (Member (codes "time") time (Member (codes "offset") (number offset) m)))
timed_distinct role time offset m plain is = (
  (differ (codes "side") (codes "time") refl, (differ (codes "side") (codes "offset") refl, new_to item_names (codes "side") refl m is.names)),
  tt,
  (
    (differ (codes "time") (codes "offset") refl, new_to item_names (codes "time") refl m is.names),
    plain,
    offset_distinct offset m is,
  ),
)

pub placed_distinct : (role : Role) (position : EntryPosition) (offset : ℕ) (kind : List ℕ) (m : Members) → IsItem m
    → AreDistinct (Member (codes "type") (String kind) (placed_json role position offset m))
placed_distinct role (InLine line None) offset kind m is = (
  (differ (codes "type") (codes "line") refl, (differ (codes "type") (codes "side") refl, (differ (codes "type") (codes "time") refl, (differ (codes "type") (codes "offset") refl, new_to item_names (codes "type") refl m is.names)))),
  tt,
  (
    (differ (codes "line") (codes "side") refl, (differ (codes "line") (codes "time") refl, (differ (codes "line") (codes "offset") refl, new_to item_names (codes "line") refl m is.names))),
    tt,
    timed_distinct role Null offset m tt is,
  ),
)
placed_distinct role (InLine line (Some seconds)) offset kind m is = (
  (differ (codes "type") (codes "line") refl, (differ (codes "type") (codes "side") refl, (differ (codes "type") (codes "time") refl, (differ (codes "type") (codes "offset") refl, new_to item_names (codes "type") refl m is.names)))),
  tt,
  (
    (differ (codes "line") (codes "side") refl, (differ (codes "line") (codes "time") refl, (differ (codes "line") (codes "offset") refl, new_to item_names (codes "line") refl m is.names))),
    tt,
    timed_distinct role (Number seconds) offset m tt is,
  ),
)
placed_distinct role (AtEnd None) offset kind m is = (
  (differ (codes "type") (codes "side") refl, (differ (codes "type") (codes "time") refl, (differ (codes "type") (codes "offset") refl, new_to item_names (codes "type") refl m is.names))),
  tt,
  timed_distinct role Null offset m tt is,
)
placed_distinct role (AtEnd (Some seconds)) offset kind m is = (
  (differ (codes "type") (codes "side") refl, (differ (codes "type") (codes "time") refl, (differ (codes "type") (codes "offset") refl, new_to item_names (codes "type") refl m is.names))),
  tt,
  timed_distinct role (Number seconds) offset m tt is,
)
placed_distinct role InStream offset kind m is = (
  (differ (codes "type") (codes "side") refl, (differ (codes "type") (codes "offset") refl, new_to item_names (codes "type") refl m is.names)),
  tt,
  (
    (differ (codes "side") (codes "offset") refl, new_to item_names (codes "side") refl m is.names),
    tt,
    offset_distinct offset m is,
  ),
)

pub item_line : (n : ℕ) (role : Role) (position : EntryPosition) (item : Item) → IsPositionInRange position → IsItemInRange item → ShowsTextReason item
    → IsObjectLine (item_object n role position item)
item_line n role position item place fits reason = (
  Member (codes "type") (String (item_type item)) (shown_json n role position item),
  shown_line n role position item place fits reason,
  placed_distinct role position (offset_of item) (item_type item) (item_json n item) (item_is n item),
)
