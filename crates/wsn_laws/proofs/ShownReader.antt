-- What the value of a shown item's object determines: where it is, and the item up to its view.
use Rattle.std.proofs.Common.{◌≡◌, ℕ, ◌+◌, ◌*◌, ◌-◌, ◌/◌, ◌==◌, inl, inr, Bool, true, false, ◌&&◌, ◌||◌, if◌then◌else◌, Option, None, Some, List, [], ◌∷◌, ◌++◌, length, take, drop, codes, refl, sym, ap, ◌∙◌, subst, append-nil}
use Rattle.std.specs.Prelude.{decimal, nat_lt, flat_map, IfSome}
use Rattle.std.proofs.lemmas.Bool.{cases_Bool}
use Rattle.std.specs.Str.{chars, bytes_eq}
use Rattle.hex.specs.Hex.{encode_with, encode_lower}
use Rattle.wsn_wire.specs.declared.endpoint.Role.{Role}
use Rattle.wsn_wire.specs.declared.endpoint.Role.TheVariants.{Client, Server}
use Rattle.wsn_wire.specs.declared.opcode.Kind.TheVariants as kinds
use Rattle.wsn_wire.specs.declared.opcode.Op.TheVariants as ops
use Rattle.wsn_wire.specs.Refusal.{word_of}
use Rattle.wsn_rules.specs.BadCharacter.{BadCharacter}
use Rattle.wsn_rules.specs.Meaning.{MeantEvent, Message, Control, payload_in}
use Rattle.wsn_rules.specs.ShownStream.{Item}
use Rattle.wsn_rules.specs.ShownStream.Item.{Event, Head, Unfinished, UnfinishedHead, RefusedFrame, Unread, Tail}
use Rattle.wsn_rules.specs.ShownOffsets.{offset_of}
use Rattle.wsn_print.specs.ShownParts.{text_part, EntryPosition}
use Rattle.wsn_shown_text.specs.QuotedTexts.{ShowsTextReason}
use Rattle.wsn_shown_text.specs.CharacterText.{text_before, leaves_out, shown_bytes, byte_escape, character_view}
use Rattle.wsn_print.specs.EscapedText.{quoted_character}
use Rattle.wsn_shown_text.specs.ShownText.{hex_text, hex_view, end_view, reason_text, view_text, event_view, unfinished_view}
use Rattle.wsn_shown_text.specs.Members.{event_word, event_size, item_type}
use Rattle.wsn_shown_text.specs.ShownObjects.{side_word, item_object}
use Rattle.wsn_print.specs.ShownParts.EntryPosition.{InLine, AtEnd, InStream}
use Rattle.wsn_shown_text.specs.Views.{is_printable, view_of_text, view_of_bytes, view_of_close, view_of_event, view_of_unfinished}
use Rattle.wsn_shown_text.specs.Views.Shown.{Code, NoCode}
use Rattle.wsn_shown_text.proofs.HeldViews.{not_zero, as_view}
use Rattle.wsn_laws.specs.JsonText.{Null, True, Number, String, Members, End, Member, IsJsonLine}
use Rattle.wsn_laws.specs.Answers.{IsInU64}
use Rattle.wsn_laws.specs.ShownItems.{IsPositionInRange, AreBytesInRange, IsCharacterInRange, IsItemInRange, AreAlike, HaveLikeCharacters, LookAlike}
use Rattle.wsn_laws.proofs.Distinct.{differ}
use Rattle.wsn_laws.proofs.Fields.{number, optional_number, one_number, one_optional, one_line}
use Rattle.wsn_laws.proofs.Keys.{one_bytes}
use Rattle.wsn_laws.proofs.Words.{one_reason}
use Rattle.wsn_laws.proofs.Verdicts.{refusal_same}
use Rattle.wsn_laws.proofs.Heads.{one_head}
use Rattle.wsn_laws.proofs.ShownJson.{character_members, character_json, end_json, reason_json, view_json, event_json, item_json, placed_json, shown_json, shown_value, shown_line, offset_fits, size_fits}

-- ---- a view, read from the members that show it

abbrev pub has_more : Members → Bool
has_more End = false
has_more (Member name value others) = true

abbrev quoted_in : List ℕ → List ℕ
quoted_in cs = codes "\"" ++ flat_map quoted_character cs ++ codes "\""

abbrev pub dots : Bool → List ℕ
dots more = if more then codes " .." else []

abbrev pub dash_for_none : List ℕ → List ℕ
dash_for_none [] = codes "-"
dash_for_none (d ∷ digits) = d ∷ digits

abbrev end_in : ℕ → List ℕ → Bool → List ℕ
end_in n digits more = if n == 0 then codes "-" else (if more then codes ".." else []) ++ digits

abbrev reason_in : Members → List ℕ
reason_in (Member name (String cs) others) = codes " " ++ quoted_in cs
reason_in _ = []

abbrev view_in : ℕ → Members → List ℕ
view_in n (Member name (String cs) others) =
    if n == 0 && has_more others then codes "-"
    else (if bytes_eq name (codes "text") then quoted_in cs else dash_for_none cs) ++ dots (has_more others)
view_in n (Member name (Number code) others) = code ++ reason_in others
view_in n _ = codes "-"

abbrev is_truncated : Members → Bool
is_truncated (Member name True others) = true
is_truncated _ = false

-- The view of a refusal's evidence.
abbrev evidence_in : ℕ → Members → List ℕ
evidence_in n (Member name (String digits) others) = end_in n digits (is_truncated others)
evidence_in n _ = []

-- The members after the evidence.
abbrev after_evidence : Members → Members
after_evidence (Member name value (Member other True others)) = others
after_evidence (Member name value others) = others
after_evidence End = End

-- ---- it is the view

pub more_by : (t : Bool) → has_more (if t then Member (codes "truncated") True End else End) ≡ t
more_by true = refl
more_by false = refl

text_is : (n : ℕ) (text : List ℕ) → view_in n (view_json (view_of_text n text)) ≡ view_text n (view_of_text n text)
text_is n text =
    ap (λ (t : Bool). if n == 0 && t then codes "-" else quoted_in (chars (take (text_part n text) text)) ++ dots t) (more_by (nat_lt (text_part n text) (length text)))

pub dash_is : (bytes : List ℕ) → dash_for_none (encode_lower bytes) ≡ hex_text bytes
unfolding encode_with
dash_is [] = refl
dash_is (b ∷ bytes) = refl

hex_is : (n : ℕ) (bytes : List ℕ) → view_in n (view_json (view_of_bytes n bytes)) ≡ view_text n (view_of_bytes n bytes)
hex_is n bytes =
    let t : Bool = nat_lt (n / 2) (length bytes) in
    ap (λ (t : Bool). if n == 0 && t then codes "-" else dash_for_none (encode_lower (take (n / 2) bytes)) ++ dots t) (more_by t)
    ∙ ap (λ (bs : List ℕ). if n == 0 && t then codes "-" else bs ++ dots t) (dash_is (take (n / 2) bytes))

truncated_by : (t : Bool) (n : ℕ) (evidence : List ℕ) (character : Option BadCharacter)
    → is_truncated (if t then Member (codes "truncated") True (character_json n evidence character End) else character_json n evidence character End) ≡ t
truncated_by true n evidence character = refl
truncated_by false n evidence None = refl
truncated_by false n evidence (Some character) = refl

end_is : (n : ℕ) (evidence : List ℕ) (character : Option BadCharacter) → evidence_in n (end_json n evidence (character_json n evidence character End)) ≡ end_view n evidence
end_is n evidence character =
    ap (end_in n (encode_lower (drop (length evidence - n / 2) evidence))) (truncated_by (nat_lt (n / 2) (length evidence)) n evidence character)

after_by : (t : Bool) (digits : List ℕ) (n : ℕ) (evidence : List ℕ) (character : Option BadCharacter)
    → after_evidence (Member (codes "hex") (String digits) (if t then Member (codes "truncated") True (character_json n evidence character End) else character_json n evidence character End)) ≡ character_json n evidence character End
after_by true digits n evidence character = refl
after_by false digits n evidence None = refl
after_by false digits n evidence (Some character) = refl

character_is : (n : ℕ) (evidence : List ℕ) (character : Option BadCharacter) → after_evidence (end_json n evidence (character_json n evidence character End)) ≡ character_json n evidence character End
character_is n evidence character = after_by (nat_lt (n / 2) (length evidence)) (encode_lower (drop (length evidence - n / 2) evidence)) n evidence character

body_by : (n : ℕ) (t : Bool) (body : List ℕ)
    → view_in n (view_json (if t then view_of_text n body else view_of_bytes n body)) ≡ view_text n (if t then view_of_text n body else view_of_bytes n body)
body_by n true body = text_is n body
body_by n false body = hex_is n body

reason_is : (reason : List ℕ) → reason_in (reason_json reason End) ≡ reason_text reason
reason_is [] = refl
reason_is (b ∷ reason) = refl

no_code : (t : Bool) → codes "-" ≡ (if t && false then codes "-" else codes "-" ++ [])
no_code true = refl
no_code false = refl

close_by : (n code : ℕ) (reason : List ℕ) (t : Bool) → (n == 0) ≡ t
    → view_in n (view_json (if t then as_view NoCode true else as_view (Code code reason) false)) ≡ view_text n (if t then as_view NoCode true else as_view (Code code reason) false)
close_by n code reason true none = sym (ap (λ (b : Bool). if b && true then codes "-" else codes "-" ++ codes " ..") none)
close_by n code reason false some =
    ap (λ (bs : List ℕ). decimal code ++ bs) (reason_is reason)
    ∙ sym (append-nil (decimal code ++ reason_text reason))
    ∙ sym (ap (λ (b : Bool). if b && false then codes "-" else (decimal code ++ reason_text reason) ++ []) some)

close_is : (n : ℕ) (body : List ℕ) → view_in n (view_json (view_of_close n body)) ≡ view_text n (view_of_close n body)
close_is n [] = no_code (n == 0)
close_is n (b ∷ []) = no_code (n == 0)
close_is n (high ∷ low ∷ reason) = close_by n (high * 256 + low) reason (n == 0) refl

view_is : (n : ℕ) (event : MeantEvent) → view_in n (view_json (view_of_event n event)) ≡ event_view n event
view_is n (Message kinds.Text payload) = text_is n payload
view_is n (Message kinds.Binary payload) = hex_is n payload
view_is n (Control ops.Close body) = close_is n body
view_is n (Control op body) = body_by n (is_printable body) body

unfinished_is : (n : ℕ) (event : MeantEvent) → view_in n (view_json (view_of_unfinished n event)) ≡ unfinished_view n event
unfinished_is n (Message kinds.Text payload) = text_is n payload
unfinished_is n (Message kinds.Binary payload) = hex_is n payload
unfinished_is n (Control op body) = hex_is n body

-- ---- where it is

pub one_role : (role other : Role) → side_word role ≡ side_word other → role ≡ other
one_role Client Client same = refl
one_role Server Server same = refl
one_role Client Server same = absurd (differ (codes "client") (codes "server") refl same)
one_role Server Client same = absurd (differ (codes "server") (codes "client") refl same)

-- What a value and the members after it are.
abbrev name_of : Members → List ℕ
name_of End = []
name_of (Member name value others) = name

abbrev pub after_first : Members → Members
after_first End = End
after_first (Member name value others) = others

abbrev pub Placed : Role → Role → EntryPosition → EntryPosition → ℕ → ℕ → Members → Members → Type 0
Placed role other place other_place offset other_offset rest other_rest =
    (role ≡ other) × (place ≡ other_place) × (number offset ≡ number other_offset) × (rest ≡ other_rest)

pub one_place : (role other : Role) (place other_place : EntryPosition) (offset other_offset : ℕ) (rest other_rest : Members) → IsPositionInRange place → IsPositionInRange other_place
    → placed_json role place offset rest ≡ placed_json other other_place other_offset other_rest → Placed role other place other_place offset other_offset rest other_rest
one_place role other (InLine k None) (InLine j None) offset other_offset rest other_rest fits also same =
    let lines : number k ≡ number j = cc in
    let sides : side_word role ≡ side_word other = cc in
    let offsets : number offset ≡ number other_offset = cc in
    let rests : rest ≡ other_rest = cc in
    (one_role role other sides, ap (λ (n : ℕ). InLine n None) (one_number k j fits.0 also.0 lines), offsets, rests)
one_place role other (InLine k (Some seconds)) (InLine j (Some other_seconds)) offset other_offset rest other_rest fits also same =
    let lines : number k ≡ number j = cc in
    let sides : side_word role ≡ side_word other = cc in
    let times : seconds ≡ other_seconds = cc in
    let offsets : number offset ≡ number other_offset = cc in
    let rests : rest ≡ other_rest = cc in
    (one_role role other sides, ap (λ (n : ℕ). InLine n (Some seconds)) (one_number k j fits.0 also.0 lines) ∙ ap (λ (s : List ℕ). InLine j (Some s)) times, offsets, rests)
one_place role other (AtEnd None) (AtEnd None) offset other_offset rest other_rest fits also same =
    let sides : side_word role ≡ side_word other = cc in
    let offsets : number offset ≡ number other_offset = cc in
    let rests : rest ≡ other_rest = cc in
    (one_role role other sides, refl, offsets, rests)
one_place role other (AtEnd (Some seconds)) (AtEnd (Some other_seconds)) offset other_offset rest other_rest fits also same =
    let sides : side_word role ≡ side_word other = cc in
    let times : seconds ≡ other_seconds = cc in
    let offsets : number offset ≡ number other_offset = cc in
    let rests : rest ≡ other_rest = cc in
    (one_role role other sides, ap (λ (s : List ℕ). AtEnd (Some s)) times, offsets, rests)
one_place role other InStream InStream offset other_offset rest other_rest fits also same =
    let sides : side_word role ≡ side_word other = cc in
    let offsets : number offset ≡ number other_offset = cc in
    let rests : rest ≡ other_rest = cc in
    (one_role role other sides, refl, offsets, rests)
one_place role other (InLine k None) (InLine j (Some seconds)) offset other_offset rest other_rest fits also same =
    let times : Null ≡ Number seconds = cc in
    absurd cc
one_place role other (InLine k (Some seconds)) (InLine j None) offset other_offset rest other_rest fits also same =
    let times : Number seconds ≡ Null = cc in
    absurd cc
one_place role other (AtEnd None) (AtEnd (Some seconds)) offset other_offset rest other_rest fits also same =
    let times : Null ≡ Number seconds = cc in
    absurd cc
one_place role other (AtEnd (Some seconds)) (AtEnd None) offset other_offset rest other_rest fits also same =
    let times : Number seconds ≡ Null = cc in
    absurd cc
one_place role other (InLine k time) (AtEnd end) offset other_offset rest other_rest fits also same =
    absurd (differ (codes "line") (codes "side") refl (ap name_of same))
one_place role other (InLine k time) InStream offset other_offset rest other_rest fits also same =
    absurd (differ (codes "line") (codes "side") refl (ap name_of same))
one_place role other (AtEnd end) (InLine j time) offset other_offset rest other_rest fits also same =
    absurd (differ (codes "side") (codes "line") refl (ap name_of same))
one_place role other InStream (InLine j time) offset other_offset rest other_rest fits also same =
    absurd (differ (codes "side") (codes "line") refl (ap name_of same))
one_place role other (AtEnd None) InStream offset other_offset rest other_rest fits also same =
    absurd (differ (codes "time") (codes "offset") refl (ap (λ (m : Members). name_of (after_first m)) same))
one_place role other (AtEnd (Some seconds)) InStream offset other_offset rest other_rest fits also same =
    absurd (differ (codes "time") (codes "offset") refl (ap (λ (m : Members). name_of (after_first m)) same))
one_place role other InStream (AtEnd None) offset other_offset rest other_rest fits also same =
    absurd (differ (codes "offset") (codes "time") refl (ap (λ (m : Members). name_of (after_first m)) same))
one_place role other InStream (AtEnd (Some seconds)) offset other_offset rest other_rest fits also same =
    absurd (differ (codes "offset") (codes "time") refl (ap (λ (m : Members). name_of (after_first m)) same))

-- ---- two items with one object

-- No event is called a head.
no_head : (event : MeantEvent) → codes "head" ≡ event_word event → ⊥
no_head (Message kinds.Text payload) same = differ (codes "head") (codes "text") refl same
no_head (Message kinds.Binary payload) same = differ (codes "head") (codes "binary") refl same
no_head (Control ops.Continue body) same = differ (codes "head") (codes "cont") refl same
no_head (Control ops.Text body) same = differ (codes "head") (codes "text") refl same
no_head (Control ops.Binary body) same = differ (codes "head") (codes "binary") refl same
no_head (Control ops.Close body) same = differ (codes "head") (codes "close") refl same
no_head (Control ops.Ping body) same = differ (codes "head") (codes "ping") refl same
no_head (Control ops.Pong body) same = differ (codes "head") (codes "pong") refl same

-- The size and the number of frames of an event, and what follows them.
event_same : (event other : MeantEvent) (frames more_frames : ℕ) (rest other_rest : Members) → AreBytesInRange (payload_in event) → AreBytesInRange (payload_in other)
    → IsInU64 frames → IsInU64 more_frames → event_json (event_word event) (event_size event) frames rest ≡ event_json (event_word other) (event_size other) more_frames other_rest
    → AreAlike event other × (frames ≡ more_frames) × (rest ≡ other_rest)
event_same event other frames more_frames rest other_rest fits also frames_fit more_fit same =
    let words : event_word event ≡ event_word other = cc in
    let sizes : number (event_size event) ≡ number (event_size other) = cc in
    let counts : number frames ≡ number more_frames = cc in
    let rests : rest ≡ other_rest = cc in
    ((words, one_number (event_size event) (event_size other) (size_fits event fits.0) (size_fits other also.0) sizes), one_number frames more_frames frames_fit more_fit counts, rests)

-- The number of some bytes, and the first of them.
bytes_same : (n : ℕ) (bytes other : List ℕ) → AreBytesInRange bytes → AreBytesInRange other
    → Member (codes "bytes") (number (length bytes)) (view_json (view_of_bytes n bytes)) ≡ Member (codes "bytes") (number (length other)) (view_json (view_of_bytes n other))
    → (length bytes ≡ length other) × (hex_view n bytes ≡ hex_view n other)
bytes_same n bytes other fits also same =
    let sizes : number (length bytes) ≡ number (length other) = cc in
    let views : view_json (view_of_bytes n bytes) ≡ view_json (view_of_bytes n other) = ap after_first same in
    (one_number (length bytes) (length other) fits.0 also.0 sizes, sym (hex_is n bytes) ∙ ap (view_in n) views ∙ hex_is n other)

-- ---- two bad characters with one object

-- The view of a bad character, by its bytes, the characters before them, and whether some evidence is left out.
abbrev view_by : List ℕ → List ℕ → Bool → List ℕ
view_by bytes characters more =
    encode_lower bytes ++ codes " " ++ ((if more then codes ".." else []) ++ (codes "\"" ++ flat_map quoted_character characters ++ flat_map byte_escape bytes ++ codes "\""))

seen_view : (n : ℕ) (evidence : List ℕ) (character : BadCharacter) → (n == 0) ≡ false
    → character_view n evidence character ≡ view_by character.bytes (chars (text_before n evidence character)) (leaves_out n evidence character)
seen_view n evidence character some =
    ap (λ (none : Bool). if none then codes "- -" else view_by character.bytes (chars (text_before n evidence character)) (leaves_out n evidence character)) some

unseen_view : (n : ℕ) (evidence : List ℕ) (character : BadCharacter) → (n == 0) ≡ true → character_view n evidence character ≡ codes "- -"
unseen_view n evidence character none =
    ap (λ (t : Bool). if t then codes "- -" else view_by character.bytes (chars (text_before n evidence character)) (leaves_out n evidence character)) none

left_out_is : (n : ℕ) (evidence : List ℕ) (character : BadCharacter) → (n == 0) ≡ false
    → has_more (if n == 0 || leaves_out n evidence character then Member (codes "truncated") True End else End) ≡ leaves_out n evidence character
left_out_is n evidence character some =
    more_by (n == 0 || leaves_out n evidence character) ∙ ap (λ (none : Bool). none || leaves_out n evidence character) some

one_character : (n : ℕ) (evidence other_evidence : List ℕ) (character other : BadCharacter) → IsCharacterInRange character → IsCharacterInRange other
    → character_members n evidence character ≡ character_members n other_evidence other
    → HaveLikeCharacters n evidence (Some character) other_evidence (Some other)
one_character n evidence other_evidence character other fits also same =
    let offsets : number character.offset ≡ number other.offset = cc in
    let places : number character.in_payload ≡ number other.in_payload = cc in (
      one_number character.offset other.offset fits.0 also.0 offsets,
      one_number character.in_payload other.in_payload fits.1 also.1 places,
      (λ some. one_shown_bytes (not_zero n some)),
      elim (cases_Bool (n == 0)) [
        | inl none ↦ unseen_view n evidence character none ∙ sym (unseen_view n other_evidence other none)
        | inr some ↦ seen_view n evidence character some ∙ views some ∙ sym (seen_view n other_evidence other some)
      ],
    )
  where
    one_shown_bytes : (n == 0) ≡ false → character.bytes ≡ other.bytes
    one_shown_bytes some =
        let digits : encode_lower (shown_bytes n character) ≡ encode_lower (shown_bytes n other) = cc in
        one_bytes character.bytes other.bytes fits.2 also.2
        (sym (ap (λ (none : Bool). encode_lower (if none then [] else character.bytes)) some) ∙ digits ∙ ap (λ (none : Bool). encode_lower (if none then [] else other.bytes)) some)

    views : (n == 0) ≡ false
        → view_by character.bytes (chars (text_before n evidence character)) (leaves_out n evidence character)
        ≡ view_by other.bytes (chars (text_before n other_evidence other)) (leaves_out n other_evidence other)
    views some =
        let texts : chars (text_before n evidence character) ≡ chars (text_before n other_evidence other) = cc in
        let after = ap (λ (m : Members). has_more (after_first (after_first (after_first (after_first m))))) same in
        ap (λ (bytes : List ℕ). view_by bytes (chars (text_before n evidence character)) (leaves_out n evidence character)) (one_shown_bytes some)
        ∙ ap (λ (characters : List ℕ). view_by other.bytes characters (leaves_out n evidence character)) texts
        ∙ ap (view_by other.bytes (chars (text_before n other_evidence other))) (sym (left_out_is n evidence character some) ∙ after ∙ left_out_is n other_evidence other some)

characters_same : (n : ℕ) (evidence other_evidence : List ℕ) (character other : Option BadCharacter) → IfSome character IsCharacterInRange → IfSome other IsCharacterInRange
    → character_json n evidence character End ≡ character_json n other_evidence other End → HaveLikeCharacters n evidence character other_evidence other
characters_same n evidence other_evidence None None fits also same = tt
characters_same n evidence other_evidence None (Some other) fits also same = absurd cc
characters_same n evidence other_evidence (Some character) None fits also same = absurd cc
characters_same n evidence other_evidence (Some character) (Some other) fits also same =
    let members : character_members n evidence character ≡ character_members n other_evidence other = cc in
    one_character n evidence other_evidence character other fits also members

pub look_alike : (n : ℕ) (item other : Item) → IsItemInRange item → IsItemInRange other → item_type item ≡ item_type other → offset_of item ≡ offset_of other
    → item_json n item ≡ item_json n other → LookAlike n item other
look_alike n (Event offset event frames) (Event another other more_frames) fits also types offsets same =
    let parts = event_same event other frames more_frames (view_json (view_of_event n event)) (view_json (view_of_event n other)) fits.2 also.2 fits.1 also.1 same in
    (offsets, parts.0, parts.1, sym (view_is n event) ∙ ap (view_in n) parts.2 ∙ view_is n other)
look_alike n (Head h) (Head g) fits also types offsets same =
    one_head h g fits also (ap (Member (codes "offset") (number h.offset)) same ∙ ap (λ (k : ℕ). Member (codes "offset") (number k) (item_json n (Head g))) offsets)
look_alike n (Unfinished offset event frames lacks) (Unfinished another other more_frames lacking) fits also types offsets same =
    let parts = event_same event other frames more_frames (Member (codes "lacks") (optional_number lacks) (view_json (view_of_unfinished n event))) (Member (codes "lacks") (optional_number lacking) (view_json (view_of_unfinished n other)))
    fits.2 also.2 fits.1 also.1 same in
    let rests : Member (codes "lacks") (optional_number lacks) (view_json (view_of_unfinished n event)) ≡ Member (codes "lacks") (optional_number lacking) (view_json (view_of_unfinished n other)) = parts.2 in
    let lacks_same : optional_number lacks ≡ optional_number lacking = cc in (
      offsets,
      parts.0,
      parts.1,
      one_optional lacks lacking fits.3 also.3 lacks_same,
      sym (unfinished_is n event) ∙ ap (λ (m : Members). view_in n (after_first m)) rests ∙ unfinished_is n other,
    )
look_alike n (UnfinishedHead offset) (UnfinishedHead another) fits also types offsets same = offsets
look_alike n (UnfinishedHead offset) (Unfinished another other more_frames lacking) fits also types offsets same =
    let words : codes "head" ≡ event_word other = cc in
    absurd (no_head other words)
look_alike n (Unfinished offset event frames lacks) (UnfinishedHead another) fits also types offsets same =
    let words : codes "head" ≡ event_word event = cc in
    absurd (no_head event words)
look_alike n (RefusedFrame offset refusal evidence character) (RefusedFrame another other bytes second) fits also types offsets same =
    let places : number refusal.offset ≡ number other.offset = cc in
    let words : word_of refusal.reason ≡ word_of other.reason = cc in
    let after = ap (λ (m : Members). after_first (after_first (after_first m))) same in (
      offsets,
      refusal_same refusal other (one_number refusal.offset other.offset fits.1 also.1 places) (one_reason refusal.reason other.reason words),
      sym (end_is n evidence character) ∙ ap (evidence_in n) after ∙ end_is n bytes second,
      characters_same n evidence bytes character second fits.3 also.3 (sym (character_is n evidence character) ∙ ap after_evidence after ∙ character_is n bytes second),
    )
look_alike n (Unread offset bytes) (Unread another other) fits also types offsets same =
    let parts = bytes_same n bytes other fits.1 also.1 same in
    (offsets, parts.0, parts.1)
look_alike n (Tail offset bytes) (Tail another other) fits also types offsets same =
    let parts = bytes_same n bytes other fits.1 also.1 same in
    (offsets, parts.0, parts.1)
look_alike n item other fits also types offsets same = absurd (differ (item_type item) (item_type other) refl types)

pub one_shown : (n : ℕ) (role other : Role) (place other_place : EntryPosition) (item another : Item) → IsPositionInRange place → IsPositionInRange other_place
    → IsItemInRange item → IsItemInRange another → ShowsTextReason item → ShowsTextReason another
    → item_object n role place item ≡ item_object n other other_place another
    → (role ≡ other) × (place ≡ other_place) × LookAlike n item another
one_shown n role other place other_place item another fits also range range_too reason reason_too same =
    let values : shown_value n role place item ≡ shown_value n other other_place another =
    one_line (shown_value n role place item) (shown_value n other other_place another) (item_object n other other_place another)
    (subst (λ (line : List ℕ). IsJsonLine (shown_value n role place item) line) same (shown_line n role place item fits range reason))
    (shown_line n other other_place another also range_too reason_too) in
    let types : item_type item ≡ item_type another = cc in
    let members : shown_json n role place item ≡ shown_json n other other_place another = cc in
    let placed = one_place role other place other_place (offset_of item) (offset_of another) (item_json n item) (item_json n another) fits also members in
    let offsets = one_number (offset_of item) (offset_of another) (offset_fits item range) (offset_fits another range_too) placed.2 in
    (placed.0, placed.1, look_alike n item another range range_too types offsets placed.3)
