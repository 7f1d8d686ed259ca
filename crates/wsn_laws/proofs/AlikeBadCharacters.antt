-- The bad characters of texts that are alike have the same place, offset and size.
use Rattle.std.proofs.Common.{◌≡◌, ℕ, zero, suc, ◌+◌, ◌-◌, ◌<◌, ◌≤◌, Bool, true, false, Some, List, [], ◌∷◌, ◌++◌, length, take, drop, if◌then◌else◌, inl, inr, refl, sym, ap, ◌∙◌, subst, arith}
use Rattle.std.specs.Str.Lossy.{utf8_valid_len}
use Rattle.std.proofs.lemmas.Bool.{cases_lt}
use Rattle.std.proofs.lemmas.List.{take_all, length-drop}
use Rattle.wsn_wire.specs.declared.opcode.Op.{Op}
use Rattle.wsn_wire.specs.declared.opcode.Op.TheVariants.{Continue, Text}
use Rattle.wsn_wire.specs.declared.refusal.Reason.{Reason}
use Rattle.wsn_wire.specs.declared.refusal.Reason.TheVariants.{TextBad}
use Rattle.wsn_wire.specs.Frame.{Frame, head_bytes, frame_bytes}
use Rattle.wsn_text.specs.Utf8.{IsText}
use Rattle.wsn_text.proofs.LongestText.{valid_is_longest}
use Rattle.wsn_rules.specs.declared.head_info.HeadInfo.{HeadInfo}
use Rattle.wsn_rules.specs.BadCharacter.{payload_offset, placed_payloads, open_payload, message_payload, last_of, first_offset, bytes_of, earlier_end, bad_character, character_of, PlacedByte, placed}
use Rattle.wsn_rules.specs.Group.{is_data, unfinished, payload_of}
use Rattle.wsn_rules.specs.Heads.{info_of}
use Rattle.wsn_rules.proofs.OpenPayloads.{payload_so_far}
use Rattle.wsn_redact.specs.StandIns.{IsRedacted}
use Rattle.wsn_redact.specs.Redaction.{is_of_text, with_payload}
use Rattle.wsn_laws.specs.AlikeStreams.{AreAlikeTexts, AreAlikeData, AreAlikePayloads}
use Rattle.wsn_laws.specs.AlikeItems.{AreAlikeBadCharacters}
use Rattle.wsn_redact.proofs.StoodTexts.{redacted_length}
use Rattle.wsn_redact.proofs.HeadsAlike.{prefix_of}
use Rattle.wsn_redact.proofs.TextsStay.{text_alike}
use Rattle.wsn_laws.proofs.AlikeRedactions.{AreLikewise, open_likewise, same_earlier, one_redaction_of_texts}
use Rattle.wsn_laws.proofs.AlikeSizes.{frame_size}

-- ---- how much of two texts is whole characters

-- Prefixes are text together.
prefix_text : (text other redacted : List ℕ) → IsRedacted text redacted → IsRedacted other redacted → (k : ℕ) → k ≤ length text → IsText (take k text) → IsText (take k other)
prefix_text text other redacted r s k few is =
    let mine = redacted_length text redacted r in
    let its = redacted_length other redacted s in
    elim (cases_lt k (length text)) [
      | inl less ↦
          let front = prefix_of k text redacted less r in
          let other_front = prefix_of k other redacted (omega (arith, less, mine, its)) s in
          (text_alike (take k other) (take k redacted) other_front).1 ((text_alike (take k text) (take k redacted) front).0 is)
      | inr full ↦
          let whole : take k text ≡ text = take_all k text full in
          let other_whole : take k other ≡ other = take_all k other (omega (arith, full, mine, its)) in
          subst IsText (sym other_whole) ((text_alike other redacted s).1 ((text_alike text redacted r).0 (subst IsText whole is)))
    ]

not_longer : (text other redacted : List ℕ) → IsRedacted text redacted → IsRedacted other redacted → utf8_valid_len text < utf8_valid_len other → ⊥
not_longer text other redacted r s less =
    let mine = valid_is_longest text in
    let its = valid_is_longest other in
    let within = its.within in
    let size = redacted_length text redacted r in
    let other_size = redacted_length other redacted s in
    mine.longest (utf8_valid_len other) less (omega (arith, within, size, other_size)) (prefix_text other text redacted s r (utf8_valid_len other) within its.front)

valid_alike : (text other : List ℕ) → AreAlikeTexts text other → utf8_valid_len text ≡ utf8_valid_len other
valid_alike text other a =
    let one = one_redaction_of_texts text other a in
    elim (cases_lt (utf8_valid_len text) (utf8_valid_len other)) [
      | inl less ↦ absurd (not_longer text other one.0 one.1 one.2 less)
      | inr least ↦ elim (cases_lt (utf8_valid_len other) (utf8_valid_len text)) [
        | inl more ↦ absurd (not_longer other text one.0 one.2 one.1 more)
        | inr most ↦ omega (arith, least, most)
      ]
    ]

-- ---- bytes with offsets

-- As many bytes, at the same offsets.
abbrev HaveSamePlaces : List PlacedByte → List PlacedByte → Type 0
HaveSamePlaces [] [] = Unit {0}
HaveSamePlaces (b ∷ bytes) (c ∷ others) = (b.offset ≡ c.offset) × HaveSamePlaces bytes others
HaveSamePlaces bytes others = ⊥

places_append : (xs ys more rest : List PlacedByte) → HaveSamePlaces xs ys → HaveSamePlaces more rest → HaveSamePlaces (xs ++ more) (ys ++ rest)
places_append [] [] more rest are also = also
places_append (x ∷ xs) (y ∷ ys) more rest are also = (are.0, places_append xs ys more rest are.1 also)
places_append _ _ more rest are also = absurd are

places_size : (xs ys : List PlacedByte) → HaveSamePlaces xs ys → length xs ≡ length ys
places_size [] [] are = refl
places_size (x ∷ xs) (y ∷ ys) are = let rest = places_size xs ys are.1 in omega (arith, rest)
places_size _ _ are = absurd are

places_drop : (n : ℕ) (xs ys : List PlacedByte) → HaveSamePlaces xs ys → HaveSamePlaces (drop n xs) (drop n ys)
places_drop zero xs ys are = are
places_drop (suc n) [] [] are = tt
places_drop (suc n) (x ∷ xs) (y ∷ ys) are = places_drop n xs ys are.1
places_drop (suc n) _ _ are = absurd are

places_first : (xs ys : List PlacedByte) → HaveSamePlaces xs ys → first_offset xs ≡ first_offset ys
places_first [] [] are = refl
places_first (x ∷ xs) (y ∷ ys) are = are.0
places_first _ _ are = absurd are

placed_alike : (place other_place : ℕ) (xs ys : List ℕ) → place ≡ other_place → length xs ≡ length ys → HaveSamePlaces (placed place xs) (placed other_place ys)
placed_alike place other_place [] [] same size = tt
placed_alike place other_place [] (y ∷ ys) same size = absurd (omega (arith, size))
placed_alike place other_place (x ∷ xs) [] same size = absurd (omega (arith, size))
placed_alike place other_place (x ∷ xs) (y ∷ ys) same size = (same, placed_alike (place + 1) (other_place + 1) xs ys (ap (λ (n : ℕ). n + 1) same) (omega (arith, size)))

bytes_size : (xs ys : List PlacedByte) → HaveSamePlaces xs ys → length (bytes_of xs) ≡ length (bytes_of ys)
bytes_size [] [] are = refl
bytes_size (x ∷ xs) (y ∷ ys) are = let rest = bytes_size xs ys are.1 in omega (arith, rest)
bytes_size _ _ are = absurd are

-- One frame's payload, if it is a data frame.
frame_places : (place other_place : ℕ) (f : Frame) (payload : List ℕ) → place ≡ other_place → length f.payload ≡ length payload
    → HaveSamePlaces (if is_data f then placed (payload_offset (info_of place f)) f.payload else []) (if is_data f then placed (payload_offset (info_of other_place (with_payload f payload))) payload else [])
frame_places place other_place f payload same size = by (is_data f)
  where
    offset : payload_offset (info_of place f) ≡ payload_offset (info_of other_place (with_payload f payload))
    offset = λ i. same i + length (head_bytes f.fin f.op f.key f.form (size i))

    by : (c : Bool) → HaveSamePlaces (if c then placed (payload_offset (info_of place f)) f.payload else []) (if c then placed (payload_offset (info_of other_place (with_payload f payload))) payload else [])
    by true = placed_alike (payload_offset (info_of place f)) (payload_offset (info_of other_place (with_payload f payload))) f.payload payload offset size
    by false = tt

payload_places : (place other_place : ℕ) (fs gs : List Frame) → place ≡ other_place → AreLikewise fs gs → HaveSamePlaces (placed_payloads place fs) (placed_payloads other_place gs)
payload_places place other_place [] [] same are = tt
payload_places place other_place (f ∷ fs) (g ∷ gs) same are =
    let sizes = frame_size f g are.0 are.1 in
    let rest = payload_places (place + length (frame_bytes f)) (other_place + length (frame_bytes g)) fs gs (λ i. same i + sizes i) are.2 in
    let own : HaveSamePlaces (if is_data f then placed (payload_offset (info_of place f)) f.payload else []) (if is_data g then placed (payload_offset (info_of other_place g)) g.payload else []) =
    subst (λ (h : Frame). HaveSamePlaces (if is_data f then placed (payload_offset (info_of place f)) f.payload else []) (if is_data h then placed (payload_offset (info_of other_place h)) h.payload else [])) (sym are.0) (frame_places place other_place f g.payload same are.1) in
    places_append (if is_data f then placed (payload_offset (info_of place f)) f.payload else []) (if is_data g then placed (payload_offset (info_of other_place g)) g.payload else []) _ _ own rest
payload_places place other_place _ _ same are = absurd are

open_places : (fs gs : List Frame) → AreLikewise fs gs → HaveSamePlaces (open_payload fs) (open_payload gs)
open_places fs gs are =
    let all = payload_places 0 0 fs gs refl are in
    let size = places_size (placed_payloads 0 fs) (placed_payloads 0 gs) all in
    let open_size = same_earlier (unfinished fs) (unfinished gs) (open_likewise fs gs are) in
    subst (λ (n : ℕ). HaveSamePlaces (open_payload fs) (drop n (placed_payloads 0 gs))) (λ i. size i - open_size i) (places_drop (length (placed_payloads 0 fs) - length (payload_of (unfinished fs))) (placed_payloads 0 fs) (placed_payloads 0 gs) all)

message_places : (fs gs : List Frame) (info : HeadInfo) (part other : List ℕ) → AreLikewise fs gs → length part ≡ length other → HaveSamePlaces (message_payload fs info part) (message_payload gs info other)
message_places fs gs info part other are size = places_append (open_payload fs) (open_payload gs) _ _ (open_places fs gs are) (placed_alike (payload_offset info) (payload_offset info) part other refl size)

-- ---- the character

end_size : (xs ys : List ℕ) → length xs ≡ length ys → length (last_of 48 xs) ≡ length (last_of 48 ys)
end_size xs ys same =
    let mine = length-drop (length xs - 48) xs in
    let its = length-drop (length ys - 48) ys in
    mine ∙ (λ i. same i - (same i - 48)) ∙ sym its

pub bad_alike : (fs gs : List Frame) (info : HeadInfo) (part other : List ℕ) → AreLikewise fs gs → length part ≡ length other → AreAlikeTexts (payload_of (unfinished fs) ++ part) (payload_of (unfinished gs) ++ other)
    → AreAlikeBadCharacters (Some (bad_character (earlier_end fs) (message_payload fs info part))) (Some (bad_character (earlier_end gs) (message_payload gs info other)))
bad_alike fs gs info part other are size texts =
    let xs = message_payload fs info part in
    let ys = message_payload gs info other in
    let same = message_places fs gs info part other are size in
    let valid : utf8_valid_len (bytes_of xs) ≡ utf8_valid_len (bytes_of ys) =
    ap utf8_valid_len (payload_so_far fs info part) ∙ valid_alike (payload_of (unfinished fs) ++ part) (payload_of (unfinished gs) ++ other) texts ∙ sym (ap utf8_valid_len (payload_so_far gs info other)) in
    let n = utf8_valid_len (bytes_of xs) in
    let there : HaveSamePlaces (drop n xs) (drop (utf8_valid_len (bytes_of ys)) ys) = subst (λ (m : ℕ). HaveSamePlaces (drop n xs) (drop m ys)) valid (places_drop n xs ys same) in (
      places_first (drop n xs) (drop (utf8_valid_len (bytes_of ys)) ys) there,
      valid,
      bytes_size (drop n xs) (drop (utf8_valid_len (bytes_of ys)) ys) there,
      end_size (payload_of (unfinished fs)) (payload_of (unfinished gs)) (same_earlier (unfinished fs) (unfinished gs) (open_likewise fs gs are)),
    )

data_texts : (c : Bool) (earlier other_earlier payload other : List ℕ) → c ≡ true → AreAlikeData c earlier other_earlier payload other → AreAlikeTexts (earlier ++ payload) (other_earlier ++ other)
data_texts true earlier other_earlier payload other is a = a.1
data_texts false earlier other_earlier payload other is a = absurd cc

pub texts_of : (group others : List Frame) (op : Op) (payload other : List ℕ) → is_of_text group op ≡ true → AreAlikePayloads group others op payload other → AreAlikeTexts (payload_of group ++ payload) (payload_of others ++ other)
texts_of group others Continue payload other is a = data_texts (is_of_text group Continue) (payload_of group) (payload_of others) payload other is a
texts_of group others Text payload other is a = a.1
texts_of group others _ payload other is a = absurd cc

pub characters_alike : (reason : Reason) (fs gs : List Frame) (info : HeadInfo) (part other : List ℕ) → AreLikewise fs gs → length part ≡ length other → (reason ≡ TextBad → AreAlikeTexts (payload_of (unfinished fs) ++ part) (payload_of (unfinished gs) ++ other))
    → AreAlikeBadCharacters (character_of reason fs info part) (character_of reason gs info other)
characters_alike TextBad fs gs info part other are size texts = bad_alike fs gs info part other are size (texts refl)
characters_alike _ fs gs info part other are size texts = tt
