-- The last payload bytes of the open message as its frames go on, and the character that they end with.
use Rattle.std.proofs.Common.{◌≡◌, ℕ, suc, ◌+◌, ◌-◌, ◌<◌, ◌≤◌, List, [], ◌∷◌, ◌++◌, length, take, drop, get_or, inl, inr, refl, sym, ap, ◌∙◌, subst, append_assoc, take-append-drop, length-drop, arith}
use Rattle.std.proofs.lemmas.Bool.{cases_lt}
use Rattle.std.proofs.lemmas.List.{drop-append-le, drop-drop, drop-map, map-append, length-map, length-take-le}
use Rattle.std.proofs.Math.Seq.{take-suc}
use Rattle.std.specs.Str.Lossy.{utf8_valid_len}
use Rattle.wsn_wire.specs.Frame.{Frame}
use Rattle.wsn_rules.specs.declared.head_info.HeadInfo.{HeadInfo}
use Rattle.wsn_rules.specs.BadCharacter.{payload_offset, placed_payloads, last_of, open_payload, message_payload, first_offset, bytes_of, bad_character, PlacedByte, placed}
use Rattle.wsn_rules.specs.Group.{unfinished, payload_of}
use Rattle.wsn_rules.proofs.LastElements.{last_of_none, last_of_long, last_of_push}
use Rattle.wsn_rules.proofs.PlacedBytes.{placed-append, bytes_of_placed}
use Rattle.wsn_show.specs.declared.last_payload.StreamByte.{StreamByte}
use Rattle.wsn_show.specs.declared.last_payload.LastPayload.{LastPayload}
use Rattle.wsn_show.specs.LastPayloads.{placed_bytes, HasLastPayload}

pub message_goes_on : (fs : List Frame) (head : HeadInfo) (part more : List ℕ) → message_payload fs head (part ++ more) ≡ message_payload fs head part ++ placed (payload_offset head + length part) more
message_goes_on fs head part more =
    ap (λ (bs : List PlacedByte). open_payload fs ++ bs) (placed-append (payload_offset head) part more)
    ∙ sym (append_assoc (open_payload fs) (placed (payload_offset head) part) (placed (payload_offset head + length part) more))

pub nothing_open : (fs : List Frame) → unfinished fs ≡ [] → open_payload fs ≡ []
nothing_open fs none = ap (λ (gs : List Frame). last_of (length (payload_of gs)) (placed_payloads 0 fs)) none ∙ last_of_none (placed_payloads 0 fs)

-- ---- the character

module _ (earlier : List ℕ) (came : List PlacedByte) (len : ℕ) (is : utf8_valid_len (bytes_of came) + len ≡ length came) (held : List PlacedByte) (few : len ≤ length held) (last : held ≡ last_of 4 came) where
  abbrev whole : ℕ
  whole = utf8_valid_len (bytes_of came)

  pub held_end : drop (length held - len) held ≡ drop whole came
  held_end =
      let size : length held ≡ length came - (length came - 4) = ap (λ (bs : List PlacedByte). length bs) last ∙ length-drop (length came - 4) came in
      let at : (length came - 4) + (length held - len) ≡ whole = omega (arith, size, is, few) in
      ap (λ (bs : List PlacedByte). drop (length held - len) bs) last ∙ drop-drop (length held - len) (length came - 4) came ∙ ap (λ (k : ℕ). drop k came) at

  pub character_is : record { offset = first_offset (drop (length held - len) held); in_payload = length came - len; bytes = drop (length held - len) (bytes_of held); earlier = earlier } ≡ bad_character earlier came
  character_is =
      let place : length came - len ≡ whole = omega (arith, is) in
      let bytes : drop (length held - len) (bytes_of held) ≡ bytes_of (drop whole came) = drop-map (λ (b : PlacedByte). b.byte) (length held - len) held ∙ ap bytes_of held_end in
      (λ i. record { offset = first_offset (held_end i); in_payload = place i; bytes = bytes i; earlier = earlier })

-- ---- more bytes

length-placed : (place : ℕ) (bytes : List ℕ) → length (placed place bytes) ≡ length bytes
length-placed place bytes = sym (length-map (placed place bytes) (λ (b : PlacedByte). b.byte)) ∙ ap (λ (bs : List ℕ). length bs) (bytes_of_placed place bytes)

-- One more of the bytes, of which all but the first `skipped` are taken.
pub placed_push : (offset skipped i : ℕ) (bytes : List ℕ) (place byte : ℕ) → skipped ≤ i → i < length bytes → place ≡ offset + i → byte ≡ get_or bytes i 0
    → placed (offset + skipped) (drop skipped (take (i + 1) bytes)) ≡ placed (offset + skipped) (drop skipped (take i bytes)) ++ placed place (byte ∷ [])
placed_push offset skipped i bytes place byte from within offset_is byte_is =
    let before = take i bytes in
    let size : length before ≡ i = length-take-le i bytes (omega (arith, within)) in
    let next : i + 1 ≡ suc i = omega arith in
    let one : take (i + 1) bytes ≡ before ++ byte ∷ [] = ap (λ (m : ℕ). take m bytes) next ∙ take-suc bytes i 0 within ∙ ap (λ (b : ℕ). take i bytes ++ b ∷ []) (sym byte_is) in
    let left : length (drop skipped before) ≡ i - skipped = length-drop skipped before ∙ ap (λ (m : ℕ). m - skipped) size in
    ap (λ (bs : List ℕ). placed (offset + skipped) (drop skipped bs)) one ∙ ap (λ (bs : List ℕ). placed (offset + skipped) bs) (drop-append-le skipped before (byte ∷ []) (omega (arith, size, from)))
    ∙ placed-append (offset + skipped) (drop skipped before) (byte ∷ [])
    ∙ ap (λ (m : ℕ). placed (offset + skipped) (drop skipped before) ++ placed m (byte ∷ [])) (omega (arith, left, offset_is, from))

-- All but the last n bytes don't matter, if n is four or more.
pub skipping : (last : LastPayload) (came : List PlacedByte) (offset n skipped : ℕ) (bytes : List ℕ) → 4 ≤ n → skipped ≡ length bytes - n → HasLastPayload last (came ++ placed (offset + skipped) (drop skipped bytes)) → HasLastPayload last (came ++ placed offset bytes)
skipping last came offset n skipped bytes four is has =
    elim (cases_lt (length bytes) n) [
      | inl less ↦
          let none : skipped ≡ 0 = omega (arith, is, less) in
          let same : placed (offset + skipped) (drop skipped bytes) ≡ placed offset bytes = ap (λ (m : ℕ). placed (offset + m) (drop m bytes)) none ∙ ap (λ (m : ℕ). placed m bytes) (omega arith) in
          subst (λ (ps : List PlacedByte). HasLastPayload last (came ++ ps)) same has
      | inr many ↦
          let later = placed (offset + skipped) (drop skipped bytes) in
          let front = placed offset (take skipped bytes) in
          let size : length later ≡ length bytes - skipped = length-placed (offset + skipped) (drop skipped bytes) ∙ length-drop skipped bytes in
          let taken : length (take skipped bytes) ≡ skipped = length-take-le skipped bytes (omega (arith, is)) in
          let parts : placed offset bytes ≡ front ++ later =
          ap (λ (bs : List ℕ). placed offset bs) (sym (take-append-drop skipped bytes)) ∙ placed-append offset (take skipped bytes) (drop skipped bytes) ∙ ap (λ (m : ℕ). front ++ placed (offset + m) (drop skipped bytes)) taken in
          let long : 4 ≤ length later = omega (arith, size, is, many, four) in
          has ∙ last_of_long 4 came later long ∙ sym (last_of_long 4 (came ++ front) later long) ∙ ap (λ (ps : List PlacedByte). last_of 4 ps) (append_assoc came front later ∙ ap (λ (ps : List PlacedByte). came ++ ps) (sym parts))
    ]

-- The last bytes are enough, if they are four or more, or all.
pub with_last : (last : LastPayload) (came : List PlacedByte) (offset n : ℕ) (bytes all : List ℕ) → 4 ≤ n → bytes ≡ last_of n all → HasLastPayload last (came ++ placed (offset + (length all - n)) bytes) → HasLastPayload last (came ++ placed offset all)
with_last last came offset n bytes all four is has =
    skipping last came offset n (length all - n) all four refl (subst (λ (bs : List ℕ). HasLastPayload last (came ++ placed (offset + (length all - n)) bs)) is has)

-- One more byte.
pub pushed : (held : List StreamByte) (came : List PlacedByte) (byte : StreamByte) (now : List StreamByte) → placed_bytes held ≡ last_of 4 came → now ≡ drop (length held - 3) held ++ byte ∷ []
    → placed_bytes now ≡ last_of 4 (came ++ placed byte.offset (byte.byte ∷ []))
pushed held came byte now is now_is =
    let size : length (placed_bytes held) ≡ length held = length-map held (λ (b : StreamByte). record { offset = b.offset; byte = b.byte }) in
    ap placed_bytes now_is ∙ map-append (λ (b : StreamByte). record { offset = b.offset; byte = b.byte }) (drop (length held - 3) held) (byte ∷ [])
    ∙ ap (λ (ps : List PlacedByte). ps ++ placed byte.offset (byte.byte ∷ [])) (sym (drop-map (λ (b : StreamByte). record { offset = b.offset; byte = b.byte }) (length held - 3) held) ∙ ap (λ (m : ℕ). drop (m - 3) (placed_bytes held)) (sym size))
    ∙ sym (last_of_push 3 came (placed_bytes held) (record { offset = byte.offset; byte = byte.byte }) is)
