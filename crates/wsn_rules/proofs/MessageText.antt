-- The text of a message and the body of a Close: their opcodes, and where a bad byte is evident.
use Rattle.std.proofs.Common.{◌≡◌, ◌≢◌, ℕ, zero, suc, ◌+◌, ◌-◌, ◌<◌, ◌≤◌, true, not, List, [], ◌∷◌, ◌++◌, ◌⊎◌, length, take, drop, refl, sym, ap, ◌∙◌, subst, inl, inr, append_assoc, append-nil, arith, true≢false}
use Rattle.std.specs.Int.{from_be_bytes, to_be_bytes, w16}
use Rattle.wsn_text.proofs.Numbers.{less_or_not}
use Rattle.std.proofs.lemmas.List.{take-append-drop, length-append, length-take-le, take_all}
use Rattle.std.proofs.lemmas.List.Concat.{flat_map-append}
use Rattle.std.proofs.lemmas.Nat.{be_bytes_2, from_be_bytes-to_be_bytes_2}
use Rattle.wsn_wire.specs.declared.opcode.Op.{Op}
use Rattle.wsn_wire.specs.declared.opcode.Op.TheVariants.{Continue, Text, Binary, Close, Ping, Pong}
use Rattle.wsn_wire.specs.Frame.{Frame, opcode, is_control, IsBytes}
use Rattle.wsn_wire.proofs.MaskLemmas.{at-All}
use Rattle.wsn_text.specs.Utf8.{IsText, BeginsText, IsFirstBad}
use Rattle.wsn_text.specs.CloseBody.{IsAcceptedCode, IsCloseBody}
use Rattle.wsn_text.proofs.Decide.{text_decided}
use Rattle.wsn_text.proofs.Prefixes.{begins-nil, begins_front, begins_take, bad_ends, first_bad_front, begins_or_first_bad, text_begins}
use Rattle.wsn_rules.specs.Evidence.{IsDataOpcode, IsOfText, EndsBad, EndsInside}
use Rattle.wsn_rules.specs.Group.{is_data, first_op, payload_of}

-- ---- the body of a Close

pub not_one_byte : (body : List ℕ) → IsCloseBody body → length body ≢ 1
not_one_byte body (inl none) one = let empty : length body ≡ 0 = ap (λ (bs : List ℕ). length bs) none in omega arith
not_one_byte body (inr p) one = let two : length body ≡ suc (suc (length p.1)) = ap (λ (bs : List ℕ). length bs) p.4 in omega arith

-- ---- opcodes

pub continue_from_opcode : (op : Op) → opcode op ≡ 0 → op ≡ Continue
continue_from_opcode Continue e = refl
continue_from_opcode _ e = absurd (omega arith)

pub text_from_opcode : (op : Op) → opcode op ≡ 1 → op ≡ Text
text_from_opcode Text e = refl
text_from_opcode _ e = absurd (omega arith)

pub data_from_opcode : (op : Op) → IsDataOpcode (opcode op) → not (is_control op) ≡ true
data_from_opcode Close e = absurd (omega arith)
data_from_opcode Ping e = absurd (omega arith)
data_from_opcode Pong e = absurd (omega arith)
data_from_opcode _ e = refl

pub opcode_of_data : (op : Op) → not (is_control op) ≡ true → IsDataOpcode (opcode op)
opcode_of_data Close e = absurd (true≢false (sym e))
opcode_of_data Ping e = absurd (true≢false (sym e))
opcode_of_data Pong e = absurd (true≢false (sym e))
opcode_of_data _ e = omega arith

-- A message begins with opcode 1 or 2.
pub begins_from_opcode : (op : Op) → (opcode op ≡ 1) ⊎ (opcode op ≡ 2) → (op ≡ Continue → ⊥) × (not (is_control op) ≡ true)
begins_from_opcode Continue (inl e) = absurd (omega arith)
begins_from_opcode Continue (inr e) = absurd (omega arith)
begins_from_opcode Text e = ((λ same. cc), refl)
begins_from_opcode Binary e = ((λ same. cc), refl)
begins_from_opcode Close (inl e) = absurd (omega arith)
begins_from_opcode Close (inr e) = absurd (omega arith)
begins_from_opcode Ping (inl e) = absurd (omega arith)
begins_from_opcode Ping (inr e) = absurd (omega arith)
begins_from_opcode Pong (inl e) = absurd (omega arith)
begins_from_opcode Pong (inr e) = absurd (omega arith)

pub opcode_of_beginning : (op : Op) → not (is_control op) ≡ true → (op ≡ Continue → ⊥) → (opcode op ≡ 1) ⊎ (opcode op ≡ 2)
opcode_of_beginning Continue is_data other = absurd (other refl)
opcode_of_beginning Text is_data other = inl refl
opcode_of_beginning Binary is_data other = inr refl
opcode_of_beginning _ is_data other = absurd (true≢false (sym is_data))

pub continue_or_not : (op : Op) → (op ≡ Continue) ⊎ (op ≡ Continue → ⊥)
continue_or_not Continue = inl refl
continue_or_not _ = inr (λ same. cc)

-- ---- a group with one more frame

pub text_of_push : (group : List Frame) (f : Frame) → payload_of (group ++ f ∷ []) ≡ payload_of group ++ f.payload
text_of_push group f = flat_map-append (λ (g : Frame). g.payload) group (f ∷ []) ∙ ap (λ (bytes : List ℕ). payload_of group ++ bytes) (append-nil f.payload)

-- A data frame of a text message, by its opcode and by its group.
pub of_text_from_group : (group : List Frame) (f : Frame) → is_data f ≡ true → first_op (group ++ f ∷ []) ≡ Text → IsOfText group (opcode f.op)
of_text_from_group [] f is_data text = ap opcode text
of_text_from_group (g ∷ group) f is_data text = (opcode_of_data f.op is_data, text)

pub group_from_of_text : (group : List Frame) (f : Frame) → IsOfText group (opcode f.op) → (is_data f ≡ true) × (first_op (group ++ f ∷ []) ≡ Text)
group_from_of_text [] f text =
    let is_text = text_from_opcode f.op text in
    (subst (λ (op : Op). not (is_control op) ≡ true) (sym is_text) refl, is_text)
group_from_of_text (g ∷ group) f text = (data_from_opcode f.op text.0, text.1)

-- ---- a bad byte

-- If a prefix begins text, the first bad byte comes after it.
pub bad_after_front : (front bytes : List ℕ) (i : ℕ) → BeginsText front → IsFirstBad (front ++ bytes) i → (n : ℕ) × (n ≤ length bytes) × EndsBad (front ++ take n bytes)
bad_after_front front bytes i begins bad =
    elim (less_or_not i (length front)) [
      | inl within ↦ absurd (bad_ends front i (first_bad_front front bytes i within bad) begins)
      | inr following ↦
          let n = i + 1 - length front in
          let all : length (front ++ bytes) ≡ length front + length bytes = length-append front bytes in
          let within : i < length (front ++ bytes) = bad.within in
          let fits : i + 1 - length front ≤ length bytes = omega arith in
          let parted : front ++ bytes ≡ (front ++ take (i + 1 - length front) bytes) ++ drop (i + 1 - length front) bytes =
          ap (λ (bs : List ℕ). front ++ bs) (sym (take-append-drop (i + 1 - length front) bytes)) ∙ sym (append_assoc front (take (i + 1 - length front) bytes) (drop (i + 1 - length front) bytes)) in
          let took : length (take (i + 1 - length front) bytes) ≡ i + 1 - length front = length-take-le (i + 1 - length front) bytes fits in
          let count : i + 1 ≡ length (front ++ take (i + 1 - length front) bytes) = omega (arith, length-append front (take (i + 1 - length front) bytes)) in
          (i + 1 - length front, fits, (i, count, first_bad_front (front ++ take (i + 1 - length front) bytes) (drop (i + 1 - length front) bytes) i (omega arith) (subst (λ (bs : List ℕ). IsFirstBad bs i) parted bad)))
    ]

-- A prefix of bytes that begin text doesn't end with a bad byte.
pub begins_not_bad : (front bytes : List ℕ) (n : ℕ) → BeginsText (front ++ bytes) → EndsBad (front ++ take n bytes) → ⊥
begins_not_bad front bytes n begins bad =
    bad_ends (front ++ take n bytes) bad.0 bad.2 (begins_front (front ++ take n bytes) (drop n bytes) (subst BeginsText (sym (append_assoc front (take n bytes) (drop n bytes))) (subst (λ (bs : List ℕ). BeginsText (front ++ bs)) (sym (take-append-drop n bytes)) begins)))

-- ---- the body of a Close, lawful or not

pub below_accepted : (code : ℕ) → code < 1000 → IsAcceptedCode code → ⊥
below_accepted code below is = grind arith

pub first_gap : (code : ℕ) → 1003 < code → code < 1007 → IsAcceptedCode code → ⊥
first_gap code above below is = grind arith

pub second_gap : (code : ℕ) → 1014 < code → code < 3000 → IsAcceptedCode code → ⊥
second_gap code above below is = grind arith

pub above_accepted : (code : ℕ) → 4999 < code → IsAcceptedCode code → ⊥
above_accepted code above is = grind arith

unfoldable pub accepted_code_or_not : (code : ℕ) → IsAcceptedCode code ⊎ (IsAcceptedCode code → ⊥)
accepted_code_or_not code =
    elim (less_or_not code 1000) [
      | inl below ↦ inr (below_accepted code below)
      | inr from_1000 ↦ elim (less_or_not 1003 code) [
        | inr to_1003 ↦ inl (inl (from_1000, to_1003))
        | inl above_1003 ↦ elim (less_or_not code 1007) [
          | inl below_1007 ↦ inr (first_gap code above_1003 below_1007)
          | inr from_1007 ↦ elim (less_or_not 1014 code) [
            | inr to_1014 ↦ inl (inr (inl (from_1007, to_1014)))
            | inl above_1014 ↦ elim (less_or_not code 3000) [
              | inl below_3000 ↦ inr (second_gap code above_1014 below_3000)
              | inr from_3000 ↦ elim (less_or_not 4999 code) [
                | inr to_4999 ↦ inl (inr (inr (from_3000, to_4999)))
                | inl above_4999 ↦ inr (above_accepted code above_4999)
              ]
            ]
          ]
        ]
      ]
    ]

accepted_fits : (code : ℕ) → IsAcceptedCode code → code < 65536
accepted_fits code is = grind arith

-- The code at the start of a lawful body is accepted.
pub code_is_accepted : (body : List ℕ) → IsCloseBody body → (n : ℕ) → n ≤ length body → length (take n body) ≡ 2 → IsAcceptedCode (from_be_bytes w16 (take n body))
code_is_accepted body (inl none) n fits two =
    let took : length (take n body) ≡ n = length-take-le n body fits in
    let empty : length body ≡ 0 = ap (λ (bs : List ℕ). length bs) none in
    absurd (omega arith)
code_is_accepted body (inr p) n fits two =
    let code = p.0 in
    let took : length (take n body) ≡ n = length-take-le n body fits in
    let is_two : n ≡ 2 = omega arith in
    let front : take n body ≡ to_be_bytes w16 p.0 = ap (λ (m : ℕ). take m body) is_two ∙ ap (λ (bs : List ℕ). take 2 bs) p.4 in
    let value : from_be_bytes w16 (take n body) ≡ p.0 = ap (λ (bs : List ℕ). from_be_bytes w16 bs) front ∙ from_be_bytes-to_be_bytes_2 p.0 (accepted_fits p.0 p.2) in
    subst IsAcceptedCode (sym value) p.2

-- The reason of a lawful body doesn't end with a bad byte or inside a character.
pub reason_is_text : (body : List ℕ) → IsCloseBody body → IsText (drop 2 body)
reason_is_text body (inl none) = subst (λ (bs : List ℕ). IsText (drop 2 bs)) (sym none) no_text
  where
    no_text : IsText []
    no_text = record { characters = []; each = tt; whole = refl }
reason_is_text body (inr p) = subst (λ (bs : List ℕ). IsText (drop 2 bs)) (sym p.4) p.3

take_nil : (m : ℕ) → ◌≡◌ {A = List ℕ} [] (take m [])
take_nil zero = refl
take_nil (suc m) = refl

pub reason_not_bad : (body : List ℕ) → IsCloseBody body → (n : ℕ) → EndsBad (drop 2 (take n body)) → ⊥
reason_not_bad body is n bad =
    let front = front_of_rest n body in
    bad_ends (drop 2 (take n body)) bad.0 bad.2 (subst BeginsText (sym front) (begins_take (n - 2) (drop 2 body) (text_begins (drop 2 body) (reason_is_text body is))))
  where
    front_of_rest : (n : ℕ) (bs : List ℕ) → drop 2 (take n bs) ≡ take (n - 2) (drop 2 bs)
    front_of_rest zero bs = refl
    front_of_rest (suc zero) [] = refl
    front_of_rest (suc zero) (b ∷ bs) = refl
    front_of_rest (suc (suc n)) [] = take_nil (suc (suc n) - 2)
    front_of_rest (suc (suc n)) (b ∷ []) = take_nil (suc (suc n) - 2)
    front_of_rest (suc (suc n)) (b ∷ c ∷ bs) = let less : suc (suc n) - 2 ≡ n = omega arith in rw less refl

-- A prefix of the body has a code that isn't accepted, or a reason that isn't text.
abbrev pub BodyShows : List ℕ → Type 0
BodyShows body =
    ((n : ℕ) × (n ≤ length body) × (length (take n body) ≡ 2) × (IsAcceptedCode (from_be_bytes w16 (take n body)) → ⊥))
    ⊎ ((n : ℕ) × (n ≤ length body) × (EndsBad (drop 2 (take n body)) ⊎ ((length (take n body) ≡ length body) × EndsInside (drop 2 (take n body)))))

-- A body of bytes, but not a single one, is lawful or has evidence against it.
pub body_or_shows : (body : List ℕ) → IsBytes body → length body ≢ 1 → IsCloseBody body ⊎ BodyShows body
body_or_shows [] bytes not_one = inl (inl refl)
body_or_shows (b ∷ []) bytes not_one = absurd (not_one refl)
body_or_shows (b ∷ c ∷ reason) bytes not_one =
    let code = from_be_bytes w16 (b ∷ c ∷ []) in
    let encoded : to_be_bytes w16 (from_be_bytes w16 (b ∷ c ∷ [])) ≡ b ∷ c ∷ [] =
    be_bytes_2 (b ∷ c ∷ []) (from_be_bytes w16 (b ∷ c ∷ [])) refl (at-All (λ n. n < 256) (omega arith) (b ∷ c ∷ []) (bytes.0, (bytes.1.0, tt))) refl in
    elim (accepted_code_or_not (from_be_bytes w16 (b ∷ c ∷ []))) [
      | inr refused ↦ inr (inl (2, omega arith, refl, refused))
      | inl accepted ↦ elim (text_decided reason) [
        | inl text ↦ inl (inr (from_be_bytes w16 (b ∷ c ∷ []), reason, accepted, text, ap (λ (bs : List ℕ). bs ++ reason) (sym encoded)))
        | inr not_text ↦ inr (inr (reason_shows reason not_text))
      ]
    ]
  where
    reason_shows : (reason : List ℕ) → (IsText reason → ⊥) → (n : ℕ) × (n ≤ length (b ∷ c ∷ reason)) × (EndsBad (drop 2 (take n (b ∷ c ∷ reason))) ⊎ ((length (take n (b ∷ c ∷ reason)) ≡ length (b ∷ c ∷ reason)) × EndsInside (drop 2 (take n (b ∷ c ∷ reason)))))
    reason_shows reason not_text =
        elim (begins_or_first_bad reason) [
          | inl begins ↦
              let all : take (length reason) reason ≡ reason = take_all (length reason) reason (omega arith) in
              (suc (suc (length reason)), omega arith, inr (ap (λ (bs : List ℕ). length (b ∷ c ∷ bs)) all, subst EndsInside (sym all) (begins, not_text)))
          | inr bad ↦
              let is_evident = bad_after_front [] reason bad.0 begins-nil bad.1 in
              (suc (suc is_evident.0), omega (arith, is_evident.1), inl is_evident.2)
        ]
