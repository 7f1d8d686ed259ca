-- The redaction of a redaction of an accepted stream is itself.
use Rattle.std.proofs.Common.{◌≡◌, ℕ, zero, suc, ◌<◌, ◌≤◌, Bool, true, false, List, [], ◌∷◌, ◌++◌, length, take, drop, if◌then◌else◌, inl, inr, refl, sym, ap, ◌∙◌, subst, append-nil, length-append, take-append-drop, arith}
use Rattle.std.specs.List.{AllByRecursion, concat, flat_map}
use Rattle.std.specs.Prelude.{map}
use Rattle.std.proofs.lemmas.Bool.{cases_lt}
use Rattle.std.proofs.lemmas.Grind.{common_steps}
use Rattle.std.proofs.lemmas.List.{take_all, drop_all, take_at, drop_at, length-take-le}
use Rattle.wsn_wire.specs.declared.opcode.Op.{Op}
use Rattle.wsn_wire.specs.declared.opcode.Op.TheVariants.{Continue, Text, Close}
use Rattle.wsn_wire.specs.Frame.{Frame}
use Rattle.wsn_wire.proofs.FrameLemmas.{fronts_agree}
use Rattle.wsn_text.specs.Utf8.{IsCharacter, BeginsText}
use Rattle.wsn_rules.specs.Group.{first_op, payload_of}
use Rattle.wsn_redact.specs.StandIns.{single_stand_in, stand_in, stand_in_of, BeginsCharacter, IsRedactedText, stood, due_after}
use Rattle.wsn_redact.specs.Redaction.{zeros_for, is_text, is_of_text, redacted_payload}
use Rattle.wsn_redact.proofs.StoodTexts.{stood-append, length-stood, stand_in_length, is_stood, stood_is, none_begun}
use Rattle.wsn_redact.proofs.RedactedPayloads.{HasText}
use Rattle.wsn_redact.proofs.RedactedLawful.{two_low, single_low, row_e0, row_ed, row_e1, row_ee, row_f0, row_f1, row_f4, character_fits}

-- ---- characters

single_twice : (b : ℕ) → b ≤ 0x7F → stand_in_of (stand_in b) ≡ stand_in b
single_twice b to =
    let s = single_low b to in
    let once : stand_in b ≡ single_stand_in b ∷ [] = grind (arith, common_steps) in
    let again : stand_in (single_stand_in b) ≡ single_stand_in b ∷ [] = grind (arith, common_steps) in
    ap stand_in_of once ∙ again ∙ sym once

twice_is : (b : ℕ) (rest : List ℕ) → IsCharacter (b ∷ rest) → stand_in_of (stand_in b) ≡ stand_in b
twice_is b rest (inl fits) = single_twice b fits.1
twice_is b rest (inr (inl fits)) = let once = two_low b fits.0 fits.1 in ap stand_in_of once ∙ sym once
twice_is b rest (inr (inr (inl fits))) = let from = fits.0 in let to = fits.1 in let once = row_e0 b (omega (arith, from, to)) in ap stand_in_of once ∙ sym once
twice_is b rest (inr (inr (inr (inl fits)))) = let once = row_e1 b fits.0 fits.1 in ap stand_in_of once ∙ sym once
twice_is b rest (inr (inr (inr (inr (inl fits))))) = let from = fits.0 in let to = fits.1 in let once = row_ed b (omega (arith, from, to)) in ap stand_in_of once ∙ sym once
twice_is b rest (inr (inr (inr (inr (inr (inl fits)))))) = let once = row_ee b fits.0 fits.1 in ap stand_in_of once ∙ sym once
twice_is b rest (inr (inr (inr (inr (inr (inr (inl fits))))))) = let from = fits.0 in let to = fits.1 in let once = row_f0 b (omega (arith, from, to)) in ap stand_in_of once ∙ sym once
twice_is b rest (inr (inr (inr (inr (inr (inr (inr (inl fits)))))))) = let once = row_f1 b fits.0 fits.1 in ap stand_in_of once ∙ sym once
twice_is b rest (inr (inr (inr (inr (inr (inr (inr (inr (inl fits))))))))) = let from = fits.0 in let to = fits.1 in let once = row_f4 b (omega (arith, from, to)) in ap stand_in_of once ∙ sym once
twice_is b rest (inr (inr (inr (inr (inr (inr (inr (inr (inr none))))))))) = absurd none

character_twice : (character : List ℕ) → IsCharacter character → stand_in_of (stand_in_of character) ≡ stand_in_of character
character_twice [] fits = refl
character_twice (b ∷ rest) fits = twice_is b rest fits

all_fit : (characters : List (List ℕ)) → AllByRecursion IsCharacter characters → AllByRecursion IsCharacter (map stand_in_of characters)
all_fit [] each = tt
all_fit (c ∷ cs) each = (character_fits c each.0, all_fit cs each.1)

joined_is : (characters : List (List ℕ)) → concat (map stand_in_of characters) ≡ flat_map stand_in_of characters
joined_is [] = refl
joined_is (c ∷ cs) = ap (λ (bs : List ℕ). stand_in_of c ++ bs) (joined_is cs)

all_twice : (characters : List (List ℕ)) → AllByRecursion IsCharacter characters → flat_map stand_in_of (map stand_in_of characters) ≡ flat_map stand_in_of characters
all_twice [] each = refl
all_twice (c ∷ cs) each = λ i. character_twice c each.0 i ++ all_twice cs each.1 i

-- The stand-in of the first bytes, if there are any.
of_front : (bytes : List ℕ) (n : ℕ) → 0 < n → stand_in_of (take n bytes) ≡ stand_in_of bytes
of_front bytes zero some = absurd (omega (arith, some))
of_front [] (suc n) some = refl
of_front (b ∷ bytes) (suc n) some = refl

record BegunTwice (begun : List ℕ) : Type 0 where
  begins : BeginsCharacter (take (length begun) (stand_in_of begun))
  same : take (length (take (length begun) (stand_in_of begun))) (stand_in_of (take (length begun) (stand_in_of begun))) ≡ take (length begun) (stand_in_of begun)

begun_twice : (begun : List ℕ) → BeginsCharacter begun → BegunTwice begun
begun_twice [] begins = record { begins = none_begun; same = refl }
begun_twice (b ∷ bytes) begins =
    let n = suc (length bytes) in
    let whole = stand_in b in
    let fits : IsCharacter (b ∷ (bytes ++ begins.0)) = begins.1 in
    let size : length (stand_in b) ≡ length (b ∷ (bytes ++ begins.0)) = stand_in_length (b ∷ (bytes ++ begins.0)) fits in
    let few : n ≤ length whole = omega (arith, size, length-append bytes begins.0) in
    let count : length (take n whole) ≡ n = length-take-le n whole few in
    let front : stand_in_of (take n whole) ≡ whole = of_front whole n (omega arith) ∙ twice_is b (bytes ++ begins.0) fits in
    record {
      begins = (drop n whole, subst IsCharacter (sym (take-append-drop n whole)) (character_fits (b ∷ (bytes ++ begins.0)) fits));
      same = λ i. take (count i) (front i);
    }

-- Twice is once.
pub stood_twice : (text : List ℕ) → BeginsText text → stood [] (stood [] text) ≡ stood [] text
stood_twice text begins =
    let s = stood_is text begins in
    let b = begun_twice s.begun s.begins in
    let begun = take (length s.begun) (stand_in_of s.begun) in
    let it : IsRedactedText (stood [] text) (stood [] text) = record {
      characters = map stand_in_of s.characters;
      begun = begun;
      each = all_fit s.characters s.each;
      begins = b.begins;
      text_is = s.redacted_is ∙ ap (λ (bs : List ℕ). bs ++ begun) (sym (joined_is s.characters));
      redacted_is = s.redacted_is ∙ (λ i. sym (all_twice s.characters s.each) i ++ sym b.same i);
    } in
    sym (is_stood (stood [] text) (stood [] text) it)

-- ---- a payload

pub zeros_twice : (bytes : List ℕ) → zeros_for (zeros_for bytes) ≡ zeros_for bytes
zeros_twice [] = refl
zeros_twice (b ∷ bytes) = ap (λ (bs : List ℕ). 0 ∷ bs) (zeros_twice bytes)

-- A part of a text.
part_twice : (earlier part : List ℕ) → BeginsText (earlier ++ part) → stood (due_after [] (stood [] earlier)) (stood (due_after [] earlier) part) ≡ stood (due_after [] earlier) part
part_twice earlier part begins =
    let once = stood [] earlier in
    let more = stood (due_after [] earlier) part in
    let whole : stood [] (earlier ++ part) ≡ once ++ more = stood-append [] earlier part in
    let both : stood [] once ++ stood (due_after [] once) more ≡ once ++ more =
    sym (stood-append [] once more) ∙ ap (λ (bs : List ℕ). stood [] bs) (sym whole) ∙ stood_twice (earlier ++ part) begins ∙ whole in
    (fronts_agree (stood [] once) once (stood (due_after [] once) more) more (length-stood [] once) both).1

body_twice : (body : List ℕ) → BeginsText (drop 2 body) → take 2 (take 2 body ++ stood [] (drop 2 body)) ++ stood [] (drop 2 (take 2 body ++ stood [] (drop 2 body))) ≡ take 2 body ++ stood [] (drop 2 body)
body_twice body begins =
    let code = take 2 body in
    let reason = stood [] (drop 2 body) in
    elim (cases_lt (length body) 2) [
      | inl short ↦
          let none : drop 2 body ≡ [] = drop_all 2 body (omega (arith, short)) in
          let nothing : reason ≡ [] = ap (λ (bs : List ℕ). stood [] bs) none in
          let all : code ≡ body = take_all 2 body (omega (arith, short)) in
          let written : code ++ reason ≡ body = (λ i. all i ++ nothing i) ∙ append-nil body in
          (λ i. take 2 (written i) ++ stood [] (drop 2 (written i)))
      | inr long ↦
          let size : length code ≡ 2 = length-take-le 2 body long in
          let front : take 2 (code ++ reason) ≡ code = take_at code reason 2 size in
          let rest : drop 2 (code ++ reason) ≡ reason = drop_at code reason 2 size in
          (λ i. front i ++ stood [] (rest i)) ∙ ap (λ (bs : List ℕ). code ++ bs) (stood_twice (drop 2 body) begins)
    ]

data_twice : (c d : Bool) (earlier later payload : List ℕ) → d ≡ c → (c ≡ true → later ≡ stood [] earlier) → (c ≡ true → BeginsText (earlier ++ payload))
    → let once = (if c then stood (due_after [] earlier) payload else zeros_for payload) in (if d then stood (due_after [] later) once else zeros_for once) ≡ once
data_twice true true earlier later payload same text has = ap (λ (bs : List ℕ). stood (due_after [] bs) (stood (due_after [] earlier) payload)) (text refl) ∙ part_twice earlier payload (has refl)
data_twice false false earlier later payload same text has = zeros_twice payload
data_twice true false earlier later payload same text has = absurd cc
data_twice false true earlier later payload same text has = absurd cc

pub payload_twice : (group redacted : List Frame) (op : Op) (payload : List ℕ) → first_op redacted ≡ first_op group → (is_of_text group op ≡ true → payload_of redacted ≡ stood [] (payload_of group)) → HasText group op payload
    → redacted_payload redacted op (redacted_payload group op payload) ≡ redacted_payload group op payload
payload_twice group redacted Close payload first text has = body_twice payload has
payload_twice group redacted Continue payload first text has = data_twice (is_of_text group Continue) (is_of_text redacted Continue) (payload_of group) (payload_of redacted) payload (ap is_text first) text has
payload_twice group redacted Text payload first text has = data_twice true true (payload_of group) (payload_of redacted) payload refl text has
payload_twice group redacted _ payload first text has = zeros_twice payload
