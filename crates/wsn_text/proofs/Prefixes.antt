-- Prefixes of bytes that begin text, and the first bad byte of bytes that don't.
use Rattle.std.proofs.Common.{◌≡◌, ℕ, zero, suc, ◌+◌, ◌<◌, ◌≤◌, ◌⊎◌, List, [], ◌∷◌, ◌++◌, length, take, drop, inl, inr, sym, subst, append_assoc, append-nil, add-one, arith}
use Rattle.std.proofs.Math.Seq.{take-length}
use Rattle.std.proofs.lemmas.Bool.{cases_lt}
use Rattle.std.proofs.lemmas.List.{take-append-drop, take-append-le, take-take, length-append}
use Rattle.std.specs.List.{AllByRecursion, concat}
use Rattle.wsn_text.specs.Utf8.{IsCharacter, IsText, BeginsText, IsFirstBad}
use Rattle.wsn_text.proofs.Rests.{text-nil, text_push}
use Rattle.wsn_text.proofs.Decide.{begins_decided}

joined : (characters : List (List ℕ)) → AllByRecursion IsCharacter characters → (bytes : List ℕ) → IsText bytes → IsText (concat characters ++ bytes)
joined [] each bytes text = text
joined (character ∷ characters) each bytes text =
    subst IsText (sym (append_assoc character (concat characters) bytes)) (text_push character (concat characters ++ bytes) each.0 (joined characters each.1 bytes text))

pub text-append : (front back : List ℕ) → IsText front → IsText back → IsText (front ++ back)
text-append front back text following = subst (λ (bytes : List ℕ). IsText (bytes ++ back)) (sym text.whole) (joined text.characters text.each back following)

pub text_begins : (bytes : List ℕ) → IsText bytes → BeginsText bytes
text_begins bytes text = record { more = []; text = subst IsText (sym (append-nil bytes)) text }

pub begins-nil : BeginsText []
begins-nil = text_begins [] text-nil

pub begins-append : (front back : List ℕ) → IsText front → BeginsText back → BeginsText (front ++ back)
begins-append front back text begins =
    record { more = begins.more; text = subst IsText (sym (append_assoc front back begins.more)) (text-append front (back ++ begins.more) text begins.text) }

pub begins_front : (front back : List ℕ) → BeginsText (front ++ back) → BeginsText front
begins_front front back begins = record { more = back ++ begins.more; text = subst IsText (append_assoc front back begins.more) begins.text }

pub begins_take : (n : ℕ) (bytes : List ℕ) → BeginsText bytes → BeginsText (take n bytes)
begins_take n bytes begins = begins_front (take n bytes) (drop n bytes) (subst BeginsText (sym (take-append-drop n bytes)) begins)

-- A prefix of a prefix.
pub begins_shorter : (m n : ℕ) (bytes : List ℕ) → m ≤ n → BeginsText (take n bytes) → BeginsText (take m bytes)
begins_shorter m n bytes le begins = subst BeginsText (take-take m n bytes le) (begins_take m (take n bytes) begins)

-- Bytes with a first bad byte don't begin text, whatever follows them.

pub bad_ends : (bytes : List ℕ) (i : ℕ) → IsFirstBad bytes i → ¬ (BeginsText bytes)
bad_ends bytes i first begins = first.bad (begins_take (i + 1) bytes begins)

pub first_bad-append : (front back : List ℕ) (i : ℕ) → IsFirstBad front i → IsFirstBad (front ++ back) i
first_bad-append front back i first =
    let within : i < length front = first.within in
    record {
      within = omega (arith, length-append front back);
      bad = λ begins. first.bad (subst BeginsText (take-append-le (i + 1) front back (omega arith)) begins);
      least = λ j less. subst BeginsText (sym (take-append-le (j + 1) front back (omega arith))) (first.least j less);
    }

pub first_bad_front : (front back : List ℕ) (i : ℕ) → i < length front → IsFirstBad (front ++ back) i → IsFirstBad front i
first_bad_front front back i within first =
    record {
      within = within;
      bad = λ begins. first.bad (subst BeginsText (sym (take-append-le (i + 1) front back (omega arith))) begins);
      least = λ j less. subst BeginsText (take-append-le (j + 1) front back (omega arith)) (first.least j less);
    }

pub first_bad_unique : (bytes : List ℕ) (i j : ℕ) → IsFirstBad bytes i → IsFirstBad bytes j → i ≡ j
first_bad_unique bytes i j first other =
    elim (cases_lt i j) [
      | inl less ↦ absurd (first.bad (other.least i less))
      | inr le ↦ elim (cases_lt j i) [ inl more ↦ absurd (other.bad (first.least j more)) | inr same ↦ omega arith ]
    ]

unfoldable pub begins_or_bad : (bytes : List ℕ) (n : ℕ) → n ≤ length bytes → BeginsText (take n bytes) ⊎ ((i : ℕ) × (i < n) × IsFirstBad bytes i)
begins_or_bad bytes zero le = inl begins-nil
begins_or_bad bytes (suc n) le =
    elim (begins_or_bad bytes n (omega arith)) [
      | inr first ↦ inr (first.0, omega (arith, first.1), first.2)
      | inl begins ↦ elim (begins_decided (take (n + 1) bytes)) [
        | inl longer ↦ inl (rw (← (add-one n)) longer)
        | inr bad ↦ inr (n, omega arith, record { within = omega arith; bad = bad; least = λ j less. begins_shorter (j + 1) n bytes (omega arith) begins })
      ]
    ]

unfoldable pub begins_or_first_bad : (bytes : List ℕ) → BeginsText bytes ⊎ ((i : ℕ) × IsFirstBad bytes i)
begins_or_first_bad bytes =
    elim (begins_or_bad bytes (length bytes) (omega arith)) [ inl begins ↦ inl (subst BeginsText (take-length bytes) begins) | inr bad ↦ inr (bad.0, bad.2) ]
