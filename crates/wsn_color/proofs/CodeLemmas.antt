-- A text without codes, in parts.
use Rattle.std.proofs.Common.{◌≡◌, ◌≢◌, ℕ, ◌==◌, Bool, true, false, not, ◌&&◌, List, [], ◌∷◌, ◌++◌, refl, sym, ap, ◌∙◌, append_assoc}
use Rattle.std.proofs.lemmas.Bool.{ne_eqb}
use Rattle.wsn_color.specs.Codes.{HasNoEscape, IsComplete, IsInWords, added_with, begun_after, begun_with, colored_after, colored_with, has_plain_ends, is_in_word, without_after, without_codes}

pub without_after-append : (begun xs ys : List ℕ) →
    without_after begun (xs ++ ys) ≡ without_after begun xs ++ without_after (begun_after begun xs) ys
without_after-append begun [] ys = refl
without_after-append begun (x ∷ xs) ys =
    ap (λ (text : List ℕ). added_with begun x ++ text) (without_after-append (begun_with begun x) xs ys)
    ∙ sym (append_assoc (added_with begun x) (without_after (begun_with begun x) xs) (without_after (begun_after begun (x ∷ xs)) ys))

pub begun_after-append : (begun xs ys : List ℕ) → begun_after begun (xs ++ ys) ≡ begun_after (begun_after begun xs) ys
begun_after-append begun [] ys = refl
begun_after-append begun (x ∷ xs) ys = begun_after-append (begun_with begun x) xs ys

-- The text without codes after a text whose codes are complete.
pub without_codes-append : (xs ys : List ℕ) → IsComplete xs → without_codes (xs ++ ys) ≡ without_codes xs ++ without_codes ys
without_codes-append xs ys complete =
    without_after-append [] xs ys ∙ ap (λ (begun : List ℕ). without_codes xs ++ without_after begun ys) complete

pub complete-append : (xs ys : List ℕ) → IsComplete xs → IsComplete ys → IsComplete (xs ++ ys)
complete-append xs ys one two = begun_after-append [] xs ys ∙ ap (λ (begun : List ℕ). begun_after begun ys) one ∙ two

-- ---- colours

pub colored_after-append : (colored : Bool) (begun xs ys : List ℕ) →
    colored_after colored begun (xs ++ ys) ≡ colored_after (colored_after colored begun xs) (begun_after begun xs) ys
colored_after-append colored begun [] ys = refl
colored_after-append colored begun (x ∷ xs) ys = colored_after-append (colored_with colored begun x) (begun_with begun x) xs ys

pub both : (a b c : Bool) → a ≡ true → (b && c) ≡ true → (b ≡ true) × (c ≡ true)
both a true c e h = (refl, h)
both a false c e h = absurd cc

pub and_true : (a b : Bool) → a ≡ true → b ≡ true → (a && b) ≡ true
and_true a b p q = rw (p, q) refl

pub has_plain_ends-append : (colored : Bool) (begun xs ys : List ℕ) → has_plain_ends colored begun xs ≡ true
    → has_plain_ends (colored_after colored begun xs) (begun_after begun xs) ys ≡ true → has_plain_ends colored begun (xs ++ ys) ≡ true
has_plain_ends-append colored begun [] ys one two = two
has_plain_ends-append colored begun (x ∷ xs) ys one two =
    let parts = both true (not (x == 10 && colored)) (has_plain_ends (colored_with colored begun x) (begun_with begun x) xs) refl one in
    and_true _ _ parts.0 (has_plain_ends-append (colored_with colored begun x) (begun_with begun x) xs ys parts.1 two)

-- ---- bytes of words

-- One more byte that isn't ESC.
pub no_escape-more : (xs : List ℕ) (b : ℕ) → HasNoEscape xs → b ≢ 27 → HasNoEscape (xs ++ b ∷ [])
no_escape-more [] b h other = and_true (not (b == 27)) true (ap not (ne_eqb b 27 other)) refl
no_escape-more (x ∷ xs) b h other =
    let parts = both true (not (x == 27)) _ refl h in
    and_true (not (x == 27)) _ parts.0 (no_escape-more xs b parts.1 other)

-- One more byte that is in words.
pub in_words-more : (xs : List ℕ) (b : ℕ) → IsInWords xs → (b == 27) ≡ false → (b == 10) ≡ false → IsInWords (xs ++ b ∷ [])
in_words-more [] b h escape lf = rw (escape, lf) refl
in_words-more (x ∷ xs) b h escape lf =
    let parts = both true (is_in_word x) _ refl h in
    and_true (is_in_word x) _ parts.0 (in_words-more xs b parts.1 escape lf)

in_word : (b : Bool) (c : Bool) (rest : Bool) → ((not b && not c) && rest) ≡ true → (b ≡ false) × (c ≡ false) × (rest ≡ true)
in_word true c rest h = absurd cc
in_word false true rest h = absurd cc
in_word false false rest h = (refl, refl, h)

-- A byte that isn't ESC is no part of a code.
pub added-plain : (x : ℕ) → (x == 27) ≡ false → (added_with [] x ≡ x ∷ []) × (begun_with [] x ≡ [])
added-plain x other = (rw other refl, rw other refl)

-- Bytes of words are text that is coloured as what comes before it.
pub record IsWord (xs : List ℕ) : Type 0 where
  pub without : without_codes xs ≡ xs
  pub complete : IsComplete xs
  pub next : (colored : Bool) → colored_after colored [] xs ≡ colored
  pub ends : (colored : Bool) → has_plain_ends colored [] xs ≡ true

pub is_word : (xs : List ℕ) → IsInWords xs → IsWord xs
is_word [] h = record { without = refl; complete = refl; next = λ colored. refl; ends = λ colored. refl }
is_word (x ∷ xs) h =
    let parts = in_word (x == 27) (x == 10) _ h in
    let here = added-plain x parts.0 in
    let rest = is_word xs parts.2 in
    record {
      without =
          ap (λ (begun : List ℕ). added_with [] x ++ without_after begun xs) here.1
          ∙ ap (λ (added : List ℕ). added ++ without_codes xs) here.0 ∙ ap (λ (text : List ℕ). x ∷ text) rest.without;
      complete = ap (λ (begun : List ℕ). begun_after begun xs) here.1 ∙ rest.complete;
      next = λ colored. ap (λ (begun : List ℕ). colored_after colored begun xs) here.1 ∙ rest.next colored;
      ends = λ colored. and_true _ _ (ap (λ (b : Bool). not (b && colored)) parts.1)
          (ap (λ (begun : List ℕ). has_plain_ends colored begun xs) here.1 ∙ rest.ends colored);
    }
