-- Stand-ins as numbers, the first byte lowest.
use Rattle.std.proofs.Common.{◌≡◌, ℕ, zero, suc, ◌+◌, ◌*◌, ◌/◌, ◌%◌, ◌<◌, ◌≢◌, ◌&&◌, Bool, true, false, eqb, List, [], ◌∷◌, if◌then◌else◌, slice_index, drop, inl, inr, refl, sym, ap, ◌∙◌, subst, arith, eqb-true}
use Rattle.std.specs.Prelude.{◌==◌}
use Rattle.std.proofs.lemmas.Bool.{and_parts, cases_lt}
use Rattle.std.proofs.lemmas.Grind.{common_steps}
use lib.Lanes.{number_l}
use Rattle.wsn_redact.specs.declared.stand_ins.TheConstants.{STAND_INS}
use Rattle.wsn_print.specs.EscapedText.{is_from}
use Rattle.wsn_redact.specs.StandIns.{single_stand_in, stand_in, due_at}
use Rattle.wsn_redact.specs.Dues.{bytes_in}

-- ---- the table

abbrev is_listed : ℕ → Bool
is_listed n = eqb (slice_index STAND_INS n) (number_l 256 (stand_in n))

abbrev are_listed : ℕ → Bool
are_listed zero = true
are_listed (suc n) = is_listed n && are_listed n

listed_at : (n c : ℕ) → are_listed n ≡ true → c < n → is_listed c ≡ true
listed_at zero c h lt = absurd (omega arith)
listed_at (suc n) c h lt =
    let parts = and_parts (is_listed n) (are_listed n) h in
    elim (cases_lt c n) [
      | inl below ↦ listed_at n c parts.1 below
      | inr above ↦ let e : c ≡ n = omega arith in subst (λ (k : ℕ). is_listed k ≡ true) (sym e) parts.0
    ]

pub listed : (b : ℕ) → b < 256 → slice_index STAND_INS b ≡ number_l 256 (stand_in b)
listed b to = eqb-true _ _ (listed_at 256 b refl to)

-- ---- the bytes of a number

-- What is due of a stand-in after its first byte.
record IsBegun (bytes : List ℕ) : Type 0 where
  first : number_l 256 bytes % 256 ≡ slice_index bytes 0
  rest : bytes_in 4 (number_l 256 bytes / 256) ≡ drop 1 bytes

either : (P : List ℕ → Type 0) (c : Bool) (xs ys : List ℕ) → P xs → P ys → P (if c then xs else ys)
either P true xs ys one other = one
either P false xs ys one other = other

pub single_small : (b : ℕ) → b < 256 → single_stand_in b < 256
single_small b to = grind (arith, common_steps)

one_byte : (b : ℕ) → b < 256 → IsBegun (b ∷ [])
one_byte b to =
    let none : (b + 256 * 0) / 256 ≡ 0 = omega (arith, to) in
    record { first = omega (arith, to); rest = ap (λ (n : ℕ). bytes_in 4 n) none }

begun : (b : ℕ) → b < 256 → IsBegun (stand_in b)
begun b to =
    either IsBegun (is_from 0xC2 0xDF b) _ _ (record { first = refl; rest = refl })
    (either IsBegun (b == 0xE0) _ _ (record { first = refl; rest = refl })
    (either IsBegun (b == 0xED) _ _ (record { first = refl; rest = refl })
    (either IsBegun (is_from 0xE1 0xEF b) _ _ (record { first = refl; rest = refl })
    (either IsBegun (b == 0xF0) _ _ (record { first = refl; rest = refl })
    (either IsBegun (is_from 0xF1 0xF3 b) _ _ (record { first = refl; rest = refl })
    (either IsBegun (b == 0xF4) _ _ (record { first = refl; rest = refl }) (one_byte (single_stand_in b) (single_small b to))))))))

-- ---- the next byte

pub first_begun : (n m b : ℕ) → b < 256 → n ≡ 0 → m ≡ number_l 256 (stand_in b) → m % 256 ≡ slice_index (due_at (bytes_in 4 n) b) 0
first_begun n m b to none is =
    ap (λ (k : ℕ). k % 256) is ∙ (begun b to).first ∙ sym (ap (λ (k : ℕ). slice_index (due_at (bytes_in 4 k) b) 0) none)

pub rest_begun : (n m b : ℕ) → b < 256 → n ≡ 0 → m ≡ number_l 256 (stand_in b) → bytes_in 4 (m / 256) ≡ drop 1 (due_at (bytes_in 4 n) b)
rest_begun n m b to none is =
    ap (λ (k : ℕ). bytes_in 4 (k / 256)) is ∙ (begun b to).rest ∙ sym (ap (λ (k : ℕ). drop 1 (due_at (bytes_in 4 k) b)) none)

some_bytes : (most n : ℕ) → n ≢ 0 → bytes_in (suc most) n ≡ n % 256 ∷ bytes_in most (n / 256)
some_bytes most n some = go (n == 0) refl
  where
    go : (c : Bool) → (n == 0) ≡ c → bytes_in (suc most) n ≡ n % 256 ∷ bytes_in most (n / 256)
    go true is = absurd (some (eqb-true n 0 is))
    go false is = ap (λ (d : Bool). if d then [] else n % 256 ∷ bytes_in most (n / 256)) is

-- A number of three bytes has no fourth one.
three : (n : ℕ) → n < 16777216 → bytes_in 4 n ≡ bytes_in 3 n
three n small =
    let none : n / 256 / 256 / 256 ≡ 0 = omega (arith, small) in
    ap (λ (bs : List ℕ). if n == 0 then [] else n % 256 ∷ (if n / 256 == 0 then [] else n / 256 % 256 ∷ (if n / 256 / 256 == 0 then [] else n / 256 / 256 % 256 ∷ bs))) (ap (λ (k : ℕ). bytes_in 1 k) none)

pub rest_due : (n b : ℕ) → n ≢ 0 → n < 4294967296 → bytes_in 4 (n / 256) ≡ drop 1 (due_at (bytes_in 4 n) b)
rest_due n b some small =
    three (n / 256) (omega (arith, small)) ∙ sym (ap (λ (bs : List ℕ). drop 1 (due_at bs b)) (some_bytes 3 n some))

pub first_due : (n b : ℕ) → n ≢ 0 → n % 256 ≡ slice_index (due_at (bytes_in 4 n) b) 0
first_due n b some = sym (ap (λ (bs : List ℕ). slice_index (due_at bs b) 0) (some_bytes 3 n some))
