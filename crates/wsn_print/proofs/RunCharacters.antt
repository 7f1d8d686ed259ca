-- Where the hidden characters are in UTF-8.
use Rattle.std.proofs.Common.{◌≡◌, ℕ, ◌+◌, ◌*◌, ◌/◌, ◌%◌, ◌<◌, ◌≤◌, Bool, true, false, ◌&&◌, inl, inr, refl, sym, ap, ◌∙◌, arith}
use Rattle.std.specs.Prelude.{nat_le, nat_lt, Option, None, Some, List, length, get_or, IfSome, if◌then◌else◌}
use Rattle.std.proofs.lemmas.Bool.{cases_Bool, cases_lt, and_parts}
use Rattle.std.proofs.lemmas.Bool.Decides.{nat_tests}
use Rattle.std.proofs.lemmas.List.{get_or_past}
use Rattle.wsn_print.specs.EscapedText.{is_continuation, is_from, is_hidden}
use Rattle.wsn_print.specs.Runs.{class_of, hidden_from, hidden_of}
use Rattle.wsn_print.proofs.HiddenRanges.{from_is, from_low, from_high, hidden_scalar, of_one_byte, of_two_bytes, of_three_bytes, of_four_bytes}

-- The hidden character that c is, with some bytes after its first; none, if it isn't hidden.
abbrev pub hidden_in : ℕ → ℕ → Option (ℕ × ℕ)
hidden_in c more = if is_hidden c then Some (c, more) else None

-- ---- the four forms of a character

abbrev pub two : ℕ → ℕ → ℕ
two b second = b % 32 * 64 + second % 64

abbrev pub three : ℕ → ℕ → ℕ → ℕ
three b second third = (b % 16 * 64 + second % 64) * 64 + third % 64

abbrev pub four : ℕ → ℕ → ℕ → ℕ → ℕ
four b second third fourth = ((b % 8 * 64 + second % 64) * 64 + third % 64) * 64 + fourth % 64

both : (a b : Bool) → a ≡ true → b ≡ true → (a && b) ≡ true
both true b one two = two
both false b one two = absurd cc

not_both : (a b : Bool) → a ≡ false → (a && b) ≡ false
not_both true b isnt = absurd cc
not_both false b isnt = refl

from_isnt : (low high c : ℕ) → (low ≤ c → c ≤ high → ⊥) → is_from low high c ≡ false
from_isnt low high c isnt = elim (cases_Bool (is_from low high c)) [
  | inl is ↦ absurd (isnt (from_low low high c is) (from_high low high c is))
  | inr other ↦ other
]

small : (b : ℕ) → b < 128 → nat_lt b 0x80 ≡ true
small b is = grind (arith, nat_tests)

large : (b : ℕ) → 128 ≤ b → nat_lt b 0x80 ≡ false
large b is = grind (arith, nat_tests)

is_small : (b : ℕ) → nat_lt b 0x80 ≡ true → b < 0x80
is_small b is = grind (arith, nat_tests)

continues : (b : ℕ) → 128 ≤ b → b < 192 → is_continuation b ≡ true
continues b low high = from_is 0x80 0xbf b low (omega arith)

least_passes : (least c : ℕ) → least ≤ c → nat_le least c ≡ true
least_passes least c is = grind (arith, nat_tests)

least_is : (least c : ℕ) → nat_le least c ≡ true → least ≤ c
least_is least c is = grind (arith, nat_tests)

from_least : (least c more : ℕ) → least ≤ c → hidden_from least c more ≡ hidden_in c more
from_least least c more is = ap (λ (passes : Bool). if passes && is_hidden c then Some (c, more) else None) (least_passes least c is)

lacks : (a b : Bool) → b ≡ false → (a && b) ≡ false
lacks true b isnt = isnt
lacks false b isnt = refl

first_form : (a : Bool) (w x : Option (ℕ × ℕ)) → a ≡ true → (if a then w else x) ≡ w
first_form true w x is = refl
first_form false w x is = absurd cc

second_form : (a b : Bool) (w x y : Option (ℕ × ℕ)) → a ≡ false → b ≡ true → (if a then w else if b then x else y) ≡ x
second_form true b w x y one is = absurd cc
second_form false true w x y one is = refl
second_form false false w x y one is = absurd cc

furtherform : (a b c : Bool) (w x y z : Option (ℕ × ℕ)) → a ≡ false → b ≡ false → c ≡ true → (if a then w else if b then x else if c then y else z) ≡ y
furtherform true b c w x y z one another is = absurd cc
furtherform false true c w x y z one another is = absurd cc
furtherform false false true w x y z one another is = refl
furtherform false false false w x y z one another is = absurd cc

fourth_form : (a b c d : Bool) (v w x y z : Option (ℕ × ℕ)) → a ≡ false → b ≡ false → c ≡ false → d ≡ true
    → (if a then v else if b then w else if c then x else if d then y else z) ≡ y
fourth_form true b c d v w x y z one another further is = absurd cc
fourth_form false true c d v w x y z one another further is = absurd cc
fourth_form false false true d v w x y z one another further is = absurd cc
fourth_form false false false true v w x y z one another further is = refl
fourth_form false false false false v w x y z one another further is = absurd cc

no_form : (a b c d : Bool) (v w x y : Option (ℕ × ℕ)) → a ≡ false → b ≡ false → c ≡ false → d ≡ false
    → (if a then v else if b then w else if c then x else if d then y else None) ≡ None
no_form true b c d v w x y one another further last = absurd cc
no_form false true c d v w x y one another further last = absurd cc
no_form false false true d v w x y one another further last = absurd cc
no_form false false false true v w x y one another further last = absurd cc
no_form false false false false v w x y one another further last = refl

-- whichever form it is, what follows of it
by_form : (P : Option (ℕ × ℕ) → Type 0) (a b c d : Bool) (v w x y : Option (ℕ × ℕ)) → (a ≡ true → P v) → (b ≡ true → P w) → (c ≡ true → P x) → (d ≡ true → P y) → P None
    → P (if a then v else if b then w else if c then x else if d then y else None)
by_form P true b c d v w x y first second third fourth none = first refl
by_form P false true c d v w x y first second third fourth none = second refl
by_form P false false true d v w x y first second third fourth none = third refl
by_form P false false false true v w x y first second third fourth none = fourth refl
by_form P false false false false v w x y first second third fourth none = none

-- ---- the character that is encoded

pub in_one_byte : (c second third fourth : ℕ) → c < 128 → hidden_of c second third fourth ≡ hidden_in c 0
in_one_byte c second third fourth low =
    first_form _ (hidden_from 0 c 0) _ (small c low) ∙ from_least 0 c 0 (omega arith)

pub in_two_bytes : (c third fourth : ℕ) → 128 ≤ c → c < 2048 → hidden_of (192 + c / 64) (128 + c % 64) third fourth ≡ hidden_in c 1
in_two_bytes c third fourth low high =
    let b : ℕ = 192 + c / 64 in
    let s : ℕ = 128 + c % 64 in
    let is : two b s ≡ c = omega arith in
    second_form _ _ _ (hidden_from 0x80 (two b s) 1) _ (large b (omega arith)) (both _ _ (from_is 0xc2 0xdf b (omega arith) (omega arith)) (continues s (omega arith) (omega arith)))
    ∙ ap (λ (n : ℕ). hidden_from 0x80 n 1) is ∙ from_least 0x80 c 1 low

pub in_three_bytes : (c fourth : ℕ) → 2048 ≤ c → c < 65536
    → hidden_of (224 + c / 4096) (128 + c / 64 % 64) (128 + c % 64) fourth ≡ hidden_in c 2
in_three_bytes c fourth low high =
    let b : ℕ = 224 + c / 4096 in
    let s : ℕ = 128 + c / 64 % 64 in
    let t : ℕ = 128 + c % 64 in
    let is : three b s t ≡ c = omega arith in
    furtherform _ _ _ _ _ (hidden_from 0x800 (three b s t) 2) _ (large b (omega arith)) (not_both _ _ (from_isnt 0xc2 0xdf b (λ least most. omega arith)))
    (both _ _ (from_is 0xe0 0xef b (omega arith) (omega arith)) (both _ _ (continues s (omega arith) (omega arith)) (continues t (omega arith) (omega arith))))
    ∙ ap (λ (n : ℕ). hidden_from 0x800 n 2) is ∙ from_least 0x800 c 2 low

beyond_all : (c more : ℕ) → 0x110000 ≤ c → hidden_in c more ≡ None
beyond_all c more high = elim (cases_Bool (is_hidden c)) [
  | inl hidden ↦ absurd (omega (arith, (hidden_scalar c hidden).1))
  | inr isnt ↦ ap (λ (yes : Bool). if yes then Some (c, more) else None) isnt
]

pub in_four_bytes : (c : ℕ) → 65536 ≤ c
    → hidden_of (240 + c / 262144) (128 + c / 4096 % 64) (128 + c / 64 % 64) (128 + c % 64) ≡ hidden_in c 3
in_four_bytes c low =
    let b : ℕ = 240 + c / 262144 in
    let s : ℕ = 128 + c / 4096 % 64 in
    let t : ℕ = 128 + c / 64 % 64 in
    let u : ℕ = 128 + c % 64 in
    let one = large b (omega arith) in
    let another = not_both _ (is_continuation s) (from_isnt 0xc2 0xdf b (λ least most. omega arith)) in
    let third = not_both _ (is_continuation s && is_continuation t) (from_isnt 0xe0 0xef b (λ least most. omega arith)) in
    elim (cases_lt c 0x140000) [
      | inl small ↦
          let is : four b s t u ≡ c = omega arith in
          fourth_form _ _ _ _ _ _ _ (hidden_from 0x10000 (four b s t u) 3) _ one another third
          (both _ _ (from_is 0xf0 0xf4 b (omega arith) (omega arith)) (both _ _ (continues s (omega arith) (omega arith)) (both _ _ (continues t (omega arith) (omega arith)) (continues u (omega arith) (omega arith)))))
          ∙ ap (λ (n : ℕ). hidden_from 0x10000 n 3) is ∙ from_least 0x10000 c 3 low
      | inr beyond ↦
          no_form _ _ _ _ _ _ _ _ one another third (not_both _ _ (from_isnt 0xf0 0xf4 b (λ least most. omega arith)))
          ∙ sym (beyond_all c 3 (omega arith))
    ]

-- A byte that continues a character begins none.
pub none_in_continuation : (b second third fourth : ℕ) → 128 ≤ b → b < 192 → hidden_of b second third fourth ≡ None
none_in_continuation b second third fourth low high =
    no_form _ _ _ _ (hidden_from 0 b 0) (hidden_from 0x80 (two b second) 1) (hidden_from 0x800 (three b second third) 2) (hidden_from 0x10000 (four b second third fourth) 3)
    (large b low) (not_both _ _ (from_isnt 0xc2 0xdf b (λ least most. omega arith))) (not_both _ _ (from_isnt 0xe0 0xef b (λ least most. omega arith))) (not_both _ _ (from_isnt 0xf0 0xf4 b (λ least most. omega arith)))

-- ---- no character is hidden that begins with two bytes of no class

not_hidden : (least c more : ℕ) → (least ≤ c → is_hidden c ≡ true → ⊥) → hidden_from least c more ≡ None
not_hidden least c more isnt = elim (cases_Bool (nat_le least c && is_hidden c)) [
  | inl is ↦
      let parts = and_parts (nat_le least c) (is_hidden c) is in
      absurd (isnt (least_is least c parts.0) parts.1)
  | inr other ↦ ap (λ (yes : Bool). if yes then Some (c, more) else None) other
]

no_two : (b second : ℕ) → (is_from 0xc2 0xdf b && is_continuation second) ≡ true → class_of b second ≡ 0 → hidden_from 0x80 (two b second) 1 ≡ None
no_two b second is none =
    let parts = and_parts (is_from 0xc2 0xdf b) (is_continuation second) is in
    let low : 0xc2 ≤ b = from_low 0xc2 0xdf b parts.0 in
    let high : b ≤ 0xdf = from_high 0xc2 0xdf b parts.0 in
    let s_low : 0x80 ≤ second = from_low 0x80 0xbf second parts.1 in
    let s_high : second ≤ 0xbf = from_high 0x80 0xbf second parts.1 in
    let c : ℕ = two b second in
    let first_is : b ≡ 192 + c / 64 = omega arith in
    let second_is : second ≡ 128 + c % 64 = omega arith in
    not_hidden 0x80 c 1 (λ least hidden. of_two_bytes c least (omega arith) hidden (sym (ap (λ (n : ℕ). class_of n second) first_is ∙ ap (class_of (192 + c / 64)) second_is) ∙ none))

no_three : (b second third : ℕ) → (is_from 0xe0 0xef b && (is_continuation second && is_continuation third)) ≡ true → class_of b second ≡ 0
    → hidden_from 0x800 (three b second third) 2 ≡ None
no_three b second third is none =
    let parts = and_parts (is_from 0xe0 0xef b) (is_continuation second && is_continuation third) is in
    let more = and_parts (is_continuation second) (is_continuation third) parts.1 in
    let low : 0xe0 ≤ b = from_low 0xe0 0xef b parts.0 in
    let high : b ≤ 0xef = from_high 0xe0 0xef b parts.0 in
    let s_low : 0x80 ≤ second = from_low 0x80 0xbf second more.0 in
    let s_high : second ≤ 0xbf = from_high 0x80 0xbf second more.0 in
    let c : ℕ = three b second third in
    let first_is : b ≡ 224 + c / 64 / 64 = omega arith in
    let second_is : second ≡ 128 + c / 64 % 64 = omega arith in
    not_hidden 0x800 c 2 (λ least hidden. of_three_bytes c least (omega arith) hidden (sym (ap (λ (n : ℕ). class_of n second) first_is ∙ ap (class_of (224 + c / 64 / 64)) second_is) ∙ none))

no_four : (b second third fourth : ℕ) → (is_from 0xf0 0xf4 b && (is_continuation second && (is_continuation third && is_continuation fourth))) ≡ true
    → class_of b second ≡ 0 → hidden_from 0x10000 (four b second third fourth) 3 ≡ None
no_four b second third fourth is none =
    let parts = and_parts (is_from 0xf0 0xf4 b) (is_continuation second && (is_continuation third && is_continuation fourth)) is in
    let more = and_parts (is_continuation second) (is_continuation third && is_continuation fourth) parts.1 in
    let low : 0xf0 ≤ b = from_low 0xf0 0xf4 b parts.0 in
    let high : b ≤ 0xf4 = from_high 0xf0 0xf4 b parts.0 in
    let s_low : 0x80 ≤ second = from_low 0x80 0xbf second more.0 in
    let s_high : second ≤ 0xbf = from_high 0x80 0xbf second more.0 in
    let c : ℕ = four b second third fourth in
    let first_is : b ≡ 240 + c / 4096 / 64 = omega arith in
    let second_is : second ≡ 128 + c / 4096 % 64 = omega arith in
    not_hidden 0x10000 c 3 (λ least hidden. of_four_bytes c least hidden (sym (ap (λ (n : ℕ). class_of n second) first_is ∙ ap (class_of (240 + c / 4096 / 64)) second_is) ∙ none))

pub none_hidden : (b second third fourth : ℕ) → class_of b second ≡ 0 → hidden_of b second third fourth ≡ None
none_hidden b second third fourth none =
    by_form (λ hidden. hidden ≡ None) (nat_lt b 0x80) (is_from 0xc2 0xdf b && is_continuation second) (is_from 0xe0 0xef b && (is_continuation second && is_continuation third))
    (is_from 0xf0 0xf4 b && (is_continuation second && (is_continuation third && is_continuation fourth)))
    (hidden_from 0 b 0) (hidden_from 0x80 (two b second) 1) (hidden_from 0x800 (three b second third) 2) (hidden_from 0x10000 (four b second third fourth) 3)
    (λ is. not_hidden 0 b 0 (λ least hidden. of_one_byte b second (is_small b is) hidden none))
    (λ is. no_two b second is none) (λ is. no_three b second third is none) (λ is. no_four b second third fourth is none) refl

-- ---- a hidden character that begins a text

same_pair : (found other : ℕ × ℕ) → Some found ≡ Some other → (found.0 ≡ other.0) × (found.1 ≡ other.1)
same_pair found other same =
    let is : found ≡ other = cc in
    (ap (λ (pair : ℕ × ℕ). pair.0) is, ap (λ (pair : ℕ × ℕ). pair.1) is)

none_or_some : (found : ℕ × ℕ) → None ≡ Some found → ⊥
none_or_some found same = cc

which : (least n m c more : ℕ) → hidden_from least n m ≡ Some (c, more) → (n ≡ c) × (m ≡ more) × (is_hidden n ≡ true)
which least n m c more is = elim (cases_Bool (nat_le least n && is_hidden n)) [
  | inl hidden ↦
      let same = same_pair (n, m) (c, more) (sym (ap (λ (yes : Bool). if yes then Some (n, m) else None) hidden) ∙ is) in
      (same.0, same.1, (and_parts (nat_le least n) (is_hidden n) hidden).1)
  | inr other ↦ absurd (none_or_some (c, more) (sym (ap (λ (yes : Bool). if yes then Some (n, m) else None) other) ∙ is))
]

character : (least n m c more : ℕ) → hidden_from least n m ≡ Some (c, more) → c < 0x110000
character least n m c more is =
    let found = which least n m c more is in
    omega (arith, found.0, (hidden_scalar n found.2).1)

-- It is one of Unicode.
pub hidden_number : (b second third fourth c more : ℕ) → hidden_of b second third fourth ≡ Some (c, more) → c < 0x110000
hidden_number b second third fourth c more =
    by_form (λ hidden. hidden ≡ Some (c, more) → c < 0x110000) (nat_lt b 0x80) (is_from 0xc2 0xdf b && is_continuation second) (is_from 0xe0 0xef b && (is_continuation second && is_continuation third))
    (is_from 0xf0 0xf4 b && (is_continuation second && (is_continuation third && is_continuation fourth)))
    (hidden_from 0 b 0) (hidden_from 0x80 (two b second) 1) (hidden_from 0x800 (three b second third) 2) (hidden_from 0x10000 (four b second third fourth) 3)
    (λ test is. character 0 b 0 c more is) (λ test is. character 0x80 (two b second) 1 c more is) (λ test is. character 0x800 (three b second third) 2 c more is)
    (λ test is. character 0x10000 (four b second third fourth) 3 c more is) (λ is. absurd (none_or_some (c, more) is))

is_there : (text : List ℕ) (i : ℕ) → is_continuation (get_or text i 0) ≡ true → i < length text
is_there text i is = elim (cases_lt i (length text)) [
  | inl within ↦ within
  | inr past ↦ absurd (omega (arith, get_or_past text i 0 past, from_low 0x80 0xbf (get_or text i 0) is))
]

-- The text has all its bytes.
pub hidden_within : (text : List ℕ) (c more : ℕ) → 0 < length text
    → hidden_of (get_or text 0 0) (get_or text 1 0) (get_or text 2 0) (get_or text 3 0) ≡ Some (c, more) → more < length text
hidden_within text c more some =
    let b : ℕ = get_or text 0 0 in
    let second : ℕ = get_or text 1 0 in
    let third : ℕ = get_or text 2 0 in
    let fourth : ℕ = get_or text 3 0 in
    by_form (λ hidden. hidden ≡ Some (c, more) → more < length text) (nat_lt b 0x80) (is_from 0xc2 0xdf b && is_continuation second) (is_from 0xe0 0xef b && (is_continuation second && is_continuation third))
    (is_from 0xf0 0xf4 b && (is_continuation second && (is_continuation third && is_continuation fourth)))
    (hidden_from 0 b 0) (hidden_from 0x80 (two b second) 1) (hidden_from 0x800 (three b second third) 2) (hidden_from 0x10000 (four b second third fourth) 3)
    (λ test is. omega (arith, some, (which 0 b 0 c more is).1))
    (λ test is. omega (arith, is_there text 1 (and_parts (is_from 0xc2 0xdf b) (is_continuation second) test).1, (which 0x80 (two b second) 1 c more is).1))
    (λ test is.
    let parts = and_parts (is_from 0xe0 0xef b) (is_continuation second && is_continuation third) test in
    omega (arith, is_there text 2 (and_parts (is_continuation second) (is_continuation third) parts.1).1, (which 0x800 (three b second third) 2 c more is).1))
    (λ test is.
    let parts = and_parts (is_from 0xf0 0xf4 b) (is_continuation second && (is_continuation third && is_continuation fourth)) test in
    let more_parts = and_parts (is_continuation second) (is_continuation third && is_continuation fourth) parts.1 in
    omega (arith, is_there text 3 (and_parts (is_continuation third) (is_continuation fourth) more_parts.1).1, (which 0x10000 (four b second third fourth) 3 c more is).1))
    (λ is. absurd (none_or_some (c, more) is))

pub found_within : (text : List ℕ) (found : Option (ℕ × ℕ)) → 0 < length text
    → found ≡ hidden_of (get_or text 0 0) (get_or text 1 0) (get_or text 2 0) (get_or text 3 0) → IfSome found (λ hidden. hidden.1 < length text)
found_within text None some is = tt
found_within text (Some hidden) some is = hidden_within text hidden.0 hidden.1 some (sym is)

pub found_character : (b second third fourth : ℕ) (found : Option (ℕ × ℕ)) → found ≡ hidden_of b second third fourth → IfSome found (λ hidden. hidden.0 < 0x110000)
found_character b second third fourth None is = tt
found_character b second third fourth (Some hidden) is = hidden_number b second third fourth hidden.0 hidden.1 (sym is)

-- ---- by the bytes that begin the text

pub of_one : (b second third fourth : ℕ) → b < 0x80 → hidden_of b second third fourth ≡ hidden_from 0 b 0
of_one b second third fourth low = first_form _ (hidden_from 0 b 0) _ (small b low)

pub of_two : (b second third fourth : ℕ) → 0xc2 ≤ b → b ≤ 0xdf → is_continuation second ≡ true → hidden_of b second third fourth ≡ hidden_from 0x80 (two b second) 1
of_two b second third fourth low high one =
    second_form _ _ _ (hidden_from 0x80 (two b second) 1) _ (large b (omega arith)) (both _ _ (from_is 0xc2 0xdf b low high) one)

pub of_three : (b second third fourth : ℕ) → 0xe0 ≤ b → b ≤ 0xef → is_continuation second ≡ true → is_continuation third ≡ true
    → hidden_of b second third fourth ≡ hidden_from 0x800 (three b second third) 2
of_three b second third fourth low high one also =
    furtherform (nat_lt b 0x80) (is_from 0xc2 0xdf b && is_continuation second) (is_from 0xe0 0xef b && (is_continuation second && is_continuation third))
    (hidden_from 0 b 0) (hidden_from 0x80 (two b second) 1) (hidden_from 0x800 (three b second third) 2)
    (if is_from 0xf0 0xf4 b && (is_continuation second && (is_continuation third && is_continuation fourth)) then hidden_from 0x10000 (four b second third fourth) 3 else None)
    (large b (omega arith)) (not_both _ _ (from_isnt 0xc2 0xdf b (λ least most. omega arith))) (both _ _ (from_is 0xe0 0xef b low high) (both _ _ one also))

pub of_four : (b second third fourth : ℕ) → 0xf0 ≤ b → b ≤ 0xf4 → is_continuation second ≡ true → is_continuation third ≡ true → is_continuation fourth ≡ true
    → hidden_of b second third fourth ≡ hidden_from 0x10000 (four b second third fourth) 3
of_four b second third fourth low high one also last =
    fourth_form (nat_lt b 0x80) (is_from 0xc2 0xdf b && is_continuation second) (is_from 0xe0 0xef b && (is_continuation second && is_continuation third))
    (is_from 0xf0 0xf4 b && (is_continuation second && (is_continuation third && is_continuation fourth)))
    (hidden_from 0 b 0) (hidden_from 0x80 (two b second) 1) (hidden_from 0x800 (three b second third) 2) (hidden_from 0x10000 (four b second third fourth) 3) None
    (large b (omega arith)) (not_both _ _ (from_isnt 0xc2 0xdf b (λ least most. omega arith))) (not_both _ _ (from_isnt 0xe0 0xef b (λ least most. omega arith)))
    (both _ _ (from_is 0xf0 0xf4 b low high) (both _ _ one (both _ _ also last)))

-- No character begins with the byte.
pub of_none : (b second third fourth : ℕ) → 0x80 ≤ b → (0xc2 ≤ b → 0xf5 ≤ b) → None ≡ hidden_of b second third fourth
of_none b second third fourth low other =
    sym (no_form (nat_lt b 0x80) (is_from 0xc2 0xdf b && is_continuation second) (is_from 0xe0 0xef b && (is_continuation second && is_continuation third))
    (is_from 0xf0 0xf4 b && (is_continuation second && (is_continuation third && is_continuation fourth)))
    (hidden_from 0 b 0) (hidden_from 0x80 (two b second) 1) (hidden_from 0x800 (three b second third) 2) (hidden_from 0x10000 (four b second third fourth) 3)
    (large b low) (not_both _ _ (from_isnt 0xc2 0xdf b (λ least most. omega (arith, other least))))
    (not_both _ _ (from_isnt 0xe0 0xef b (λ least most. omega (arith, other (let more : 0xc2 ≤ b = omega arith in more)))))
    (not_both _ _ (from_isnt 0xf0 0xf4 b (λ least most. omega (arith, other (let more : 0xc2 ≤ b = omega arith in more))))))

-- Nor with bytes of which one doesn't continue it.
pub of_no_second : (b second third fourth : ℕ) → 0x80 ≤ b → is_continuation second ≡ false → None ≡ hidden_of b second third fourth
of_no_second b second third fourth low isnt =
    sym (no_form (nat_lt b 0x80) (is_from 0xc2 0xdf b && is_continuation second) (is_from 0xe0 0xef b && (is_continuation second && is_continuation third))
    (is_from 0xf0 0xf4 b && (is_continuation second && (is_continuation third && is_continuation fourth)))
    (hidden_from 0 b 0) (hidden_from 0x80 (two b second) 1) (hidden_from 0x800 (three b second third) 2) (hidden_from 0x10000 (four b second third fourth) 3)
    (large b low) (lacks _ _ isnt) (lacks _ _ (not_both _ _ isnt)) (lacks _ _ (not_both _ _ isnt)))

pub of_no_third : (b second third fourth : ℕ) → 0xe0 ≤ b → is_continuation third ≡ false → None ≡ hidden_of b second third fourth
of_no_third b second third fourth low isnt =
    sym (no_form (nat_lt b 0x80) (is_from 0xc2 0xdf b && is_continuation second) (is_from 0xe0 0xef b && (is_continuation second && is_continuation third))
    (is_from 0xf0 0xf4 b && (is_continuation second && (is_continuation third && is_continuation fourth)))
    (hidden_from 0 b 0) (hidden_from 0x80 (two b second) 1) (hidden_from 0x800 (three b second third) 2) (hidden_from 0x10000 (four b second third fourth) 3)
    (large b (omega arith)) (not_both _ _ (from_isnt 0xc2 0xdf b (λ least most. omega arith))) (lacks _ _ (lacks _ _ isnt)) (lacks _ _ (lacks _ _ (not_both _ _ isnt))))

pub of_no_fourth : (b second third fourth : ℕ) → 0xf0 ≤ b → is_continuation fourth ≡ false → None ≡ hidden_of b second third fourth
of_no_fourth b second third fourth low isnt =
    sym (no_form (nat_lt b 0x80) (is_from 0xc2 0xdf b && is_continuation second) (is_from 0xe0 0xef b && (is_continuation second && is_continuation third))
    (is_from 0xf0 0xf4 b && (is_continuation second && (is_continuation third && is_continuation fourth)))
    (hidden_from 0 b 0) (hidden_from 0x80 (two b second) 1) (hidden_from 0x800 (three b second third) 2) (hidden_from 0x10000 (four b second third fourth) 3)
    (large b (omega arith)) (not_both _ _ (from_isnt 0xc2 0xdf b (λ least most. omega arith))) (not_both _ _ (from_isnt 0xe0 0xef b (λ least most. omega arith)))
    (lacks (is_from 0xf0 0xf4 b) _ (lacks (is_continuation second) _ (lacks (is_continuation third) _ isnt))))
