-- Texts that are appended one after another.
use Rattle.std.proofs.Common.{◌≡◌, ℕ, List, [], ◌++◌, ap, ◌∙◌, codes, append_assoc}
use Rattle.wsn_print.specs.Json.{field}

pub two : (t0 t1 t2 a b : List ℕ) → t1 ≡ t0 ++ a → t2 ≡ t1 ++ b → t2 ≡ t0 ++ (a ++ b)
two t0 t1 t2 a b is1 is2 = is2 ∙ ap (λ (t : List ℕ). t ++ b) is1 ∙ append_assoc t0 a b

pub three : (t0 t1 t2 t3 a b c : List ℕ) → t1 ≡ t0 ++ a → t2 ≡ t1 ++ b → t3 ≡ t2 ++ c → t3 ≡ t0 ++ (a ++ b ++ c)
three t0 t1 t2 t3 a b c is1 is2 is3 = two t0 t2 t3 (a ++ b) c (two t0 t1 t2 a b is1 is2) is3

pub four : (t0 t1 t2 t3 t4 a b c d : List ℕ) → t1 ≡ t0 ++ a → t2 ≡ t1 ++ b → t3 ≡ t2 ++ c → t4 ≡ t3 ++ d → t4 ≡ t0 ++ (a ++ b ++ c ++ d)
four t0 t1 t2 t3 t4 a b c d is1 is2 is3 is4 = two t0 t3 t4 (a ++ b ++ c) d (three t0 t1 t2 t3 a b c is1 is2 is3) is4

pub six : (t0 t1 t2 t3 t4 t5 t6 a b c d e f : List ℕ) → t1 ≡ t0 ++ a → t2 ≡ t1 ++ b → t3 ≡ t2 ++ c → t4 ≡ t3 ++ d → t5 ≡ t4 ++ e → t6 ≡ t5 ++ f
    → t6 ≡ t0 ++ (a ++ b ++ c ++ d ++ e ++ f)
six t0 t1 t2 t3 t4 t5 t6 a b c d e f is1 is2 is3 is4 is5 is6 =
    three t0 t4 t5 t6 (a ++ b ++ c ++ d) e f (four t0 t1 t2 t3 t4 a b c d is1 is2 is3 is4) is5 is6

-- Nine texts, after nothing.
pub nine : (t0 t1 t2 t3 t4 t5 t6 t7 t8 t9 a b c d e f g h i : List ℕ) → t0 ≡ [] → t1 ≡ t0 ++ a → t2 ≡ t1 ++ b → t3 ≡ t2 ++ c → t4 ≡ t3 ++ d → t5 ≡ t4 ++ e
    → t6 ≡ t5 ++ f → t7 ≡ t6 ++ g → t8 ≡ t7 ++ h → t9 ≡ t8 ++ i → t9 ≡ a ++ b ++ c ++ d ++ e ++ f ++ g ++ h ++ i
nine t0 t1 t2 t3 t4 t5 t6 t7 t8 t9 a b c d e f g h i none is1 is2 is3 is4 is5 is6 is7 is8 is9 =
    let front : t6 ≡ t0 ++ (a ++ b ++ c ++ d ++ e ++ f) = six t0 t1 t2 t3 t4 t5 t6 a b c d e f is1 is2 is3 is4 is5 is6 in
    four t0 t6 t7 t8 t9 (a ++ b ++ c ++ d ++ e ++ f) g h i front is7 is8 is9
    ∙ ap (λ (t : List ℕ). t ++ (a ++ b ++ c ++ d ++ e ++ f ++ g ++ h ++ i)) none

-- A member whose value is followed by two texts, as by the rest of an object.
pub value_of_three : (key a b c : List ℕ) → field key a ++ b ++ c ≡ field key (a ++ b ++ c)
value_of_three key a b c =
    let front : List ℕ = codes ",\"" ++ key ++ codes "\":" in
    ap (λ (t : List ℕ). t ++ c) (append_assoc front a b) ∙ append_assoc front (a ++ b) c
