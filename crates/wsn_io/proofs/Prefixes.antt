-- Prefixes of a text and the text after it.
use Rattle.std.proofs.Common.{ℕ, ◌+◌, min, List, ◌++◌, length, take, Option, sym, ◌∙◌, subst, arith}
use Rattle.std.proofs.Math.Seq.{take-append-add}
use Rattle.std.proofs.lemmas.List.{take-append-le, take_min}
use Rattle.std.specs.Io.KnownBytes.{Appends}
use Rattle.std.proofs.KnownBytes.{Appends-trans}

-- A prefix of the first text.
pub front_of_first : (a b : Option (List ℕ)) (text more : List ℕ) (k : ℕ) → Appends a b (take k text) → (n : ℕ) × Appends a b (take n (text ++ more))
front_of_first a b text more k front =
    let n = min k (length text) in
    (n, subst (λ (bs : List ℕ). Appends a b bs) (sym (take-append-le n text more (omega arith) ∙ take_min k text)) front)

-- The first text, and a prefix of the second.
pub front_of_second : (a b c : Option (List ℕ)) (text more : List ℕ) (k : ℕ) → Appends a b text → Appends b c (take k more) → (n : ℕ) × Appends a c (take n (text ++ more))
front_of_second a b c text more k first second =
    (length text + k, subst (λ (bs : List ℕ). Appends a c bs) (sym (take-append-add text more k)) (Appends-trans a b c text (take k more) first second))
