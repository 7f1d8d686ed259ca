-- The first characters of a word, one by one.
use Rattle.std.proofs.Common.{◌≡◌, ℕ, zero, suc, List, [], ◌∷◌, ◌++◌, take, refl, append_assoc}
use Rattle.std.specs.Prelude.{codes, drop, flat_map}
use Rattle.wsn_cli.specs.ErrorWords.{escaped_character, escaped_characters, left_out}

pub escaped_end : (most : ℕ) → escaped_characters most [] ≡ []
escaped_end zero = refl
escaped_end (suc most) = refl

pub escaped_cut : (c : ℕ) (cs : List ℕ) → escaped_characters 0 (c ∷ cs) ≡ codes ".."
escaped_cut c cs = refl

pub escaped_more : (most c : ℕ) (cs : List ℕ) → escaped_characters (suc most) (c ∷ cs) ≡ escaped_character c ++ escaped_characters most cs
escaped_more most c cs = append_assoc (escaped_character c) (flat_map escaped_character (take most cs)) (left_out (drop most cs))
