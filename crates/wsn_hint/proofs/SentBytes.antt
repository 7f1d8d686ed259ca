-- A byte of a chunk that came of a side.
use Rattle.std.proofs.Common.{◌≡◌, ℕ, zero, suc, ◌+◌, ◌≤◌, ◌<◌, List, [], ◌∷◌, ◌++◌, length, take, drop, slice_index, Option, None, Some, refl, sym, subst, arith}
use Rattle.std.specs.Io.KnownBytes.{Consumes}
use Rattle.std.proofs.KnownBytes.{Consumes-trans}

-- The bytes begin with this one after some.
abbrev pub HasByteAt : List ℕ → ℕ → ℕ → Type 0
HasByteAt bytes offset byte = (later : List ℕ) × (drop offset bytes ≡ byte ∷ later)

in_chunk : (chunk more : List ℕ) (n before : ℕ) → before < n → n ≤ length chunk → HasByteAt (take n chunk ++ more) before (slice_index chunk before)
in_chunk [] more n before less within = absurd (omega (arith, less, within))
in_chunk (b ∷ chunk) more zero before less within = absurd (omega (arith, less))
in_chunk (b ∷ chunk) more (suc n) zero less within = (take n chunk ++ more, refl)
in_chunk (b ∷ chunk) more (suc n) (suc before) less within = in_chunk chunk more n before (omega (arith, less)) (omega (arith, within))

after_came : (came chunk more : List ℕ) (n before : ℕ) → before < n → n ≤ length chunk → HasByteAt ((came ++ take n chunk) ++ more) (length came + before) (slice_index chunk before)
after_came [] chunk more n before less within =
    let at : before ≡ 0 + before = omega arith in
    subst (λ (offset : ℕ). HasByteAt (take n chunk ++ more) offset (slice_index chunk before)) at (in_chunk chunk more n before less within)
after_came (b ∷ came) chunk more n before less within =
    let at : suc (length came + before) ≡ suc (length came) + before = omega arith in
    subst (λ (offset : ℕ). HasByteAt (b ∷ ((came ++ take n chunk) ++ more)) offset (slice_index chunk before)) at
    (after_came came chunk more n before less within)

pub sent_at : (sent came chunk : List ℕ) (left new : Option (List ℕ)) (n before offset : ℕ) → Consumes (Some sent) left came
    → Consumes left new (take n chunk) → length came + before ≡ offset → before < n → n ≤ length chunk
    → HasByteAt sent offset (slice_index chunk before)
sent_at sent came chunk left new n before offset first next at less within =
    by_left new (Consumes-trans (Some sent) left new came (take n chunk) first next)
  where
    by_left : (new : Option (List ℕ)) → Consumes (Some sent) new (came ++ take n chunk) → HasByteAt sent offset (slice_index chunk before)
    by_left None consumed = absurd consumed
    by_left (Some more) consumed =
        subst (λ (m : ℕ). HasByteAt sent m (slice_index chunk before)) at
        (subst (λ (bs : List ℕ). HasByteAt bs (length came + before) (slice_index chunk before)) (sym consumed)
        (after_came came chunk more n before less within))
