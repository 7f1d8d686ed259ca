-- Comparisons of two numbers as tests that compute.
use Rattle.std.proofs.Common.{◌≡◌, ℕ, ◌<◌, ◌≤◌, ◌⊎◌, true, false, ltb, eqb, inl, inr, refl}
use Rattle.std.proofs.lemmas.Bool.{ltb-true, ltb-false, eqb-true, eqb-false}

unfoldable pub less_or_not : (a b : ℕ) → (a < b) ⊎ (b ≤ a)
less_or_not a b =
    elim (ltb a b) as (λ t. ltb a b ≡ t → (a < b) ⊎ (b ≤ a)) [ true ↦ λ e. inl (ltb-true a b e) | false ↦ λ e. inr (ltb-false a b e) ] refl

unfoldable pub same_or_not : (a b : ℕ) → (a ≡ b) ⊎ (a ≡ b → ⊥)
same_or_not a b =
    elim (eqb a b) as (λ t. eqb a b ≡ t → (a ≡ b) ⊎ (a ≡ b → ⊥)) [ true ↦ λ e. inl (eqb-true a b e) | false ↦ λ e. inr (eqb-false a b e) ] refl
