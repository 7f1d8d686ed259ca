-- One of several facts that holds.
use Rattle.std.proofs.Common.{◌⊎◌, inl, inr}

-- The second of two holds if the first doesn't.
pub second : {A B : Type 0} → ¬ A → A ⊎ B → B
second never (inl a) = absurd (never a)
second never (inr b) = b
