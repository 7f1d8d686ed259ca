-- The steps of one message in a uniform plan, by the numbers of bytes and controls.
use Rattle.std.specs.Prelude.{ℕ, Bool, Option, List, [], ◌∷◌, ◌++◌, replicate, take, drop}
use Rattle.wsn_wire.specs.declared.length_encoding.Form.TheVariants.{Shortest}
use Rattle.wsn_rules.specs.declared.step.Step.{Step, TheVariants.{Piece, Last, Control}}
use Rattle.wsn_rules.specs.UniformPlan.{piece_count, ahead}

-- the Pieces of a message of this many bytes
abbrev pub pieces_of : ℕ → Option (List ℕ) → ℕ → List Step
pieces_of size key bytes = replicate (piece_count size bytes) (Piece size key Shortest)

-- the steps of a message of this many bytes, and of this many controls directly before it
abbrev pub message_steps : ℕ → Bool → Option (List ℕ) → ℕ → ℕ → List Step
message_steps size weave key controls bytes =
    take (ahead weave) (pieces_of size key bytes)
    ++ (replicate controls (Control key) ++ (drop (ahead weave) (pieces_of size key bytes) ++ Last key Shortest ∷ []))
