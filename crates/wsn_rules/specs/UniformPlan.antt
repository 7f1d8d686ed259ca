-- The uniform plan: every message in Pieces of one size, and a Last with the rest. RFC 6455 section 5.4.
use Rattle.std.specs.Prelude.{ℕ, ◌-◌, ◌/◌, Bool, true, false, Option, List, [], ◌∷◌, ◌++◌, length, replicate, take, drop}
use Rattle.wsn_wire.specs.declared.length_encoding.Form.TheVariants.{Shortest}
use Rattle.wsn_rules.specs.declared.step.Step.{Step, TheVariants.{Piece, Last, Control}}
use Rattle.wsn_rules.specs.Meaning.{MeantEvent}
use Rattle.wsn_rules.specs.Meaning as meant

-- The number of Pieces of this size before the Last of a message: the maximum that leaves it at least one byte.
abbrev pub piece_count : ℕ → ℕ → ℕ
piece_count size bytes = (bytes - 1) / size

-- The Pieces of a message.
abbrev pub uniform_pieces : ℕ → Option (List ℕ) → List ℕ → List Step
uniform_pieces size key text = replicate (piece_count size (length text)) (Piece size key Shortest)

-- How many Pieces of a message come before the controls directly before the message.
abbrev pub ahead : Bool → ℕ
ahead true = 1
ahead false = 0

-- The plan of events after the controls in `run`. With `weave`, the first Piece of each message comes before the
-- controls directly before the message.
abbrev pub uniform_after : ℕ → Bool → Option (List ℕ) → List Step → List MeantEvent → List Step
uniform_after size weave key run [] = run
uniform_after size weave key run (meant.Control op body ∷ later) =
    uniform_after size weave key (run ++ Control key ∷ []) later
uniform_after size weave key run (meant.Message kind text ∷ later) =
    take (ahead weave) (uniform_pieces size key text)
    ++ (run ++ (drop (ahead weave) (uniform_pieces size key text)
    ++ (Last key Shortest ∷ uniform_after size weave key [] later)))

-- The uniform plan of events.
abbrev pub uniform_plan : ℕ → Bool → Option (List ℕ) → List MeantEvent → List Step
uniform_plan size weave key events = uniform_after size weave key [] events
