-- Interleaving: controls that come before a message move between its frames. RFC 6455 section 5.4.
use Rattle.std.specs.Prelude.{◌≡◌, ℕ, Bool, true, false, Option, List, [], ◌∷◌, ◌++◌, filter, take}
use Rattle.wsn_rules.specs.declared.step.Step.{Step, TheVariants.{Piece, Last, Control}}
use Rattle.wsn_rules.specs.Plan.{ends, pending}

-- The step is a Piece or a Last, not a Control.
abbrev pub is_of_message : Step → Bool
is_of_message (Control key) = false
is_of_message step = true

-- The steps of messages, in order.
abbrev pub of_messages : List Step → List Step
of_messages = filter is_of_message

-- The Pieces before the next Last. Controls may come between them.
abbrev pub next_pieces : List Step → List Step
next_pieces [] = []
next_pieces (Piece len key form ∷ later) = Piece len key form ∷ next_pieces later
next_pieces (Last key form ∷ later) = []
next_pieces (Control key ∷ later) = next_pieces later

-- The plan is the plain plan, interleaved: its ends and the steps of its messages are the same, in the same order; and
-- of the Pieces of the message around a control, exactly the first comes before the control.
pub record IsInterleaved (plain interleaved : List Step) : Type 0 where
  pub ends : ends interleaved ≡ ends plain
  pub messages : of_messages interleaved ≡ of_messages plain
  pub controls : (before after : List Step) (key : Option (List ℕ)) → interleaved ≡ before ++ Control key ∷ after
      → pending before ≡ take 1 (pending before ++ next_pieces after)
