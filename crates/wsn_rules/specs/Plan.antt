-- Plans: how events are split into frames, one step for each frame. RFC 6455 sections 5.3 and 5.4.
use Rattle.std.specs.Prelude.{ℕ, Bool, true, false, Option, None, Some, List, [], ◌∷◌, ◌++◌, length, filter, map, drop, sum, IfSome}
use Rattle.std.specs.List.{AllByRecursion, fold}
use Rattle.wsn_wire.specs.declared.length_encoding.Form.{Form, TheVariants.{Shortest}}
use Rattle.wsn_wire.specs.Frame.{IsKey}
use Rattle.wsn_rules.specs.declared.step.Step.{Step, TheVariants.{Piece, Last, Control}}
use Rattle.wsn_rules.specs.Meaning.{MeantEvent}
use Rattle.wsn_rules.specs.Meaning as meant

-- ---- one step

-- The key of the step's frame.
abbrev pub key_of : Step → Option (List ℕ)
key_of (Piece len key form) = key
key_of (Last key form) = key
key_of (Control key) = key

-- The form of the length in the step's frame. A control frame always has the shortest.
abbrev pub form_of : Step → Form
form_of (Piece len key form) = form
form_of (Last key form) = form
form_of (Control key) = Shortest

-- The step is a Last.
abbrev pub is_last : Step → Bool
is_last (Last key form) = true
is_last step = false

-- The step is an end: a Last ends a message, and a Control is a whole control.
abbrev pub is_end : Step → Bool
is_end (Piece len key form) = false
is_end step = true

-- The number of bytes in a Piece.
abbrev pub piece_length : Step → ℕ
piece_length (Piece len key form) = len
piece_length step = 0

-- ---- a plan

-- Every key in the plan is four bytes.
abbrev pub IsPlan : List Step → Type 0
IsPlan = AllByRecursion (λ step. IfSome (key_of step) IsKey)

-- The ends of a plan, in order. Each is for one event: the first end for the first event, and so on.
abbrev pub ends : List Step → List Step
ends = filter is_end

-- The Pieces of the unfinished message, after one more step: a Piece joins them, a Last ends the message, and a Control
-- changes nothing.
abbrev pub pieces_after : List Step → Step → List Step
pieces_after pieces (Piece len key form) = pieces ++ Piece len key form ∷ []
pieces_after pieces (Last key form) = []
pieces_after pieces (Control key) = pieces

-- The Pieces of the unfinished message, step by step.
abbrev pub pending : List Step → List Step
pending = fold pieces_after []

-- The number of bytes in Pieces.
abbrev pub total : List Step → ℕ
total pieces = sum (map piece_length pieces)

-- The events that have no end in the plan.
abbrev pub events_left : List MeantEvent → List Step → List MeantEvent
events_left events plan = drop (length (ends plan)) events

-- The payload of the first message; none if all events are controls.
abbrev pub next_text : List MeantEvent → Option (List ℕ)
next_text [] = None
next_text (meant.Message kind text ∷ later) = Some text
next_text (meant.Control op body ∷ later) = next_text later
