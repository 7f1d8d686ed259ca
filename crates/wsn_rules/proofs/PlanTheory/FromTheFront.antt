-- Plans step by step, with a context: the Pieces of the unfinished message, and the events without an end.
use Rattle.std.proofs.Common.{◌≡◌, ℕ, ◌-◌, List, [], ◌∷◌, ◌++◌, Some, length, drop}
use Rattle.std.specs.List.{fold}
use Rattle.wsn_wire.specs.declared.endpoint.Role.{Role}
use Rattle.wsn_rules.specs.declared.step.Step.{Step}
use Rattle.wsn_rules.specs.declared.step.Step.TheVariants.{Piece, Last, Control}
use Rattle.wsn_wire.specs.Frame.{Frame}
use Rattle.wsn_rules.specs.Limits.{Limits}
use Rattle.wsn_rules.specs.Meaning.{MeantEvent, Message}
use Rattle.wsn_rules.specs.Meaning as meant
pub use Rattle.wsn_rules.specs.Plan.{pieces_after}
use Rattle.wsn_rules.specs.Plan.{total, next_text}
use Rattle.wsn_rules.specs.Fitting.{HasKeyOf, PiecesFit, IsAllowedForm}
use Rattle.wsn_rules.specs.Recut.{step_frame}

-- ---- the context after a step

abbrev pub left_after : List MeantEvent → Step → List MeantEvent
left_after left (Piece len key form) = left
left_after left step = drop 1 left

-- ---- the rule for one step

-- The step is allowed after these Pieces of the next message, with these events left.
abbrev pub MayStand : Limits → List Step → List MeantEvent → Step → Type 0
MayStand limits pieces left (Piece len key form) =
    ((text : List ℕ) × (next_text left ≡ Some text) × PiecesFit limits (pieces ++ Piece len key form ∷ []) text) × IsAllowedForm limits.lengths form len
MayStand limits pieces left (Last key form) =
    (kind : _) × (text : List ℕ) × (later : List MeantEvent) × (left ≡ Message kind text ∷ later) × PiecesFit limits pieces text × IsAllowedForm limits.lengths form (length text - total pieces)
MayStand limits pieces left (Control key) =
    (op : _) × (body : List ℕ) × (later : List MeantEvent) × (left ≡ meant.Control op body ∷ later)

abbrev pub StepLaw : Role → Limits → List Step → List MeantEvent → Step → Type 0
StepLaw role limits pieces left step = HasKeyOf role step × MayStand limits pieces left step

-- Each step is allowed in its context.
abbrev pub BeginsToFitFrom : Role → Limits → List Step → List MeantEvent → List Step → Type 0
BeginsToFitFrom role limits pieces left [] = Unit {0}
BeginsToFitFrom role limits pieces left (step ∷ plan) =
    StepLaw role limits pieces left step × BeginsToFitFrom role limits (pieces_after pieces step) (left_after left step) plan

-- The events left after a plan, and its pending Pieces.
abbrev pub left_following : List MeantEvent → List Step → List MeantEvent
left_following left [] = left
left_following left (step ∷ plan) = left_following (left_after left step) plan

abbrev pub pieces_following : List Step → List Step → List Step
pieces_following = fold pieces_after

-- ---- recuts

abbrev pub frame_from : List Step → List MeantEvent → Step → Frame
frame_from pieces left step = step_frame (length pieces) (total pieces) left step

abbrev pub recut_from : List Step → List MeantEvent → List Step → List Frame
recut_from pieces left [] = []
recut_from pieces left (step ∷ plan) = frame_from pieces left step ∷ recut_from (pieces_after pieces step) (left_after left step) plan
