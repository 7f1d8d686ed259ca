-- A uniform plan fits if messages may have any number of frames.
use Rattle.std.proofs.Common.{◌≡◌, ℕ, zero, suc, ◌+◌, ◌-◌, ◌*◌, ◌≤◌, ◌↔◌, ◌∷◌, ◌++◌, [], Bool, true, false, List, Option, Some, None, IsSome, length, map, take, drop, replicate, refl, sym, ap, ◌∙◌, subst, arith, append-nil}
use Rattle.std.proofs.Math.Nat.{div-mul-le_self}
use Rattle.std.proofs.lemmas.List.{map-append}
use Rattle.wsn_wire.specs.declared.endpoint.Role.{Role}
use Rattle.wsn_wire.specs.declared.endpoint.Role.TheVariants.{Client}
use Rattle.wsn_wire.specs.declared.opcode.Op.{Op}
use Rattle.wsn_wire.specs.declared.opcode.Kind.{Kind}
use Rattle.wsn_wire.specs.declared.length_encoding.Form.TheVariants.{Shortest}
use Rattle.wsn_rules.specs.declared.step.Step.{Step}
use Rattle.wsn_rules.specs.declared.step.Step.TheVariants.{Piece, Last, Control}
use Rattle.wsn_rules.specs.Limits.{Limits}
use Rattle.wsn_rules.specs.Meaning.{MeantEvent}
use Rattle.wsn_rules.specs.Meaning as meant
use Rattle.wsn_rules.specs.Plan.{total, next_text}
use Rattle.wsn_rules.specs.Fitting.{PiecesFit, IsAllowedForm, Fits}
use Rattle.wsn_rules.specs.UniformPlan.{piece_count, uniform_pieces, ahead, uniform_after, uniform_plan}
use Rattle.wsn_rules.proofs.Prefixes.{push-append}
use Rattle.wsn_rules.proofs.PlanTheory.FromTheFront.{BeginsToFitFrom, left_following}
use Rattle.wsn_rules.proofs.PlanTheory.FitsFromTheFront.{fits_iff}
use Rattle.wsn_rules.proofs.PlanTheory.PiecesInARow.{total_push}

-- ---- Pieces of one size, some of them before controls

-- Pieces, split by whether they come before the controls.
pub record AreParted (n : ℕ) (piece : Step) (ahead_of following : List Step) : Type 0 where
  pub first : ℕ
  pub later : ℕ
  pub all : first + later ≡ n
  pub ahead_are : ahead_of ≡ replicate first piece
  pub after_are : following ≡ replicate later piece

parted : (weave : Bool) (n : ℕ) (piece : Step) → AreParted n piece (take (ahead weave) (replicate n piece)) (drop (ahead weave) (replicate n piece))
parted false n piece = record { first = 0; later = n; all = omega arith; ahead_are = refl; after_are = refl }
parted true zero piece = record { first = 0; later = 0; all = refl; ahead_are = refl; after_are = refl }
parted true (suc n) piece = record { first = 1; later = n; all = omega arith; ahead_are = refl; after_are = refl }

-- ---- controls, as events and as steps

abbrev Controls : Type 0
Controls = List (Op × List ℕ)

abbrev events_of : Controls → List MeantEvent
events_of = map (λ c. meant.Control c.0 c.1)

abbrev steps_of : Option (List ℕ) → Controls → List Step
steps_of key = map (λ c. Control key)

text_after_controls : (controls : Controls) (left : List MeantEvent) → next_text (events_of controls ++ left) ≡ next_text left
text_after_controls [] left = refl
text_after_controls (c ∷ controls) left = text_after_controls controls left

module _ (role : Role) (limits : Limits) (size : ℕ) (weave : Bool) (key : Option (List ℕ)) (any : limits.frames ≡ None) (keyed : IsSome key ↔ (role ≡ Client)) where
  abbrev FitsFrom : List Step → List MeantEvent → List Step → Type 0
  FitsFrom pieces left plan = BeginsToFitFrom role limits pieces left plan × (left_following left plan ≡ [])

  abbrev piece : Step
  piece = Piece size key Shortest

  allowed : (n : ℕ) → IsAllowedForm limits.lengths Shortest n
  allowed n = (λ _. refl, tt)

  pieces_fit : (pieces : List Step) (text : List ℕ) → total pieces ≤ length text → PiecesFit limits pieces text
  pieces_fit pieces text within = record { size = within; count = λ most is. let both : None ≡ Some most = sym any ∙ is in cc }

  fits_controls : (controls : Controls) (pieces : List Step) (left : List MeantEvent) (plan : List Step) → FitsFrom pieces left plan → FitsFrom pieces (events_of controls ++ left) (steps_of key controls ++ plan)
  fits_controls [] pieces left plan fits = fits
  fits_controls (c ∷ controls) pieces left plan fits =
      let later = fits_controls controls pieces left plan fits in
      (((keyed, (c.0, c.1, events_of controls ++ left, refl)), later.0), later.1)

  fits_pieces : (n : ℕ) (pieces : List Step) (left : List MeantEvent) (text : List ℕ) (plan : List Step) → next_text left ≡ Some text → total pieces + n * size ≤ length text
      → ((more : List Step) → total more ≡ total pieces + n * size → FitsFrom more left plan) → FitsFrom pieces left (replicate n piece ++ plan)
  fits_pieces zero pieces left text plan is within goes_on = goes_on pieces (omega arith)
  fits_pieces (suc n) pieces left text plan is within goes_on =
      let one_more = total_push pieces piece in
      let room : total (pieces ++ piece ∷ []) + n * size ≤ length text = omega arith in
      let later = fits_pieces n (pieces ++ piece ∷ []) left text plan is room (λ more sums. goes_on more (omega arith)) in
      (((keyed, ((text, is, pieces_fit (pieces ++ piece ∷ []) text (omega arith)), allowed size)), later.0), later.1)

  fits_last : (pieces : List Step) (kind : Kind) (text : List ℕ) (left : List MeantEvent) (plan : List Step) → total pieces ≤ length text → FitsFrom [] left plan
      → FitsFrom pieces (meant.Message kind text ∷ left) (Last key Shortest ∷ plan)
  fits_last pieces kind text left plan within fits =
      (((keyed, (kind, text, left, refl, pieces_fit pieces text within, allowed (length text - total pieces))), fits.0), fits.1)

  -- A message whose Pieces are in two runs, before the controls and after them.
  fits_parts : (first later : ℕ) (controls : Controls) (kind : Kind) (text : List ℕ) (left : List MeantEvent) (plan : List Step) → (first + later) * size ≤ length text → FitsFrom [] left plan
      → FitsFrom [] (events_of controls ++ meant.Message kind text ∷ left) (replicate first piece ++ (steps_of key controls ++ (replicate later piece ++ (Last key Shortest ∷ plan))))
  fits_parts first later controls kind text left plan within fits =
      let room : total [] + first * size ≤ length text = omega arith in
      fits_pieces first [] (events_of controls ++ meant.Message kind text ∷ left) text (steps_of key controls ++ (replicate later piece ++ (Last key Shortest ∷ plan)))
      (text_after_controls controls (meant.Message kind text ∷ left)) room
      (λ more sums. fits_controls controls more (meant.Message kind text ∷ left) (replicate later piece ++ (Last key Shortest ∷ plan))
      (fits_pieces later more (meant.Message kind text ∷ left) text (Last key Shortest ∷ plan) refl (omega arith)
      (λ all summed. fits_last all kind text left plan (omega arith) fits)))

  fits_message : (controls : Controls) (kind : Kind) (text : List ℕ) (left : List MeantEvent) (plan : List Step) → FitsFrom [] left plan
      → FitsFrom [] (events_of controls ++ meant.Message kind text ∷ left)
      (take (ahead weave) (uniform_pieces size key text) ++ (steps_of key controls ++ (drop (ahead weave) (uniform_pieces size key text) ++ (Last key Shortest ∷ plan))))
  fits_message controls kind text left plan fits =
      let n = piece_count size (length text) in
      let parts = parted weave n piece in
      let all_within : n * size ≤ length text = omega (arith, div-mul-le_self (length text - 1) size) in
      let within : (parts.first + parts.later) * size ≤ length text = subst (λ (m : ℕ). m * size ≤ length text) (sym parts.all) all_within in
      let here = fits_parts parts.first parts.later controls kind text left plan within fits in
      let left_here = events_of controls ++ meant.Message kind text ∷ left in
      let with_after = subst (λ (following : List Step). FitsFrom [] left_here (replicate parts.first piece ++ (steps_of key controls ++ (following ++ (Last key Shortest ∷ plan))))) (sym parts.after_are) here in
      subst (λ (front : List Step). FitsFrom [] left_here (front ++ (steps_of key controls ++ (drop (ahead weave) (uniform_pieces size key text) ++ (Last key Shortest ∷ plan))))) (sym parts.ahead_are) with_after

  fits_uniform : (controls : Controls) (events : List MeantEvent) → FitsFrom [] (events_of controls ++ events) (uniform_after size weave key (steps_of key controls) events)
  fits_uniform controls [] =
      subst (λ (plan : List Step). FitsFrom [] (events_of controls ++ []) plan) (append-nil (steps_of key controls)) (fits_controls controls [] [] [] (tt, refl))
  fits_uniform controls (meant.Control op body ∷ events) =
      let later = fits_uniform (controls ++ (op, body) ∷ []) events in
      let events_are : events_of (controls ++ (op, body) ∷ []) ++ events ≡ events_of controls ++ meant.Control op body ∷ events =
      ap (λ (es : List MeantEvent). es ++ events) (map-append (λ (c : Op × List ℕ). meant.Control c.0 c.1) controls ((op, body) ∷ [])) ∙ push-append (events_of controls) (meant.Control op body) events in
      let steps_are : steps_of key (controls ++ (op, body) ∷ []) ≡ steps_of key controls ++ Control key ∷ [] = map-append (λ (c : Op × List ℕ). Control key) controls ((op, body) ∷ []) in
      let of_events = subst (λ (left : List MeantEvent). FitsFrom [] left (uniform_after size weave key (steps_of key (controls ++ (op, body) ∷ [])) events)) events_are later in
      subst (λ (run : List Step). FitsFrom [] (events_of controls ++ meant.Control op body ∷ events) (uniform_after size weave key run events)) steps_are of_events
  fits_uniform controls (meant.Message kind text ∷ events) = fits_message controls kind text events (uniform_after size weave key [] events) (fits_uniform [] events)

  pub uniform_fits : (events : List MeantEvent) → Fits role limits (uniform_plan size weave key events) events
  uniform_fits events = (fits_iff role limits events (uniform_plan size weave key events)).1 (fits_uniform [] events)
