-- Where a plan has its controls, step by step; and a plan has at most one interleaving.
use Rattle.std.proofs.Common.{◌≡◌, ℕ, ◌≤◌, List, Option, [], ◌∷◌, ◌++◌, length, take, refl, sym, ap, ◌∙◌, subst, arith}
use Rattle.wsn_wire.specs.declared.length_encoding.Form.{Form}
use Rattle.wsn_rules.specs.declared.step.Step.{Step}
use Rattle.wsn_rules.specs.declared.step.Step.TheVariants.{Piece, Last, Control}
use Rattle.wsn_rules.specs.Plan.{ends, pending}
use Rattle.wsn_rules.specs.InterleavedPlan.{of_messages, next_pieces, IsInterleaved}
use Rattle.wsn_rules.proofs.Prefixes.{head_same, tail_same, cons_same, nil-cons, nil-push}
use Rattle.wsn_rules.proofs.PlanTheory.FromTheFront.{pieces_after, pieces_following}
use Rattle.wsn_rules.proofs.PlanTheory.Context.{pending_is}
use Rattle.wsn_rules.proofs.PlanTheory.PiecesInARow.{length_push}

-- ---- steps of different kinds

not_a_control_and_a_piece : (len : ℕ) (key : Option (List ℕ)) (form : Form) (own : Option (List ℕ))
    → Piece len key form ≡ Control own → ⊥
not_a_control_and_a_piece len key form own same = cc

not_a_control_and_a_last : (key : Option (List ℕ)) (form : Form) (own : Option (List ℕ)) → Last key form ≡ Control own
    → ⊥
not_a_control_and_a_last key form own same = cc

not_a_last_and_a_piece : (len : ℕ) (key : Option (List ℕ)) (form : Form) (own : Option (List ℕ)) (other : Form)
    → Piece len key form ≡ Last own other → ⊥
not_a_last_and_a_piece len key form own other same = cc

-- ---- a property of each control, by the Pieces pending before it and the steps after it

module _ (HasScanned : List Step → List Step → Type 0) where
  -- Each control has the property, after these Pieces.
  abbrev pub ControlsStand : List Step → List Step → Type 0
  ControlsStand pieces [] = Unit {0}
  ControlsStand pieces (Piece len key form ∷ plan) = ControlsStand (pieces ++ Piece len key form ∷ []) plan
  ControlsStand pieces (Last key form ∷ plan) = ControlsStand [] plan
  ControlsStand pieces (Control key ∷ plan) = HasScanned pieces plan × ControlsStand pieces plan

  abbrev EachStands : List Step → List Step → Type 0
  EachStands pieces plan =
      (front following : List Step) (key : Option (List ℕ)) → plan ≡ front ++ Control key ∷ following
      → HasScanned (pieces_following pieces front) following

  later_stand : (pieces : List Step) (step : Step) (plan : List Step) → ControlsStand pieces (step ∷ plan)
      → ControlsStand (pieces_after pieces step) plan
  later_stand pieces (Piece len key form) plan all = all
  later_stand pieces (Last key form) plan all = all
  later_stand pieces (Control key) plan all = all.1

  here_stands : (pieces : List Step) (step : Step) (plan following : List Step) (own : Option (List ℕ))
      → ControlsStand pieces (step ∷ plan) → step ≡ Control own → plan ≡ following → HasScanned pieces following
  here_stands pieces (Piece len key form) plan following own all is same =
      absurd (not_a_control_and_a_piece len key form own is)
  here_stands pieces (Last key form) plan following own all is same = absurd (not_a_control_and_a_last key form own is)
  here_stands pieces (Control key) plan following own all is same = subst (HasScanned pieces) same all.0

  each_stands : (pieces plan front following : List Step) (own : Option (List ℕ)) → ControlsStand pieces plan
      → plan ≡ front ++ Control own ∷ following → HasScanned (pieces_following pieces front) following
  each_stands pieces [] front following own all is = absurd (nil-push front (Control own) following is)
  each_stands pieces (step ∷ plan) [] following own all is =
      here_stands pieces step plan following own all (head_same step (Control own) plan following is)
      (tail_same step (Control own) plan following is)
  each_stands pieces (step ∷ plan) (first ∷ front) following own all is =
      let same = head_same step first plan (front ++ Control own ∷ following) is in
      let rest = tail_same step first plan (front ++ Control own ∷ following) is in
      subst (λ (next : Step). HasScanned (pieces_following (pieces_after pieces next) front) following) same
      (each_stands (pieces_after pieces step) plan front following own (later_stand pieces step plan all) rest)

  each_later : (pieces : List Step) (step : Step) (plan : List Step) → EachStands pieces (step ∷ plan)
      → EachStands (pieces_after pieces step) plan
  each_later pieces step plan each =
      λ front following own is. each (step ∷ front) following own (ap (λ (steps : List Step). step ∷ steps) is)

  by_each : (pieces plan : List Step) → EachStands pieces plan → ControlsStand pieces plan
  by_each pieces [] each = tt
  by_each pieces (Piece len key form ∷ plan) each =
      by_each (pieces ++ Piece len key form ∷ []) plan (each_later pieces (Piece len key form) plan each)
  by_each pieces (Last key form ∷ plan) each = by_each [] plan (each_later pieces (Last key form) plan each)
  by_each pieces (Control key ∷ plan) each =
      (each [] plan key refl, by_each pieces plan (each_later pieces (Control key) plan each))

  -- ---- by the definitions

  pub stands_in_plan : (plan : List Step) → ControlsStand [] plan → (front following : List Step) (key : Option (List ℕ))
      → plan ≡ front ++ Control key ∷ following → HasScanned (pending front) following
  stands_in_plan plan all front following key is =
      subst (λ (pieces : List Step). HasScanned pieces following) (sym (pending_is front))
      (each_stands [] plan front following key all is)

  pub controls_stand : (plan : List Step)
      → ((front following : List Step) (key : Option (List ℕ)) → plan ≡ front ++ Control key ∷ following
      → HasScanned (pending front) following) → ControlsStand [] plan
  controls_stand plan each =
      by_each [] plan λ front following key is. subst (λ (pieces : List Step). HasScanned pieces following) (pending_is front)
      (each front following key is)

-- ---- interleaved

-- Of these Pieces and those before the next Last, exactly the first is pending.
abbrev pub IsBehindFirst : List Step → List Step → Type 0
IsBehindFirst pieces following = pieces ≡ take 1 (pieces ++ next_pieces following)

at_most_one : (steps : List Step) → length (take 1 steps) ≤ 1
at_most_one [] = omega arith
at_most_one (step ∷ steps) = omega arith

none_taken : (steps : List Step) → [] ≡ take 1 steps → steps ≡ []
none_taken [] is = refl
none_taken (step ∷ steps) is = absurd (nil-cons step [] is)

one_pending : (pieces following : List Step) → IsBehindFirst pieces following → length pieces ≤ 1
one_pending pieces following is =
    subst (λ (steps : List Step). length steps ≤ 1) (sym is) (at_most_one (pieces ++ next_pieces following))

some_pending : (pieces following : List Step) (step : Step) (later : List Step) → IsBehindFirst pieces following
    → next_pieces following ≡ step ∷ later → 1 ≤ length pieces
some_pending [] following step later is next =
    absurd (nil-cons step later (sym (none_taken (next_pieces following) is) ∙ next))
some_pending (piece ∷ pieces) following step later is next = omega arith

-- The next step of a message is the next Piece.
next_is_piece : (plan : List Step) (len : ℕ) (key : Option (List ℕ)) (form : Form) (rest : List Step)
    → of_messages plan ≡ Piece len key form ∷ rest
    → (later : List Step) × (next_pieces plan ≡ Piece len key form ∷ later)
next_is_piece [] len key form rest is = absurd (nil-cons (Piece len key form) rest is)
next_is_piece (Piece size own other ∷ plan) len key form rest is =
    let same = head_same (Piece size own other) (Piece len key form) (of_messages plan) rest is in
    (next_pieces plan, ap (λ (step : Step). step ∷ next_pieces plan) same)
next_is_piece (Last own other ∷ plan) len key form rest is =
    absurd (not_a_last_and_a_piece len key form own other
    (sym (head_same (Last own other) (Piece len key form) (of_messages plan) rest is)))
next_is_piece (Control own ∷ plan) len key form rest is = next_is_piece plan len key form rest is

-- If two Pieces are pending, the next end is no control.
no_control_next : (pieces plan : List Step) (own : Option (List ℕ)) (rest : List Step) → 2 ≤ length pieces
    → ControlsStand IsBehindFirst pieces plan → ends plan ≡ Control own ∷ rest → ⊥
no_control_next pieces [] own rest two all is = nil-cons (Control own) rest is
no_control_next pieces (Piece len key form ∷ plan) own rest two all is =
    let longer = length_push pieces (Piece len key form) in
    let still_two : 2 ≤ length (pieces ++ Piece len key form ∷ []) = omega arith in
    no_control_next (pieces ++ Piece len key form ∷ []) plan own rest still_two all is
no_control_next pieces (Last key form ∷ plan) own rest two all is =
    not_a_control_and_a_last key form own (head_same (Last key form) (Control own) (ends plan) rest is)
no_control_next pieces (Control key ∷ plan) own rest two all is =
    let one : length pieces ≤ 1 = one_pending pieces plan all.0 in omega arith

-- One plan has a Piece where the other has a control.
not_both : (pieces one other : List Step) (len : ℕ) (key : Option (List ℕ)) (form : Form) (own : Option (List ℕ))
    → ControlsStand IsBehindFirst (pieces ++ Piece len key form ∷ []) one → IsBehindFirst pieces other
    → ends one ≡ Control own ∷ ends other → of_messages other ≡ Piece len key form ∷ of_messages one → ⊥
not_both pieces one other len key form own all has_scanned same_ends same_messages =
    let next = next_is_piece other len key form (of_messages one) same_messages in
    let some : 1 ≤ length pieces = some_pending pieces other (Piece len key form) next.0 has_scanned next.1 in
    let longer = length_push pieces (Piece len key form) in
    let two : 2 ≤ length (pieces ++ Piece len key form ∷ []) = omega arith in
    no_control_next (pieces ++ Piece len key form ∷ []) one own (ends other) two all same_ends

not_nothing : (step : Step) (plan : List Step) → [] ≡ ends (step ∷ plan) → [] ≡ of_messages (step ∷ plan) → ⊥
not_nothing (Piece len key form) plan same_ends same_messages =
    nil-cons (Piece len key form) (of_messages plan) same_messages
not_nothing (Last key form) plan same_ends same_messages = nil-cons (Last key form) (ends plan) same_ends
not_nothing (Control key) plan same_ends same_messages = nil-cons (Control key) (ends plan) same_ends

one_plan : (pieces one other : List Step) → ControlsStand IsBehindFirst pieces one
    → ControlsStand IsBehindFirst pieces other → ends one ≡ ends other → of_messages one ≡ of_messages other
    → one ≡ other
one_plan pieces [] [] all also same_ends same_messages = refl
one_plan pieces [] (step ∷ other) all also same_ends same_messages =
    absurd (not_nothing step other same_ends same_messages)
one_plan pieces (step ∷ one) [] all also same_ends same_messages =
    absurd (not_nothing step one (sym same_ends) (sym same_messages))
one_plan pieces (Piece len key form ∷ one) (Piece size own encoded ∷ other) all also same_ends same_messages =
    let first = Piece len key form in
    let second = Piece size own encoded in
    let same : first ≡ second = head_same first second (of_messages one) (of_messages other) same_messages in
    let rest = tail_same first second (of_messages one) (of_messages other) same_messages in
    let moved = subst (λ (piece : Step). ControlsStand IsBehindFirst (pieces ++ piece ∷ []) other) (sym same) also in
    cons_same first second one other same (one_plan (pieces ++ first ∷ []) one other all moved same_ends rest)
one_plan pieces (Piece len key form ∷ one) (Last own encoded ∷ other) all also same_ends same_messages =
    absurd (not_a_last_and_a_piece len key form own encoded
    (head_same (Piece len key form) (Last own encoded) (of_messages one) (of_messages other) same_messages))
one_plan pieces (Piece len key form ∷ one) (Control own ∷ other) all also same_ends same_messages =
    absurd (not_both pieces one other len key form own all also.0 same_ends (sym same_messages))
one_plan pieces (Last key form ∷ one) (Piece size own encoded ∷ other) all also same_ends same_messages =
    absurd (not_a_last_and_a_piece size own encoded key form
    (sym (head_same (Last key form) (Piece size own encoded) (of_messages one) (of_messages other) same_messages)))
one_plan pieces (Last key form ∷ one) (Last own encoded ∷ other) all also same_ends same_messages =
    let first = Last key form in
    let second = Last own encoded in
    let ends_after = tail_same first second (ends one) (ends other) same_ends in
    let rest = tail_same first second (of_messages one) (of_messages other) same_messages in
    cons_same first second one other (head_same first second (ends one) (ends other) same_ends)
    (one_plan [] one other all also ends_after rest)
one_plan pieces (Last key form ∷ one) (Control own ∷ other) all also same_ends same_messages =
    absurd (not_a_control_and_a_last key form own
    (head_same (Last key form) (Control own) (ends one) (ends other) same_ends))
one_plan pieces (Control key ∷ one) (Piece size own encoded ∷ other) all also same_ends same_messages =
    absurd (not_both pieces other one size own encoded key also all.0 (sym same_ends) same_messages)
one_plan pieces (Control key ∷ one) (Last own encoded ∷ other) all also same_ends same_messages =
    absurd (not_a_control_and_a_last own encoded key
    (sym (head_same (Control key) (Last own encoded) (ends one) (ends other) same_ends)))
one_plan pieces (Control key ∷ one) (Control own ∷ other) all also same_ends same_messages =
    let first = Control key in
    let second = Control own in
    let ends_after = tail_same first second (ends one) (ends other) same_ends in
    cons_same first second one other (head_same first second (ends one) (ends other) same_ends)
    (one_plan pieces one other all.1 also.1 ends_after same_messages)

pub only_one_interleaved : (plain one other : List Step) → IsInterleaved plain one → IsInterleaved plain other → one ≡ other
only_one_interleaved plain one other is also =
    let all = controls_stand IsBehindFirst one is.controls in
    let others = controls_stand IsBehindFirst other also.controls in
    one_plan [] one other all others (is.ends ∙ sym also.ends) (is.messages ∙ sym also.messages)
