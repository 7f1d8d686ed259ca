-- A step is allowed in its context, or there is a first reason against it; never both.
use Rattle.std.proofs.Common.{◌≡◌, ◌≢◌, ℕ, ◌+◌, ◌-◌, ◌⊎◌, ◌∷◌, ◌++◌, [], List, Option, Some, None, length, refl, sym, ap, ◌∙◌, subst, inl, inr, arith}
use Rattle.std.proofs.lemmas.Option.{same_Some}
use Rattle.wsn_text.proofs.Numbers.{less_or_not}
use Rattle.wsn_wire.specs.declared.endpoint.Role.{Role}
use Rattle.wsn_wire.specs.declared.length_encoding.Form.{Form}
use Rattle.wsn_rules.specs.declared.step.Step.{Step}
use Rattle.wsn_rules.specs.declared.step.Step.TheVariants.{Piece, Last, Control}
use Rattle.wsn_rules.specs.declared.why.Why.{Why}
use Rattle.wsn_rules.specs.declared.why.Why.TheVariants.{KeyMismatch, StepsLeft, NoMessage, PieceTooLong, TooManyPieces, NotAControl, NotAMessage, WrongForm, EventsLeft}
use Rattle.wsn_rules.specs.Limits.{Limits, InRange}
use Rattle.wsn_rules.specs.Meaning.{MeantEvent}
use Rattle.wsn_rules.specs.Meaning as meant
use Rattle.wsn_rules.specs.Plan.{key_of, total, next_text}
use Rattle.wsn_rules.specs.Fitting.{HasKeyOf, PiecesFit, IsAllowedForm}
use Rattle.wsn_rules.specs.Fault.{Holds, IsFirstWhy}
use Rattle.wsn_rules.proofs.Prefixes.{nil-cons}
use Rattle.wsn_rules.proofs.DecidedRows.{Decided}
use Rattle.wsn_rules.proofs.PlanTheory.FromTheFront.{MayStand, StepLaw}
use Rattle.wsn_rules.proofs.PlanTheory.PiecesInARow.{length_push, total_push}
use Rattle.wsn_rules.proofs.PlanTheory.FirstReason.{first_or_none}
use Rattle.wsn_rules.proofs.PlanTheory.RowsDecided.{key_given, allowed_form, row_decided}

-- The pending Pieces belong to the first message left, and leave a frame for its Last.
abbrev pub PendingFits : Limits → List Step → List MeantEvent → Type 0
PendingFits limits pieces left = pieces ≢ [] → (text : List ℕ) × (next_text left ≡ Some text) × PiecesFit limits pieces text

unfoldable pub text_or_none : (text : Option (List ℕ)) → ((t : List ℕ) × (text ≡ Some t)) ⊎ (text ≡ None)
text_or_none None = inr refl
text_or_none (Some text) = inl (text, refl)

affirmed : (P : Type 0) → Decided P → ((P → ⊥) → ⊥) → P
affirmed P (inl holds) not_not = holds
affirmed P (inr not) not_not = absurd (not_not not)

-- No Pieces leave a frame for a Last, since a limit on frames is at least 1.
none_fit : (limits : Limits) (text : List ℕ) → InRange limits → PiecesFit limits [] text
none_fit limits text range = record {
  size = omega arith;
  count = λ most is. let least = range.frames most is in omega (arith, least.0);
}

pub pending_fit : (limits : Limits) (pieces : List Step) (left : List MeantEvent) (text : List ℕ) → InRange limits → PendingFits limits pieces left → next_text left ≡ Some text → PiecesFit limits pieces text
pending_fit limits [] left text range fits is = none_fit limits text range
pending_fit limits (piece ∷ pieces) left text range fits is =
    let some = fits (λ none. nil-cons piece pieces (sym none)) in
    subst (PiecesFit limits (piece ∷ pieces)) (same_Some some.0 text (sym some.1 ∙ is)) some.2

not_both_texts : (text : Option (List ℕ)) (t : List ℕ) → text ≡ Some t → text ≡ None → ⊥
not_both_texts text t some none = let both : Some t ≡ None = sym some ∙ none in cc

pub none_pending : (limits : Limits) (pieces : List Step) (left : List MeantEvent) → PendingFits limits pieces left → next_text left ≡ None → pieces ≡ []
none_pending limits [] left fits none = refl
none_pending limits (piece ∷ pieces) left fits none =
    let some = fits (λ empty. nil-cons piece pieces (sym empty)) in absurd (not_both_texts (next_text left) some.0 some.1 none)

-- ---- a step with no reason against it

module _ (role : Role) (limits : Limits) (range : InRange limits) (pieces : List Step) (left : List MeantEvent) where
  key_fits : (step : Step) → ((why : Why) → Holds role limits (length pieces) (total pieces) left step why → ⊥) → HasKeyOf role step
  key_fits step none = affirmed (HasKeyOf role step) (key_given (key_of step) role) (none KeyMismatch)

  piece_with_text : (len : ℕ) (key : Option (List ℕ)) (form : Form) (text : List ℕ) → ((why : Why) → Holds role limits (length pieces) (total pieces) left (Piece len key form) why → ⊥) → next_text left ≡ Some text
      → PiecesFit limits (pieces ++ Piece len key form ∷ []) text
  piece_with_text len key form text none is = record {
    size = elim (less_or_not (length text) (total pieces + len)) [
      | inl below ↦ absurd (none PieceTooLong (text, is, below))
      | inr within ↦ omega (arith, total_push pieces (Piece len key form))
    ];
    count = λ most limit. elim (less_or_not (length pieces + 1) most) [
      | inl below ↦ omega (arith, length_push pieces (Piece len key form))
      | inr within ↦ absurd (none TooManyPieces (most, limit, within))
    ];
  }

  may_stand : (step : Step) → PendingFits limits pieces left → ((why : Why) → Holds role limits (length pieces) (total pieces) left step why → ⊥) → MayStand limits pieces left step
  may_stand (Piece len key form) fits none =
      elim (text_or_none (next_text left)) [
        | inl found ↦ (
          (found.0, found.1, piece_with_text len key form found.0 none found.1),
          affirmed (IsAllowedForm limits.lengths form len) (allowed_form limits.lengths form len) (none WrongForm),
        )
        | inr no_text ↦ absurd (none NoMessage (tt, no_text))
      ]
  may_stand (Last key form) fits none = last_may_stand key form left refl fits none
    where
      last_may_stand : (key : Option (List ℕ)) (form : Form) (events : List MeantEvent) → left ≡ events → PendingFits limits pieces left → ((why : Why) → Holds role limits (length pieces) (total pieces) left (Last key form) why → ⊥)
          → MayStand limits pieces left (Last key form)
      last_may_stand key form [] is fits none = absurd (none StepsLeft is)
      last_may_stand key form (meant.Message kind text ∷ later) is fits none =
          let found : next_text left ≡ Some text = ap next_text is in (
            kind,
            text,
            later,
            is,
            pending_fit limits pieces left text range fits found,
            affirmed (IsAllowedForm limits.lengths form (length text - total pieces)) (allowed_form limits.lengths form (length text - total pieces)) (λ not. none WrongForm (text, found, not)),
          )
      last_may_stand key form (meant.Control op body ∷ later) is fits none = absurd (none NotAMessage (op, body, later, is))
  may_stand (Control key) fits none = control_may_stand key left refl none
    where
      control_may_stand : (key : Option (List ℕ)) (events : List MeantEvent) → left ≡ events → ((why : Why) → Holds role limits (length pieces) (total pieces) left (Control key) why → ⊥) → MayStand limits pieces left (Control key)
      control_may_stand key [] is none = absurd (none StepsLeft is)
      control_may_stand key (meant.Message kind text ∷ later) is none = absurd (none NotAControl (kind, text, later, is))
      control_may_stand key (meant.Control op body ∷ later) is none = (op, body, later, is)

  pub step_law : (step : Step) → PendingFits limits pieces left → ((why : Why) → Holds role limits (length pieces) (total pieces) left step why → ⊥) → StepLaw role limits pieces left step
  step_law step fits none = (key_fits step none, may_stand step fits none)

  abbrev pub LawOrWhy : Step → Type 0
  LawOrWhy step = StepLaw role limits pieces left step ⊎ ((why : Why) × IsFirstWhy (Holds role limits (length pieces) (total pieces) left step) why)

  unfoldable pub law_or_why : (step : Step) → PendingFits limits pieces left → LawOrWhy step
  law_or_why step fits =
      elim (first_or_none (Holds role limits (length pieces) (total pieces) left step) (row_decided role limits (length pieces) (total pieces) left step)) [
        | inl found ↦ inr found
        | inr none ↦ inl (step_law step fits none)
      ]

-- ---- never both

no_text_left : (left : List MeantEvent) (text : List ℕ) → next_text left ≡ Some text → left ≡ [] → ⊥
no_text_left left text is none = not_both_texts (next_text left) text is (ap next_text none)

module _ (role : Role) (limits : Limits) (pieces : List Step) (left : List MeantEvent) where
  pub no_why : (step : Step) → StepLaw role limits pieces left step → (why : Why) → Holds role limits (length pieces) (total pieces) left step why → ⊥
  no_why step law KeyMismatch holds = holds law.0
  no_why (Piece len key form) law StepsLeft holds = no_text_left left law.1.0.0 law.1.0.1 holds
  no_why (Piece len key form) law NoMessage holds = not_both_texts (next_text left) law.1.0.0 law.1.0.1 holds.1
  no_why (Piece len key form) law PieceTooLong holds =
      let fits = law.1.0.2 in
      let same = same_Some holds.0 law.1.0.0 (sym holds.1 ∙ law.1.0.1) in
      omega (arith, fits.size, holds.2, ap (λ (text : List ℕ). length text) same, total_push pieces (Piece len key form))
  no_why (Piece len key form) law TooManyPieces holds =
      let fits = law.1.0.2 in
      omega (arith, fits.count holds.0 holds.1, holds.2, length_push pieces (Piece len key form))
  no_why (Piece len key form) law NotAControl holds = holds
  no_why (Piece len key form) law NotAMessage holds = holds
  no_why (Piece len key form) law WrongForm holds = holds law.1.1
  no_why (Piece len key form) law EventsLeft holds = holds
  no_why (Last key form) law StepsLeft holds = nil-cons (meant.Message law.1.0 law.1.1) law.1.2 (sym holds ∙ law.1.3)
  no_why (Last key form) law NoMessage holds = not_both_texts (next_text left) law.1.1 (ap next_text law.1.3) holds.1
  no_why (Last key form) law PieceTooLong holds = holds
  no_why (Last key form) law TooManyPieces holds = holds
  no_why (Last key form) law NotAControl holds = holds
  no_why (Last key form) law NotAMessage holds =
      let both : meant.Message law.1.0 law.1.1 ∷ law.1.2 ≡ meant.Control holds.0 holds.1 ∷ holds.2 = sym law.1.3 ∙ holds.3 in cc
  no_why (Last key form) law WrongForm holds =
      let same = same_Some holds.0 law.1.1 (sym holds.1 ∙ ap next_text law.1.3) in
      holds.2 (subst (λ (text : List ℕ). IsAllowedForm limits.lengths form (length text - total pieces)) (sym same) law.1.5)
  no_why (Last key form) law EventsLeft holds = holds
  no_why (Control key) law StepsLeft holds = nil-cons (meant.Control law.1.0 law.1.1) law.1.2 (sym holds ∙ law.1.3)
  no_why (Control key) law NoMessage holds = holds.0
  no_why (Control key) law PieceTooLong holds = holds
  no_why (Control key) law TooManyPieces holds = holds
  no_why (Control key) law NotAControl holds =
      let both : meant.Control law.1.0 law.1.1 ∷ law.1.2 ≡ meant.Message holds.0 holds.1 ∷ holds.2 = sym law.1.3 ∙ holds.3 in cc
  no_why (Control key) law NotAMessage holds = holds
  no_why (Control key) law _ holds = holds

  pub not_both : (step : Step) (why : Why) → StepLaw role limits pieces left step → IsFirstWhy (Holds role limits (length pieces) (total pieces) left step) why → ⊥
  not_both step why law is = no_why step law why is.holds
