-- The first reason against a step, row by row of the table.
use Rattle.std.proofs.Common.{◌≡◌, ◌≢◌, ℕ, ◌+◌, ◌-◌, ◌<◌, ◌≤◌, Option, None, Some, List, [], length, sym, ◌∙◌, inl, inr, arith}
use Rattle.std.proofs.lemmas.Option.{same_Some}
use Rattle.wsn_text.proofs.Numbers.{less_or_not}
use Rattle.wsn_wire.specs.declared.endpoint.Role.{Role}
use Rattle.wsn_wire.specs.declared.length_encoding.Form.{Form}
use Rattle.wsn_rules.specs.declared.step.Step.{Step}
use Rattle.wsn_rules.specs.declared.step.Step.TheVariants.{Piece, Last, Control}
use Rattle.wsn_rules.specs.declared.why.Why.{Why}
use Rattle.wsn_rules.specs.declared.why.Why.TheVariants.{KeyMismatch, StepsLeft, NoMessage, PieceTooLong, TooManyPieces, NotAControl, NotAMessage, WrongForm}
use Rattle.wsn_rules.specs.Limits.{Limits}
use Rattle.wsn_rules.specs.Meaning.{MeantEvent}
use Rattle.wsn_rules.specs.Plan.{next_text}
use Rattle.wsn_rules.specs.Fitting.{HasKeyOf, IsAllowedForm}
use Rattle.wsn_rules.specs.Fault.{order_of, Holds, IsFirstWhy, IsOneTooMany, BeginsWithMessage, BeginsWithControl}
use Rattle.wsn_rules.proofs.PlanTheory.FirstReason.{order_below, same_order}

pub within_or_not : (a b : ℕ) → (b < a → ⊥) → a ≤ b
within_or_not a b not = elim (less_or_not b a) [ inl less ↦ absurd (not less) | inr more ↦ more ]

-- ---- rows that don't hold

module _ (Held : Why → Type 0) where
  -- A reason that holds is in this row or a later one.
  abbrev pub Passed : ℕ → Type 0
  Passed n = (why : Why) → Held why → n ≤ order_of why

  pub none_passed : Passed 0
  none_passed why held = omega arith

  pub pass : (why : Why) → Passed (order_of why) → (Held why → ⊥) → Passed (order_of why + 1)
  pass why passed not other held = grind (arith, less_or_not, same_order)

  pub first_is : (why : Why) → Passed (order_of why) → Held why → IsFirstWhy Held why
  first_is why passed held = record { holds = held; first = passed }

  pub none_holds : Passed 9 → (why : Why) → Held why → ⊥
  none_holds passed why held = absurd (omega (arith, passed why held, order_below why))

module _ (role : Role) (limits : Limits) (count held : ℕ) (left : List MeantEvent) where
  -- ---- of any step

  module _ (step : Step) where
    abbrev Held : Why → Type 0
    Held = Holds role limits count held left step

    pub keyed : HasKeyOf role step → Passed Held 1
    keyed key = pass Held KeyMismatch (none_passed Held) (λ not. not key)

    pub some_event_left : HasKeyOf role step → left ≢ [] → Passed Held 2
    some_event_left key some = pass Held StepsLeft (keyed key) some

    pub no_message_left : HasKeyOf role step → left ≢ [] → Holds role limits count held left step NoMessage → IsFirstWhy Held NoMessage
    no_message_left key some none = first_is Held NoMessage (some_event_left key some) none

    pub some_message_left : HasKeyOf role step → left ≢ [] → (text : List ℕ) → next_text left ≡ Some text → Passed Held 3
    some_message_left key some text is = pass Held NoMessage (some_event_left key some) (λ (of_message, none). let both : Some text ≡ None = sym is ∙ none in cc)

  -- ---- of a Piece

  module _ (len : ℕ) (key : Option (List ℕ)) (form : Form) (keyed_piece : HasKeyOf role (Piece len key form)) (some : left ≢ []) (text : List ℕ) (is : next_text left ≡ Some text) where
    abbrev OfPiece : Why → Type 0
    OfPiece = Holds role limits count held left (Piece len key form)

    pub piece_too_long : length text < held + len → IsFirstWhy OfPiece PieceTooLong
    piece_too_long longer = first_is OfPiece PieceTooLong (some_message_left (Piece len key form) keyed_piece some text is) (text, is, longer)

    pub short_enough : held + len ≤ length text → Passed OfPiece 4
    short_enough within = grind (arith, pass, some_message_left, same_Some)

    pub one_too_many : held + len ≤ length text → IsOneTooMany limits count (Piece len key form) → IsFirstWhy OfPiece TooManyPieces
    one_too_many within many = first_is OfPiece TooManyPieces (short_enough within) many

    pub few_enough : held + len ≤ length text → (IsOneTooMany limits count (Piece len key form) → ⊥) → Passed OfPiece 7
    few_enough within few = grind (arith, pass, short_enough)

    pub piece_wrong_form : held + len ≤ length text → (IsOneTooMany limits count (Piece len key form) → ⊥) → (IsAllowedForm limits.lengths form len → ⊥) → IsFirstWhy OfPiece WrongForm
    piece_wrong_form within few not = first_is OfPiece WrongForm (few_enough within few) not

    pub piece_passes : held + len ≤ length text → (IsOneTooMany limits count (Piece len key form) → ⊥) → IsAllowedForm limits.lengths form len → (why : Why) → OfPiece why → ⊥
    piece_passes within few allowed = grind (arith, none_holds, pass, few_enough)

  -- ---- of a Last

  module _ (key : Option (List ℕ)) (form : Form) (keyed_last : HasKeyOf role (Last key form)) (some : left ≢ []) (text : List ℕ) (is : next_text left ≡ Some text) where
    abbrev OfLast : Why → Type 0
    OfLast = Holds role limits count held left (Last key form)

    of_message : Passed OfLast 6
    of_message = grind (arith, pass, some_message_left)

    pub not_a_message : BeginsWithControl left → IsFirstWhy OfLast NotAMessage
    not_a_message begins = first_is OfLast NotAMessage of_message begins

    at_message : (BeginsWithControl left → ⊥) → Passed OfLast 7
    at_message message = pass OfLast NotAMessage of_message message

    pub last_wrong_form : (BeginsWithControl left → ⊥) → (IsAllowedForm limits.lengths form (length text - held) → ⊥) → IsFirstWhy OfLast WrongForm
    last_wrong_form message not = first_is OfLast WrongForm (at_message message) (text, is, not)

    pub last_passes : (BeginsWithControl left → ⊥) → IsAllowedForm limits.lengths form (length text - held) → (why : Why) → OfLast why → ⊥
    last_passes message allowed = grind (arith, none_holds, pass, at_message, same_Some)

  -- ---- of a Control

  module _ (key : Option (List ℕ)) (keyed_control : HasKeyOf role (Control key)) (some : left ≢ []) where
    abbrev OfControl : Why → Type 0
    OfControl = Holds role limits count held left (Control key)

    of_control : Passed OfControl 5
    of_control = grind (arith, pass, some_event_left)

    pub not_a_control : BeginsWithMessage left → IsFirstWhy OfControl NotAControl
    not_a_control begins = first_is OfControl NotAControl of_control begins

    pub control_passes : (BeginsWithMessage left → ⊥) → (why : Why) → OfControl why → ⊥
    control_passes control = grind (arith, none_holds, pass, of_control)
