-- Whether a reason of the table holds for a step is decided.
use Rattle.std.proofs.Common.{◌≡◌, ℕ, ◌+◌, ◌-◌, ◌<◌, ◌≤◌, ◌↔◌, ◌∷◌, [], List, Option, Some, None, IsSome, length, refl, sym, subst, inl, inr, true≢false}
use Rattle.std.proofs.lemmas.Option.{same_Some}
use Rattle.wsn_wire.specs.declared.endpoint.Role.{Role}
use Rattle.wsn_wire.specs.declared.endpoint.Role.TheVariants.{Client, Server}
use Rattle.wsn_wire.specs.declared.length_encoding.Form.{Form}
use Rattle.wsn_wire.specs.declared.length_encoding.Form.TheVariants as form
use Rattle.wsn_wire.specs.declared.length_encoding.Lengths.{Lengths}
use Rattle.wsn_wire.specs.declared.length_encoding.Lengths.TheVariants as encodings
use Rattle.wsn_rules.specs.declared.step.Step.{Step}
use Rattle.wsn_rules.specs.declared.step.Step.TheVariants.{Piece, Last, Control}
use Rattle.wsn_rules.specs.declared.why.Why.{Why}
use Rattle.wsn_rules.specs.declared.why.Why.TheVariants.{KeyMismatch, StepsLeft, NoMessage, PieceTooLong, TooManyPieces, NotAControl, NotAMessage, WrongForm, EventsLeft}
use Rattle.wsn_rules.specs.Limits.{Limits}
use Rattle.wsn_rules.specs.Meaning.{MeantEvent}
use Rattle.wsn_rules.specs.Meaning as meant
use Rattle.wsn_rules.specs.Plan.{key_of, next_text}
use Rattle.wsn_rules.specs.Fitting.{HasKeyOf, IsAllowedForm}
use Rattle.wsn_rules.specs.Fault.{IsOfMessage, BeginsWithMessage, BeginsWithControl, IsTooLong, IsOneTooMany, HasWrongForm, Holds}
use Rattle.wsn_rules.proofs.Prefixes.{nil-cons}
use Rattle.wsn_rules.proofs.DecidedRows.{Decided, both, denied, less, at_most}

-- ---- parts of rows

-- An option has a value for which P holds.
module _ {A : Type 0} (P : A → Type 0) (decided : (a : A) → Decided (P a)) where
  abbrev pub SomeWith : Option A → Type 0
  SomeWith o = (a : A) × (o ≡ Some a) × P a

  unfoldable pub some_with : (o : Option A) → Decided (SomeWith o)
  some_with None = inr (λ found. let e : None ≡ Some found.0 = found.1 in cc)
  some_with (Some a) =
      elim (decided a) [
        | inl holds ↦ inl (a, refl, holds)
        | inr not ↦ inr (λ found. let same = same_Some a found.0 found.1 in not (subst P (sym same) found.2))
      ]

unfoldable pub key_given : (key : Option (List ℕ)) (role : Role) → Decided (IsSome key ↔ (role ≡ Client))
key_given (Some key) Client = inl (λ _. refl, λ _. refl)
key_given None Client = inr (λ iff. true≢false (sym (iff.1 refl)))
key_given (Some key) Server = inr (λ iff. let is : Server ≡ Client = iff.0 refl in cc)
key_given None Server = inl (λ is. absurd (true≢false (sym is)), λ is. (cc))

unfoldable pub allowed_form : (lengths : Lengths) (encoded : Form) (size : ℕ) → Decided (IsAllowedForm lengths encoded size)
allowed_form lengths form.Shortest size = inl (λ _. refl, tt)
allowed_form encodings.Shortest form.Two size = inr (λ allowed. let is : form.Two ≡ form.Shortest = allowed.0 refl in cc)
allowed_form encodings.Shortest form.Eight size = inr (λ allowed. let is : form.Eight ≡ form.Shortest = allowed.0 refl in cc)
allowed_form encodings.Any form.Two size = both (encodings.Any ≡ encodings.Shortest → form.Two ≡ form.Shortest) (size ≤ 125) (inl (λ is. (cc))) (at_most size 125)
allowed_form encodings.Any form.Eight size = both (encodings.Any ≡ encodings.Shortest → form.Eight ≡ form.Shortest) (size ≤ 65535) (inl (λ is. (cc))) (at_most size 65535)

unfoldable pub no_event : (left : List MeantEvent) → Decided (left ≡ [])
no_event [] = inl refl
no_event (e ∷ later) = inr (λ is. nil-cons e later (sym is))

unfoldable pub no_text : (text : Option (List ℕ)) → Decided (text ≡ None)
no_text None = inl refl
no_text (Some text) = inr (λ is. (cc))

unfoldable pub of_message : (step : Step) → Decided (IsOfMessage step)
of_message (Piece len key form) = inl tt
of_message (Last key form) = inl tt
of_message (Control key) = inr (λ is. is)

unfoldable pub with_message : (left : List MeantEvent) → Decided (BeginsWithMessage left)
with_message [] = inr (λ begins. nil-cons (meant.Message begins.0 begins.1) begins.2 begins.3)
with_message (meant.Message kind text ∷ later) = inl (kind, text, later, refl)
with_message (meant.Control op body ∷ later) = inr (λ begins. let is : meant.Control op body ∷ later ≡ meant.Message begins.0 begins.1 ∷ begins.2 = begins.3 in cc)

unfoldable pub with_control : (left : List MeantEvent) → Decided (BeginsWithControl left)
with_control [] = inr (λ begins. nil-cons (meant.Control begins.0 begins.1) begins.2 begins.3)
with_control (meant.Message kind text ∷ later) = inr (λ begins. let is : meant.Message kind text ∷ later ≡ meant.Control begins.0 begins.1 ∷ begins.2 = begins.3 in cc)
with_control (meant.Control op body ∷ later) = inl (op, body, later, refl)

-- ---- rows

unfoldable pub too_long : (held : ℕ) (left : List MeantEvent) (step : Step) → Decided (IsTooLong held left step)
too_long held left (Piece len key form) = some_with (λ text. length text < held + len) (λ text. less (length text) (held + len)) (next_text left)
too_long held left (Last key form) = inr (λ is. is)
too_long held left (Control key) = inr (λ is. is)

unfoldable pub one_too_many : (limits : Limits) (count : ℕ) (step : Step) → Decided (IsOneTooMany limits count step)
one_too_many limits count (Piece len key form) = some_with (λ most. most ≤ count + 1) (λ most. at_most most (count + 1)) limits.frames
one_too_many limits count (Last key form) = inr (λ is. is)
one_too_many limits count (Control key) = inr (λ is. is)

unfoldable pub wrong_form : (limits : Limits) (held : ℕ) (left : List MeantEvent) (step : Step) → Decided (HasWrongForm limits held left step)
wrong_form limits held left (Piece len key form) = denied (IsAllowedForm limits.lengths form len) (allowed_form limits.lengths form len)
wrong_form limits held left (Last key form) =
    some_with (λ text. ¬ (IsAllowedForm limits.lengths form (length text - held)))
    (λ text. denied (IsAllowedForm limits.lengths form (length text - held)) (allowed_form limits.lengths form (length text - held))) (next_text left)
wrong_form limits held left (Control key) = inr (λ is. is)

unfoldable pub not_a_control : (role : Role) (limits : Limits) (count held : ℕ) (left : List MeantEvent) (step : Step) → Decided (Holds role limits count held left step NotAControl)
not_a_control role limits count held left (Piece len key form) = inr (λ is. is)
not_a_control role limits count held left (Last key form) = inr (λ is. is)
not_a_control role limits count held left (Control key) = with_message left

unfoldable pub not_a_message : (role : Role) (limits : Limits) (count held : ℕ) (left : List MeantEvent) (step : Step) → Decided (Holds role limits count held left step NotAMessage)
not_a_message role limits count held left (Piece len key form) = inr (λ is. is)
not_a_message role limits count held left (Last key form) = with_control left
not_a_message role limits count held left (Control key) = inr (λ is. is)

unfoldable pub row_decided : (role : Role) (limits : Limits) (count held : ℕ) (left : List MeantEvent) (step : Step) (why : Why) → Decided (Holds role limits count held left step why)
row_decided role limits count held left step KeyMismatch = denied (HasKeyOf role step) (key_given (key_of step) role)
row_decided role limits count held left step StepsLeft = no_event left
row_decided role limits count held left step NoMessage = both (IsOfMessage step) (next_text left ≡ None) (of_message step) (no_text (next_text left))
row_decided role limits count held left step PieceTooLong = too_long held left step
row_decided role limits count held left step TooManyPieces = one_too_many limits count step
row_decided role limits count held left step NotAControl = not_a_control role limits count held left step
row_decided role limits count held left step NotAMessage = not_a_message role limits count held left step
row_decided role limits count held left step WrongForm = wrong_form limits held left step
row_decided role limits count held left step EventsLeft = inr (λ is. is)
