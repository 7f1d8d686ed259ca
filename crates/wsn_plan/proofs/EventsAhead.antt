-- The events from an index on, and the first message among them.
use Rattle.std.proofs.Common.{◌≡◌, ◌≢◌, ℕ, ◌+◌, ◌<◌, ◌≤◌, Option, None, Some, MatchOption, is_some, true, false, List, [], ◌∷◌, length, drop, map, get_or, refl, sym, ap, ◌∙◌, drop-drop, arith}
use Rattle.std.proofs.lemmas.List.{drop-map, drop_more, length-drop, length-map}
use Rattle.std.proofs.Math.ListN.{drop_of_length-le}
use Rattle.wsn_rules.specs.Meaning.{MeantEvent}
use Rattle.wsn_rules.specs.Meaning as meant_event
use Rattle.wsn_rules.specs.Plan.{next_text}
use Rattle.wsn_rules.specs.Fault.{BeginsWithMessage, BeginsWithControl}
use Rattle.wsn_plan.specs.declared.kept.Kept.{Kept}
use Rattle.wsn_plan.specs.declared.kept.Kept.TheVariants as kepts
use Rattle.wsn_plan.specs.Gathering.{kept_meant}
use Rattle.wsn_plan.specs.declared.walking.Walk.{Walk}
use Rattle.wsn_plan.specs.Walking.{from_message, IsPlaced, IsControl, IsMessageOf}

-- ---- one event, and those after it

-- the values from an index on, by what they mean
pub stands_for : {E : Type 0} (mean : E → MeantEvent) (es : List E) (at : ℕ) (d : E) → at < length es → d ≡ get_or es at d
    → drop at (map mean es) ≡ mean d ∷ drop (at + 1) (map mean es)
stands_for {E} mean es at d less is = grind (arith, drop-map, drop_more)

pub drop_meant : {A : Type 0} (es : List (Kept A)) (at : ℕ) (d : Kept A) → at < length es → drop at (map kept_meant es) ≡ kept_meant (get_or es at d) ∷ drop (at + 1) (map kept_meant es)
drop_meant es at d less = grind (arith, drop-map, drop_more)

pub drop_none : {A : Type 0} (es : List (Kept A)) (at : ℕ) → length es ≤ at → drop at (map kept_meant es) ≡ []
drop_none es at past = drop_of_length-le (map kept_meant es) (omega (arith, length-map es kept_meant))

pub no_message : {A : Type 0} (e : Kept A) → ((kind : _) (text : _) → e ≡ kepts.Message kind text → ⊥) → IsControl (kept_meant e)
no_message (kepts.Message kind text) none = absurd (none kind text refl)
no_message (kepts.Control op body) none = (_, _, refl)

pub past_a_control : {A : Type 0} (es : List (Kept A)) (at : ℕ) (d : Kept A) → at < length es → d ≡ get_or es at d → IsControl (kept_meant d)
    → from_message (drop at (map kept_meant es)) ≡ from_message (drop (at + 1) (map kept_meant es))
past_a_control es at d less is fact = grind (arith, drop_meant)

pub stands_at : {A : Type 0} (es : List (Kept A)) (at : ℕ) (d : Kept A) → at < length es → d ≡ get_or es at d → drop at (map kept_meant es) ≡ kept_meant d ∷ drop (at + 1) (map kept_meant es)
stands_at {A} es at d less is = drop_meant es at d less ∙ ap (λ (e : Kept A). kept_meant e ∷ drop (at + 1) (map kept_meant es)) (sym is)

pub message_there : {A : Type 0} (es : List (Kept A)) (at len : ℕ) (d : Kept A) → at < length es → d ≡ get_or es at d → IsMessageOf (kept_meant d) len → BeginsWithMessage (drop at (map kept_meant es))
message_there es at len d less is fact = grind (arith, stands_at)

pub text_there : {A : Type 0} (es : List (Kept A)) (at len : ℕ) (d : Kept A) → at < length es → d ≡ get_or es at d → IsMessageOf (kept_meant d) len
    → (text : List ℕ) × (next_text (drop at (map kept_meant es)) ≡ Some text) × (len ≡ length text)
text_there es at len d less is (kind, text, message, size) =
    (text, ap next_text (stands_at es at d less is ∙ ap (λ (e : MeantEvent). e ∷ drop (at + 1) (map kept_meant es)) message), size)

-- ---- the first message

pub no_longer : (left : List MeantEvent) → length (from_message left) ≤ length left
no_longer (meant_event.Control op body ∷ later) = omega (arith, no_longer later)
no_longer _ = omega arith

pub same_text : (left : List MeantEvent) → next_text (from_message left) ≡ next_text left
same_text (meant_event.Control op body ∷ later) = same_text later
same_text _ = refl

pub at_a_message : (left : List MeantEvent) → BeginsWithMessage left → from_message left ≡ left
at_a_message left begins = grind arith

pub is_at_a_message : (left : List MeantEvent) → from_message left ≡ left → left ≢ [] → BeginsWithMessage left
is_at_a_message [] same some = absurd (some refl)
is_at_a_message (meant_event.Message kind text ∷ later) same some = (kind, text, later, refl)
is_at_a_message (meant_event.Control op body ∷ later) same some = absurd (omega (arith, no_longer later, ap (λ (es : List MeantEvent). length es) same))

pub is_at_a_control : (left : List MeantEvent) → (from_message left ≡ left → ⊥) → BeginsWithControl left
is_at_a_control (meant_event.Control op body ∷ later) other = (op, body, later, refl)
is_at_a_control _ other = absurd (other refl)

pub message_or_not : (left : List MeantEvent) → BeginsWithMessage left → BeginsWithControl left → ⊥
message_or_not left fact other_fact = grind arith

-- a control is never the first message
pub no_text : (left : List MeantEvent) → left ≡ from_message left → BeginsWithControl left → ⊥
no_text left first control =
    let same : left ≡ meant_event.Control control.0 control.1 ∷ control.2 = control.3 in
    let shorter = no_longer control.2 in
    omega (arith, shorter, ap (λ (es : List MeantEvent). length es) same, ap (λ (es : List MeantEvent). length (from_message es)) same, ap (λ (es : List MeantEvent). length es) first)

pub no_text_there : {A : Type 0} (es : List (Kept A)) (at : ℕ) (d : Kept A) → at < length es → d ≡ get_or es at d → IsControl (kept_meant d)
    → drop at (map kept_meant es) ≡ from_message (drop at (map kept_meant es)) → next_text (drop at (map kept_meant es)) ≡ None
no_text_there es at d less is fact first = grind (arith, no_text, stands_at)

pub text_or_none : {A : Type 0} (es : List (Kept A)) (at : ℕ) (d : Kept A) → at < length es → d ≡ get_or es at d → drop at (map kept_meant es) ≡ from_message (drop at (map kept_meant es))
    → (len : Option ℕ) → MatchOption len (IsControl (kept_meant d)) (IsMessageOf (kept_meant d))
    → MatchOption len (next_text (drop at (map kept_meant es)) ≡ None) (λ n. (text : List ℕ) × (next_text (drop at (map kept_meant es)) ≡ Some text) × (n ≡ length text))
text_or_none es at d less is first None control = no_text_there es at d less is control first
text_or_none es at d less is first (Some n) message = text_there es at n d less is message

-- what an option holds that isn't None
module _ (C : Type 0) (M : ℕ → Type 0) where
  pub has_reported : (o : Option ℕ) → MatchOption o C M → is_some o ≡ true → (n : ℕ) × M n
  has_reported o m is = grind arith

  pub not_reported : (o : Option ℕ) → MatchOption o C M → is_some o ≡ false → C
  not_reported o m is = grind arith

pub first_twice : (left : List MeantEvent) → from_message (from_message left) ≡ from_message left
first_twice (meant_event.Control op body ∷ later) = first_twice later
first_twice _ = refl

-- ---- the indexes of a walk

same_place : (i j : ℕ) (es : List MeantEvent) → i ≤ length es → j ≤ length es → drop i es ≡ drop j es → i ≡ j
same_place i j es within also same = omega (arith, ap (λ (l : List MeantEvent). length l) same, length-drop i es, length-drop j es)

-- one event further
pub after_one : (n : ℕ) (es : List MeantEvent) (e : MeantEvent) (later : List MeantEvent) → drop n es ≡ e ∷ later → (n + 1 ≤ length es) × (drop (n + 1) es ≡ later)
after_one n es e later is = (
  omega (arith, ap (λ (l : List MeantEvent). length l) is, length-drop n es),
  sym (drop-drop 1 n es) ∙ ap (drop 1) is,
)

module _ {A : Type 0} (walk : Walk) (es : List (Kept A)) (placed : IsPlaced walk (map kept_meant es)) where
  pub first_is_first : drop walk.message (map kept_meant es) ≡ from_message (drop walk.message (map kept_meant es))
  first_is_first = placed.first ∙ sym (first_twice (drop walk.event (map kept_meant es))) ∙ sym (ap from_message placed.first)

  pub text_is : next_text (drop walk.event (map kept_meant es)) ≡ next_text (drop walk.message (map kept_meant es))
  text_is = sym (ap next_text placed.first ∙ same_text (drop walk.event (map kept_meant es)))

  pub some_left : (walk.event ≡ length es → ⊥) → drop walk.event (map kept_meant es) ≢ []
  some_left less none =
      less (let within : walk.event ≤ length (map kept_meant es) = placed.event in
      omega (arith, ap (λ (l : List MeantEvent). length l) none, length-drop walk.event (map kept_meant es), length-map es kept_meant))

  pub none_left : walk.event ≡ length es → drop walk.event (map kept_meant es) ≡ []
  none_left is = drop_none es walk.event (omega arith)

  pub begins_with_message : walk.message ≡ walk.event → drop walk.event (map kept_meant es) ≢ [] → BeginsWithMessage (drop walk.event (map kept_meant es))
  begins_with_message same fact = grind (arith, is_at_a_message)

  pub begins_with_control : (walk.message ≡ walk.event → ⊥) → BeginsWithControl (drop walk.event (map kept_meant es))
  begins_with_control other = grind (arith, is_at_a_control, same_place)

  -- ---- after a step

  pub placed_control : BeginsWithControl (drop walk.event (map kept_meant es)) → IsPlaced (record walk { event = walk.event + 1 }) (map kept_meant es)
  placed_control begins = grind (arith, after_one)
