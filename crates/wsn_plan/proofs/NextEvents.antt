-- The event of a plan's next step, and its index.
use Rattle.std.proofs.Common.{◌≡◌, ℕ, ◌<◌, ◌≤◌, Some, List, [], ◌∷◌, length, drop, map, get_or, refl, ap, ◌∙◌, arith}
use Rattle.std.proofs.lemmas.List.{length-map}
use Rattle.wsn_wire.specs.declared.opcode.Kind.{Kind}
use Rattle.wsn_wire.specs.declared.opcode.Op.{Op}
use Rattle.wsn_rules.specs.Meaning.{MeantEvent}
use Rattle.wsn_rules.specs.Meaning as meant_event
use Rattle.wsn_rules.specs.LawfulEvents.{AreLawful}
use Rattle.wsn_rules.specs.Plan.{next_text}
use Rattle.wsn_rules.specs.Recut.{next_message}
use Rattle.wsn_rules.proofs.Prefixes.{head_same}
use Rattle.wsn_plan.specs.declared.kept.Kept.{Kept}
use Rattle.wsn_plan.specs.Gathering.{kept_meant}
use Rattle.wsn_plan.specs.declared.walking.Walk.{Walk}
use Rattle.wsn_plan.specs.Walking.{from_message, IsPlaced}
use Rattle.wsn_plan.proofs.EventsAhead.{stands_at, after_one}
use Rattle.wsn_plan.proofs.WalkedSteps.{lawful_from}

-- the first message, by its text
pub record IsFirst (left : List MeantEvent) (text : List ℕ) : Type 0 where
  pub kind : Kind
  pub later : List MeantEvent
  pub from : from_message left ≡ meant_event.Message kind text ∷ later
  pub next_kind : (next_message left).0 ≡ kind
  pub next_text : (next_message left).1 ≡ text

first_of : (left : List MeantEvent) (text : List ℕ) → next_text left ≡ Some text → IsFirst left text
first_of [] text is = cc
first_of (meant_event.Message kind bytes ∷ left) text is =
    let same : bytes ≡ text = cc in
    record { kind = kind; later = left; from = ap (λ (t : List ℕ). meant_event.Message kind t ∷ left) same; next_kind = refl; next_text = same }
first_of (meant_event.Control op body ∷ left) text is =
    let rest = first_of left text is in
    record { kind = rest.kind; later = rest.later; from = rest.from; next_kind = rest.next_kind; next_text = rest.next_text }

module _ {A : Type 0} (es : List (Kept A)) where
  -- there is an event at this index
  pub is_within : (at : ℕ) (e : MeantEvent) (later : List MeantEvent) → drop at (map kept_meant es) ≡ e ∷ later → at < length es
  is_within at e later is = let more = (after_one at (map kept_meant es) e later is).0 in omega (arith, more, length-map es kept_meant)

  pub is_there : (at : ℕ) (d : Kept A) (e : MeantEvent) (later : List MeantEvent) → d ≡ get_or es at d → drop at (map kept_meant es) ≡ e ∷ later → kept_meant d ≡ e
  is_there at d e later found is = grind (arith, head_same, stands_at, is_within)

  pub first_there : (walk : Walk) → IsPlaced walk (map kept_meant es) → (text : List ℕ) → next_text (drop walk.event (map kept_meant es)) ≡ Some text
      → (first : IsFirst (drop walk.event (map kept_meant es)) text) × (drop walk.message (map kept_meant es) ≡ meant_event.Message first.kind text ∷ first.later)
  first_there walk placed text is =
      let first = first_of (drop walk.event (map kept_meant es)) text is in
      (first, placed.first ∙ first.from)

  pub control_is_short : (most at : ℕ) (op : Op) (body : List ℕ) (later : List MeantEvent) → AreLawful most (map kept_meant es) → drop at (map kept_meant es) ≡ meant_event.Control op body ∷ later → length body ≤ 125
  control_is_short most at op body later lawful is = grind (arith, lawful_from)
