-- The uniform plan, event by event, with the controls before the next message counted.
use Rattle.std.proofs.Common.{◌≡◌, ℕ, ◌+◌, ◌-◌, zero, suc, Bool, Option, List, [], ◌∷◌, ◌++◌, length, replicate, take, drop, min, Result, IfOk, refl, ap, ◌∙◌, append_assoc, arith}
use Rattle.wsn_wire.specs.declared.length_encoding.Form.TheVariants.{Shortest}
use Rattle.wsn_rules.specs.declared.step.Step.{Step}
use Rattle.wsn_rules.specs.declared.step.Step.TheVariants.{Piece, Last, Control}
use Rattle.wsn_rules.specs.Meaning.{MeantEvent, Message}
use Rattle.wsn_rules.specs.Meaning as meant_event
use Rattle.wsn_rules.specs.UniformPlan.{piece_count, ahead, uniform_after}
use Rattle.wsn_plan.specs.Uniform.{message_steps}
use Rattle.wsn_plan.specs.Walking.{IsControl, IsMessageOf}

one_more : (n : ℕ) (x : Step) → replicate n x ++ x ∷ [] ≡ replicate (suc n) x
one_more zero x = refl
one_more (suc n) x = ap (λ (xs : List Step). x ∷ xs) (one_more n x)

pub replicate_more : (n : ℕ) (x : Step) → replicate n x ++ x ∷ [] ≡ replicate (n + 1) x
replicate_more n x = let same : suc n ≡ n + 1 = omega arith in one_more n x ∙ ap (λ (k : ℕ). replicate k x) same

pub pushed_more : (old plan next : List Step) (n : ℕ) (x : Step) → plan ≡ old ++ replicate n x → next ≡ plan ++ x ∷ [] → next ≡ old ++ replicate (n + 1) x
pushed_more old plan next n x so_far more = grind (arith, append_assoc, replicate_more)

-- how many Pieces come before the controls, and how many after
pub split_pieces : (weave : Bool) (n m : ℕ) (x : Step) → m ≡ min n (ahead weave) → (take (ahead weave) (replicate n x) ≡ replicate m x) × (drop (ahead weave) (replicate n x) ≡ replicate (n - m) x)
split_pieces weave n m x is = grind arith

module _ (size : ℕ) (weave : Bool) (key : Option (List ℕ)) where
  -- the plan of the counted controls and the events that are left
  abbrev pub plan_after : ℕ → List MeantEvent → List Step
  plan_after controls left = uniform_after size weave key (replicate controls (Control key)) left

  pub control_waits : (controls : ℕ) (op : _) (body : List ℕ) (later : List MeantEvent) → plan_after controls (meant_event.Control op body ∷ later) ≡ plan_after (controls + 1) later
  control_waits controls op body later = grind (arith, replicate_more)

  pub message_comes : (controls : ℕ) (kind : _) (text : List ℕ) (later : List MeantEvent)
      → plan_after controls (Message kind text ∷ later) ≡ message_steps size weave key controls (length text) ++ plan_after 0 later
  message_comes controls kind text later = grind (arith, append_assoc)

  pub message_pushed : (old ahead_of run following all : List Step) (controls bytes m : ℕ) → m ≡ min (piece_count size bytes) (ahead weave)
      → ahead_of ≡ old ++ replicate m (Piece size key Shortest) → run ≡ ahead_of ++ replicate controls (Control key)
      → following ≡ run ++ replicate (piece_count size bytes - m) (Piece size key Shortest) → all ≡ following ++ Last key Shortest ∷ [] → all ≡ old ++ message_steps size weave key controls bytes
  message_pushed old ahead_of run following all controls bytes m least first second third fourth = grind (arith, split_pieces, append_assoc)

  -- ---- the plan so far, and the rest

  pub counts_control : (plan whole : List Step) (controls : ℕ) (e : MeantEvent) (later : List MeantEvent) → IsControl e → whole ≡ plan ++ plan_after controls (e ∷ later) → whole ≡ plan ++ plan_after (controls + 1) later
  counts_control plan whole controls e later (op, body, is) so_far =
      so_far ∙ ap (λ (x : MeantEvent). plan ++ plan_after controls (x ∷ later)) is ∙ ap (λ (xs : List Step). plan ++ xs) (control_waits controls op body later)

  pub ends_message : (plan next whole : List Step) (controls bytes : ℕ) (e : MeantEvent) (later : List MeantEvent) → IsMessageOf e bytes → whole ≡ plan ++ plan_after controls (e ∷ later)
      → next ≡ plan ++ message_steps size weave key controls bytes → whole ≡ next ++ plan_after 0 later
  ends_message plan next whole controls bytes e later fact so_far pushed = grind (arith, message_comes, append_assoc)

-- what follows from a result that is Ok
pub ok_on : {A E : Type 0} (r : Result A E) (P Q : Type 0) → (P → Q) → IfOk r (λ _. P) → IfOk r (λ _. Q)
ok_on r P Q f p = grind arith
