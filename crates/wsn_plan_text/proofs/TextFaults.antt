-- A text encodes one plan or has one first fault.
use Rattle.std.proofs.Common.{◌≡◌, ℕ, suc, ◌+◌, ◌⊎◌, List, [], ◌∷◌, ◌++◌, length, refl, sym, ap, ◌∙◌, inl, inr}
use Rattle.std.specs.List.{AllZip}
use Rattle.wsn_rules.specs.declared.step.Step.{Step}
use Rattle.wsn_rules.proofs.Prefixes.{head_same, tail_same, cons_same}
use Rattle.wsn_plan_text.specs.declared.plan_fault.LineWhy.{LineWhy}
use Rattle.wsn_plan_text.specs.PlanText.{EncodesStep, EncodesPlan, IsLineFault, IsFirstPlanFault}
use Rattle.wsn_rules.specs.TextLines.{AreLines}
use Rattle.wsn_rules.proofs.TextLines.{same_lines, has_lines}
use Rattle.wsn_plan_text.proofs.EncodedLines.{one_step}
use Rattle.wsn_plan_text.proofs.LineFaults.{not_step_and_fault, one_line_fault}
use Rattle.wsn_plan_text.proofs.DecidedLines.{step_or_fault}

same_steps : (lines : List (List ℕ)) (plan other : List Step) → AllZip EncodesStep lines plan → AllZip EncodesStep lines other → plan ≡ other
same_steps [] [] [] spell also = refl
same_steps [] (step ∷ plan) other spell also = absurd spell
same_steps (line ∷ lines) [] other spell also = absurd spell
same_steps (line ∷ lines) (step ∷ plan) (next ∷ other) spell also =
    cons_same step next plan other (one_step line step next spell.0 also.0) (same_steps lines plan other spell.1 also.1)
same_steps _ _ _ spell also = absurd also

pub one_plan : (text : List ℕ) (plan other : List Step) → EncodesPlan text plan → EncodesPlan text other → plan ≡ other
one_plan text plan other spells also =
    same_steps spells.0 plan other spells.2 (rw (same_lines text also.0 spells.0 also.1 spells.1) at also.2)

-- a line among lines that encode steps
encoded_at : (before : List (List ℕ)) (line : List ℕ) (after : List (List ℕ)) (plan : List Step) → AllZip EncodesStep (before ++ line ∷ after) plan
    → (step : Step) × EncodesStep line step
encoded_at [] line after [] spell = absurd spell
encoded_at [] line after (step ∷ plan) spell = (step, spell.0)
encoded_at (first ∷ before) line after [] spell = absurd spell
encoded_at (first ∷ before) line after (step ∷ plan) spell = encoded_at before line after plan spell.1

pub not_plan_and_fault : (text : List ℕ) (plan : List Step) (number : ℕ) (why : LineWhy) → EncodesPlan text plan → ¬ (IsFirstPlanFault text number why)
not_plan_and_fault text plan number why spells (before, line, after, front, has, spell, fault, e) =
    let step = encoded_at before line after plan (rw (same_lines text spells.0 (before ++ line ∷ after) spells.1 has) at spells.2) in
    not_step_and_fault line step.0 why step.1 fault

same_fault : (before other : List (List ℕ)) (line next : List ℕ) (after rest : List (List ℕ)) (plan more : List Step) (why also_why : LineWhy)
    → before ++ line ∷ after ≡ other ++ next ∷ rest → AllZip EncodesStep before plan → AllZip EncodesStep other more
    → IsLineFault line why → IsLineFault next also_why → (length before ≡ length other) × (why ≡ also_why)
same_fault [] [] line next after rest plan more why also_why e spell also fault also_fault =
    (refl, one_line_fault next why also_why (rw (head_same line next after rest e) at fault) also_fault)
same_fault [] (first ∷ other) line next after rest plan (step ∷ more) why also_why e spell also fault also_fault =
    absurd (not_step_and_fault first step why also.0 (rw (head_same line first after (other ++ next ∷ rest) e) at fault))
same_fault (first ∷ before) [] line next after rest [] more why also_why e spell also fault also_fault = absurd spell
same_fault (first ∷ before) [] line next after rest (step ∷ plan) more why also_why e spell also fault also_fault =
    absurd (not_step_and_fault next step also_why (rw (head_same first next (before ++ line ∷ after) rest e) at spell.0) also_fault)
same_fault (first ∷ before) (second ∷ other) line next after rest [] more why also_why e spell also fault also_fault = absurd spell
same_fault (first ∷ before) (second ∷ other) line next after rest (step ∷ plan) (twin ∷ more) why also_why e spell also fault also_fault =
    let rests = tail_same first second (before ++ line ∷ after) (other ++ next ∷ rest) e in
    let preceded_by = same_fault before other line next after rest plan more why also_why rests spell.1 also.1 fault also_fault in
    (ap suc preceded_by.0, preceded_by.1)
same_fault _ _ line next after rest _ [] why also_why e spell also fault also_fault = absurd also

pub one_first_fault : (text : List ℕ) (number other_number : ℕ) (why other : LineWhy) → IsFirstPlanFault text number why → IsFirstPlanFault text other_number other
    → (number ≡ other_number) × (why ≡ other)
one_first_fault text number other_number why other (before, line, after, plan, has, spell, fault, e) (more, next, rest, twin, also, also_spell, also_fault, f) =
    let lines = same_lines text (before ++ line ∷ after) (more ++ next ∷ rest) has also in
    let same = same_fault before more line next after rest plan twin why other lines spell also_spell fault also_fault in
    (e ∙ ap (λ (n : ℕ). n + 1) same.0 ∙ sym f, same.1)

-- ---- one of both

-- lines that encode a plan, or have a first fault
abbrev PlanOrFault : List (List ℕ) → Type 0
PlanOrFault lines = ((plan : List Step) × AllZip EncodesStep lines plan)
    ⊎ ((before : List (List ℕ)) × (line : List ℕ) × (after : List (List ℕ)) × (plan : List Step) × (why : LineWhy)
    × (lines ≡ before ++ line ∷ after) × AllZip EncodesStep before plan × IsLineFault line why)

lines_decided : (lines : List (List ℕ)) → PlanOrFault lines
lines_decided [] = inl ([], tt)
lines_decided (line ∷ lines) =
    elim (step_or_fault line) [
      | inl step ↦
          elim (lines_decided lines) [
            | inl p ↦ inl (step.0 ∷ p.0, (step.1, p.1))
            | inr p ↦ inr (line ∷ p.0, p.1, p.2, step.0 ∷ p.3, p.4, ap (λ (more : List (List ℕ)). line ∷ more) p.5, (step.1, p.6), p.7)
          ]
      | inr fault ↦ inr ([], line, lines, [], fault.0, refl, tt, fault.1)
    ]

pub plan_or_fault : (text : List ℕ) → ((plan : List Step) × EncodesPlan text plan) ⊎ ((number : ℕ) × (why : LineWhy) × IsFirstPlanFault text number why)
plan_or_fault text =
    let lines = has_lines text in
    elim (lines_decided lines.0) [
      | inl p ↦ inl (p.0, (lines.0, lines.1, p.1))
      | inr p ↦
          let has : AreLines text (p.0 ++ p.1 ∷ p.2) = rw p.5 at lines.1 in
          inr (length p.0 + 1, p.4, (p.0, p.1, p.2, p.3, has, p.6, p.7, refl))
    ]
