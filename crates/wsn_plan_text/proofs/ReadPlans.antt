-- Reading a text line by line.
use Rattle.std.proofs.Common.{◌≡◌, ◌≢◌, ℕ, ◌+◌, ◌<◌, List, [], ◌∷◌, ◌++◌, length, refl, sym, ap, subst, ◌∙◌, inl, inr, arith, append_assoc, length-append}
use Rattle.std.specs.List.{AllZip}
use Rattle.std.proofs.lemmas.List.{append-nil}
use Rattle.wsn_rules.specs.declared.step.Step.{Step}
use Rattle.wsn_plan_text.specs.declared.plan_fault.LineWhy.{LineWhy}
use Rattle.wsn_plan_text.specs.PlanText.{EncodesStep, EncodesPlan, IsLineFault, IsFirstPlanFault, BeginsWithAStep}
use Rattle.wsn_plan_text.specs.Splits.{IsNextLine}
use Rattle.wsn_rules.specs.TextLines.{AreLines}
use Rattle.wsn_rules.proofs.TextLines.{no_lines, line_in_front, last_line, same_lines, has_lines}

-- the lines so far encode the plan so far, and with the lines of the rest they are the lines of the text
abbrev pub HasReadPlan : List ℕ → List ℕ → List Step → ℕ → Type 0
HasReadPlan text rest plan number = (lines : List (List ℕ)) × AllZip EncodesStep lines plan × (length lines ≡ number)
    × ((more : List (List ℕ)) → AreLines rest more → AreLines text (lines ++ more))

pub all_read : (text rest : List ℕ) (plan : List Step) (number : ℕ) → HasReadPlan text rest plan number → rest ≡ [] → EncodesPlan text plan
all_read text rest plan number read none =
    (read.0, subst (AreLines text) (append-nil read.0) (read.3 [] (subst (λ (other : List ℕ). AreLines other []) (sym none) no_lines)), read.1)

next_in_front : (text line rest : List ℕ) → IsNextLine text line rest → (more : List (List ℕ)) → AreLines rest more → AreLines text (line ∷ more)
next_in_front text line rest next more has =
    elim next.1 [
      | inl ends ↦ subst (λ (other : List ℕ). AreLines other (line ∷ more)) (sym ends) (line_in_front line rest more next.0 has)
      | inr unended ↦
          let none : [] ≡ more = same_lines [] [] more no_lines (subst (λ (other : List ℕ). AreLines other more) unended.2 has) in
          let alone : AreLines text (line ∷ []) = subst (λ (other : List ℕ). AreLines other (line ∷ [])) (sym unended.1) (last_line line next.0 unended.0) in
          subst (λ (others : List (List ℕ)). AreLines text (line ∷ others)) none alone
    ]

zip_push : (lines : List (List ℕ)) (plan : List Step) (line : List ℕ) (step : Step) → AllZip EncodesStep lines plan → EncodesStep line step
    → AllZip EncodesStep (lines ++ line ∷ []) (plan ++ step ∷ [])
zip_push [] [] line step spell spells = (spells, tt)
zip_push (first ∷ lines) (next ∷ plan) line step spell spells = (spell.0, zip_push lines plan line step spell.1 spells)
zip_push _ _ line step spell spells = absurd spell

pub one_more_read : (text rest line later : List ℕ) (plan : List Step) (number : ℕ) (step : Step) → HasReadPlan text rest plan number
    → IsNextLine rest line later → EncodesStep line step → HasReadPlan text later (plan ++ step ∷ []) (number + 1)
one_more_read text rest line later plan number step read next spells =
    let count = read.2 in (
      read.0 ++ line ∷ [],
      zip_push read.0 plan line step read.1 spells,
      length-append read.0 (line ∷ []) ∙ ap (λ (n : ℕ). n + 1) count,
      λ more has. subst (AreLines text) (sym (append_assoc read.0 (line ∷ []) more)) (read.3 (line ∷ more) (next_in_front rest line later next more has)),
    )

-- the lines of the text, split at the next one
lines_about : (text rest line later : List ℕ) (plan : List Step) (number : ℕ) (read : HasReadPlan text rest plan number) → IsNextLine rest line later
    → (after : List (List ℕ)) × AreLines text (read.0 ++ line ∷ after)
lines_about text rest line later plan number read next =
    let preceded_by = has_lines later in
    (preceded_by.0, read.3 (line ∷ preceded_by.0) (next_in_front rest line later next preceded_by.0 preceded_by.1))

pub fault_read : (text rest line later : List ℕ) (plan : List Step) (number : ℕ) (why : LineWhy) → HasReadPlan text rest plan number
    → IsNextLine rest line later → IsLineFault line why → IsFirstPlanFault text (number + 1) why
fault_read text rest line later plan number why read next fault =
    let about = lines_about text rest line later plan number read next in
    (read.0, line, about.0, plan, about.1, read.1, fault, ap (λ (n : ℕ). n + 1) (sym read.2))

begins : (text : List ℕ) (before : List (List ℕ)) (line : List ℕ) (after : List (List ℕ)) (plan : List Step) (step : Step)
    → AreLines text (before ++ line ∷ after) → AllZip EncodesStep before plan → EncodesStep line step → BeginsWithAStep text
begins text [] line after plan step has spell spells = (line, after, step, has, spells)
begins text (first ∷ before) line after [] step has spell spells = absurd spell
begins text (first ∷ before) line after (next ∷ plan) step has spell spells = (first, before ++ line ∷ after, next, has, spell.0)

pub begins_read : (text rest line later : List ℕ) (plan : List Step) (number : ℕ) (step : Step) → HasReadPlan text rest plan number
    → IsNextLine rest line later → EncodesStep line step → BeginsWithAStep text
begins_read text rest line later plan number step read next spells =
    let about = lines_about text rest line later plan number read next in
    begins text read.0 line about.0 plan step about.1 read.1 spells

some_and_none : (text line rest : List ℕ) → line ≢ [] → text ≡ line → rest ≡ [] → length rest < length text
some_and_none text [] rest some e none = absurd (some refl)
some_and_none text (x ∷ line) rest some e none =
    omega (arith, ap (λ (other : List ℕ). length other) e, ap (λ (other : List ℕ). length other) none)

-- the rest gets shorter
pub shorter : (text line rest : List ℕ) → IsNextLine text line rest → length rest < length text
shorter text line rest next = grind (arith, length-append, some_and_none)
