-- The text that is written of a plan encodes the plan.
use Rattle.std.proofs.Common.{◌≡◌, ℕ, zero, suc, ◌^◌, ◌<◌, Option, None, Some, List, [], ◌∷◌, ◌++◌, map, codes, refl, sym, ap, subst, ◌∙◌, arith}
use Rattle.std.specs.Prelude.{decimal, IfSome}
use Rattle.std.specs.List.{AllByRecursion, AllZip}
use Rattle.hex.specs.Hex.{lower_digits}
use Rattle.hex.specs.Hex as hex
use Rattle.hex.proofs.HexLemmas.{decode_of-encode_lower, length-encode_with}
use Rattle.wsn_wire.specs.Frame.{IsBytes, IsKey}
use Rattle.wsn_rules.specs.declared.step.Step.{Step}
use Rattle.wsn_rules.specs.declared.step.Step.TheVariants as step
use Rattle.wsn_rules.specs.Plan.{IsPlan, key_of, piece_length}
use Rattle.wsn_print.specs.HeadText.{key_text, form_text}
use Rattle.wsn_rules.specs.TextLines.{ended}
use Rattle.wsn_plan_text.specs.PlanText.{HasNo, EncodesKey, EncodesStep, EncodesPlan, step_line, plan_text}
use Rattle.wsn_plan_text.proofs.EncodedFields.{number_has_no, key_has_no, form_has_no_lf}

-- ---- a line that encodes a step has no LF

both_have_no : (byte : ℕ) (text other : List ℕ) → HasNo byte text → HasNo byte other → HasNo byte (text ++ other)
both_have_no byte [] other clear also = also
both_have_no byte (x ∷ text) other clear also = (clear.0, both_have_no byte text other clear.1 also)

key_has_no_lf : (text : List ℕ) (key : Option (List ℕ)) → EncodesKey text key → HasNo 10 text
key_has_no_lf text key spells = key_has_no 10 text key (λ e. cc e) (omega arith) spells

step_has_no_lf : (line : List ℕ) (step : Step) → EncodesStep line step → HasNo 10 line
step_has_no_lf line (step.Piece len key form) spells =
    let number = number_has_no 10 spells.0 len (omega arith) spells.2 in
    let word : HasNo 10 (codes "piece ") = (omega arith, (omega arith, (omega arith, (omega arith, (omega arith, (omega arith, tt)))))) in
    let front = both_have_no 10 (codes "piece " ++ spells.0) (codes " ") (both_have_no 10 (codes "piece ") spells.0 word number) (omega arith, tt) in
    let most = both_have_no 10 (codes "piece " ++ spells.0 ++ codes " ") spells.1 front (key_has_no_lf spells.1 key spells.3) in
    subst (HasNo 10) (sym spells.4) (both_have_no 10 (codes "piece " ++ spells.0 ++ codes " " ++ spells.1) (form_text form) most (form_has_no_lf form))
step_has_no_lf line (step.Last key form) spells =
    let word : HasNo 10 (codes "last ") = (omega arith, (omega arith, (omega arith, (omega arith, (omega arith, tt))))) in
    let most = both_have_no 10 (codes "last ") spells.0 word (key_has_no_lf spells.0 key spells.1) in
    subst (HasNo 10) (sym spells.2) (both_have_no 10 (codes "last " ++ spells.0) (form_text form) most (form_has_no_lf form))
step_has_no_lf line (step.Control key) spells =
    let word : HasNo 10 (codes "control ") =
    (omega arith, (omega arith, (omega arith, (omega arith, (omega arith, (omega arith, (omega arith, (omega arith, tt)))))))) in
    subst (HasNo 10) (sym spells.2) (both_have_no 10 (codes "control ") spells.0 word (key_has_no_lf spells.0 key spells.1))

-- ---- what is written of a step

-- the line of a step, without its LF
abbrev line_text : Step → List ℕ
line_text (step.Piece len key form) = codes "piece " ++ decimal len ++ codes " " ++ key_text key ++ form_text form
line_text (step.Last key form) = codes "last " ++ key_text key ++ form_text form
line_text (step.Control key) = codes "control " ++ key_text key

ended_line : (step : Step) → step_line step ≡ line_text step ++ codes "\n"
ended_line step = grind arith

bytes_by_place : (bytes : List ℕ) → IsBytes bytes → hex.IsBytes bytes
bytes_by_place [] all i = omega arith
bytes_by_place (byte ∷ bytes) all zero = all.0
bytes_by_place (byte ∷ bytes) all (suc i) = bytes_by_place bytes all.1 i

key_encoded : (key : Option (List ℕ)) → IfSome key IsKey → EncodesKey (key_text key) key
key_encoded None is_key = refl
key_encoded (Some key) is_key =
    (omega (arith, length-encode_with lower_digits key, is_key.0), decode_of-encode_lower key (bytes_by_place key is_key.1))

line_encodes : (step : Step) → IfSome (key_of step) IsKey → piece_length step < 2 ^ 64 → EncodesStep (line_text step) step
line_encodes step is_key small = grind (arith, key_encoded)

-- ---- what is written of a plan

lines_spell : (plan : List Step) → IsPlan plan → AllByRecursion (λ step. piece_length step < 2 ^ 64) plan
    → AllZip EncodesStep (map line_text plan) plan
lines_spell [] is_plan small = tt
lines_spell (step ∷ plan) is_plan small = (line_encodes step is_plan.0 small.0, lines_spell plan is_plan.1 small.1)

lines_without_lf : (lines : List (List ℕ)) (plan : List Step) → AllZip EncodesStep lines plan → AllByRecursion (HasNo 10) lines
lines_without_lf [] [] spell = tt
lines_without_lf (line ∷ lines) (step ∷ plan) spell = (step_has_no_lf line step spell.0, lines_without_lf lines plan spell.1)
lines_without_lf _ _ spell = absurd spell

text_of_lines : (plan : List Step) → plan_text plan ≡ ended (map line_text plan)
text_of_lines [] = refl
text_of_lines (step ∷ plan) =
    ap (λ (text : List ℕ). text ++ plan_text plan) (ended_line step)
    ∙ ap (λ (text : List ℕ). line_text step ++ codes "\n" ++ text) (text_of_lines plan)

pub text_encodes_plan : (plan : List Step) → IsPlan plan → AllByRecursion (λ step. piece_length step < 2 ^ 64) plan → EncodesPlan (plan_text plan) plan
text_encodes_plan plan is_plan small = grind (arith, lines_spell, lines_without_lf, text_of_lines)
