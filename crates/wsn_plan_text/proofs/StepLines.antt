-- The line of a step, whose parts are written from the first to the last, after other lines.
use Rattle.std.proofs.Common.{◌≡◌, ℕ, Option, List, ◌++◌, sym, ap, ◌∙◌, codes, decimal, append_assoc}
use Rattle.wsn_wire.specs.declared.length_encoding.Form.{Form}
use Rattle.wsn_rules.specs.declared.step.Step.TheVariants as step
use Rattle.wsn_print.specs.HeadText.{key_text, form_text}
use Rattle.wsn_print.proofs.Appended.{two, three, four}
use Rattle.wsn_plan_text.specs.PlanText.{step_line}

-- A text and the form and end of its line.
ended : (t0 t1 t2 line form end : List ℕ) → t1 ≡ t0 ++ line → t2 ≡ t1 ++ (form ++ end) → t2 ≡ t0 ++ (line ++ form ++ end)
ended t0 t1 t2 line form end is1 is2 = two t0 t1 t2 line (form ++ end) is1 is2 ∙ ap (λ (t : List ℕ). t0 ++ t) (sym (append_assoc line form end))

pub piece_of_parts : (n : ℕ) (key : Option (List ℕ)) (form : Form) (t0 t1 t2 t3 t4 t5 : List ℕ) → t1 ≡ t0 ++ codes "piece " → t2 ≡ t1 ++ decimal n → t3 ≡ t2 ++ codes " "
    → t4 ≡ t3 ++ key_text key → t5 ≡ t4 ++ (form_text form ++ codes "\n") → t5 ≡ t0 ++ step_line (step.Piece n key form)
piece_of_parts n key form t0 t1 t2 t3 t4 t5 is1 is2 is3 is4 is5 =
    ended t0 t4 t5 (codes "piece " ++ decimal n ++ codes " " ++ key_text key) (form_text form) (codes "\n")
    (four t0 t1 t2 t3 t4 (codes "piece ") (decimal n) (codes " ") (key_text key) is1 is2 is3 is4) is5

pub last_of_parts : (key : Option (List ℕ)) (form : Form) (t0 t1 t2 t3 : List ℕ) → t1 ≡ t0 ++ codes "last " → t2 ≡ t1 ++ key_text key → t3 ≡ t2 ++ (form_text form ++ codes "\n")
    → t3 ≡ t0 ++ step_line (step.Last key form)
last_of_parts key form t0 t1 t2 t3 is1 is2 is3 =
    ended t0 t2 t3 (codes "last " ++ key_text key) (form_text form) (codes "\n") (two t0 t1 t2 (codes "last ") (key_text key) is1 is2) is3

pub control_of_parts : (key : Option (List ℕ)) (t0 t1 t2 t3 : List ℕ) → t1 ≡ t0 ++ codes "control " → t2 ≡ t1 ++ key_text key → t3 ≡ t2 ++ codes "\n"
    → t3 ≡ t0 ++ step_line (step.Control key)
control_of_parts key t0 t1 t2 t3 is1 is2 is3 = three t0 t1 t2 t3 (codes "control ") (key_text key) (codes "\n") is1 is2 is3
