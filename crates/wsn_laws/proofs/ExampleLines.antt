-- Lines and keys that occur in several examples.
use Rattle.std.proofs.Common.{◌^◌, Some, None, [], ◌∷◌, codes, refl}
use Rattle.std.proofs.lemmas.Bool.{ltb-true}
use Rattle.std.specs.Fmt.{digits}
use Rattle.hex.specs.Hex.{decode_pairs}
use Rattle.wsn_wire.specs.declared.length_encoding.Form.TheVariants.{Shortest, Eight}
use Rattle.wsn_rules.specs.declared.step.Step.TheVariants.{Piece, Last, Control}
use Rattle.wsn_plan_text.specs.declared.plan_fault.LineWhy.TheVariants.{BadForm, BadNumber, BadKey}
use Rattle.wsn_plan_text.specs.PlanText.{EncodesKey, EncodesNumber, EncodesStep, IsLineFault}
use Rattle.wsn_plan_text.proofs.DecidedLines.{decoded_line, is_faulty}

-- ---- numbers and keys

pub three : EncodesNumber (codes "3") 3
unfolding digits
three = (ltb-true 3 (2 ^ 64) refl, refl)

pub one_to_four : EncodesKey (codes "01020304") (Some (0x01 ∷ 0x02 ∷ 0x03 ∷ 0x04 ∷ []))
unfolding decode_pairs
one_to_four = (refl, refl)

pub lower_key : EncodesKey (codes "37fa213d") (Some (0x37 ∷ 0xfa ∷ 0x21 ∷ 0x3d ∷ []))
unfolding decode_pairs
lower_key = (refl, refl)

pub upper_key : EncodesKey (codes "37FA213D") (Some (0x37 ∷ 0xfa ∷ 0x21 ∷ 0x3d ∷ []))
unfolding decode_pairs
upper_key = (refl, refl)

-- ---- lines that encode a step

pub piece_3 : EncodesStep (codes "piece 3 -") (Piece 3 None Shortest)
piece_3 = (codes "3", codes "-", three, refl, refl)

pub last_alone : EncodesStep (codes "last -") (Last None Shortest)
last_alone = (codes "-", refl, refl)

pub control_alone : EncodesStep (codes "control -") (Control None)
control_alone = (codes "-", refl, refl)

pub last_upper : EncodesStep (codes "last 37FA213D") (Last (Some (0x37 ∷ 0xfa ∷ 0x21 ∷ 0x3d ∷ [])) Shortest)
last_upper = (codes "37FA213D", upper_key, refl)

pub last_eight : EncodesStep (codes "last - eight") (Last None Eight)
last_eight = (codes "-", refl, refl)

-- ---- faulty lines

pub empty_line : IsLineFault [] BadForm
unfolding decoded_line
empty_line = is_faulty [] BadForm refl

pub two_spaces : IsLineFault (codes "last  -") BadForm
unfolding decoded_line
two_spaces = is_faulty (codes "last  -") BadForm refl

pub control_two : IsLineFault (codes "control - two") BadForm
unfolding decoded_line
control_two = is_faulty (codes "control - two") BadForm refl

pub leading_zero : IsLineFault (codes "piece 03 -") BadNumber
unfolding decoded_line
leading_zero = is_faulty (codes "piece 03 -") BadNumber refl

pub letter : IsLineFault (codes "piece x y") BadNumber
unfolding decoded_line
letter = is_faulty (codes "piece x y") BadNumber refl

pub letters_for_a_key : IsLineFault (codes "piece 3 xyz") BadKey
unfolding decoded_line
letters_for_a_key = is_faulty (codes "piece 3 xyz") BadKey refl
