-- A line has one first fault, and none if it encodes a step.
use Rattle.std.proofs.Common.{◌≡◌, ℕ, List, arith}
use Rattle.wsn_rules.specs.declared.step.Step.{Step}
use Rattle.wsn_plan_text.specs.declared.plan_fault.LineWhy.{LineWhy}
use Rattle.wsn_plan_text.specs.declared.plan_fault.LineWhy.TheVariants.{BadForm, BadNumber, BadKey, BadLength}
use Rattle.wsn_plan_text.specs.PlanText.{Fields, HasFields, HasNumber, HasKey, HasForm, EncodesStep, IsLineFault}
use Rattle.wsn_plan_text.proofs.FieldsOfLine.{one_list_of_fields}
use Rattle.wsn_plan_text.proofs.EncodedLines.{fields_of_step, reported_parts}

-- these fields have this fault and none that comes before it
abbrev Opposes : LineWhy → Fields → Type 0
Opposes BadForm fields = ⊥
Opposes BadNumber fields = ¬ (HasNumber fields)
Opposes BadKey fields = HasNumber fields × (¬ (HasKey fields))
Opposes BadLength fields = HasNumber fields × HasKey fields × (¬ (HasForm fields))

-- the fault of a line with these fields
fault_of_fields : (line : List ℕ) (fields : Fields) (why : LineWhy) → HasFields line fields → IsLineFault line why → Opposes why fields
fault_of_fields line fields why has fault = grind (arith, one_list_of_fields)

pub not_step_and_fault : (line : List ℕ) (step : Step) (why : LineWhy) → EncodesStep line step → ¬ (IsLineFault line why)
not_step_and_fault line step BadForm spells fault = let f = fields_of_step line step spells in fault f.0 f.1
not_step_and_fault line step BadNumber spells fault =
    let f = fields_of_step line step spells in
    fault_of_fields line f.0 BadNumber f.1 fault (reported_parts f.0 step f.2).0
not_step_and_fault line step BadKey spells fault =
    let f = fields_of_step line step spells in
    (fault_of_fields line f.0 BadKey f.1 fault).1 (reported_parts f.0 step f.2).1
not_step_and_fault line step BadLength spells fault =
    let f = fields_of_step line step spells in
    (fault_of_fields line f.0 BadLength f.1 fault).2 (reported_parts f.0 step f.2).2

one_opposed : (fields : Fields) (why other : LineWhy) → Opposes why fields → Opposes other fields → why ≡ other
one_opposed fields why other fault also = grind arith

of_same_fields : (line : List ℕ) (fields : Fields) (why other : LineWhy) → HasFields line fields → IsLineFault line why → IsLineFault line other → why ≡ other
of_same_fields line fields why other has fault also =
    one_opposed fields why other (fault_of_fields line fields why has fault) (fault_of_fields line fields other has also)

pub one_line_fault : (line : List ℕ) (why other : LineWhy) → IsLineFault line why → IsLineFault line other → why ≡ other
one_line_fault line why other fault also = grind (arith, of_same_fields)
