-- What the recutting calls answer.
use Rattle.std.specs.Prelude.{◌≡◌, ◌≤◌, ◌⊎◌, ◌++◌, ℕ, Bool, List, [], Option, None, Some, Result, Ok, Err, length, codes, decimal}
use Rattle.std.specs.declared.alloc.Global.{Global}
use Rattle.wsn_rules.specs.declared.step.Step.{Step}
use Rattle.wsn_command.specs.declared.job.Job.{Job, TheVariants.{Recut}}
use Rattle.wsn_command.specs.declared.job.How.TheVariants.{ByPlan, BySize}
use Rattle.wsn_command.specs.Jobs.{key_by_size}
use Rattle.wsn_plan_text.specs.PlanText.{IsReadPlan}
use Rattle.wsn_plan_text.specs.declared.plan_fault.PlanFault.{PlanFault}
use Rattle.wsn_plan_text.specs.declared.plan_fault.PlanFault.TheVariants as fault
use Rattle.wsn_plan_text.specs.declared.plan_fault.LineWhy.{LineWhy, TheVariants.{BadForm, BadNumber, BadKey, BadLength}}
use Rattle.wsn_c.specs.declared.options.Options.{Options}
use Rattle.wsn_c.specs.declared.options.Asked.{Asked}
use Rattle.wsn_c.specs.Asking.{AreInRange, IsAsked}
use Rattle.wsn_job.specs.Calls.{Call, Gives}
use Rattle.wsn_c.specs.Calls.{GivesRun, GivesUsage}
use Rattle.wsn_c.specs.Numbers.{flag_number}

-- ---- by a plan

-- the word of a plan line's fault
abbrev pub why_word : LineWhy → List ℕ
why_word BadForm = codes "bad-form"
why_word BadNumber = codes "bad-number"
why_word BadKey = codes "bad-key"
why_word BadLength = codes "bad-length"

-- the line of a plan's fault; a plan's lines are counted from 1
abbrev pub fault_line : PlanFault → List ℕ
fault_line fault.Memory = codes "out of memory\n"
fault_line (fault.Line number why) = codes "plan line " ++ decimal number ++ codes ": " ++ why_word why ++ codes "\n"

-- The call gives what a recut by the plan of this text prints, or reports the plan's fault.
abbrev pub GivesRead : Asked → Result (List Step) PlanFault → List ℕ → Call → Type 0
GivesRead asked (Ok steps) bytes done = GivesRun (Recut asked.role asked.limits (ByPlan steps)) bytes done
GivesRead asked (Err fault) bytes done = Gives done [] (fault_line fault) 2

abbrev pub GivesRecut : Asked → List ℕ → List ℕ → Call → Type 0
GivesRecut asked plan bytes done = (read : Result (List Step) PlanFault) × IsReadPlan plan read × GivesRead asked read bytes done

-- The call recuts by the plan of this text, for its options, as the program does. Options out of range are reported.
pub record IsRecut (options : Options) (plan bytes : List ℕ) (done : Call) : Type 0 where
  pub run : AreInRange options → (asked : Asked) × IsAsked options asked × GivesRecut asked plan bytes done
  pub usage : ¬ AreInRange options → GivesUsage done

-- ---- by size

-- the key that bytes name
abbrev pub key_named : List ℕ → Option (List ℕ)
key_named [] = None
key_named bytes = Some bytes

-- Bytes name no key, or a key of four bytes.
abbrev pub IsKeyInRange : List ℕ → Type 0
IsKeyInRange bytes = (bytes ≡ []) ⊎ (length bytes ≡ 4)

-- The options and arguments have a meaning: frames have at least a byte, and a server has no key.
pub record MayRecutBySize (options : Options) (size weave : ℕ) (key : List ℕ) : Type 0 where
  pub in_range : AreInRange options
  pub some_bytes : 1 ≤ size
  pub woven_or_not : weave ≤ 1
  pub named_key : IsKeyInRange key
  pub of_server : options.role ≡ 1 → key ≡ []

-- The job is the recut that the options and arguments ask for.
abbrev pub IsJobBySize : Options → ℕ → ℕ → List ℕ → Job Global → Type 0
IsJobBySize options size weave key job = (asked : Asked) × IsAsked options asked × (woven : Bool)
    × (weave ≡ flag_number woven)
    × (job ≡ Recut asked.role asked.limits (BySize size woven (key_by_size asked.role (key_named key))))

-- The call recuts by size, for its options and arguments, as the program does. What is out of range is reported.
pub record IsRecutBySize (options : Options) (size weave : ℕ) (key bytes : List ℕ) (done : Call) : Type 0 where
  pub run : MayRecutBySize options size weave key
      → (job : Job Global) × IsJobBySize options size weave key job × GivesRun job bytes done
  pub usage : ¬ MayRecutBySize options size weave key → GivesUsage done
