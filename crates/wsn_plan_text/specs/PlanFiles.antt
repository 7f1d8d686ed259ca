-- What reading a plan file gives.
use Rattle.std.specs.Prelude.{◌≡◌, ℕ, ◌<◌, ◌≤◌, false, true, List, Result, Ok, Err, length}
use Rattle.std.specs.Io.KnownBytes.{IsAtEnd}
use Rattle.wsn_io.specs.Transfer.{Incoming, IsReceived}
use Rattle.wsn_rules.specs.declared.step.Step.{Step}
use Rattle.wsn_plan_text.specs.declared.plan_fault.PlanFault.TheVariants.{Line, Memory}
use Rattle.wsn_plan_text.specs.PlanText.{EncodesPlan, IsFirstPlanFault}
use Rattle.wsn_plan_text.specs.declared.plan_files.PlanFileFault.{PlanFileFault, TheVariants.{Unread, TooLong, Faulty}}

-- These bytes are the whole file, which has at most 2^26 bytes.
abbrev pub IsWholeFile : Incoming → List ℕ → Type 0
IsWholeFile new text = IsAtEnd new.remaining × (length text ≤ 67108864) × (new.failed ≡ false)

-- The answer is right for these bytes of a file: the plan that the whole file encodes, or its first fault; an
-- allocation failed after the first byte; one byte more than 2^26 came; or a read failed.
abbrev pub IsPlanOfFile : Incoming → List ℕ → Result (List Step) PlanFileFault → Type 0
IsPlanOfFile new text (Ok plan) = IsWholeFile new text × EncodesPlan text plan
IsPlanOfFile new text (Err (Faulty (Line number why))) = IsWholeFile new text × IsFirstPlanFault text number why
IsPlanOfFile new text (Err (Faulty Memory)) = (0 < length text) × (new.failed ≡ false)
IsPlanOfFile new text (Err TooLong) = (length text ≡ 67108865) × (new.failed ≡ false)
IsPlanOfFile new text (Err Unread) = (length text ≤ 67108864) × (new.failed ≡ true)

-- Some bytes of a file came, at most one more than 2^26, and the answer is right for them.
abbrev pub IsPlanFileRead : Incoming → Incoming → Result (List Step) PlanFileFault → Type 0
IsPlanFileRead old new result =
    (text : List ℕ) × IsReceived 67108865 old new text × IsPlanOfFile new text result

-- All bytes of a file came.
abbrev pub IsTextRead : Incoming → Incoming → List ℕ → Type 0
IsTextRead old new text = IsReceived 67108865 old new text × IsWholeFile new text
