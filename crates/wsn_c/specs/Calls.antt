-- What the calls answer.
use Rattle.std.specs.Prelude.{◌≡◌, ℕ, Bool, false, Option, Result, List, [], codes}
use Rattle.std.specs.declared.alloc.Global.{Global}
use Rattle.wsn_io.specs.Transfer.{Incoming}
use Rattle.wsn_command.specs.declared.job.Job.{Job}
use Rattle.wsn_job.specs.Calls.{Call, Gives, IsRunOver, input_of, output_of}
use Rattle.wsn_job.specs.Comparisons.{compared_channels, IsComparisonPrinted}
use Rattle.wsn_job.specs.Diagnostics.{IsStopDiagnosed}
use Rattle.wsn_command.specs.declared.comparison.Comparison.{Comparison}
use Rattle.wsn_print.specs.Statuses.{comparison_status}
use Rattle.wsn_rules.specs.declared.compared.Compared.{Compared}
use Rattle.wsn_io.specs.declared.stop.Stop.{Stop}
use Rattle.wsn_c.specs.declared.answer.Answer.{Answer}
use Rattle.wsn_c.specs.declared.options.Options.{Options}
use Rattle.wsn_c.specs.declared.options.Asked.{Asked}
use Rattle.wsn_c.specs.Asking.{AreInRange, IsAsked}

-- a call, from each by itself
abbrev pub call : List ℕ → List ℕ → List ℕ → List ℕ → Answer → Call
call output_before output_after message_before message_after answer = record {
  output_before = output_before;
  output_after = output_after;
  message_before = message_before;
  message_after = message_after;
  output_size = answer.output;
  message_size = answer.message;
  status = answer.status;
}

-- The call gives what the command's run over these bytes prints.
abbrev pub GivesRun : Job Global → List ℕ → Call → Type 0
GivesRun job bytes done = (text said : List ℕ) × (saying_failed : Bool) × (exit : ℕ)
    × IsRunOver job bytes text said saying_failed exit × Gives done text said exit

-- The call reports that an option or an argument is out of range.
abbrev pub GivesUsage : Call → Type 0
GivesUsage done = Gives done [] (codes "usage\n") 2

-- The comparison of these bytes prints this text on standard output, this message on standard error, and has this exit
-- status.
pub record IsComparedOver (comparison : Comparison) (first second text said : List ℕ) (exit : ℕ) : Type 0 where
  pub first_left : Incoming
  pub second_left : Incoming
  pub printing_failed : Bool
  pub saying_failed : Bool
  pub answer : Result Compared Stop
  pub printed : IsComparisonPrinted comparison (compared_channels (input_of first) (input_of second) (output_of [] false))
      (compared_channels first_left second_left (output_of text printing_failed)) answer
  pub status : exit ≡ comparison_status answer
  pub diagnosed : IsStopDiagnosed answer (output_of [] false) (output_of said saying_failed)

-- The comparison that is asked for, with this view of events that differ.
pub record IsComparisonAsked (asked : Asked) (wanted : Option ℕ) (comparison : Comparison) : Type 0 where
  pub role : comparison.role ≡ asked.role
  pub limits : comparison.limits ≡ asked.limits
  pub without : comparison.without ≡ asked.without
  pub format : comparison.format ≡ asked.style.format
  pub view : comparison.view ≡ wanted

-- The call gives what the comparison of these bytes prints that is asked for.
abbrev pub GivesComparison : Asked → Option ℕ → List ℕ → List ℕ → Call → Type 0
GivesComparison asked view first second done = (comparison : Comparison) × IsComparisonAsked asked view comparison
    × (text : List ℕ) × (said : List ℕ) × (exit : ℕ) × IsComparedOver comparison first second text said exit
    × Gives done text said exit

-- The call does for its options what the program does: the command's run that they ask for. Options out of range are
-- reported.
pub record IsCalled (options : Options) (job : Asked → Job Global) (bytes : List ℕ) (done : Call) : Type 0 where
  pub run : AreInRange options → (asked : Asked) × IsAsked options asked × GivesRun (job asked) bytes done
  pub usage : ¬ AreInRange options → GivesUsage done

-- The call compares for its options as the program does, with this view of events that differ. Options out of range are
-- reported.
pub record IsCompared (options : Options) (view : Asked → Option ℕ) (first second : List ℕ) (done : Call) : Type 0 where
  pub run : AreInRange options → (asked : Asked) × IsAsked options asked
      × GivesComparison asked (view asked) first second done
  pub usage : ¬ AreInRange options → GivesUsage done
