-- A run over bytes in memory, from what its input and its outputs are before and after it.
use Rattle.std.specs.Prelude.{◌≡◌, ◌++◌, ◌∷◌, ℕ, false, List, [], Option, None, Some, IfSome, Result}
use Rattle.std.specs.Io.KnownBytes.{Consumes}
use Rattle.std.specs.declared.alloc.Global.{Global}
use Rattle.std.proofs.Common.{rules, refl, subst}
use Rattle.wsn_io.specs.Transfer.{Incoming, Outgoing}
use Rattle.wsn_command.specs.declared.answered.Ran.{Ran}
use Rattle.wsn_command.specs.declared.job.Job.{Job}
use Rattle.wsn_job.specs.Work.{IsRun}
use Rattle.wsn_io.specs.declared.stop.Stop.{Stop}
use Rattle.wsn_rules.specs.declared.compared.Compared.{Compared}
use Rattle.wsn_print.specs.Statuses.{comparison_status}
use Rattle.wsn_job.specs.Channels.{channels}
use Rattle.wsn_job.specs.Comparisons.{compared_channels, IsComparisonPrinted}
use Rattle.wsn_job.specs.Diagnostics.{IsStopDiagnosed}
use Rattle.wsn_command.specs.declared.comparison.Comparison.{Comparison}
use Rattle.wsn_c.specs.declared.options.Options.{Options}
use Rattle.wsn_c.specs.declared.options.Asked.{Asked}
use Rattle.wsn_c.specs.Asking.{AreInRange, IsAsked}
use Rattle.wsn_job.specs.Calls.{Call, IsRunOver, input_of, output_of}
use Rattle.wsn_c.specs.Calls.{IsComparedOver, GivesRun, IsCalled}

pub runs_over : (job : Job Global) (bytes text said : List ℕ) (ran : Ran) (left first : Incoming) (o o' e e' : Outgoing)
    → first ≡ input_of bytes → o ≡ output_of [] false → e ≡ output_of [] false
    → o' ≡ output_of text o'.failed → e' ≡ output_of said e'.failed
    → IsRun job (channels first o e) (channels left o' e') ran → IsRunOver job bytes text said e'.failed ran.status
runs_over job bytes text said ran left first o o' e e' is_input is_output is_errors printed told run =
    let i : Incoming = input_of bytes in let none : Outgoing = output_of [] false in
    let run1 = subst (λ (x : Incoming). IsRun job (channels x o e) (channels left o' e') ran) is_input run in
    let run2 = subst (λ (x : Outgoing). IsRun job (channels i x e) (channels left o' e') ran) is_output run1 in
    let run3 = subst (λ (x : Outgoing). IsRun job (channels i none x) (channels left o' e') ran) is_errors run2 in
    let run4 = subst (λ (x : Outgoing). IsRun job (channels i none none) (channels left x e') ran) printed run3 in
    record {
      left = left;
      printing_failed = o'.failed;
      ran = ran;
      status = refl;
      run = subst (λ (x : Outgoing). IsRun job (channels i none none) (channels left (output_of text o'.failed) x) ran) told run4;
    }

pub compares_over : (comparison : Comparison) (first second text said : List ℕ) (answer : Result Compared Stop) (exit : ℕ)
    (f f' s s' : Incoming) (o o' e e' : Outgoing)
    → f ≡ input_of first → s ≡ input_of second → o ≡ output_of [] false → e ≡ output_of [] false
    → o' ≡ output_of text o'.failed → e' ≡ output_of said e'.failed
    → IsComparisonPrinted comparison (compared_channels f s o) (compared_channels f' s' o') answer
    → exit ≡ comparison_status answer → IsStopDiagnosed answer e e' → IsComparedOver comparison first second text said exit
compares_over comparison first second text said answer exit f f' s s' o o' e e' is_first is_second is_output is_errors printed told done status stop =
    let one : Incoming = input_of first in let two : Incoming = input_of second in let none : Outgoing = output_of [] false in
    let done1 = subst (λ (x : Incoming). IsComparisonPrinted comparison (compared_channels x s o) (compared_channels f' s' o') answer) is_first done in
    let done2 = subst (λ (x : Incoming). IsComparisonPrinted comparison (compared_channels one x o) (compared_channels f' s' o') answer) is_second done1 in
    let done3 = subst (λ (x : Outgoing). IsComparisonPrinted comparison (compared_channels one two x) (compared_channels f' s' o') answer) is_output done2 in
    let stop1 = subst (λ (x : Outgoing). IsStopDiagnosed answer x e') is_errors stop in
    record {
      first_left = f';
      second_left = s';
      printing_failed = o'.failed;
      saying_failed = e'.failed;
      answer = answer;
      printed = subst (λ (x : Outgoing). IsComparisonPrinted comparison (compared_channels one two none) (compared_channels f' s' x) answer) printed done3;
      status = status;
      diagnosed = subst (λ (x : Outgoing). IsStopDiagnosed answer none x) told stop1;
    }

-- What a call does for its options, once they are in range.
pub called : (options : Options) (job : Asked → Job Global) (bytes : List ℕ) (done : Call) (asked : Asked)
    → IsAsked options asked → AreInRange options → GivesRun (job asked) bytes done → IsCalled options job bytes done
called options job bytes done asked is_asked in_range gives =
    record { run = λ _. (asked, is_asked, gives); usage = λ out. absurd (out in_range) }

-- A side of which all that is left is a sentinel is what came of it, and the sentinel.
pub before_sentinel : (side came : List ℕ) (left : Option (List ℕ)) (sentinel : ℕ) → Consumes (Some side) left came
    → IfSome left (λ left. left ≡ sentinel ∷ []) → side ≡ came ++ sentinel ∷ []
before_sentinel side came None sentinel consumed is_left = absurd consumed
before_sentinel side came (Some left) sentinel consumed is_left = search rules
