-- No read of lent bytes fails in a run.
use Rattle.std.proofs.Common.{◌≡◌, ℕ, List, Result, Ok, Err, true, false, ap, ◌∙◌}
use Rattle.wsn_wire.specs.declared.endpoint.Role.{Role}
use Rattle.wsn_io.specs.Transfer.{Incoming, Outgoing, IsReceived}
use Rattle.wsn_io.specs.declared.stop.Stop.{Stop}
use Rattle.wsn_io.specs.declared.stop.Stop.TheVariants as stop
use Rattle.wsn_rules.specs.Limits.{Limits}
use Rattle.wsn_rules.specs.declared.compared.Compared.{Compared}
use Rattle.wsn_rules.specs.declared.verdict.Verdict.{Verdict}
use Rattle.wsn_capture.specs.declared.capture_report.CaptureReport.{CaptureReport}
use Rattle.wsn_print.specs.declared.format.Format.{Format}
use Rattle.wsn_print.specs.declared.style.Style.{Style}
use Rattle.wsn_show.specs.declared.showing.ShowStop.{ShowStop}
use Rattle.wsn_show.specs.declared.showing.ShowStop.TheVariants.{Write}
use Rattle.wsn_plan.specs.declared.planning.PlanAnswer.{PlanAnswer}
use Rattle.wsn_plan.specs.declared.planning.PlanAnswer.TheVariants as planning
use Rattle.wsn_command.specs.declared.comparison.Comparison.{Comparison}
use Rattle.wsn_command.specs.declared.answered.Ran.{Ran}
use Rattle.wsn_command.specs.declared.job.Job.{Job}
use Rattle.wsn_command.specs.declared.job.Job.TheVariants.{Judge, Frames, Normal, Redact, Plan, Recut, Payload, ShowStream, Closing, Show, RedactCapture}
use Rattle.wsn_job.specs.Channels.{Channels}
use Rattle.wsn_job.specs.Closings.{IsReportPrinted}
use Rattle.wsn_job.specs.Comparisons.{ComparedChannels, IsComparisonPrinted}
use Rattle.wsn_job.specs.Plans.{IsPlanPrinted}
use Rattle.wsn_job.specs.Verdicts.{IsVerdictPrinted}
use Rattle.wsn_job.specs.Work.{IsDone, IsMemoryRefused, IsRun}
use Rattle.wsn_job.specs.declared.done.Done.{Done}
use Rattle.wsn_job.specs.declared.done.Done.TheVariants as done

-- No read of this input failed.
abbrev IsRead : Incoming → Incoming → Type 0
IsRead old new = old.lent ≡ true → old.failed ≡ false → new.failed ≡ false

received_is_read : (most : ℕ) (old new : Incoming) (came : List ℕ) → IsReceived most old new came → IsRead old new
received_is_read most old new came received lent unfailed = (received.consumed.readable lent).1 ∙ unfailed

verdict_is_read : (format : Format) (role : Role) (limits : Limits) (old new : Incoming) (before after : Outgoing) (done : Result Verdict Stop)
    → IsVerdictPrinted format role limits old new before after done → IsRead old new
verdict_is_read format role limits old new before after (Err stop.Write) printed = received_is_read _ old new _ printed.1.1.received
verdict_is_read format role limits old new before after _ printed = received_is_read _ old new _ printed.0.1.received

plan_is_read : {A : Type 0} (role : Role) (limits : Limits) (old new : Incoming) (before after : Outgoing) (done : Result (PlanAnswer A) Stop)
    → IsPlanPrinted role limits old new before after done → IsRead old new
plan_is_read role limits old new before after (Ok (planning.Plan plan)) printed = received_is_read _ old new _ printed.0.received
plan_is_read role limits old new before after (Ok (planning.NotAccepted verdict)) printed = received_is_read _ old new _ printed.0.received
plan_is_read role limits old new before after (Ok planning.Unfinished) printed = received_is_read _ old new _ printed.0.received
plan_is_read role limits old new before after (Err stop.Write) printed = received_is_read _ old new _ printed.1.received
plan_is_read role limits old new before after (Err stop.Read) printed = received_is_read _ old new _ printed.0.received
plan_is_read role limits old new before after (Err stop.Memory) printed = received_is_read _ old new _ printed.0.received
plan_is_read role limits old new before after (Err stop.InputLimit) printed = received_is_read _ old new _ printed.0.received

report_is_read : (format : Format) (limits : Limits) (old new : Incoming) (before after : Outgoing) (done : Result CaptureReport ShowStop)
    → IsReportPrinted format limits old new before after done → IsRead old new
report_is_read format limits old new before after (Err Write) printed = received_is_read _ old new _ printed.1.received
report_is_read format limits old new before after _ printed = received_is_read _ old new _ printed.0.received

refused_is_read : (style : Style) (old new : Incoming) (before after : Outgoing) → IsMemoryRefused style old new before after → IsRead old new
refused_is_read style old new before after refused lent unfailed = ap (λ (i : Incoming). i.failed) refused.1 ∙ unfailed

done_is_read : {A : Type 0} (job : Job A) (old new : Incoming) (before after : Outgoing) (d : Done A) → IsDone job old new before after d → IsRead old new
done_is_read (Judge role limits format) old new before after (done.Judge answer) is = verdict_is_read format role limits old new before after answer is
done_is_read (Frames role limits format) old new before after (done.Frames answer) is = received_is_read _ old new _ is.received
done_is_read (Normal role limits) old new before after (done.Normal answer) is = received_is_read _ old new _ is.received
done_is_read (Redact role limits) old new before after (done.Redact answer) is = received_is_read _ old new _ is.received
done_is_read (Plan role limits) old new before after (done.Plan answer) is = plan_is_read role limits old new before after answer is
done_is_read (Recut role limits how) old new before after (done.Recut answer) is = received_is_read _ old new _ is.received
done_is_read (Payload role limits at) old new before after (done.Payload place answer) is = received_is_read _ old new _ is.1.received
done_is_read (ShowStream role limits style) old new before after (done.ShowStream answer) is = received_is_read _ old new _ is.received
done_is_read (ShowStream role limits style) old new before after done.Memory is = refused_is_read style old new before after is
done_is_read (Closing limits format) old new before after (done.Closing answer) is = report_is_read format limits old new before after answer is
done_is_read (Show limits style) old new before after (done.Show answer) is = received_is_read _ old new _ is.received
done_is_read (Show limits style) old new before after done.Memory is = refused_is_read style old new before after is
done_is_read (RedactCapture limits) old new before after (done.RedactCapture answer) is = received_is_read _ old new _ is.received
done_is_read job old new before after d is = absurd is

pub run_is_read : {A : Type 0} (job : Job A) (before after : Channels) (ran : Ran) → IsRun job before after ran → IsRead before.input after.input
run_is_read job before after ran run = done_is_read job before.input after.input before.output after.output run.0 run.1

-- No read of either failed.
abbrev AreRead : ComparedChannels → ComparedChannels → Type 0
AreRead before after = IsRead before.first after.first × IsRead before.second after.second

pub comparison_is_read : (comparison : Comparison) (before after : ComparedChannels) (answer : Result Compared Stop)
    → IsComparisonPrinted comparison before after answer → AreRead before after
comparison_is_read comparison before after (Err stop.Write) printed = (received_is_read _ _ _ _ printed.1.received, received_is_read _ _ _ _ printed.1.other_received)
comparison_is_read comparison before after _ printed = (received_is_read _ _ _ _ printed.0.received, received_is_read _ _ _ _ printed.0.other_received)
