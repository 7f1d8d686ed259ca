-- A job on a side whose read failed ended with the stop `Read`.
use Rattle.std.proofs.Common.{◌≡◌, ℕ, true, false, Result, Ok, Err, List, refl, sym, ap, subst, inl, inr, ◌∙◌}
use Rattle.wsn_wire.specs.declared.endpoint.Role.{Role}
use Rattle.wsn_io.specs.Transfer.{Incoming, Outgoing}
use Rattle.wsn_io.specs.declared.stop.Stop.{Stop}
use Rattle.wsn_io.specs.declared.stop.Stop.TheVariants as stop
use Rattle.wsn_rules.specs.Limits.{Limits}
use Rattle.wsn_rules.specs.declared.verdict.Verdict.{Verdict}
use Rattle.wsn_rules.specs.declared.verdict.Verdict.TheVariants.{Accepted}
use Rattle.wsn_print.specs.declared.format.Format.{Format}
use Rattle.wsn_print.specs.FaultText.{line_fault_line, stop_line}
use Rattle.wsn_capture.specs.declared.line_fault.LineFault.{LineFault}
use Rattle.wsn_capture.specs.LineFaults.{fault_word}
use Rattle.wsn_scan.specs.Judging.{IsReached, IsJudged}
use Rattle.wsn_parts.specs.Listing.{IsListedAs}
use Rattle.wsn_events.specs.Normalised.{IsNormalised}
use Rattle.wsn_redact.specs.Redacting.{IsRedactedInput}
use Rattle.wsn_print.specs.declared.style.Style.{Style}
use Rattle.wsn_show.specs.StreamShows.{IsStreamShown}
use Rattle.wsn_plan.specs.declared.planning.PlanAnswer.{PlanAnswer}
use Rattle.wsn_plan.specs.declared.planning.PlanAnswer.TheVariants as plans
use Rattle.wsn_plan.specs.declared.recutting.RecutAnswer.{RecutAnswer}
use Rattle.wsn_plan.specs.Planning.{IsPlanned}
use Rattle.wsn_plan.specs.Recutting.{Planner, IsRecut}
use Rattle.wsn_command.specs.declared.answered.Answer.{Answer}
use Rattle.wsn_command.specs.declared.answered.Answer.TheVariants.{FaultyLine, Stopped}
use Rattle.wsn_command.specs.declared.answered.Ran.{Ran}
use Rattle.wsn_command.specs.declared.job.Job.{Job}
use Rattle.wsn_command.specs.declared.job.Job.TheVariants.{Judge, Frames, Normal, Redact, Plan, Recut, Payload, ShowStream, Closing, Show, RedactCapture}
use Rattle.wsn_job.specs.declared.done.Done.{Done}
use Rattle.wsn_job.specs.declared.done.Done.TheVariants as done
use Rattle.wsn_job.specs.Channels.{Channels, channels}
use Rattle.wsn_print.specs.Statuses.{verdict_status}
use Rattle.wsn_job.specs.Answers.{ran_with, verdict_answer, plan_answer, recut_answer, payload_answer}
use Rattle.wsn_job.specs.Diagnostics.{IsDiagnosed, IsStopDiagnosed, IsVerdictDiagnosed}
use Rattle.wsn_job.specs.Redactions.{redact_status}
use Rattle.wsn_job.specs.Plans.{IsPlanPrinted, IsPlanDiagnosed, plan_status}
use Rattle.wsn_parts.specs.declared.answer.Payload.TheVariants.{Unfinished, Inside, Head, Nothing}
use Rattle.wsn_parts.specs.declared.answer.Payload.{Payload as Taken}
use Rattle.wsn_parts.specs.Payloads.{IsPayloadTaken}
use Rattle.wsn_job.specs.Payloads.{IsPayloadDiagnosed, payload_status}
use Rattle.wsn_job.specs.Recuts.{IsRecutDiagnosed, planned_by, recut_status}
use Rattle.wsn_job.specs.Sides.{MayRunOnSide, IsFaultySide, IsRunOnSide}
use Rattle.wsn_job.specs.Verdicts.{IsVerdictPrinted}
use Rattle.wsn_job.specs.Work.{IsDone, IsDoneDiagnosed, IsRun, done_ran, done_status}
use Rattle.wsn_job.proofs.Runs.{run_of_done}

module _ (role : Role) (limits : Limits) (old new : Incoming) (failed : new.failed ≡ true) where
  -- no read had failed when a verdict was reached
  reached : {B : Type 0} (came : List ℕ) (verdict : Verdict) → IsReached role limits new came verdict → B
  reached came (Accepted summary) is = let h : new.failed ≡ false = is.4 in absurd cc
  reached came _ is = let h : new.failed ≡ false = is.4 in absurd cc

  judged : (result : Result Verdict Stop) → IsJudged role limits old new result → result ≡ Err stop.Read
  judged (Ok verdict) is = reached is.0 verdict is.1.answer
  judged (Err stop.Read) is = refl
  judged (Err stop.InputLimit) is = let h : new.failed ≡ false = is.1.answer.2 in absurd cc
  judged _ is = absurd is.1.answer

  verdict_printed : (format : Format) (before after : Outgoing) (result : Result Verdict Stop) →
      IsVerdictPrinted format role limits old new before after result → result ≡ Err stop.Read
  verdict_printed format before after (Ok verdict) is = judged (Ok verdict) is.0
  verdict_printed format before after (Err stop.Read) is = refl
  verdict_printed format before after (Err stop.InputLimit) is = judged (Err stop.InputLimit) is.0
  verdict_printed format before after (Err stop.Memory) is = judged (Err stop.Memory) is.0
  verdict_printed format before after (Err stop.Write) is = reached is.1.0 is.0 is.1.1.answer

  listed : (format : Format) (before after : Outgoing) (result : Result Verdict Stop) →
      IsListedAs format role limits old new before after result → result ≡ Err stop.Read
  listed format before after (Ok verdict) is = reached is.came verdict is.answer
  listed format before after (Err stop.Read) is = refl
  listed format before after (Err stop.InputLimit) is = let h : new.failed ≡ false = is.answer.2 in absurd cc
  listed format before after (Err stop.Memory) is = absurd is.answer
  listed format before after (Err stop.Write) is = let h : new.failed ≡ false = is.answer.0 in absurd cc

  stream_shown : (style : Style) (before after : Outgoing) (result : Result Verdict Stop) →
      IsStreamShown role limits style old new before after result → result ≡ Err stop.Read
  stream_shown style before after (Ok verdict) is = reached is.came verdict is.answer
  stream_shown style before after (Err stop.Read) is = refl
  stream_shown style before after (Err stop.InputLimit) is = let h : new.failed ≡ false = is.answer.2 in absurd cc
  stream_shown style before after (Err stop.Memory) is = absurd is.answer
  stream_shown style before after (Err stop.Write) is = let h : new.failed ≡ false = is.answer.0 in absurd cc

  normalised : (before after : Outgoing) (result : Result Verdict Stop) →
      IsNormalised role limits old new before after result → result ≡ Err stop.Read
  normalised before after (Ok verdict) is = reached is.came verdict is.written.1.0
  normalised before after (Err stop.Read) is = refl
  normalised before after (Err stop.InputLimit) is = let h : new.failed ≡ false = is.written.1.0.2 in absurd cc
  normalised before after (Err stop.Memory) is = let h : new.failed ≡ false = is.written.1.2 in absurd cc
  normalised before after (Err stop.Write) is = let h : new.failed ≡ false = is.written.0 in absurd cc

  redacted : (before after : Outgoing) (result : Result Verdict Stop) →
      IsRedactedInput role limits old new before after result → result ≡ Err stop.Read
  redacted before after (Ok verdict) is = let h : new.failed ≡ false = is.answer.3 in absurd cc
  redacted before after (Err stop.Read) is = refl
  redacted before after (Err stop.InputLimit) is = let h : new.failed ≡ false = is.answer.2 in absurd cc
  redacted before after (Err stop.Memory) is = absurd is.answer
  redacted before after (Err stop.Write) is = let h : new.failed ≡ false = is.answer.1 in absurd cc

  planned : {A : Type 0} (result : Result (PlanAnswer A) Stop) → IsPlanned {A = A} role limits old new result →
      result ≡ Err stop.Read
  planned (Ok answer) is = reached is.came is.of_bytes.0 is.of_bytes.2
  planned (Err stop.Read) is = refl
  planned (Err stop.InputLimit) is = let h : new.failed ≡ false = is.of_bytes.2 in absurd cc
  planned (Err stop.Memory) is = let h : new.failed ≡ false = is.of_bytes.1 in absurd cc
  planned (Err stop.Write) is = absurd is.of_bytes

  plan_printed : {A : Type 0} (before after : Outgoing) (result : Result (PlanAnswer A) Stop) →
      IsPlanPrinted role limits old new before after result → result ≡ Err stop.Read
  plan_printed before after (Ok (plans.Plan plan)) is = planned (Ok (plans.Plan plan)) is.0
  plan_printed before after (Ok (plans.NotAccepted verdict)) is = planned (Ok (plans.NotAccepted verdict)) is.0
  plan_printed before after (Ok plans.Unfinished) is = planned (Ok plans.Unfinished) is.0
  plan_printed before after (Err stop.Read) is = refl
  plan_printed before after (Err stop.InputLimit) is = planned (Err stop.InputLimit) is.0
  plan_printed before after (Err stop.Memory) is = planned (Err stop.Memory) is.0
  plan_printed before after (Err stop.Write) is = reached is.1.came is.1.of_bytes.0 is.1.of_bytes.2

  recut : (planner : Planner) (before after : Outgoing) (result : Result RecutAnswer Stop) →
      IsRecut role limits planner old new before after result → result ≡ Err stop.Read
  recut planner before after (Err stop.Read) is = refl
  recut planner before after (Err stop.InputLimit) is = let h : new.failed ≡ false = is.of_bytes.0.2 in absurd cc
  recut planner before after (Err stop.Memory) is = let h : new.failed ≡ false = is.of_bytes.0.1 in absurd cc
  recut planner before after _ is = reached is.came is.of_bytes.0 is.of_bytes.2.0

  payload_taken : (at : ℕ) (before after : Outgoing) (result : Result Taken Stop) →
      IsPayloadTaken role limits at old new before after result → result ≡ Err stop.Read
  payload_taken at before after (Ok (Unfinished verdict)) is = reached is.came verdict is.answer.3
  payload_taken at before after (Ok (Inside event)) is = let h : new.failed ≡ false = is.answer.2 in absurd cc
  payload_taken at before after (Ok (Head start verdict)) is = reached is.came verdict is.answer.2
  payload_taken at before after (Ok (Nothing verdict)) is = reached is.came verdict is.answer.2
  payload_taken at before after (Err stop.Read) is = refl
  payload_taken at before after (Err stop.InputLimit) is = let h : new.failed ≡ false = is.answer.3.2 in absurd cc
  payload_taken at before after (Err stop.Memory) is = absurd is.answer.3
  payload_taken at before after _ is = let h : new.failed ≡ false = is.answer.3 in absurd cc

-- A failed read leaves no answer.
no_answer : {A : Type 0} (status : Result A Stop → ℕ) (answered : Result A Stop → Answer) (result : Result A Stop) →
    answered (Err stop.Read) ≡ Stopped → result ≡ Err stop.Read →
    ran_with (status result) Stopped ≡ ran_with (status result) (answered result)
no_answer {A} status answered result none stopped =
    subst (λ (r : Result A Stop). ran_with (status r) Stopped ≡ ran_with (status r) (answered r)) (sym stopped)
    (ap (λ (answer : Answer). ran_with (status (Err stop.Read)) answer) (sym none))

-- With `read failed` on standard error, the work is a run.
pub run_of_failed_read : {A : Type 0} (job : Job A) (before after : Channels) (d : Done A) → MayRunOnSide job →
    before.input.failed ≡ false → IsDone job before.input after.input before.output after.output d → after.input.failed ≡ true →
    (errors : Outgoing) → IsDiagnosed before.errors errors (stop_line stop.Read) →
    IsRun job before (record after { errors = errors }) (ran_with (done_status d) Stopped)
run_of_failed_read (Judge role limits format) before after (done.Judge answer) may readable is failed errors said =
    let stopped = verdict_printed role limits before.input after.input failed format before.output after.output answer is in
    (done.Judge answer, is, no_answer verdict_status verdict_answer answer refl stopped, subst (λ (a : Result Verdict Stop). IsStopDiagnosed a before.errors errors) (sym stopped) said)
run_of_failed_read (Frames role limits format) before after (done.Frames answer) may readable is failed errors said =
    let stopped = listed role limits before.input after.input failed format before.output after.output answer is in
    (done.Frames answer, is, no_answer verdict_status verdict_answer answer refl stopped, subst (λ (a : Result Verdict Stop). IsStopDiagnosed a before.errors errors) (sym stopped) said)
run_of_failed_read (Normal role limits) before after (done.Normal answer) may readable is failed errors said =
    let stopped = normalised role limits before.input after.input failed before.output after.output answer is in
    (done.Normal answer, is, no_answer verdict_status verdict_answer answer refl stopped, subst (λ (a : Result Verdict Stop). IsVerdictDiagnosed a before.errors errors) (sym stopped) said)
run_of_failed_read (Redact role limits) before after (done.Redact answer) may readable is failed errors said =
    let stopped = redacted role limits before.input after.input failed before.output after.output answer is in
    (done.Redact answer, is, no_answer redact_status verdict_answer answer refl stopped, subst (λ (a : Result Verdict Stop). IsStopDiagnosed a before.errors errors) (sym stopped) said)
run_of_failed_read {A} (Plan role limits) before after (done.Plan answer) may readable is failed errors said =
    let stopped = plan_printed role limits before.input after.input failed before.output after.output answer is in
    (done.Plan answer, is, no_answer plan_status plan_answer answer refl stopped, subst (λ (a : Result (PlanAnswer A) Stop). IsPlanDiagnosed a before.errors errors) (sym stopped) said)
run_of_failed_read (Recut role limits how) before after (done.Recut answer) may readable is failed errors said =
    let stopped = recut role limits before.input after.input failed (planned_by how) before.output after.output answer is in
    (done.Recut answer, is, no_answer recut_status recut_answer answer refl stopped, subst (λ (a : Result RecutAnswer Stop). IsRecutDiagnosed a before.errors errors) (sym stopped) said)
run_of_failed_read (Payload role limits at) before after (done.Payload place answer) may readable is failed errors said =
    let stopped = payload_taken role limits before.input after.input failed at before.output after.output answer is.1 in
    (done.Payload place answer, is, no_answer payload_status payload_answer answer refl stopped, subst (λ (a : Result Taken Stop). IsPayloadDiagnosed place a before.errors errors) (sym stopped) said)
run_of_failed_read (ShowStream role limits style) before after (done.ShowStream answer) may readable is failed errors said =
    let stopped = stream_shown role limits before.input after.input failed style before.output after.output answer is in
    (done.ShowStream answer, is, no_answer verdict_status verdict_answer answer refl stopped, subst (λ (a : Result Verdict Stop). IsStopDiagnosed a before.errors errors) (sym stopped) said)
run_of_failed_read (ShowStream role limits style) before after done.Memory may readable is failed errors said =
    let both : false ≡ true = sym readable ∙ sym (ap (λ (i : Incoming). i.failed) is.1) ∙ failed in absurd cc
run_of_failed_read (Closing limits format) before after d may readable is failed errors said = let h : false ≡ true = may.1 in absurd cc
run_of_failed_read (Show limits style) before after d may readable is failed errors said = let h : false ≡ true = may.1 in absurd cc
run_of_failed_read (RedactCapture limits) before after d may readable is failed errors said = let h : false ≡ true = may.1 in absurd cc
run_of_failed_read job before after d may readable is failed errors said = absurd is

-- A run over a side that ended with no faulty line.
pub side_run : {A : Type 0} (job : Job A) (old new : Incoming) (before after quiet said : Outgoing) (d : Done A)
    (ran : Ran) → IsDone job old new before after d → IsDoneDiagnosed d quiet said → ran ≡ done_ran d →
    IsRunOnSide job (channels old before quiet) (channels new after said) ran
side_run job old new before after quiet said d ran is diagnosed ends =
    inl (rw ends (run_of_done job (channels old before quiet) (channels new after said) d is diagnosed))

-- A run over a side that ended at a faulty line.
pub side_run_to_line : {A : Type 0} (job : Job A) (old new : Incoming) (before after quiet said : Outgoing) (d : Done A)
    (status number : ℕ) (fault : LineFault) → MayRunOnSide job → old.failed ≡ false → IsDone job old new before after d →
    IsFaultySide new number fault → IsDiagnosed quiet said (line_fault_line number (fault_word fault)) →
    status ≡ done_status d →
    IsRunOnSide job (channels old before quiet) (channels new after said) (ran_with status FaultyLine)
side_run_to_line job old new before after quiet said d status number fault may readable is faulty diagnosed ends =
    let run : (errors : Outgoing) → IsDiagnosed quiet errors (stop_line stop.Read) →
    IsRun job (channels old before quiet) (channels new after errors) (ran_with (done_status d) Stopped) =
    run_of_failed_read job (channels old before quiet) (channels new after said) d may readable is faulty.failed in
    inr (record {
      number = number;
      fault = fault;
      faulty = faulty;
      said = diagnosed;
      answer = refl;
      run = λ errors read. rw ends (run errors read);
    })
