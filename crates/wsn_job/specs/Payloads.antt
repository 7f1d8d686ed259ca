-- What `payload` says on standard error, and its exit status.
use Rattle.std.specs.Prelude.{◌≡◌, ℕ, Result, Ok, Err}
use Rattle.wsn_io.specs.Transfer.{Outgoing}
use Rattle.wsn_io.specs.declared.stop.Stop.{Stop}
use Rattle.wsn_print.specs.FaultText.{stop_line}
use Rattle.wsn_print.specs.VerdictText.{verdict_line}
use Rattle.wsn_print.specs.PayloadText.{inside_line, begun_head_line, nothing_line}
use Rattle.wsn_parts.specs.declared.answer.Payload.{Payload, TheVariants.{Whole, Unfinished, Inside, Head, Nothing}}
use Rattle.wsn_job.specs.Diagnostics.{IsDiagnosed}

-- the exit status: 0 if the event is complete, 1 if it isn't, 2 if none begins at the offset, and for a stop
abbrev pub payload_status : Result Payload Stop → ℕ
payload_status (Ok Whole) = 0
payload_status (Ok (Unfinished verdict)) = 1
payload_status (Ok answer) = 2
payload_status (Err stopped) = 2

-- Nothing is said of a complete event. Otherwise one line says at which verdict it isn't complete, that no event begins
-- at the offset, or only a head, or that the work stopped.
abbrev pub IsPayloadDiagnosed : ℕ → Result Payload Stop → Outgoing → Outgoing → Type 0
IsPayloadDiagnosed at (Ok Whole) old new = new ≡ old
IsPayloadDiagnosed at (Ok (Unfinished verdict)) old new = IsDiagnosed old new (verdict_line verdict)
IsPayloadDiagnosed at (Ok (Inside event)) old new = IsDiagnosed old new (inside_line at event.op event.offset)
IsPayloadDiagnosed at (Ok (Head start verdict)) old new = IsDiagnosed old new (begun_head_line at start verdict)
IsPayloadDiagnosed at (Ok (Nothing verdict)) old new = IsDiagnosed old new (nothing_line at verdict)
IsPayloadDiagnosed at (Err stopped) old new = IsDiagnosed old new (stop_line stopped)
