use Rattle.std.proofs.Common.{rules}
use Rattle.wsn_job.proofs.running.work.Goals as goal

pub print_verdict-requires : goal.print_verdict-requires
print_verdict-requires g c = record { readable = search rules; writable = search rules }

pub list_as-requires : goal.list_as-requires
list_as-requires g c = record { readable = search rules; writable = search rules }

pub normalise-requires : goal.normalise-requires
normalise-requires g c = record { readable = search rules; writable = search rules }

pub print_plan-requires : goal.print_plan-requires
print_plan-requires g c = record { readable = search rules; writable = search rules }

pub recut_input-requires : goal.recut_input-requires
recut_input-requires g c = record { readable = search rules; writable = search rules; may_recut = search rules }

pub print_report-requires : goal.print_report-requires
print_report-requires g c = record { readable = search rules; writable = search rules }

pub returns-in-Judge : goal.returns-in-Judge
returns-in-Judge g c = record { done = search rules; status = search rules; read = search rules; write = search rules }

pub returns-in-Frames : goal.returns-in-Frames
returns-in-Frames g c = record { done = search rules; status = search rules; read = search rules; write = search rules }

pub returns-in-Normal : goal.returns-in-Normal
returns-in-Normal g c = record { done = search rules; status = search rules; read = search rules; write = search rules }

pub returns-in-Plan : goal.returns-in-Plan
returns-in-Plan g c = record { done = search rules; status = search rules; read = search rules; write = search rules }

pub returns-in-Recut : goal.returns-in-Recut
returns-in-Recut g c = record { done = search rules; status = search rules; read = search rules; write = search rules }

pub returns-in-Closing : goal.returns-in-Closing
returns-in-Closing g c = record { done = search rules; status = search rules; read = search rules; write = search rules }

pub show_capture-requires : goal.show_capture-requires
show_capture-requires g c = record { readable = search rules; writable = search rules }

pub returns-in-Show : goal.returns-in-Show
returns-in-Show g c = record { done = search rules; status = search rules; read = search rules; write = search rules }

pub show_one_stream-requires : goal.show_one_stream-requires
show_one_stream-requires g c = record { readable = search rules; writable = search rules }

pub returns-in-ShowStream : goal.returns-in-ShowStream
returns-in-ShowStream g c = record { done = search rules; status = search rules; read = search rules; write = search rules }

pub payload-requires : goal.payload-requires
payload-requires g c = record { readable = search rules; writable = search rules }

pub returns-in-Payload : goal.returns-in-Payload
returns-in-Payload g c = record { done = search rules; status = search rules; read = search rules; write = search rules }

pub redact-requires : goal.redact-requires
redact-requires g c = record { readable = search rules; writable = search rules }

pub returns-in-Redact : goal.returns-in-Redact
returns-in-Redact g c = record { done = search rules; status = search rules; read = search rules; write = search rules }

pub redact_capture-requires : goal.redact_capture-requires
redact_capture-requires g c = record { readable = search rules; writable = search rules }

pub returns-in-RedactCapture : goal.returns-in-RedactCapture
returns-in-RedactCapture g c = record { done = search rules; status = search rules; read = search rules; write = search rules }
