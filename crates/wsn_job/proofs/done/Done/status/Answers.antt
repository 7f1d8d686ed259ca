use Rattle.std.proofs.Common.{rules}
use Rattle.wsn_job.proofs.done.Done.status.Goals as goal

pub returns-in-Plan : goal.returns-in-Plan
returns-in-Plan g c = search rules

pub returns-in-Recut : goal.returns-in-Recut
returns-in-Recut g c = search rules

pub returns-in-Closing : goal.returns-in-Closing
returns-in-Closing g c = search rules

pub returns-in-Judge : goal.returns-in-Judge
returns-in-Judge g c = search rules

pub returns-in-Payload : goal.returns-in-Payload
returns-in-Payload g c = search rules

pub returns-in-Redact : goal.returns-in-Redact
returns-in-Redact g c = search rules

pub returns-in-Memory : goal.returns-in-Memory
returns-in-Memory g c = search rules

pub returns-in-RedactCapture : goal.returns-in-RedactCapture
returns-in-RedactCapture g c = search rules
