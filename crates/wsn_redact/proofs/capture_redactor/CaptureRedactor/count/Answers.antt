use Rattle.std.proofs.Common.{rules}
use Rattle.wsn_redact.proofs.capture_redactor.CaptureRedactor.count.Goals as goal

pub returns : goal.returns
returns c = search rules
