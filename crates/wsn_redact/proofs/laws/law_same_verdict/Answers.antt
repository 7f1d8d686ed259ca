use Rattle.std.proofs.Common.{[]}
use Rattle.wsn_redact.specs.Redaction.{redacted_frames}
use Rattle.wsn_redact.proofs.RedactedVerdicts.{heads_stay}
use Rattle.wsn_redact.proofs.SameVerdicts.{verdict_stays}
use Rattle.wsn_redact.proofs.laws.law_same_verdict.Goals as goal

pub returns : goal.returns
returns c = λ role limits bytes redacted fs verdict in_bytes is r.
    (redacted_frames [] fs, verdict_stays role limits bytes redacted fs verdict in_bytes is r, heads_stay 0 [] fs)
