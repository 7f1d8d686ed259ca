use Rattle.std.proofs.Common.{[]}
use Rattle.wsn_redact.specs.Redaction.{redacted_frames}
use Rattle.wsn_redact.proofs.RedactedVerdicts.{heads_stay}
use Rattle.wsn_redact.proofs.RefusedStays.{refused_stays}
use Rattle.wsn_redact.proofs.laws.law_stays_refused.Goals as goal

pub returns : goal.returns
returns c = λ role limits bytes redacted fs offset reason in_bytes is d.
    (redacted_frames [] fs, refused_stays role limits bytes redacted fs offset reason in_bytes is d, heads_stay 0 [] fs)
