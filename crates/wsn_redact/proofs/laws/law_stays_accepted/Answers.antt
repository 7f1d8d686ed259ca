use Rattle.std.proofs.Common.{[]}
use Rattle.wsn_redact.specs.Redaction.{redacted_frames}
use Rattle.wsn_redact.proofs.OneRedaction.{frames_length}
use Rattle.wsn_redact.proofs.RedactedPayloads.{are_redacted}
use Rattle.wsn_redact.proofs.RedactedVerdicts.{heads_stay, stays_accepted}
use Rattle.wsn_redact.proofs.laws.law_stays_accepted.Goals as goal

pub returns : goal.returns
returns c = λ role limits bytes redacted fs is r.
    (redacted_frames [] fs, stays_accepted role limits bytes redacted fs is r, heads_stay 0 [] fs, frames_length [] fs (redacted_frames [] fs) (are_redacted role limits [] fs is.lawful))
