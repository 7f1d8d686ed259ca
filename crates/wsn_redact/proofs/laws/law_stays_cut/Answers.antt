use Rattle.std.proofs.Common.{[]}
use Rattle.wsn_redact.specs.Redaction.{redacted_frames}
use Rattle.wsn_redact.proofs.RedactedVerdicts.{heads_stay}
use Rattle.wsn_redact.proofs.CutStays.{cut_stays}
use Rattle.wsn_redact.proofs.laws.law_stays_cut.Goals as goal

pub returns : goal.returns
returns c = λ role limits bytes redacted fs is d.
    (redacted_frames [] fs, cut_stays role limits bytes redacted fs is d, heads_stay 0 [] fs)
