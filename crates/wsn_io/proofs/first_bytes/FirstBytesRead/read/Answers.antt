use Rattle.std.proofs.Common.{ap, ◌∙◌, rules}
use Rattle.wsn_io.specs.FirstReads.{FirstRead}
use Rattle.wsn_io.proofs.FirstReads.{kept_at_error}
use Rattle.wsn_io.proofs.first_bytes.FirstBytesRead.read.Goals as goal

pub returns-in_err-count-clause-kept : goal.returns-in_err-count-clause-kept
returns-in_err-count-clause-kept g c returned first =
    kept_at_error 65536 c.self.inside.kept.items returned c.read.new.buf c.from_residual.result c.from_residual.ensures.0 (ap (λ (r : FirstRead). r.kept) c.self.view_is ∙ first)

pub returns-clause-bytes : goal.returns-clause-bytes
returns-clause-bytes g c = search rules

pub returns-clause-kept : goal.returns-clause-kept
returns-clause-kept g c = search rules
