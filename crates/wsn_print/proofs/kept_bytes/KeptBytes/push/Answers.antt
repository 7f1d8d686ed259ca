use Rattle.std.proofs.Common.{rules}
use Rattle.wsn_print.proofs.kept_bytes.KeptBytes.push.Goals as goal

pub returns-clause-text : goal.returns-clause-text
returns-clause-text g c = search rules
