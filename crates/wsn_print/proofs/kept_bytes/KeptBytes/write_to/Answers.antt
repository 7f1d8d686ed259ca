use Rattle.std.proofs.Common.{rules}
use Rattle.wsn_print.proofs.kept_bytes.KeptBytes.write_to.Goals as goal

pub returns-clause-none_kept : goal.returns-clause-none_kept
returns-clause-none_kept g c = search rules

pub returns-clause-written : goal.returns-clause-written
returns-clause-written g c = search rules
