use Rattle.std.proofs.Common.{rules}
use Rattle.wsn_io.proofs.byte_source.ByteSource.next_bytes.Goals as goal

pub returns-in-Lent-clause-never_fails : goal.returns-in-Lent-clause-never_fails
returns-in-Lent-clause-never_fails g c = search rules
