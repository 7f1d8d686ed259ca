use Rattle.std.proofs.Common.{refl}
use Rattle.wsn_laws.proofs.printed_lines.of_stops.Goals as goal

pub returns-clause-read : goal.returns-clause-read
returns-clause-read c = refl

pub returns-clause-input_limit : goal.returns-clause-input_limit
returns-clause-input_limit c = refl

pub returns-clause-memory : goal.returns-clause-memory
returns-clause-memory c = refl

pub returns-clause-write : goal.returns-clause-write
returns-clause-write c = refl
