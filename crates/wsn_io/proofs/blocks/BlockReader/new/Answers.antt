use Rattle.std.proofs.Common.{rules}
use Rattle.wsn_io.proofs.blocks.BlockReader.new.Goals as goal

pub returns-clause-nothing_held : goal.returns-clause-nothing_held
returns-clause-nothing_held g c = search rules

pub invariant_of-result : goal.invariant_of-result
invariant_of-result c = search rules

pub returns-clause-reader : goal.returns-clause-reader
returns-clause-reader c = search rules
