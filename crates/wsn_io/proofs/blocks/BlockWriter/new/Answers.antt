use Rattle.std.proofs.Common.{rules}
use Rattle.wsn_io.proofs.blocks.BlockWriter.new.Goals as goal

pub invariant_of-result : goal.invariant_of-result
invariant_of-result g c = search rules

pub returns : goal.returns
returns g c = record {
  written = search rules;
  pending = search rules;
  failed = search rules;
}
