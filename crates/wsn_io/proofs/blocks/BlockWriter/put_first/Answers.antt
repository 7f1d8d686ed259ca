use Rattle.std.proofs.Common.{rules}
use Rattle.wsn_io.proofs.blocks.BlockWriter.put_first.Goals as goal

pub returns-then-hold : goal.returns-then-hold
returns-then-hold g c = record {
  all = search rules;
  failed = search rules;
  prefix = search rules;
}

pub invariant_of-self : goal.invariant_of-self
invariant_of-self g c = search rules

pub returns : goal.returns
returns g c = record {
  all = search rules;
  failed = search rules;
  prefix = search rules;
}
