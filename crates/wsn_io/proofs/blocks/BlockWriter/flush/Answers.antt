use Rattle.std.proofs.Common.{rules}
use Rattle.wsn_io.proofs.blocks.BlockWriter.flush.Goals as goal

pub same-self : goal.same-self
same-self g c = search rules

pub shared_ref_as_front-put : goal.shared_ref_as_front-put
shared_ref_as_front-put g c = search rules

pub invariant_of-self : goal.invariant_of-self
invariant_of-self g c = search rules

pub returns-then-failed : goal.returns-then-failed
returns-then-failed g c = record {
  all = search rules;
  none_left = search rules;
  failed = search rules;
  for_good = search rules;
  prefix = search rules;
}

pub invariant_of-self-2 : goal.invariant_of-self-2
invariant_of-self-2 g c = search rules

pub returns : goal.returns
returns g c = record {
  all = search rules;
  none_left = search rules;
  failed = search rules;
  for_good = search rules;
  prefix = search rules;
}
