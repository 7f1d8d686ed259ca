use Rattle.std.proofs.Common.{rules, arith}
use Rattle.std.proofs.lemmas.Grind.{common_steps}
use Rattle.wsn_io.proofs.blocks.BlockWriter.hold.Goals as goal

pub overflow_sub-self-inside : goal.overflow_sub-self-inside
overflow_sub-self-inside g c = search rules

pub same-self : goal.same-self
same-self g c = search rules

pub returns-then-bytes-self : goal.returns-then-bytes-self
returns-then-bytes-self g c = record {
  held = search rules;
  full = search rules;
  written = search rules;
  failed = search rules;
}

pub overflow_add-end : goal.overflow_add-end
overflow_add-end g c = search rules

pub slice_bounds-copy_from_slice-count : goal.slice_bounds-copy_from_slice-count
slice_bounds-copy_from_slice-count g c = search rules

pub slice_bounds-copy_from_slice-start : goal.slice_bounds-copy_from_slice-start
slice_bounds-copy_from_slice-start g c = search rules

pub slice_bounds-copy_from_slice-end : goal.slice_bounds-copy_from_slice-end
slice_bounds-copy_from_slice-end g c = search rules

pub copy_from_slice-requires : goal.copy_from_slice-requires
copy_from_slice-requires g c = search rules

pub invariant_of-self : goal.invariant_of-self
invariant_of-self g c = search rules

pub returns : goal.returns
returns g c = record {
  held = grind (arith, common_steps);
  full = search rules;
  written = search rules;
  failed = search rules;
}
