use Rattle.std.proofs.lemmas.Grind.{common_steps}
use Rattle.std.proofs.Common.{take, drop, rules, length, arith}
use Rattle.std.proofs.KnownBytes.{Appends-trans}
use Rattle.std.proofs.lemmas.Slice.{between_to_end}
use lib.Seq.{take-add}
use Rattle.wsn_io.proofs.output.Output.put.Goals as goal

-- The bytes written before, with those that this write took, are a longer prefix.
pub loop-taken-preserved : goal.loop-taken-preserved
loop-taken-preserved g c =
    let bytes = c.args.bytes.now in
    let taken = c.loop-taken.taken in
    let took = rw (between_to_end bytes taken (length bytes) (search rules)) at c.in-Ok.ensures.bytes in
    record {
      within = search rules;
      out = rw (take-add taken c.in-Ok.n bytes) (Appends-trans _ _ _ (take taken bytes) (take c.in-Ok.n (drop taken bytes)) c.loop-taken.invariant.out took);
      same = search rules;
    }

pub returns-in_default-clause-failed : goal.returns-in_default-clause-failed
returns-in_default-clause-failed g c = search rules

pub loop-taken-init : goal.loop-taken-init
loop-taken-init c = search rules

pub slice_bounds-write-count : goal.slice_bounds-write-count
slice_bounds-write-count c = search rules

pub slice_bounds-write-start : goal.slice_bounds-write-start
slice_bounds-write-start c = search rules

pub slice_bounds-write-end : goal.slice_bounds-write-end
slice_bounds-write-end c = search rules

pub overflow_add-taken : goal.overflow_add-taken
overflow_add-taken c = search rules

pub loop-taken-smaller : goal.loop-taken-smaller
loop-taken-smaller c = search rules

pub returns-in_default-clause-all : goal.returns-in_default-clause-all
returns-in_default-clause-all c = search rules

pub returns-in_default-clause-same : goal.returns-in_default-clause-same
returns-in_default-clause-same c = search rules

pub returns-in_default-clause-prefix : goal.returns-in_default-clause-prefix
returns-in_default-clause-prefix c = search rules

pub returns-clause-all : goal.returns-clause-all
returns-clause-all c = grind (arith, common_steps)

pub returns-clause-same : goal.returns-clause-same
returns-clause-same c = search rules

pub returns-clause-prefix : goal.returns-clause-prefix
returns-clause-prefix c = search rules

pub returns-clause-failed : goal.returns-clause-failed
returns-clause-failed c = search rules
