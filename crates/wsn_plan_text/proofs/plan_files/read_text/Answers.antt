use Rattle.std.proofs.Common.{◌≡◌, ℕ, Err, List, ◌++◌, length, take, arith, length-take-le, rules, sym, ap, subst, ◌∙◌}
use Rattle.std.proofs.lemmas.Result.{err_from_is_err_and}
use Rattle.std.proofs.lemmas.Grind.{common_steps}
use Rattle.wsn_plan_text.specs.declared.plan_fault.PlanFault.TheVariants.{Memory}
use Rattle.wsn_plan_text.specs.declared.plan_files.PlanFileFault.TheVariants.{Faulty}
use Rattle.wsn_io.specs.Transfer.{IsConsumed}
use Rattle.wsn_io.proofs.Received.{consumed_read, consumed_on}
use Rattle.wsn_plan_text.proofs.PlanFiles.{no_memory}
use Rattle.wsn_plan_text.proofs.plan_files.read_text.Goals as goal

pub returns-in_err-extend_from_slice : goal.returns-in_err-extend_from_slice
returns-in_err-extend_from_slice g c = record {
  fault = let out = err_from_is_err_and c.from_residual.result c.from_residual.ensures.1 in
      let size : length (take c.min-wanted.result c.loop-chunk.chunk) ≡ c.min-wanted.result =
      length-take-le c.min-wanted.result c.loop-chunk.chunk (omega arith) in
      rw (out.1 ∙ ap Err out.2) (no_memory c.args.file.now c.loop-chunk.file c.read.new.self c.loop-chunk.text.items c.read.new.into
      c.in-Some.count c.loop-chunk.invariant.consumed
      (consumed_read c.loop-chunk.file c.read.new.self c.read.new.into c.in-Some.count c.in-Some.ensures.within c.in-Some.ensures.bytes c.in-Some.ensures.counted c.in-Some.ensures.readable)
      c.in-Some.ensures.within
      (omega (arith, c.in-Some.ensures.within, c.read.auto.into)) (omega arith) (search rules));
  text = search rules;
}

pub returns-clause-fault : goal.returns-clause-fault
returns-clause-fault g c = search rules

pub returns-in_default : goal.returns-in_default
returns-in_default g c = record { text = search rules; fault = search rules }

pub returns-then-count-eq0 : goal.returns-then-count-eq0
returns-then-count-eq0 g c = record { fault = search rules; text = search rules }

pub loop-chunk-init : goal.loop-chunk-init
loop-chunk-init g c = search rules

pub overflow_add-min : goal.overflow_add-min
overflow_add-min g c = search rules

pub overflow_sub-len : goal.overflow_sub-len
overflow_sub-len g c = search rules

pub slice_bounds-chunk-end : goal.slice_bounds-chunk-end
slice_bounds-chunk-end g c = search rules

pub slice_bounds-read-end : goal.slice_bounds-read-end
slice_bounds-read-end g c = search rules

pub read-requires : goal.read-requires
read-requires g c = search rules

pub slice_bounds-chunk-end-in-loop-chunk : goal.slice_bounds-chunk-end-in-loop-chunk
slice_bounds-chunk-end-in-loop-chunk g c = search rules

pub slice_bounds-extend_from_slice-end : goal.slice_bounds-extend_from_slice-end
slice_bounds-extend_from_slice-end g c = search rules

pub loop-chunk-smaller : goal.loop-chunk-smaller
loop-chunk-smaller g c = search rules

pub loop-chunk-preserved : goal.loop-chunk-preserved
loop-chunk-preserved g c =
    let chunk = take c.in-Some.count c.read.new.into in
    let came = consumed_read c.loop-chunk.file c.read.new.self c.read.new.into c.in-Some.count c.in-Some.ensures.within c.in-Some.ensures.bytes c.in-Some.ensures.counted c.in-Some.ensures.readable in
    let all : c.extend_from_slice.new.self.items ≡ c.loop-chunk.text.items ++ chunk = grind (arith, common_steps) in
    record {
      consumed = subst (λ (bs : List ℕ). IsConsumed c.args.file.now c.read.new.self bs) (sym all)
          (consumed_on c.args.file.now c.loop-chunk.file c.read.new.self c.loop-chunk.text.items chunk c.loop-chunk.invariant.consumed came);
      few = grind (arith, common_steps);
      unfailed = c.in-Some.ensures.some ∙ c.loop-chunk.invariant.unfailed;
      size = grind (arith, common_steps);
    }
