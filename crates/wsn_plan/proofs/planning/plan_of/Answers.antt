use Rattle.std.proofs.Common.{◌≡◌, ◌∙◌, Option, Ok, Err, take, refl, sym, ap, subst, length-take-le, rules}
use Rattle.std.proofs.lemmas.Result.{err_from_is_err_and}
use Rattle.wsn_io.specs.declared.stop.Stop.TheVariants as stop
use Rattle.wsn_rules.specs.declared.verdict.Refusal.{Refusal}
use Rattle.wsn_scan.proofs.ChunksSoFar.{next_chunk, next_end, same_size, short_chunk}
use Rattle.wsn_scan.proofs.JudgedInputs.{fits}
use Rattle.wsn_plan.specs.Planning.{IsPlannedChunk}
use Rattle.wsn_plan.proofs.PlannedFrames.{begins, is_running, is_stopped, is_ended, has_more, is_refused, is_out_of_memory, whole_plan}
use Rattle.wsn_plan.proofs.planning.plan_of.Goals as goal

pub loop-plan-init : goal.loop-plan-init
loop-plan-init g c = record {
  planned = rw c.new-plan.ensures (begins c.args.role c.args.limits c.args.input.now c.new-chunks.result c.new-scan.result (c.new-chunks.ensures c.args.input.now c.requires.readable) c.new-scan.ensures);
  size = refl;
}

pub returns-in_err-len-clause-planned : goal.returns-in_err-len-clause-planned
returns-in_err-len-clause-planned g c =
    let so_far = c.loop-plan.invariant.planned in
    let out = err_from_is_err_and c.from_residual.result c.from_residual.ensures.1 in
    let is : c.from_residual.result ≡ Err c.in_err-len.field-0.0 = out.1 ∙ ap Err out.2 in
    rw is (is_stopped c.args.role c.args.limits c.args.input.now c.loop-plan.input c.loop-plan.chunks c.loop-plan.scan c.loop-plan.plan so_far c.next.new.input c.in_err-len.field-0.0 (c.in_err-len.ensures.next c.args.limits c.args.input.now so_far.came so_far.read.come))

pub returns-in_err-len-clause-whole : goal.returns-in_err-len-clause-whole
returns-in_err-len-clause-whole g c all known = whole_plan c.args.role c.args.limits _ _ _ all (returns-in_err-len-clause-planned g c) known

pub returns-in_err-refusal-clause-planned : goal.returns-in_err-refusal-clause-planned
returns-in_err-refusal-clause-planned g c =
    let so_far = c.loop-plan.invariant.planned in
    let got = next_chunk c.in-Some.is (c.in_ok-len.ensures.next c.args.limits c.args.input.now so_far.came so_far.read.come) in
    let out = err_from_is_err_and c.from_residual-in_err-refusal.result c.from_residual-in_err-refusal.ensures.1 in
    let is : c.from_residual-in_err-refusal.result ≡ Err stop.Memory = out.1 ∙ ap Err (out.2 ∙ c.in_err-refusal.ensures.0) in
    rw is (is_out_of_memory c.args.role c.args.limits c.args.input.now c.loop-plan.input c.loop-plan.chunks c.loop-plan.scan c.loop-plan.plan so_far c.next.new.input c.next.new.self c.plan_chunk.new.scan (take c.in-Some.len c.next.new.buffer) got.come c.plan_chunk.new.plan c.in_err-refusal.ensures.1)

pub returns-in_err-refusal-clause-whole : goal.returns-in_err-refusal-clause-whole
returns-in_err-refusal-clause-whole g c all known = whole_plan c.args.role c.args.limits _ _ _ all (returns-in_err-refusal-clause-planned g c) known

pub returns-in-Some-2-clause-planned : goal.returns-in-Some-2-clause-planned
returns-in-Some-2-clause-planned g c =
    let so_far = c.loop-plan.invariant.planned in
    let got = next_chunk c.in-Some.is (c.in_ok-len.ensures.next c.args.limits c.args.input.now so_far.came so_far.read.come) in
    let planned = subst (λ (r : Option Refusal). IsPlannedChunk c.loop-plan.scan c.plan_chunk.new.scan (take c.in-Some.len c.next.new.buffer) c.loop-plan.plan c.plan_chunk.new.plan (Ok r)) c.in-Some-2.is c.in_ok-refusal.ensures in
    is_refused c.args.role c.args.limits c.args.input.now c.loop-plan.input c.loop-plan.chunks c.loop-plan.scan c.loop-plan.plan so_far c.next.new.input c.next.new.self c.plan_chunk.new.scan (take c.in-Some.len c.next.new.buffer) got.come c.plan_chunk.new.plan
    (short_chunk got (c.next.auto.buffer ∙ c.loop-plan.invariant.size)) c.in-Some-2.refusal planned

pub returns-in-Some-2-clause-whole : goal.returns-in-Some-2-clause-whole
returns-in-Some-2-clause-whole g c all known = whole_plan c.args.role c.args.limits _ _ _ all (returns-in-Some-2-clause-planned g c) known

pub loop-plan-smaller : goal.loop-plan-smaller
loop-plan-smaller g c = c.in_ok-len.ensures.falls c.in-Some.len (ap Ok c.in-Some.is)

pub loop-plan-preserved : goal.loop-plan-preserved
loop-plan-preserved g c =
    let so_far = c.loop-plan.invariant.planned in
    let got = next_chunk c.in-Some.is (c.in_ok-len.ensures.next c.args.limits c.args.input.now so_far.came so_far.read.come) in
    let planned = subst (λ (r : Option Refusal). IsPlannedChunk c.loop-plan.scan c.plan_chunk.new.scan (take c.in-Some.len c.next.new.buffer) c.loop-plan.plan c.plan_chunk.new.plan (Ok r)) c.in_default-2.is c.in_ok-refusal.ensures in
    record {
      planned = has_more c.args.role c.args.limits c.args.input.now c.loop-plan.input c.loop-plan.chunks c.loop-plan.scan c.loop-plan.plan so_far c.next.new.input c.next.new.self c.plan_chunk.new.scan (take c.in-Some.len c.next.new.buffer) got.come c.plan_chunk.new.plan planned;
      size = same_size c.in-Some.len c.next.new.buffer c.plan_chunk.new.chunk got.in_buffer c.plan_chunk.auto.chunk ∙ c.next.auto.buffer ∙ c.loop-plan.invariant.size;
    }

pub returns-clause-planned : goal.returns-clause-planned
returns-clause-planned g c =
    let so_far = c.loop-plan.invariant.planned in
    let end = next_end c.next.new.self c.next.new.buffer c.in_default.is (c.in_ok-len.ensures.next c.args.limits c.args.input.now so_far.came so_far.read.come) in
    is_ended c.args.role c.args.limits c.args.input.now c.loop-plan.input c.loop-plan.chunks c.loop-plan.scan c.loop-plan.plan so_far c.next.new.input c.finish.result c.answer_of.result end
    (λ bytes since fs at. c.finish.ensures.verdict c.args.role c.args.limits bytes since fs at) c.finish.ensures.reported c.answer_of.ensures

pub returns-clause-whole : goal.returns-clause-whole
returns-clause-whole g c all known = whole_plan c.args.role c.args.limits _ _ _ all (returns-clause-planned g c) known

pub plan_chunk-requires : goal.plan_chunk-requires
plan_chunk-requires g c = record {
  begun = is_running c.args.role c.args.limits c.args.input.now c.loop-plan.input c.loop-plan.chunks c.loop-plan.scan c.loop-plan.plan c.loop-plan.invariant.planned;
  fits = let so_far = c.loop-plan.invariant.planned in
      let got = next_chunk c.in-Some.is (c.in_ok-len.ensures.next c.args.limits c.args.input.now so_far.came so_far.read.come) in
      fits c.args.role c.args.limits c.args.input.now c.loop-plan.input c.loop-plan.chunks c.loop-plan.scan so_far.came so_far.heads so_far.read c.next.new.input c.next.new.self c.loop-plan.scan (take c.in-Some.len c.next.new.buffer) got.come;
}

pub slice_bounds-next-end : goal.slice_bounds-next-end
slice_bounds-next-end g c = search rules

pub next-requires : goal.next-requires
next-requires g c = search rules

pub same-plan : goal.same-plan
same-plan g c = search rules

pub slice_bounds-buffer-end : goal.slice_bounds-buffer-end
slice_bounds-buffer-end g c =
    let so_far = c.loop-plan.invariant.planned in
    (next_chunk c.in-Some.is (c.in_ok-len.ensures.next c.args.limits c.args.input.now so_far.came so_far.read.come)).in_buffer

pub slice_bounds-plan_chunk-end : goal.slice_bounds-plan_chunk-end
slice_bounds-plan_chunk-end g c =
    let so_far = c.loop-plan.invariant.planned in
    let got = next_chunk c.in-Some.is (c.in_ok-len.ensures.next c.args.limits c.args.input.now so_far.came so_far.read.come) in
    sym (length-take-le c.in-Some.len c.next.new.buffer got.in_buffer)

pub same-plan-in_default-2 : goal.same-plan-in_default-2
same-plan-in_default-2 g c = search rules

pub same-plan-2 : goal.same-plan-2
same-plan-2 g c = search rules
