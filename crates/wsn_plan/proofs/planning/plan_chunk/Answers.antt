use Rattle.std.proofs.Common.{◌≡◌, ◌∙◌, ◌+◌, ◌-◌, [], Ok, Err, length, refl, inl, inr, sym, arith, ap, subst, rules}
use Rattle.std.proofs.lemmas.Result.{err_from_is_err_and}
use borrow.Rule.Slice.PartMut.{put_mid}
use Rattle.wsn_io.specs.declared.stop.Stop.TheVariants as stop
use Rattle.wsn_scan.specs.declared.scan.Scan.{Scan}
use Rattle.wsn_scan.specs.EventFrames.{whole_part}
use Rattle.wsn_scan.specs.Scans.{refusal_in}
use Rattle.wsn_scan.specs.declared.part.Taken.TheVariants as taken
use Rattle.wsn_scan.proofs.FedChunks.{bytes_below, takes_none}
use Rattle.wsn_scan.proofs.FoundHeads.{none_refused}
use Rattle.wsn_plan.specs.Planning.{IsPlannedChunk}
use Rattle.wsn_plan.proofs.PlannedChunks.{plans_none, stays, goes_on, ends, falls, no_memory, planned_chunk}
use Rattle.wsn_plan.proofs.planning.plan_chunk.Goals as goal
use Rattle.wsn_plan.proofs.planning.plan_chunk.Goals.{else-loop-at-test, then-loop-at-test+in_default+in-Refused}

pub loop-at-init : goal.loop-at-init
loop-at-init g c = record {
  fed = record {
    in_bytes = bytes_below c.args.chunk.now (λ i. let below = c.type_inv.chunk i in omega (arith, below));
    within = omega arith;
    size = refl;
    kept = refl;
    room = omega arith;
    consumes = ([], takes_none c.args.scan.now c.args.chunk.now);
  };
  plans = plans_none c.args.scan.now c.args.chunk.now c.args.plan.now;
}

pub loop-at-smaller-in-Some : goal.loop-at-smaller-in-Some
loop-at-smaller-in-Some g c =
    let at = c.loop-at in
    let call = c.next_event in
    let found = c.in-Some in
    let e = found.ensures in
    falls c.args.scan.now at.scan call.new.self c.args.chunk.now at.chunk call.new.chunk c.args.plan.now at.plan at.at found.taken taken.Part (whole_part found.head found.taken) at.invariant e.part e.within.1 call.auto.chunk e.kept e.room c.requires.begun (λ is. cc) c.loop-at-test.true

pub loop-at-preserved-in-Some : goal.loop-at-preserved-in-Some
loop-at-preserved-in-Some g c =
    let at = c.loop-at in
    let call = c.next_event in
    let found = c.in-Some in
    let e = found.ensures in
    ends c.args.scan.now at.scan call.new.self c.args.chunk.now at.chunk call.new.chunk c.args.plan.now at.plan at.at found.taken taken.Part (whole_part found.head found.taken) at.invariant e.part e.within.1 call.auto.chunk e.kept e.room refl refl c.step_of.result c.push.new.self c.step_of.ensures c.in_ok-push.ensures.pushed

pub returns-in_err-push : goal.returns-in_err-push
returns-in_err-push g c =
    let at = c.loop-at in
    let call = c.next_event in
    let found = c.in-Some in
    let e = found.ensures in
    let out = err_from_is_err_and c.from_residual.result c.from_residual.ensures.1 in
    let is : c.from_residual.result ≡ Err stop.Memory = out.1 ∙ ap Err (out.2 ∙ c.in_err-push.ensures.refused.0) in
    rw is (refl, no_memory c.args.scan.now at.scan call.new.self c.args.chunk.now at.chunk call.new.chunk c.args.plan.now at.plan at.at found.taken taken.Part (whole_part found.head found.taken) at.invariant e.part refl refl)

pub loop-at-smaller-in-Continue-branch-2 : goal.loop-at-smaller-in-Continue-branch-2
loop-at-smaller-in-Continue-branch-2 g c =
    let here = put_mid c.loop-at.at (length c.loop-at.chunk - c.loop-at.at) c.loop-at.chunk c.next_event.new.chunk in
    let so_far = stays c.args.scan.now c.loop-at.scan c.next_event.new.self c.args.chunk.now c.loop-at.chunk c.next_event.new.chunk c.args.plan.now c.loop-at.plan c.loop-at.at c.loop-at.invariant c.in_default.ensures.none in
    let call = c.next-taken in
    let e = call.ensures in
    falls c.args.scan.now c.next_event.new.self call.new.self c.args.chunk.now here call.new.chunk c.args.plan.now c.loop-at.plan c.loop-at.at call.result.0 call.result.1 call.new.part so_far e.taken e.within call.auto.chunk e.kept e.room c.requires.begun (λ is. let both = sym c.in-Part.is ∙ is in cc) (omega (arith, so_far.fed.size, c.loop-at.invariant.fed.size, c.loop-at-test.true))

pub loop-at-preserved-in-Continue-branch-2 : goal.loop-at-preserved-in-Continue-branch-2
loop-at-preserved-in-Continue-branch-2 g c =
    let here = put_mid c.loop-at.at (length c.loop-at.chunk - c.loop-at.at) c.loop-at.chunk c.next_event.new.chunk in
    let so_far = stays c.args.scan.now c.loop-at.scan c.next_event.new.self c.args.chunk.now c.loop-at.chunk c.next_event.new.chunk c.args.plan.now c.loop-at.plan c.loop-at.at c.loop-at.invariant c.in_default.ensures.none in
    let call = c.next-taken in
    let e = call.ensures in
    ends c.args.scan.now c.next_event.new.self call.new.self c.args.chunk.now here call.new.chunk c.args.plan.now c.loop-at.plan c.loop-at.at call.result.0 call.result.1 call.new.part so_far e.taken e.within call.auto.chunk e.kept e.room c.in-Part.is c.if-part.true c.step_of-then-part.result c.push-then-part.new.self c.step_of-then-part.ensures c.in_ok-push-in-Part.ensures.pushed

pub returns-in_err-push-in-Part : goal.returns-in_err-push-in-Part
returns-in_err-push-in-Part g c =
    let here = put_mid c.loop-at.at (length c.loop-at.chunk - c.loop-at.at) c.loop-at.chunk c.next_event.new.chunk in
    let so_far = stays c.args.scan.now c.loop-at.scan c.next_event.new.self c.args.chunk.now c.loop-at.chunk c.next_event.new.chunk c.args.plan.now c.loop-at.plan c.loop-at.at c.loop-at.invariant c.in_default.ensures.none in
    let call = c.next-taken in
    let e = call.ensures in
    let out = err_from_is_err_and c.from_residual-in_err-push-in-Part.result c.from_residual-in_err-push-in-Part.ensures.1 in
    let is : c.from_residual-in_err-push-in-Part.result ≡ Err stop.Memory = out.1 ∙ ap Err (out.2 ∙ c.in_err-push-in-Part.ensures.refused.0) in
    rw is (refl, no_memory c.args.scan.now c.next_event.new.self call.new.self c.args.chunk.now here call.new.chunk c.args.plan.now c.loop-at.plan c.loop-at.at call.result.0 call.result.1 call.new.part so_far e.taken c.in-Part.is c.if-part.true)

pub loop-at-smaller-else-part : goal.loop-at-smaller-else-part
loop-at-smaller-else-part g c =
    let here = put_mid c.loop-at.at (length c.loop-at.chunk - c.loop-at.at) c.loop-at.chunk c.next_event.new.chunk in
    let so_far = stays c.args.scan.now c.loop-at.scan c.next_event.new.self c.args.chunk.now c.loop-at.chunk c.next_event.new.chunk c.args.plan.now c.loop-at.plan c.loop-at.at c.loop-at.invariant c.in_default.ensures.none in
    let call = c.next-taken in
    let e = call.ensures in
    falls c.args.scan.now c.next_event.new.self call.new.self c.args.chunk.now here call.new.chunk c.args.plan.now c.loop-at.plan c.loop-at.at call.result.0 call.result.1 call.new.part so_far e.taken e.within call.auto.chunk e.kept e.room c.requires.begun (λ is. let both = sym c.in-Part.is ∙ is in cc) (omega (arith, so_far.fed.size, c.loop-at.invariant.fed.size, c.loop-at-test.true))

pub loop-at-preserved-else-part : goal.loop-at-preserved-else-part
loop-at-preserved-else-part g c =
    let here = put_mid c.loop-at.at (length c.loop-at.chunk - c.loop-at.at) c.loop-at.chunk c.next_event.new.chunk in
    let so_far = stays c.args.scan.now c.loop-at.scan c.next_event.new.self c.args.chunk.now c.loop-at.chunk c.next_event.new.chunk c.args.plan.now c.loop-at.plan c.loop-at.at c.loop-at.invariant c.in_default.ensures.none in
    let call = c.next-taken in
    let e = call.ensures in
    goes_on c.args.scan.now c.next_event.new.self call.new.self c.args.chunk.now here call.new.chunk c.args.plan.now c.loop-at.plan c.loop-at.at call.result.0 call.result.1 call.new.part so_far e.taken e.within call.auto.chunk e.kept e.room (λ _. c.if-part.false)

pub loop-at-smaller : goal.loop-at-smaller
loop-at-smaller g c =
    let here = put_mid c.loop-at.at (length c.loop-at.chunk - c.loop-at.at) c.loop-at.chunk c.next_event.new.chunk in
    let so_far = stays c.args.scan.now c.loop-at.scan c.next_event.new.self c.args.chunk.now c.loop-at.chunk c.next_event.new.chunk c.args.plan.now c.loop-at.plan c.loop-at.at c.loop-at.invariant c.in_default.ensures.none in
    let call = c.next-taken in
    let e = call.ensures in
    falls c.args.scan.now c.next_event.new.self call.new.self c.args.chunk.now here call.new.chunk c.args.plan.now c.loop-at.plan c.loop-at.at call.result.0 call.result.1 call.new.part so_far e.taken e.within call.auto.chunk e.kept e.room c.requires.begun (λ is. elim c.in-More.is [ inl more ↦ let both = sym more ∙ is in cc | inr closed ↦ let both = sym closed ∙ is in cc ]) (omega (arith, so_far.fed.size, c.loop-at.invariant.fed.size, c.loop-at-test.true))

pub loop-at-preserved : goal.loop-at-preserved
loop-at-preserved g c =
    let here = put_mid c.loop-at.at (length c.loop-at.chunk - c.loop-at.at) c.loop-at.chunk c.next_event.new.chunk in
    let so_far = stays c.args.scan.now c.loop-at.scan c.next_event.new.self c.args.chunk.now c.loop-at.chunk c.next_event.new.chunk c.args.plan.now c.loop-at.plan c.loop-at.at c.loop-at.invariant c.in_default.ensures.none in
    let call = c.next-taken in
    let e = call.ensures in
    goes_on c.args.scan.now c.next_event.new.self call.new.self c.args.chunk.now here call.new.chunk c.args.plan.now c.loop-at.plan c.loop-at.at call.result.0 call.result.1 call.new.part so_far e.taken e.within call.auto.chunk e.kept e.room (λ is. absurd (elim c.in-More.is [ inl more ↦ let both = sym more ∙ is in cc | inr closed ↦ let both = sym closed ∙ is in cc ]))

pub returns : goal.returns
returns g c =
    let refusal = c.refusal.result in
    elim c.loop-at-test.branch [
      | else-loop-at-test w ↦
          subst (λ (s : Scan). IsPlannedChunk c.args.scan.now s c.args.chunk.now c.args.plan.now c.loop-at.plan (Ok refusal)) (sym w.scan-is)
          (planned_chunk c.args.scan.now c.loop-at.scan c.args.chunk.now c.loop-at.chunk c.args.plan.now c.loop-at.plan c.loop-at.at refusal c.loop-at.invariant
          (λ none. omega (arith, c.loop-at.invariant.fed.within, c.loop-at.invariant.fed.size, w.loop-at-test.false)) (c.refusal.ensures ∙ ap (λ (s : Scan). refusal_in s) w.scan-is))
      | then-loop-at-test+in_default+in-Refused w ↦
          let call = w.next-taken in
          let e = call.ensures in
          let before = put_mid c.loop-at.at (length c.loop-at.chunk - c.loop-at.at) c.loop-at.chunk w.next_event.new.chunk in
          let so_far = stays c.args.scan.now c.loop-at.scan w.next_event.new.self c.args.chunk.now c.loop-at.chunk w.next_event.new.chunk c.args.plan.now c.loop-at.plan c.loop-at.at c.loop-at.invariant w.in_default.ensures.none in
          let here = put_mid c.loop-at.at (length before - c.loop-at.at) before call.new.chunk in
          let on = goes_on c.args.scan.now w.next_event.new.self call.new.self c.args.chunk.now before call.new.chunk c.args.plan.now c.loop-at.plan c.loop-at.at call.result.0 call.result.1 call.new.part so_far e.taken e.within call.auto.chunk e.kept e.room (λ is. absurd (let both = sym w.in-Refused.is ∙ is in cc)) in
          let answered : refusal ≡ refusal_in call.new.self = c.refusal.ensures ∙ ap (λ (s : Scan). refusal_in s) w.scan-is in
          subst (λ (s : Scan). IsPlannedChunk c.args.scan.now s c.args.chunk.now c.args.plan.now c.loop-at.plan (Ok refusal)) (sym w.scan-is)
          (planned_chunk c.args.scan.now call.new.self c.args.chunk.now here c.args.plan.now c.loop-at.plan (c.loop-at.at + call.result.0) refusal on
          (λ none. absurd (none_refused call.new.self (e.reported.1 w.in-Refused.is) (sym answered ∙ none))) answered)
    ]

pub slice_bounds-next-count : goal.slice_bounds-next-count
slice_bounds-next-count g c = search rules

pub slice_bounds-next-start : goal.slice_bounds-next-start
slice_bounds-next-start g c = search rules

pub slice_bounds-next-end : goal.slice_bounds-next-end
slice_bounds-next-end g c = search rules

pub next-taken-requires : goal.next-taken-requires
next-taken-requires g c = search rules

pub overflow_add-at : goal.overflow_add-at
overflow_add-at g c = search rules

pub slice_bounds-next_event-count : goal.slice_bounds-next_event-count
slice_bounds-next_event-count g c = search rules

pub slice_bounds-next_event-start : goal.slice_bounds-next_event-start
slice_bounds-next_event-start g c = search rules

pub slice_bounds-next_event-end : goal.slice_bounds-next_event-end
slice_bounds-next_event-end g c = search rules

pub next_event-requires : goal.next_event-requires
next_event-requires g c = search rules

pub overflow_add-at-in-loop-at : goal.overflow_add-at-in-loop-at
overflow_add-at-in-loop-at g c = search rules
