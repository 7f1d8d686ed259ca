use Rattle.std.proofs.Common.{◌≡◌, ◌∙◌, ◌+◌, ◌-◌, ◌<◌, ℕ, List, [], ◌++◌, length, drop, refl, sym, arith, ap, subst, length-drop, rules}
use borrow.Rule.Slice.PartMut.{mid_of, put_mid}
use Rattle.wsn_wire.specs.Frame.{IsBytes}
use Rattle.wsn_scan.specs.Feeding.{heads_in}
use Rattle.wsn_scan.proofs.FedChunks.{IsFedTo, bytes_below, bytes_after, share_is, takes_none, fed_further}
use Rattle.wsn_scan.proofs.FoundHeads.{takes_by, takes_on, takes_some, runs_on, none_refused}
use Rattle.wsn_scan.proofs.EventHeads.{events_taken}
use Rattle.wsn_scan.proofs.scan.Scan.feed.Goals as goal

pub loop-at-init : goal.loop-at-init
loop-at-init c = record {
  in_bytes = bytes_below c.args.chunk.now (λ i. let below = c.type_inv.chunk i in omega (arith, below));
  within = omega arith;
  size = refl;
  kept = refl;
  room = omega arith;
  consumes = ([], takes_none c.args.self.now c.args.chunk.now);
}

pub returns-in-Refused : goal.returns-in-Refused
returns-in-Refused c =
    let at = c.loop-at.at in
    let call = c.next-taken in
    let taken = call.result.0 in
    let known = c.loop-at.invariant in
    let share = mid_of at (length c.loop-at.chunk - at) c.loop-at.chunk in
    let is : share ≡ drop at c.args.chunk.now = share_is at c.loop-at.chunk ∙ known.kept in
    record {
      count = at + taken;
      within = omega (arith, length-drop at c.args.chunk.now, ap (λ (bs : List ℕ). length bs) is, call.ensures.within, known.within);
      room = omega (arith, call.ensures.room, known.room);
      heads = known.consumes.0 ++ heads_in call.result.1 call.new.part;
      consumes = takes_on c.args.self.now c.loop-at.self call.new.self c.args.chunk.now share call.new.chunk at taken call.result.1 call.new.part known.consumes.0 known.in_bytes is known.consumes.1 call.ensures.taken;
      all = λ none. absurd (none_refused call.new.self (call.ensures.reported.1 c.in-Refused.is) (sym c.refusal.ensures ∙ none));
      answered = c.refusal.ensures;
    }

pub loop-at-smaller : goal.loop-at-smaller
loop-at-smaller c =
    let at = c.loop-at.at in
    let chunk = c.args.chunk.now in
    let here = c.loop-at.chunk in
    let known = c.loop-at.invariant in
    let call = c.next-taken in
    let taken = call.result.0 in
    let share = mid_of at (length here - at) here in
    let is : share ≡ drop at chunk = share_is at here ∙ known.kept in
    let size : length share ≡ length (drop at chunk) = ap (λ (bs : List ℕ). length bs) is in
    let some : 0 < length share = omega (arith, length-drop at chunk, size, c.loop-at-test.true, known.size) in
    let running = runs_on c.args.self.now c.loop-at.self chunk at known.consumes.0 c.requires.begun known.consumes.1 in
    let in_share : IsBytes share = subst IsBytes (sym is) (bytes_after at chunk known.in_bytes) in
    let one = takes_some c.loop-at.self call.new.self share call.new.chunk taken call.result.1 call.new.part call.ensures.taken in_share running c.in_default.not-Refused some in
    omega (arith, length-drop at chunk, size, one, c.loop-at-test.true, known.size)

pub loop-at-preserved : goal.loop-at-preserved
loop-at-preserved c =
    let at = c.loop-at.at in
    let chunk = c.args.chunk.now in
    let here = c.loop-at.chunk in
    let known = c.loop-at.invariant in
    let call = c.next-taken in
    let taken = call.result.0 in
    let mid = call.new.self in
    let share = mid_of at (length here - at) here in
    let is : share ≡ drop at chunk = share_is at here ∙ known.kept in
    let running = runs_on c.args.self.now c.loop-at.self chunk at known.consumes.0 c.requires.begun known.consumes.1 in
    let heads = heads_in call.result.1 call.new.part in
    let in_share : IsBytes share = subst IsBytes (sym is) (bytes_after at chunk known.in_bytes) in
    let first = takes_by c.loop-at.self mid share call.new.chunk taken call.result.1 call.new.part call.ensures.taken in_share in
    let fed : IsFedTo c.args.self.now c.loop-at.self chunk here at = record { in_bytes = known.in_bytes; within = known.within; size = known.size; kept = known.kept; room = known.room; consumes = known.consumes } in
    let there = put_mid at (length here - at) here call.new.chunk in
    let next = fed_further c.args.self.now c.loop-at.self mid chunk here call.new.chunk at taken fed call.ensures.within call.auto.chunk call.ensures.kept call.ensures.room (λ in_bytes. (heads, first)) in
    let events = c.take_events-at in
    let left = mid_of (at + taken) (length there - (at + taken)) there in
    let more = events_taken mid events.new.self left events.new.chunk events.result events.ensures.taken events.ensures.none (runs_on c.loop-at.self mid share taken heads running first) in
    let all = fed_further c.args.self.now mid events.new.self chunk there events.new.chunk (at + taken) events.result next events.ensures.within events.auto.chunk events.ensures.kept events.ensures.room (λ in_bytes. more) in
    record {
      in_bytes = all.in_bytes;
      within = all.within;
      size = all.size;
      kept = all.kept;
      room = all.room;
      consumes = all.consumes;
    }

pub returns : goal.returns
returns c =
    let known = c.loop-at.invariant in
    record {
      count = c.loop-at.at;
      within = known.within;
      room = known.room;
      heads = known.consumes.0;
      consumes = known.consumes.1;
      all = λ none. omega (arith, known.within, known.size, c.loop-at-test.false);
      answered = c.refusal-2.ensures;
    }

pub slice_bounds-next-count : goal.slice_bounds-next-count
slice_bounds-next-count c = search rules

pub slice_bounds-next-start : goal.slice_bounds-next-start
slice_bounds-next-start c = search rules

pub slice_bounds-next-end : goal.slice_bounds-next-end
slice_bounds-next-end c = search rules

pub next-taken-requires : goal.next-taken-requires
next-taken-requires c = search rules

pub overflow_add-at : goal.overflow_add-at
overflow_add-at c = search rules

pub slice_bounds-take_events-count : goal.slice_bounds-take_events-count
slice_bounds-take_events-count c = search rules

pub slice_bounds-take_events-start : goal.slice_bounds-take_events-start
slice_bounds-take_events-start c = search rules

pub slice_bounds-take_events-end : goal.slice_bounds-take_events-end
slice_bounds-take_events-end c = search rules

pub take_events-at-requires : goal.take_events-at-requires
take_events-at-requires c = search rules

pub overflow_add-at-in-loop-at : goal.overflow_add-at-in-loop-at
overflow_add-at-in-loop-at c = search rules
