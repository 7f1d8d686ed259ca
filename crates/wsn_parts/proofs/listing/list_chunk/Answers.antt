use Rattle.std.proofs.Common.{◌≡◌, ◌∙◌, ◌+◌, ◌-◌, List, [], length, refl, sym, arith, ap, subst, rules}
use borrow.Rule.Slice.PartMut.{put_mid}
use Rattle.wsn_scan.specs.declared.scan.Scan.{Scan}
use Rattle.wsn_scan.specs.Scans.{refusal_in}
use Rattle.wsn_rules.specs.declared.head_info.HeadInfo.{HeadInfo}
use Rattle.wsn_parts.specs.Listing.{IsListedChunk, ListsMore}
use Rattle.wsn_scan.proofs.FedChunks.{bytes_below, takes_none}
use Rattle.wsn_scan.proofs.FoundHeads.{none_refused}
use Rattle.wsn_parts.proofs.ListedParts.{IsListedTo, none_begun, lists_none, falls, listed_on, listed_run, listed_chunk}
use Rattle.wsn_parts.proofs.Printing.{prints_none}
use Rattle.wsn_parts.proofs.listing.list_chunk.Goals as goal
use Rattle.wsn_parts.proofs.listing.list_chunk.Goals.{else-loop-at-test, then-loop-at-test+in-Refused}

pub loop-at-init : goal.loop-at-init
loop-at-init g c = record {
  in_bytes = bytes_below c.args.chunk.now (λ i. let below = c.type_inv.chunk i in omega (arith, below));
  within = omega arith;
  size = refl;
  kept = refl;
  room = omega arith;
  run = ([], takes_none c.args.scan.now c.args.chunk.now, ([], c.requires.none_held, prints_none c.args.output.now));
}

pub loop-at-smaller : goal.loop-at-smaller
loop-at-smaller g c =
    let at = c.loop-at.at in
    let known = c.loop-at.invariant in
    let call = c.next-taken in
    let e = call.ensures in
    let so_far : IsListedTo c.args.format c.args.scan.now c.loop-at.scan c.args.output.now c.loop-at.output c.args.chunk.now c.loop-at.chunk c.loop-at.lines at =
    record { fed = record { in_bytes = known.in_bytes; within = known.within; size = known.size; kept = known.kept; room = known.room; consumes = (known.run.0, known.run.1) }; held = known.run.2 } in
    let one = falls c.args.format c.args.scan.now c.loop-at.scan call.new.self c.args.output.now c.loop-at.output c.args.chunk.now c.loop-at.chunk call.new.chunk c.loop-at.lines at call.result.0 call.result.1 call.new.part so_far e.taken e.within call.auto.chunk e.kept e.room c.requires.begun c.in_default.not-Refused c.loop-at-test.true in
    omega (arith, one)

pub loop-at-preserved : goal.loop-at-preserved
loop-at-preserved g c =
    let at = c.loop-at.at in
    let known = c.loop-at.invariant in
    let call = c.next-taken in
    let e = call.ensures in
    let so_far : IsListedTo c.args.format c.args.scan.now c.loop-at.scan c.args.output.now c.loop-at.output c.args.chunk.now c.loop-at.chunk c.loop-at.lines at =
    record { fed = record { in_bytes = known.in_bytes; within = known.within; size = known.size; kept = known.kept; room = known.room; consumes = (known.run.0, known.run.1) }; held = known.run.2 } in
    let on = listed_on c.args.format c.args.scan.now c.loop-at.scan call.new.self c.args.output.now c.loop-at.output c.args.chunk.now c.loop-at.chunk call.new.chunk c.loop-at.lines at call.result.0 call.result.1 call.new.part so_far e.taken e.within call.auto.chunk e.kept e.room c.list_head.new.output c.list_head.new.lines c.list_head.ensures in
    let there = put_mid at (length c.loop-at.chunk - at) c.loop-at.chunk call.new.chunk in
    let run = c.list_events-at in
    let all = listed_run c.args.format c.args.scan.now call.new.self run.new.scan c.args.output.now c.list_head.new.output run.new.output c.args.chunk.now there run.new.chunk c.list_head.new.lines run.new.lines (at + call.result.0) run.result on run.ensures.within run.auto.chunk run.ensures.kept run.ensures.room run.ensures.listed in
    record {
      in_bytes = all.fed.in_bytes;
      within = all.fed.within;
      size = all.fed.size;
      kept = all.fed.kept;
      room = all.fed.room;
      run = (all.fed.consumes.0, all.fed.consumes.1, all.held);
    }

pub returns-clause-listed : goal.returns-clause-listed
returns-clause-listed g c =
    let at = c.loop-at.at in
    let known = c.loop-at.invariant in
    let so_far : IsListedTo c.args.format c.args.scan.now c.loop-at.scan c.args.output.now c.loop-at.output c.args.chunk.now c.loop-at.chunk c.loop-at.lines at =
    record { fed = record { in_bytes = known.in_bytes; within = known.within; size = known.size; kept = known.kept; room = known.room; consumes = (known.run.0, known.run.1) }; held = known.run.2 } in
    let refusal = c.refusal.result in
    let before = c.args.output.now in
    let out = c.print_lines.new.output in
    let printed = c.print_lines.ensures.printed in
    elim c.loop-at-test.branch [
      | else-loop-at-test w ↦
          subst (λ (s : Scan). IsListedChunk c.args.format c.args.scan.now s before out c.args.chunk.now refusal) (sym w.scan-is)
          (listed_chunk c.args.format c.args.scan.now c.loop-at.scan before c.loop-at.output out c.args.chunk.now c.loop-at.chunk c.loop-at.lines at refusal so_far printed c.requires.writable
          (λ none. omega (arith, known.within, known.size, w.loop-at-test.false)) (c.refusal.ensures ∙ ap (λ (s : Scan). refusal_in s) w.scan-is))
      | then-loop-at-test+in-Refused w ↦
          let call = w.next-taken in
          let e = call.ensures in
          let here = put_mid at (length c.loop-at.chunk - at) c.loop-at.chunk call.new.chunk in
          let none = none_begun call.result.1 call.new.part (λ is. let both = sym w.in-Refused.is ∙ is in cc) in
          let on =
          listed_on c.args.format c.args.scan.now c.loop-at.scan call.new.self before c.loop-at.output c.args.chunk.now c.loop-at.chunk call.new.chunk c.loop-at.lines at call.result.0 call.result.1 call.new.part so_far e.taken
          e.within call.auto.chunk e.kept e.room c.loop-at.output c.loop-at.lines (subst (λ (heads : List HeadInfo). ListsMore c.args.format c.loop-at.output c.loop-at.output c.loop-at.lines c.loop-at.lines heads) (sym none) (lists_none c.args.format c.loop-at.output c.loop-at.lines)) in
          let answered : refusal ≡ refusal_in call.new.self = c.refusal.ensures ∙ ap (λ (s : Scan). refusal_in s) w.scan-is in
          subst (λ (s : Scan). IsListedChunk c.args.format c.args.scan.now s before out c.args.chunk.now refusal) (sym w.scan-is)
          (listed_chunk c.args.format c.args.scan.now call.new.self before c.loop-at.output out c.args.chunk.now here c.loop-at.lines (at + call.result.0) refusal on printed c.requires.writable
          (λ none. absurd (none_refused call.new.self (e.reported.1 w.in-Refused.is) (sym answered ∙ none))) answered)
    ]

pub slice_bounds-next-count : goal.slice_bounds-next-count
slice_bounds-next-count g c = search rules

pub slice_bounds-next-start : goal.slice_bounds-next-start
slice_bounds-next-start g c = search rules

pub slice_bounds-next-end : goal.slice_bounds-next-end
slice_bounds-next-end g c = search rules

pub next-taken-requires : goal.next-taken-requires
next-taken-requires g c = search rules

pub overflow_add-at : goal.overflow_add-at
overflow_add-at g c = search rules

pub returns-clause-none_held : goal.returns-clause-none_held
returns-clause-none_held g c = search rules

pub slice_bounds-list_events-count : goal.slice_bounds-list_events-count
slice_bounds-list_events-count g c = search rules

pub slice_bounds-list_events-start : goal.slice_bounds-list_events-start
slice_bounds-list_events-start g c = search rules

pub slice_bounds-list_events-end : goal.slice_bounds-list_events-end
slice_bounds-list_events-end g c = search rules

pub list_events-at-requires : goal.list_events-at-requires
list_events-at-requires g c = search rules

pub overflow_add-at-in-loop-at : goal.overflow_add-at-in-loop-at
overflow_add-at-in-loop-at g c = search rules
