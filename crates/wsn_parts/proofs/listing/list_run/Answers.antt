use Rattle.std.proofs.Common.{◌≡◌, ◌-◌, List, ℕ, [], ◌∷◌, ◌++◌, length, drop, refl, sym, ap, ◌∙◌, subst, arith, length-drop, rules}
use borrow.Rule.Slice.PartMut.{mid_of, put_mid, put_same, same_len_mid}
use Rattle.wsn_wire.specs.Frame.{IsBytes}
use Rattle.wsn_rules.specs.declared.head_info.HeadInfo.{HeadInfo}
use Rattle.wsn_scan.specs.declared.scan.Scan.{Scan}
use Rattle.wsn_parts.specs.Listing.{ListsMore}
use Rattle.wsn_scan.specs.Feeding.{ConsumesPrefix}
use Rattle.wsn_scan.proofs.FedChunks.{bytes_below, bytes_after, share_is, kept_after, same_further, takes_none, takes_further}
use Rattle.wsn_parts.proofs.ListedParts.{lists_none, lists_one, lists_further}
use Rattle.wsn_parts.proofs.listing.list_run.Goals as goal

pub loop-taken-init : goal.loop-taken-init
loop-taken-init g c = record {
  in_bytes = bytes_below c.args.chunk.now (λ i. let below = c.type_inv.chunk i in omega (arith, below));
  within = omega arith;
  size = refl;
  kept = refl;
  room = omega arith;
  run = ([], takes_none c.args.scan.now c.args.chunk.now, lists_none c.args.format c.args.output.now c.args.lines.now);
}

pub loop-taken-preserved : goal.loop-taken-preserved
loop-taken-preserved g c =
    let at = c.loop-taken.at in
    let chunk = c.args.chunk.now in
    let here = c.loop-taken.chunk in
    let taken = c.in-Some.taken in
    let head = c.in-Some.head in
    let share = mid_of at (length here - at) here in
    let known = c.loop-taken.invariant in
    let found = c.in-Some.ensures in
    let is : share ≡ drop at chunk = share_is at here ∙ known.kept in
    let size : length share ≡ length (drop at chunk) = ap (λ (bs : List ℕ). length bs) is in
    let same_size : length c.next_event.new.chunk ≡ length share = c.next_event.auto.chunk in
    let more = found.taken (subst IsBytes (sym is) (bytes_after at chunk known.in_bytes)) in
    let one = lists_one c.args.format c.loop-taken.output c.make_room.new.output c.loop-taken.lines c.make_room.new.lines c.add.new.self head c.make_room.ensures.held c.add.ensures in
    record {
      in_bytes = known.in_bytes;
      within = omega (arith, length-drop at chunk, size, found.within.1);
      size = same_len_mid at (length here - at) here c.next_event.new.chunk same_size ∙ known.size;
      kept = kept_after at (length here - at) taken here c.next_event.new.chunk (omega (arith, known.within, known.size)) found.within.1 same_size found.kept
          ∙ same_further at taken here chunk (omega (arith, known.within, known.size)) known.within known.kept;
      room = omega (arith, found.room, known.room);
      run = (
        known.run.0 ++ head ∷ [],
        takes_further c.args.scan.now c.loop-taken.scan c.next_event.new.self chunk share at taken known.run.0 (head ∷ []) is known.run.1 more,
        lists_further c.args.format c.args.output.now c.loop-taken.output c.make_room.new.output c.args.lines.now c.loop-taken.lines c.add.new.self known.run.0 (head ∷ []) known.run.2 one,
      );
    }

pub returns-clause-listed : goal.returns-clause-listed
returns-clause-listed g c in_bytes =
    let known = c.loop-taken.invariant in
    subst (λ (scan : Scan). (heads : List HeadInfo) × ConsumesPrefix c.args.scan.now scan c.args.chunk.now c.loop-taken.at heads × ListsMore c.args.format c.args.output.now c.loop-taken.output c.args.lines.now c.loop-taken.lines heads)
    (sym c.in_default.ensures.none.0) known.run

pub returns-clause-kept : goal.returns-clause-kept
returns-clause-kept g c =
    let at = c.loop-taken.at in
    let here = c.loop-taken.chunk in
    let back : put_mid at (length here - at) here c.next_event.new.chunk ≡ here =
    ap (λ (ys : List ℕ). put_mid at (length here - at) here ys) c.in_default.ensures.none.1 ∙ put_same at (length here - at) here in
    ap (λ (ps : List ℕ). drop at ps) back ∙ c.loop-taken.invariant.kept

pub add-requires : goal.add-requires
add-requires g c = search rules

pub slice_bounds-next_event-count : goal.slice_bounds-next_event-count
slice_bounds-next_event-count g c = search rules

pub slice_bounds-next_event-start : goal.slice_bounds-next_event-start
slice_bounds-next_event-start g c = search rules

pub slice_bounds-next_event-end : goal.slice_bounds-next_event-end
slice_bounds-next_event-end g c = search rules

pub next_event-requires : goal.next_event-requires
next_event-requires g c = search rules

pub overflow_add-at : goal.overflow_add-at
overflow_add-at g c = search rules

pub loop-taken-smaller : goal.loop-taken-smaller
loop-taken-smaller g c = search rules

pub returns-clause-within : goal.returns-clause-within
returns-clause-within g c = search rules

pub returns-clause-room : goal.returns-clause-room
returns-clause-room g c = search rules
