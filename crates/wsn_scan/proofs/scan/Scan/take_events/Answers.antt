use Rattle.std.proofs.Common.{◌≡◌, ◌+◌, ◌-◌, ◌≤◌, List, ℕ, length, drop, refl, sym, ap, ◌∙◌, subst, arith, length-drop, rules}
use borrow.Rule.Slice.PartMut.{mid_of, put_mid, put_same, same_len_mid}
use Rattle.wsn_wire.specs.Frame.{IsBytes}
use Rattle.wsn_scan.specs.EventFrames.{TakesEvents}
use Rattle.wsn_scan.proofs.EventRuns.{IsPastEvent, after_frames, begins, takes_event, goes_on, taken_with}
use Rattle.wsn_scan.proofs.FedChunks.{bytes_below, bytes_after, share_is, kept_after, same_further}
use Rattle.wsn_scan.proofs.scan.Scan.take_events.Goals as goal

pub loop-frame-init : goal.loop-frame-init
loop-frame-init c =
    let idle = c.is_idle.ensures c.if-not-is_idle.false in
    record {
      in_bytes = bytes_below c.args.chunk.now (λ i. let below = c.type_inv.chunk i in omega (arith, below));
      idle = idle;
      within = omega arith;
      size = refl;
      kept = refl;
      takes = begins c.args.self.now idle c.args.chunk.now;
    }

pub loop-frame-preserved : goal.loop-frame-preserved
loop-frame-preserved c =
    let at = c.loop-frame.at in
    let chunk = c.args.chunk.now in
    let here = c.loop-frame.chunk in
    let n = c.in-Some.frame.size in
    let share = mid_of at (length here - at) here in
    let known = c.loop-frame.invariant in
    let found = c.in-Some.ensures in
    let is : share ≡ drop at chunk = share_is at here ∙ known.kept in
    let size : length share ≡ length (drop at chunk) = ap (λ (bs : List ℕ). length bs) is in
    let same_size : length c.take_event.new.chunk ≡ length share = c.take_event.auto.chunk in
    let in_share : IsBytes share = subst IsBytes (sym is) (bytes_after at chunk known.in_bytes) in
    let in_here : at ≤ length here = omega (arith, known.within, known.size) in
    let before = after_frames c.args.self.now at c.loop-frame.counts in
    let after = after_frames c.args.self.now (at + n) c.with-counts.result in
    let frame = c.in-Some.frame in
    let past : IsPastEvent before after frame = record {
      idle = known.idle;
      sender = refl;
      under = refl;
      room = omega (arith, c.requires, length-drop at chunk, size, found.within.1);
      used = refl;
      counts = c.with-counts.ensures;
    } in
    let takes = takes_event before after share c.take_event.new.chunk frame known.idle past found.within.1 in_share (found.taken in_share) in
    record {
      in_bytes = known.in_bytes;
      idle = known.idle;
      within = omega (arith, length-drop at chunk, size, found.within.1);
      size = same_len_mid at (length here - at) here c.take_event.new.chunk same_size ∙ known.size;
      kept = kept_after at (length here - at) n here c.take_event.new.chunk in_here found.within.1 same_size found.kept
          ∙ same_further at n here chunk in_here known.within known.kept;
      takes = goes_on c.args.self.now known.idle chunk here share c.take_event.new.chunk _ at c.loop-frame.counts c.with-counts.result frame known.takes is takes
          (taken_with at n here c.take_event.new.chunk in_here (omega (arith, same_size, found.within.1)));
    }

-- the part that the last call left is as it was
left_alone : (at : ℕ) (here new : List ℕ) → new ≡ mid_of at (length here - at) here → put_mid at (length here - at) here new ≡ here
left_alone at here new same = ap (λ (ys : List ℕ). put_mid at (length here - at) here ys) same ∙ put_same at (length here - at) here

pub returns-clause-taken : goal.returns-clause-taken
returns-clause-taken c some =
    let known = c.loop-frame.invariant in
    let at = c.loop-frame.at in
    let self = c.args.self.now in
    let chunk = c.args.chunk.now in
    let back = left_alone at c.loop-frame.chunk c.take_event.new.chunk c.in_default.ensures.none in (
      known.idle,
      subst (λ (used : ℕ). TakesEvents self (record self { room = self.room - at; used = used; counts = c.loop-frame.counts }) chunk (put_mid at (length c.loop-frame.chunk - at) c.loop-frame.chunk c.take_event.new.chunk) at) (sym c.taken-self.ensures)
          (subst (λ (after : List ℕ). TakesEvents self (after_frames self at c.loop-frame.counts) chunk after at) (sym back) known.takes),
    )

pub returns-then-at-eq0-clause-none : goal.returns-then-at-eq0-clause-none
returns-then-at-eq0-clause-none c zero =
    let known = c.loop-frame.invariant in
    let same : c.loop-frame.chunk ≡ c.args.chunk.now = subst (λ (n : ℕ). drop n c.loop-frame.chunk ≡ drop n c.args.chunk.now) c.if-at-eq0.true known.kept in
    (refl, left_alone c.loop-frame.at c.loop-frame.chunk c.take_event.new.chunk c.in_default.ensures.none ∙ same)

pub returns-clause-kept : goal.returns-clause-kept
returns-clause-kept c =
    ap (λ (ps : List ℕ). drop c.loop-frame.at ps) (left_alone c.loop-frame.at c.loop-frame.chunk c.take_event.new.chunk c.in_default.ensures.none) ∙ c.loop-frame.invariant.kept

pub returns-then-at-eq0-clause-kept : goal.returns-then-at-eq0-clause-kept
returns-then-at-eq0-clause-kept c =
    let known = c.loop-frame.invariant in
    let same : c.loop-frame.chunk ≡ c.args.chunk.now = subst (λ (n : ℕ). drop n c.loop-frame.chunk ≡ drop n c.args.chunk.now) c.if-at-eq0.true known.kept in
    left_alone c.loop-frame.at c.loop-frame.chunk c.take_event.new.chunk c.in_default.ensures.none ∙ same

pub returns-then-not-is_idle-clause-taken : goal.returns-then-not-is_idle-clause-taken
returns-then-not-is_idle-clause-taken c = search rules

pub returns-then-not-is_idle-clause-within : goal.returns-then-not-is_idle-clause-within
returns-then-not-is_idle-clause-within c = search rules

pub returns-then-not-is_idle-clause-kept : goal.returns-then-not-is_idle-clause-kept
returns-then-not-is_idle-clause-kept c = search rules

pub returns-then-not-is_idle-clause-room : goal.returns-then-not-is_idle-clause-room
returns-then-not-is_idle-clause-room c = search rules

pub returns-then-not-is_idle-clause-reported : goal.returns-then-not-is_idle-clause-reported
returns-then-not-is_idle-clause-reported c = search rules

pub returns-then-not-is_idle-clause-none : goal.returns-then-not-is_idle-clause-none
returns-then-not-is_idle-clause-none c = search rules

pub slice_bounds-take_event-count : goal.slice_bounds-take_event-count
slice_bounds-take_event-count c = search rules

pub slice_bounds-take_event-start : goal.slice_bounds-take_event-start
slice_bounds-take_event-start c = search rules

pub slice_bounds-take_event-end : goal.slice_bounds-take_event-end
slice_bounds-take_event-end c = search rules

pub take_event-requires : goal.take_event-requires
take_event-requires c = search rules

pub overflow_add-at : goal.overflow_add-at
overflow_add-at c = search rules

pub loop-frame-smaller : goal.loop-frame-smaller
loop-frame-smaller c = search rules

pub returns-then-at-eq0-clause-taken : goal.returns-then-at-eq0-clause-taken
returns-then-at-eq0-clause-taken c = search rules

pub returns-then-at-eq0-clause-within : goal.returns-then-at-eq0-clause-within
returns-then-at-eq0-clause-within c = search rules

pub returns-then-at-eq0-clause-room : goal.returns-then-at-eq0-clause-room
returns-then-at-eq0-clause-room c = search rules

pub returns-then-at-eq0-clause-reported : goal.returns-then-at-eq0-clause-reported
returns-then-at-eq0-clause-reported c = search rules

pub overflow_sub-self : goal.overflow_sub-self
overflow_sub-self c = search rules

pub returns-clause-within : goal.returns-clause-within
returns-clause-within c = search rules

pub returns-clause-room : goal.returns-clause-room
returns-clause-room c = search rules

pub returns-clause-reported : goal.returns-clause-reported
returns-clause-reported c = search rules

pub returns-clause-none : goal.returns-clause-none
returns-clause-none c = search rules
