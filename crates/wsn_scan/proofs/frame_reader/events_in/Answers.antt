use Rattle.std.proofs.Common.{◌≡◌, ◌+◌, ◌-◌, ◌≤◌, ℕ, List, ap, sym, subst, ◌∙◌, arith}
use Rattle.std.specs.List.{slice_range}
use Rattle.std.proofs.lemmas.Slice.{between-put_mid}
use borrow.Rule.Slice.PartMut.{put_mid, put_same, mid_len}
use Rattle.wsn_scan.specs.EventFrames.{TakesEvents}
use Rattle.wsn_scan.proofs.ReaderBuffers.{part_after, range_after}
use Rattle.wsn_scan.proofs.frame_reader.events_in.Goals as goal

pub returns-clause-kept : goal.returns-clause-kept
returns-clause-kept c =
    let part = mid_len c.args.at c.args.end c.args.buffer.now c.requires.within.1 in
    let fits : c.args.at + c.take_events.result ≤ c.args.end = omega (arith, c.take_events.ensures.within, part, c.requires.within) in
    part_after c.args.at c.args.end c.take_events.result c.args.buffer.now c.take_events.new.chunk c.requires.within.0 c.requires.within.1 (c.take_events.auto.chunk ∙ part) fits
    ∙ c.take_events.ensures.kept
    ∙ sym (range_after c.args.at c.args.end c.take_events.result c.args.buffer.now c.requires.within.0 c.requires.within.1 fits)

pub returns-clause-taken : goal.returns-clause-taken
returns-clause-taken c some =
    let at = c.args.at in
    let end = c.args.end in
    let took = c.take_events.ensures.taken some in
    let part = mid_len at end c.args.buffer.now c.requires.within.1 in
    let same : slice_range (put_mid at (end - at) c.args.buffer.now c.take_events.new.chunk) at end ≡ c.take_events.new.chunk =
    between-put_mid at (end - at) c.args.buffer.now c.take_events.new.chunk end (omega (arith, c.requires.within)) (c.take_events.auto.chunk ∙ part) in
    (took.0, subst (λ (after : List ℕ). TakesEvents c.args.scan.now c.take_events.new.self (slice_range c.args.buffer.now at end) after c.take_events.result) (sym same) took.1)

pub returns-clause-none : goal.returns-clause-none
returns-clause-none c zero =
    let none = c.take_events.ensures.none zero in
    (none.0, ap (λ (ys : List ℕ). put_mid c.args.at (c.args.end - c.args.at) c.args.buffer.now ys) none.1 ∙ put_same c.args.at (c.args.end - c.args.at) c.args.buffer.now)
