use Rattle.std.proofs.Common.{◌+◌, ◌≤◌, sym, ◌∙◌, arith}
use Rattle.std.proofs.lemmas.Grind.{common_steps, elements}
use borrow.Rule.Slice.PartMut.{mid_len}
use Rattle.wsn_scan.proofs.ReaderBuffers.{part_after, range_after}
use Rattle.wsn_scan.proofs.frame_reader.part_in.Goals as goal

pub returns-clause-kept : goal.returns-clause-kept
returns-clause-kept c =
    let part = mid_len c.args.at c.args.end c.args.buffer.now c.requires.within.1 in
    let fits : c.args.at + c.next.result.0 ≤ c.args.end = omega (arith, c.next.ensures.within, part, c.requires.within) in
    part_after c.args.at c.args.end c.next.result.0 c.args.buffer.now c.next.new.chunk c.requires.within.0 c.requires.within.1 (c.next.auto.chunk ∙ part) fits
    ∙ c.next.ensures.kept
    ∙ sym (range_after c.args.at c.args.end c.next.result.0 c.args.buffer.now c.requires.within.0 c.requires.within.1 fits)

pub returns-clause-taken : goal.returns-clause-taken
returns-clause-taken c = grind (arith, common_steps)

pub returns-clause-in_bytes : goal.returns-clause-in_bytes
returns-clause-in_bytes c = grind (arith, elements)
