use Rattle.std.proofs.Common.{ℕ, ◌≡◌, ◌≤◌, List, length, ap, ◌∙◌, arith}
use Rattle.wsn_redact.specs.StandIns.{stood, due_after}
use Rattle.wsn_redact.specs.Dues.{due_of}
use borrow.Rule.Slice.PartMut.{mid_of}
use Rattle.wsn_redact.proofs.Singles.{length-stood_front, part_singles, stood_front-part, due_front-part}
use Rattle.wsn_redact.proofs.stand_ins.Due.replace_longer.Goals as goal

pub replace_some-requires : goal.replace_some-requires
replace_some-requires c =
    part_singles (due_of c.args.self.now) c.args.text.now c.loop-at.text c.loop-at.at _ c.loop-at.invariant.within c.loop-at.invariant.written c.requires

pub loop-at-preserved : goal.loop-at-preserved
loop-at-preserved c =
    let due = due_of c.args.self.now in
    let text : List ℕ = c.args.text.now in
    let at = c.loop-at.at in
    let end = c.min-end.result in
    let known = c.loop-at.invariant in
    let size : length c.loop-at.text ≡ length text = ap (λ (bs : List ℕ). length bs) known.written ∙ length-stood_front due text at known.within in
    let more : at ≤ end = omega (arith, c.min-end.ensures, c.loop-at-test.true) in
    let within : end ≤ length text = omega (arith, c.min-end.ensures, size) in
    let part = mid_of at _ c.loop-at.text in
    record {
      within = within;
      written = stood_front-part due text c.loop-at.text c.replace_some.new.text at end more within known.written
          (c.replace_some.ensures.written ∙ ap (λ (bs : List ℕ). stood bs part) known.due);
      due = c.replace_some.ensures.due ∙ ap (λ (bs : List ℕ). due_after bs part) known.due ∙ due_front-part due text c.loop-at.text at end more within known.written;
    }
