use Rattle.std.proofs.Common.{ℕ, List, ap, ◌∙◌, get_or, slice_set}
use Rattle.wsn_redact.specs.StandIns.{single_stand_in}
use Rattle.wsn_redact.proofs.Singles.{singles_front-set, ascii_byte}
use Rattle.wsn_redact.proofs.stand_ins.replace_bytes.Goals as goal

pub loop-i-preserved : goal.loop-i-preserved
loop-i-preserved c =
    let text : List ℕ = c.args.text.now in
    let i = c.loop-i.i in
    record {
      front =
          ap (λ (b : ℕ). slice_set c.loop-i.text i b) c.single.ensures ∙ ap (λ (bs : List ℕ). slice_set bs i (single_stand_in (get_or bs i 0))) c.loop-i.invariant.front
          ∙ singles_front-set text i c.loop-i-test.true;
      ascii = ascii_byte text c.loop-i.text i c.loop-i.ascii c.loop-i-test.true c.loop-i.invariant.front c.loop-i.invariant.ascii;
    }
