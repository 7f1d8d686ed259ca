use Rattle.std.proofs.Common.{◌≡◌, ℕ, ◌+◌, ◌-◌, ◌≤◌, List, length, refl, sym, ap, ◌∙◌, subst, arith}
use Rattle.std.specs.Prelude.{IsAscii}
use Rattle.std.proofs.lemmas.Simd.{length-chunk, length-zip2}
use lib.Lanes.{chunk, put_chunk}
use Rattle.wsn_redact.proofs.Singles.{singles, length-singles_front, chunk-after, singles_front-put, singles_front-last, both_ascii, ascii_more, ascii_all}
use Rattle.wsn_redact.proofs.stand_ins.replace_blocks.Goals as goal

pub loop-at-init : goal.loop-at-init
loop-at-init g c =
    let last = length c.args.text.now - g.row.N in
    record {
      within = omega arith;
      front = refl;
      long = length-chunk last g.row.N c.args.text.now (omega (arith, c.requires.long));
      ascii = λ low. (low, λ i below. absurd (omega (arith, below)));
    }

pub loop-at-preserved : goal.loop-at-preserved
loop-at-preserved g c =
    let text : List ℕ = c.args.text.now in
    let now : List ℕ = c.loop-at.text in
    let at = c.loop-at.at in
    let known = c.loop-at.invariant in
    let fits : at + g.row.N ≤ length text = omega (arith, c.requires.long, c.loop-at-test.true) in
    let size : length now ≡ length text = ap (λ (bs : List ℕ). length bs) known.front ∙ length-singles_front text at (omega (arith, fits)) in
    let block : chunk at g.row.N now ≡ chunk at g.row.N text = ap (λ (bs : List ℕ). chunk at g.row.N bs) known.front ∙ chunk-after text at g.row.N (omega (arith, fits)) in
    let same : length c.loop-at.seen ≡ length (chunk at g.row.N now) = known.long ∙ sym (length-chunk at g.row.N now (omega (arith, fits, size))) in
    record {
      within = omega (arith, c.loop-at-test.true);
      front =
          ap (λ (bs : List ℕ). put_chunk at now bs) c.single_stand_ins.ensures ∙ ap (λ (bs : List ℕ). put_chunk at bs (singles (chunk at g.row.N bs))) known.front
          ∙ singles_front-put text at g.row.N fits;
      long = length-zip2 _ c.loop-at.seen (chunk at g.row.N now) same ∙ known.long;
      ascii = λ low.
          let both = both_ascii c.loop-at.seen (chunk at g.row.N now) same low in
          let before = known.ascii both.0 in
          (before.0, ascii_more text at g.row.N before.1 (subst IsAscii block both.1));
    }

-- The last block was read before the loop.
pub returns-clause-written : goal.returns-clause-written
returns-clause-written g c =
    let text : List ℕ = c.args.text.now in
    let last = length text - g.row.N in
    ap (λ (bs : List ℕ). put_chunk last c.loop-at.text bs) c.single_stand_ins-2.ensures
    ∙ singles_front-last text c.loop-at.text last g.row.N c.loop-at.at (omega (arith, c.requires.long)) (omega (arith, c.loop-at-test.false))
    (omega (arith, c.requires.long, c.loop-at.invariant.within)) c.loop-at.invariant.front

pub returns-clause-ascii : goal.returns-clause-ascii
returns-clause-ascii g c = λ low.
    let text : List ℕ = c.args.text.now in
    let before = c.loop-at.invariant.ascii (c.is_ascii.ensures low) in
    ascii_all text c.loop-at.at (length text - g.row.N) g.row.N (omega (arith, c.requires.long)) (omega (arith, c.loop-at-test.false)) before.1 before.0
