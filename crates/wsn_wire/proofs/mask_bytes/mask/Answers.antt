use Rattle.std.proofs.Common.{◌-◌, ◌∙◌, List, ℕ, ap, arith, length, take, drop, bit_xor}
use Rattle.std.specs.Simd.Lanes.{zip2, put_chunk, chunk}
use Rattle.std.proofs.lemmas.Simd.{length-put_chunk}
use Rattle.wsn_wire.proofs.MaskLemmas.{masked_front, masked_front-put_chunk, masked_front-last}
use Rattle.wsn_wire.proofs.mask_bytes.mask.Goals as goal

pub loop-at-preserved : goal.loop-at-preserved
loop-at-preserved c =
    let key = c.args.key in
    let start = c.args.start in
    let at = c.loop-at.at in
    let known = c.loop-at.invariant in
    record {
      within = simp length-put_chunk (omega arith);
      round = omega arith;
      front =
          ap (λ bytes. put_chunk at bytes (zip2 bit_xor (take 64 (drop at bytes)) c.key_lanes-lanes.result)) known.front
          ∙ (ap (λ lanes. put_chunk at (masked_front key start c.args.bytes.now at) (zip2 bit_xor (take 64 (drop at (masked_front key start c.args.bytes.now at))) lanes)) c.key_lanes-lanes.ensures
          ∙ masked_front-put_chunk key start c.args.bytes.now at 64 (omega arith) known.round);
    }

-- The last block was masked before the loop.
pub returns : goal.returns
returns c =
    let bytes = c.args.bytes.now in
    let last = length bytes - 64 in
    masked_front-last c.args.key c.args.start bytes c.loop-at.bytes (zip2 bit_xor (chunk last 64 bytes) c.key_lanes.result) last 64 c.loop-at.at
    (omega arith) (omega arith) (omega arith) c.loop-at.invariant.front (ap (λ (lanes : List ℕ). zip2 bit_xor (chunk last 64 bytes) lanes) c.key_lanes.ensures)
