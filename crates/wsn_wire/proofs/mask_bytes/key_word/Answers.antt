use Rattle.std.proofs.Common.{◌≡◌, ℕ, ◌%◌, ◌<◌, List, get_or, ap, arith, rules}
use Rattle.wsn_wire.proofs.MaskLemmas.{at-All, bytes-of-key, rounds-turned}
use Rattle.wsn_wire.proofs.mask_bytes.key_word.Goals as goal

pub returns : goal.returns
returns c =
    let key = c.args.key in
    let round = c.key_round.result in
    let first : get_or round 0 0 ≡ get_or key 0 0 = ap (λ (bs : List ℕ). get_or bs 0 0) c.key_round.ensures.round in
    let second : get_or round 1 0 ≡ get_or key 1 0 = ap (λ (bs : List ℕ). get_or bs 1 0) c.key_round.ensures.round in
    let third : get_or round 2 0 ≡ get_or key 2 0 = ap (λ (bs : List ℕ). get_or bs 2 0) c.key_round.ensures.round in
    let fourth : get_or round 3 0 ≡ get_or key 3 0 = ap (λ (bs : List ℕ). get_or bs 3 0) c.key_round.ensures.round in
    let below : (i : ℕ) → get_or round i 0 < 256 = at-All (λ n. n < 256) (omega arith) round c.key_round.ensures.bytes in
    let first_below : get_or key 0 0 < 256 = omega (arith, below 0, first) in
    let second_below : get_or key 1 0 < 256 = omega (arith, below 1, second) in
    let third_below : get_or key 2 0 < 256 = omega (arith, below 2, third) in
    let fourth_below : get_or key 3 0 < 256 = omega (arith, below 3, fourth) in
    record {
      bytes = λ i. bytes-of-key key first_below second_below third_below fourth_below (i % 4) (omega arith);
      round = rounds-turned key c.from-word.result (c.args.start % 4) (omega arith) first_below second_below third_below fourth_below
          (omega (arith, first, second, third, fourth, c.from_le_bytes.ensures, c.from-word.ensures));
    }

pub overflow_mul-rounds : goal.overflow_mul-rounds
overflow_mul-rounds c = record { fits = omega arith }

pub overflow_mul-result : goal.overflow_mul-result
overflow_mul-result c = search rules

pub overflow_shr-result : goal.overflow_shr-result
overflow_shr-result c = omega arith

pub overflow_cast-result : goal.overflow_cast-result
overflow_cast-result c = search rules
