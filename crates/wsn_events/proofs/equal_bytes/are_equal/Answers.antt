use Rattle.std.proofs.Common.{ℕ, List, ◌-◌, ap, arith, drop, length, take}
use Rattle.wsn_events.proofs.Blocks.{same_to_end}
use Rattle.wsn_events.proofs.equal_bytes.are_equal.Goals as goal

pub returns-then-are_equal_words : goal.returns-then-are_equal_words
returns-then-are_equal_words c =
    let last = length c.args.bytes.now - 4 in (
      λ equal. same_to_end 4 4 last c.args.bytes.now c.args.others.now (omega (arith, c.if-len-others.false)) (omega (arith, c.if-len-lt-WORD.false)) (omega (arith, c.if-len-lt-EIGHTH.true))
          (c.are_equal_words.ensures.0 c.if-are_equal_words.true) (c.are_equal_words-then-are_equal_words.ensures.0 equal),
      λ same. c.are_equal_words-then-are_equal_words.ensures.1 (ap (λ (bs : List ℕ). take 4 (drop last bs)) same),
    )

pub returns-then-are_equal_eighths : goal.returns-then-are_equal_eighths
returns-then-are_equal_eighths c =
    let last = length c.args.bytes.now - 8 in (
      λ equal. same_to_end 8 8 last c.args.bytes.now c.args.others.now (omega (arith, c.if-len-others.false)) (omega (arith, c.if-len-lt-EIGHTH.false)) (omega (arith, c.if-len-lt-QUARTER.true))
          (c.are_equal_eighths.ensures.0 c.if-are_equal_eighths.true) (c.are_equal_eighths-then-are_equal_eighths.ensures.0 equal),
      λ same. c.are_equal_eighths-then-are_equal_eighths.ensures.1 (ap (λ (bs : List ℕ). take 8 (drop last bs)) same),
    )

pub returns-then-are_equal_quarters : goal.returns-then-are_equal_quarters
returns-then-are_equal_quarters c =
    let last = length c.args.bytes.now - 16 in (
      λ equal. same_to_end 16 16 last c.args.bytes.now c.args.others.now (omega (arith, c.if-len-others.false)) (omega (arith, c.if-len-lt-QUARTER.false)) (omega (arith, c.if-len-lt-HALF.true))
          (c.are_equal_quarters.ensures.0 c.if-are_equal_quarters.true) (c.are_equal_quarters-then-are_equal_quarters.ensures.0 equal),
      λ same. c.are_equal_quarters-then-are_equal_quarters.ensures.1 (ap (λ (bs : List ℕ). take 16 (drop last bs)) same),
    )

pub returns-then-are_equal_halves : goal.returns-then-are_equal_halves
returns-then-are_equal_halves c =
    let last = length c.args.bytes.now - 32 in (
      λ equal. same_to_end 32 32 last c.args.bytes.now c.args.others.now (omega (arith, c.if-len-others.false)) (omega (arith, c.if-len-lt-HALF.false)) (omega (arith, c.if-len-lt-BLOCK.true))
          (c.are_equal_halves.ensures.0 c.if-are_equal_halves.true) (c.are_equal_halves-then-are_equal_halves.ensures.0 equal),
      λ same. c.are_equal_halves-then-are_equal_halves.ensures.1 (ap (λ (bs : List ℕ). take 32 (drop last bs)) same),
    )
