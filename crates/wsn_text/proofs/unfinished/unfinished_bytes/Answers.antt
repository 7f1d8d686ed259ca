use Rattle.std.proofs.Common.{arith}
use Rattle.wsn_text.proofs.WholeCharacters.{low_before_end, unfinished_at_end, whole_at_end}
use Rattle.wsn_text.proofs.unfinished.unfinished_bytes.Goals as goal

pub begins_at-requires : goal.begins_at-requires
begins_at-requires c = omega arith

pub begins_at-requires-else-begins_at : goal.begins_at-requires-else-begins_at
begins_at-requires-else-begins_at c = omega arith

pub begins_at-requires-else-begins_at-2 : goal.begins_at-requires-else-begins_at-2
begins_at-requires-else-begins_at-2 c = omega arith

pub returns-then-begins_at-clause-within : goal.returns-then-begins_at-clause-within
returns-then-begins_at-clause-within c = (c.begins_at.ensures.0 c.if-begins_at.true).0

pub returns-then-begins_at-clause-text : goal.returns-then-begins_at-clause-text
returns-then-begins_at-clause-text c text skipped is enough begins =
    let at = c.begins_at.ensures.0 c.if-begins_at.true in
    unfinished_at_end text skipped c.args.bytes.now 1 0xC0 is (omega arith) (omega arith) (λ b n high leads. leads.one high) at begins

pub returns-then-begins_at-2-clause-within : goal.returns-then-begins_at-2-clause-within
returns-then-begins_at-2-clause-within c = (c.begins_at-else-begins_at.ensures.0 c.if-begins_at-2.true).0

pub returns-then-begins_at-2-clause-text : goal.returns-then-begins_at-2-clause-text
returns-then-begins_at-2-clause-text c text skipped is enough begins =
    let at = c.begins_at-else-begins_at.ensures.0 c.if-begins_at-2.true in
    unfinished_at_end text skipped c.args.bytes.now 2 0xE0 is (omega arith) (omega arith) (λ b n high leads. leads.two high) at begins

pub returns-then-begins_at-3-clause-within : goal.returns-then-begins_at-3-clause-within
returns-then-begins_at-3-clause-within c = (c.begins_at-else-begins_at-2.ensures.0 c.if-begins_at-3.true).0

pub returns-then-begins_at-3-clause-text : goal.returns-then-begins_at-3-clause-text
returns-then-begins_at-3-clause-text c text skipped is enough begins =
    let at = c.begins_at-else-begins_at-2.ensures.0 c.if-begins_at-3.true in
    unfinished_at_end text skipped c.args.bytes.now 3 0xF0 is (omega arith) (omega arith) (λ b n high leads. leads.three high) at begins

pub returns-else-begins_at-3-clause-within : goal.returns-else-begins_at-3-clause-within
returns-else-begins_at-3-clause-within c = omega arith

pub returns-else-begins_at-3-clause-text : goal.returns-else-begins_at-3-clause-text
returns-else-begins_at-3-clause-text c text skipped is enough begins =
    let bytes = c.args.bytes.now in
    let ends = whole_at_end text skipped bytes is enough (record {
      one = low_before_end bytes 1 0xC0 c.begins_at.result c.begins_at.ensures c.if-begins_at.false;
      two = low_before_end bytes 2 0xE0 c.begins_at-else-begins_at.result c.begins_at-else-begins_at.ensures c.if-begins_at-2.false;
      three = low_before_end bytes 3 0xF0 c.begins_at-else-begins_at-2.result c.begins_at-else-begins_at-2.ensures c.if-begins_at-3.false;
    }) begins in
    omega (arith, ends)
