use Rattle.std.proofs.Common.{arith, rules}
use Rattle.std.proofs.lemmas.Bool.{and_parts}
use Rattle.wsn_text.proofs.Ascii.{text_if_ascii}
use Rattle.wsn_text.proofs.Blocks.{text_of_ends}
use Rattle.wsn_text.proofs.ascii_blocks.is_short_ascii.Goals as goal

pub returns-in_default : goal.returns-in_default
returns-in_default c low = text_if_ascii _ c.args.bytes.now c.is_ascii.result low c.is_ascii.ensures.cases

pub returns-in-32-to-max : goal.returns-in-32-to-max
returns-in-32-to-max c low =
    let both = and_parts c.is_ascii_half.result c.is_ascii_half-in-32-to-max.result low in
    text_of_ends c.args.bytes.now 32 (omega arith) (omega arith) (c.is_ascii_half.ensures both.0) (c.is_ascii_half-in-32-to-max.ensures both.1)

pub returns-in-16-to-max : goal.returns-in-16-to-max
returns-in-16-to-max c low =
    let both = and_parts c.is_ascii_quarter.result c.is_ascii_quarter-in-16-to-max.result low in
    text_of_ends c.args.bytes.now 16 (omega arith) (omega arith) (c.is_ascii_quarter.ensures both.0) (c.is_ascii_quarter-in-16-to-max.ensures both.1)

pub returns-in-8-to-max : goal.returns-in-8-to-max
returns-in-8-to-max c low =
    let both = and_parts c.is_ascii_eighth.result c.is_ascii_eighth-in-8-to-max.result low in
    text_of_ends c.args.bytes.now 8 (omega arith) (omega arith) (c.is_ascii_eighth.ensures both.0) (c.is_ascii_eighth-in-8-to-max.ensures both.1)

pub returns-in-4-to-max : goal.returns-in-4-to-max
returns-in-4-to-max c low =
    let both = and_parts c.is_ascii_sixteenth.result c.is_ascii_sixteenth-in-4-to-max.result low in
    text_of_ends c.args.bytes.now 4 (omega arith) (omega arith) (c.is_ascii_sixteenth.ensures both.0) (c.is_ascii_sixteenth-in-4-to-max.ensures both.1)

pub is_ascii_sixteenth-requires : goal.is_ascii_sixteenth-requires
is_ascii_sixteenth-requires c = search rules

pub overflow_sub-bytes : goal.overflow_sub-bytes
overflow_sub-bytes c = search rules

pub is_ascii_sixteenth-requires-in-4-to-max : goal.is_ascii_sixteenth-requires-in-4-to-max
is_ascii_sixteenth-requires-in-4-to-max c = search rules

pub is_ascii_eighth-requires : goal.is_ascii_eighth-requires
is_ascii_eighth-requires c = search rules

pub overflow_sub-bytes-in-8-to-max : goal.overflow_sub-bytes-in-8-to-max
overflow_sub-bytes-in-8-to-max c = search rules

pub is_ascii_eighth-requires-in-8-to-max : goal.is_ascii_eighth-requires-in-8-to-max
is_ascii_eighth-requires-in-8-to-max c = search rules

pub is_ascii_quarter-requires : goal.is_ascii_quarter-requires
is_ascii_quarter-requires c = search rules

pub overflow_sub-bytes-in-16-to-max : goal.overflow_sub-bytes-in-16-to-max
overflow_sub-bytes-in-16-to-max c = search rules

pub is_ascii_quarter-requires-in-16-to-max : goal.is_ascii_quarter-requires-in-16-to-max
is_ascii_quarter-requires-in-16-to-max c = search rules

pub is_ascii_half-requires : goal.is_ascii_half-requires
is_ascii_half-requires c = search rules

pub overflow_sub-bytes-in-32-to-max : goal.overflow_sub-bytes-in-32-to-max
overflow_sub-bytes-in-32-to-max c = search rules

pub is_ascii_half-requires-in-32-to-max : goal.is_ascii_half-requires-in-32-to-max
is_ascii_half-requires-in-32-to-max c = search rules
