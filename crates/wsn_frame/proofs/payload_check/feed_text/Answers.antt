use Rattle.std.proofs.Common.{rules}
use Rattle.wsn_frame.proofs.payload_check.feed_text.Goals as goal

pub returns-clause-taken : goal.returns-clause-taken
returns-clause-taken g c = search rules

pub returns-then-not-is_whole-clause-taken : goal.returns-then-not-is_whole-clause-taken
returns-then-not-is_whole-clause-taken c = search rules

pub returns-in_err-map_err-clause-within : goal.returns-in_err-map_err-clause-within
returns-in_err-map_err-clause-within c = search rules

pub returns-in_err-map_err-clause-taken : goal.returns-in_err-map_err-clause-taken
returns-in_err-map_err-clause-taken c = search rules

pub overflow_sub-result : goal.overflow_sub-result
overflow_sub-result c = search rules

pub returns-then-not-is_whole-clause-within : goal.returns-then-not-is_whole-clause-within
returns-then-not-is_whole-clause-within c = search rules
