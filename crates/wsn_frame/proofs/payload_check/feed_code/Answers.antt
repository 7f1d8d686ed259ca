-- The code is in its two bytes; the reason after it is a text of its own.
use Rattle.std.proofs.Common.{[], rules, arith}
use Rattle.std.proofs.lemmas.Grind.{common_steps}
use Rattle.wsn_text.proofs.Prefixes.{begins-nil}
use Rattle.wsn_frame.proofs.PayloadRows.{coded_by_two_bytes, code_checked, code_refused}
use Rattle.wsn_frame.proofs.payload_check.feed_code.Goals as goal

pub returns-in-Err-clause-checked : goal.returns-in-Err-clause-checked
returns-in-Err-clause-checked c before begun whole count =
    code_refused c.args.code c.args.rest.now c.from_be_bytes-code.result c.args.at c.args.last c.in-Err.bad (coded_by_two_bytes c.args.code c.from_be_bytes-code.result (search rules) (search rules) (search rules)) (search rules) (c.in-Err.ensures.taken [] c.new-2.ensures begins-nil) before begun whole count

pub returns-in-Ok-clause-checked : goal.returns-in-Ok-clause-checked
returns-in-Ok-clause-checked c before begun whole count =
    code_checked c.args.code c.args.rest.now c.from_be_bytes-code.result c.args.last c.in-Ok.reason (coded_by_two_bytes c.args.code c.from_be_bytes-code.result (search rules) (search rules) (search rules)) (search rules) (c.in-Ok.ensures.taken [] c.new-2.ensures begins-nil) before begun whole

pub returns-then-not-code_allowed-clause-within : goal.returns-then-not-code_allowed-clause-within
returns-then-not-code_allowed-clause-within c = search rules

pub returns-then-not-code_allowed-clause-checked : goal.returns-then-not-code_allowed-clause-checked
returns-then-not-code_allowed-clause-checked c = grind (arith, common_steps)

pub feed_reason-requires : goal.feed_reason-requires
feed_reason-requires c = search rules

pub overflow_add-result : goal.overflow_add-result
overflow_add-result c = search rules

pub overflow_add-result-in-Err : goal.overflow_add-result-in-Err
overflow_add-result-in-Err c = search rules

pub returns-in-Err-clause-within : goal.returns-in-Err-clause-within
returns-in-Err-clause-within c = search rules
