use Rattle.std.proofs.Common.{inl, inr, arith}
use Rattle.wsn_text.proofs.Rests.{after_ascii, after_two, after_E0, after_E1_to_EC, after_ED, after_EE_to_EF, after_F0, after_F1_to_F3, after_F4, after_none}
use Rattle.wsn_text.proofs.expected.Expected.after_first.Goals as goal

pub returns-in-0-to-127 : goal.returns-in-0-to-127
returns-in-0-to-127 c = after_ascii c.args.byte (omega arith)

pub returns-in-194-to-223 : goal.returns-in-194-to-223
returns-in-194-to-223 c = after_two c.args.byte (omega arith)

pub returns-in-224 : goal.returns-in-224
returns-in-224 c = after_E0 c.args.byte (omega arith)

pub returns-in-225-to-236 : goal.returns-in-225-to-236
returns-in-225-to-236 c = after_E1_to_EC c.args.byte (omega arith)

pub returns-in-237 : goal.returns-in-237
returns-in-237 c = after_ED c.args.byte (omega arith)

pub returns-in-238-to-239 : goal.returns-in-238-to-239
returns-in-238-to-239 c = after_EE_to_EF c.args.byte (omega arith)

pub returns-in-240 : goal.returns-in-240
returns-in-240 c = after_F0 c.args.byte (omega arith)

pub returns-in-241-to-243 : goal.returns-in-241-to-243
returns-in-241-to-243 c = after_F1_to_F3 c.args.byte (omega arith)

pub returns-in-244 : goal.returns-in-244
returns-in-244 c = after_F4 c.args.byte (omega arith)

pub returns-in-128-to-193 : goal.returns-in-128-to-193
returns-in-128-to-193 c more = (after_none c.args.byte (inl (omega arith)) more, λ none. absurd none)

pub returns-in-245-to-255 : goal.returns-in-245-to-255
returns-in-245-to-255 c more = (after_none c.args.byte (inr (omega arith)) more, λ none. absurd none)
