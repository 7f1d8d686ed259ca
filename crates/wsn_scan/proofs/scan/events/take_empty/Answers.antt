use Rattle.std.proofs.Common.{refl}
use Rattle.wsn_scan.proofs.scan.events.take_empty.Goals as goal

pub returns-then-not-is_plain-clause-none : goal.returns-then-not-is_plain-clause-none
returns-then-not-is_plain-clause-none c = refl

pub clear_key-requires : goal.clear_key-requires
clear_key-requires c = c.requires

pub returns-clause-taken : goal.returns-clause-taken
returns-clause-taken c = λ i. record { op = c.args.head.now.first.op; key = c.args.head.now.key; size = c.clear_key.auto.head i; len = 0 }

pub returns-clause-plain : goal.returns-clause-plain
returns-clause-plain c = c.is_plain.ensures c.if-not-is_plain.false

pub returns-clause-cleared : goal.returns-clause-cleared
returns-clause-cleared c = c.clear_key.ensures
