use Rattle.std.proofs.Common.{rules, arith}
use Rattle.std.proofs.lemmas.Grind.{common_steps}
use Rattle.wsn_scan.proofs.scan.parts.takes.Goals as goal

pub returns-then-is_empty-clause-taken : goal.returns-then-is_empty-clause-taken
returns-then-is_empty-clause-taken c = grind (arith, common_steps)

pub returns-then-is_empty-clause-whole : goal.returns-then-is_empty-clause-whole
returns-then-is_empty-clause-whole c = search rules

pub returns-then-is_empty-clause-cut : goal.returns-then-is_empty-clause-cut
returns-then-is_empty-clause-cut c = search rules

pub take-requires : goal.take-requires
take-requires c = search rules

pub returns-clause-taken : goal.returns-clause-taken
returns-clause-taken c = search rules

pub returns-clause-whole : goal.returns-clause-whole
returns-clause-whole c = search rules

pub returns-clause-cut : goal.returns-clause-cut
returns-clause-cut c = search rules
