use Rattle.std.proofs.Common.{rules}
use Rattle.wsn_events.proofs.Comparisons.{first_not_accepted, second_not_accepted, are_equal}
use Rattle.wsn_events.proofs.comparing.outcome.Goals as goal

pub returns-in_default-clause-answer : goal.returns-in_default-clause-answer
returns-in_default-clause-answer c part = first_not_accepted part c.args.verdict c.args.other c.args.difference c.in_default.not-Accepted

pub returns-in_default-clause-differs : goal.returns-in_default-clause-differs
returns-in_default-clause-differs c = search rules

pub returns-in_default-other-clause-answer : goal.returns-in_default-other-clause-answer
returns-in_default-other-clause-answer c part = second_not_accepted part c.args.verdict c.args.other c.args.difference c.in-Accepted.field-0 c.in-Accepted.is c.in_default-other.not-Accepted

pub returns-in_default-other-clause-differs : goal.returns-in_default-other-clause-differs
returns-in_default-other-clause-differs c = search rules

pub returns-in-None-clause-answer : goal.returns-in-None-clause-answer
returns-in-None-clause-answer c part =
    are_equal part c.args.verdict c.args.other c.args.difference c.in-Accepted.field-0 c.in-Accepted-other.field-0 c.in-Accepted.is c.in-Accepted-other.is c.in-None.is

pub returns-in-None-clause-differs : goal.returns-in-None-clause-differs
returns-in-None-clause-differs c = search rules

pub returns-in-Some : goal.returns-in-Some
returns-in-Some c = record { answer = search rules; differs = search rules }
