use Rattle.std.proofs.Common.{rules}
use Rattle.wsn_events.proofs.first_difference.FirstDifference.shown.Goals as goal

pub returns-clause-payloads : goal.returns-clause-payloads
returns-clause-payloads c = search rules

pub returns-clause-first : goal.returns-clause-first
returns-clause-first c = search rules
