use Rattle.std.proofs.Common.{rules}
use Rattle.wsn_rules.proofs.limits.Limits.with_frames.Goals as goal

pub invariant_of-result : goal.invariant_of-result
invariant_of-result c = search rules

pub returns-clause-in_range : goal.returns-clause-in_range
returns-clause-in_range c = search rules

pub returns-then-frames-eq0-clause-in_range : goal.returns-then-frames-eq0-clause-in_range
returns-then-frames-eq0-clause-in_range c = search rules

pub returns-clause-value : goal.returns-clause-value
returns-clause-value c = search rules
