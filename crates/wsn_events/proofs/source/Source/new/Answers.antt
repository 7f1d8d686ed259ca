use Rattle.std.proofs.Common.{[], rules}
use Rattle.wsn_events.proofs.source.Source.new.Goals as goal

pub returns : goal.returns
returns g c = search rules

pub invariant_of-result : goal.invariant_of-result
invariant_of-result g c none = record { role = c.args.role; limits = c.args.limits; came = []; given = []; has = search rules }
