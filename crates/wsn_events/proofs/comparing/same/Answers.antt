use Rattle.std.proofs.Common.{rules}
use Rattle.wsn_events.proofs.NothingLeftOut.{compared_in_all, whole_in_all}
use Rattle.wsn_events.proofs.comparing.same.Goals as goal

pub same_without-requires : goal.same_without-requires
same_without-requires g c = record { first = search rules; second = search rules }

pub returns : goal.returns
returns g c = record {
  compared = compared_in_all c.args.role c.args.limits c.args.first.now c.same_without.new.first c.args.second.now c.same_without.new.second c.same_without.result c.same_without.ensures.compared;
  whole = whole_in_all c.args.role c.args.limits c.args.first.now c.args.second.now c.same_without.result c.same_without.ensures.whole;
}
