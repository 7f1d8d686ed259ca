use Rattle.std.proofs.Common.{rules}
use Rattle.wsn_rules.proofs.head_info.HeadInfo.size.Goals as goal

pub returns-clause-is : goal.returns-clause-is
returns-clause-is c = search rules
