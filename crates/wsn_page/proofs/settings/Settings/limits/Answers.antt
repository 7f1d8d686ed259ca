use Rattle.std.proofs.Common.{rules}
use Rattle.wsn_page.proofs.settings.Settings.limits.Goals as goal

pub returns : goal.returns
returns c = search rules
