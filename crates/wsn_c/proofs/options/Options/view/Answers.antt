use Rattle.std.proofs.Common.{rules}
use Rattle.wsn_c.proofs.options.Options.view.Goals as goal

pub returns-then-self-clause-value : goal.returns-then-self-clause-value
returns-then-self-clause-value c = search rules
