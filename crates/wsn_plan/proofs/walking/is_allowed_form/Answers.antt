use Rattle.std.proofs.Common.{rules}
use Rattle.wsn_plan.proofs.walking.is_allowed_form.Goals as goal

pub returns-then-eq : goal.returns-then-eq
returns-then-eq c = search rules
