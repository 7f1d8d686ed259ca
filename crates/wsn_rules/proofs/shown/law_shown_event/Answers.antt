use Rattle.wsn_rules.proofs.ShownEvents.{one_shown_at, shown_is_meant}
use Rattle.wsn_rules.proofs.shown.law_shown_event.Goals as goal

pub returns-clause-one : goal.returns-clause-one
returns-clause-one c = one_shown_at

pub returns-clause-meant : goal.returns-clause-meant
returns-clause-meant c = shown_is_meant
