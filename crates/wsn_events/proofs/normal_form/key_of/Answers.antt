use Rattle.std.proofs.Common.{rules}
use Rattle.wsn_events.proofs.normal_form.key_of.Goals as goal

pub returns-in-Client : goal.returns-in-Client
returns-in-Client c = search rules

pub returns-in-Server : goal.returns-in-Server
returns-in-Server c = search rules
