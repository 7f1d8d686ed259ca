use Rattle.std.proofs.Common.{rules}
use Rattle.wsn_cli.proofs.request.Asked.is_for_people.Goals as goal

pub returns-in-Lines : goal.returns-in-Lines
returns-in-Lines c = search rules
