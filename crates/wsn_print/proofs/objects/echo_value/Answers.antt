use Rattle.std.proofs.Common.{rules}
use Rattle.wsn_print.proofs.objects.echo_value.Goals as goal

pub returns-in-Some-false-clause-text : goal.returns-in-Some-false-clause-text
returns-in-Some-false-clause-text c = search rules
