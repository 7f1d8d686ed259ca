use Rattle.std.proofs.Common.{rules}
use Rattle.wsn_redact.proofs.extension_names.Within.keeps.Goals as goal

pub returns-then-is_of_names : goal.returns-then-is_of_names
returns-then-is_of_names c = search rules

pub returns-else-is_of_names : goal.returns-else-is_of_names
returns-else-is_of_names c = search rules

pub returns-in-Value : goal.returns-in-Value
returns-in-Value c = search rules

pub returns-in-Quoted : goal.returns-in-Quoted
returns-in-Quoted c = search rules
