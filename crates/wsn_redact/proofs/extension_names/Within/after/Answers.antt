use Rattle.std.proofs.Common.{rules}
use Rattle.wsn_redact.proofs.extension_names.Within.after.Goals as goal

pub returns-in-Escaped-default : goal.returns-in-Escaped-default
returns-in-Escaped-default c = search rules

pub returns-in-Quoted-eq92 : goal.returns-in-Quoted-eq92
returns-in-Quoted-eq92 c = search rules

pub returns-in-Quoted-eq34 : goal.returns-in-Quoted-eq34
returns-in-Quoted-eq34 c = search rules

pub returns-in-Name-default : goal.returns-in-Name-default
returns-in-Name-default c = search rules

pub returns-in-Value-default : goal.returns-in-Value-default
returns-in-Value-default c = search rules

pub returns-in-Name-default-2 : goal.returns-in-Name-default-2
returns-in-Name-default-2 c = search rules

pub returns-in-Name-default-2-2 : goal.returns-in-Name-default-2-2
returns-in-Name-default-2-2 c = search rules

pub returns-in-Quoted-default : goal.returns-in-Quoted-default
returns-in-Quoted-default c = search rules

pub returns-in-Quoted-default-2 : goal.returns-in-Quoted-default-2
returns-in-Quoted-default-2 c = search rules

pub returns-in-Quoted-default-3 : goal.returns-in-Quoted-default-3
returns-in-Quoted-default-3 c = search rules
