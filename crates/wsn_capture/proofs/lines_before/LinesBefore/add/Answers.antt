use Rattle.std.proofs.Common.{rules}
use Rattle.wsn_capture.proofs.lines_before.LinesBefore.add.Goals as goal

pub overflow_add-self : goal.overflow_add-self
overflow_add-self c = search rules

pub returns-in-Mark-Client : goal.returns-in-Mark-Client
returns-in-Mark-Client c = search rules

pub returns-in-Mark-Server : goal.returns-in-Mark-Server
returns-in-Mark-Server c = search rules

pub returns-in-Nothing : goal.returns-in-Nothing
returns-in-Nothing c = search rules
