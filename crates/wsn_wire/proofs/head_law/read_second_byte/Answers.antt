use Rattle.std.proofs.Common.{rules, arith}
use Rattle.std.proofs.lemmas.Grind.{common_steps}
use Rattle.wsn_wire.proofs.head_law.read_second_byte.Goals as goal

pub returns-in_default-form : goal.returns-in_default-form
returns-in_default-form c = search rules

pub returns-in_default-form-2-clause-read : goal.returns-in_default-form-2-clause-read
returns-in_default-form-2-clause-read c = search rules

pub returns-in_default-form-3-clause-read : goal.returns-in_default-form-3-clause-read
returns-in_default-form-3-clause-read c = grind (arith, common_steps)

pub returns-in-Client-clause-short : goal.returns-in-Client-clause-short
returns-in-Client-clause-short c = search rules

pub returns-in-Client-clause-refused : goal.returns-in-Client-clause-refused
returns-in-Client-clause-refused c = grind (arith, common_steps)

pub returns-in-Server-clause-short : goal.returns-in-Server-clause-short
returns-in-Server-clause-short c = search rules

pub returns-in-Server-clause-refused : goal.returns-in-Server-clause-refused
returns-in-Server-clause-refused c = grind (arith, common_steps)

pub returns-in-Two : goal.returns-in-Two
returns-in-Two c = search rules

pub returns-in-Short-eq1-clause-short : goal.returns-in-Short-eq1-clause-short
returns-in-Short-eq1-clause-short c = search rules

pub returns-in-Short-eq1-clause-refused : goal.returns-in-Short-eq1-clause-refused
returns-in-Short-eq1-clause-refused c = search rules

pub returns-in_default-form-2-clause-field : goal.returns-in_default-form-2-clause-field
returns-in_default-form-2-clause-field c = search rules

pub returns-in_default-form-2-clause-short : goal.returns-in_default-form-2-clause-short
returns-in_default-form-2-clause-short c = search rules

pub returns-in_default-form-3-clause-field : goal.returns-in_default-form-3-clause-field
returns-in_default-form-3-clause-field c = search rules

pub returns-in_default-form-3-clause-short : goal.returns-in_default-form-3-clause-short
returns-in_default-form-3-clause-short c = search rules

pub returns-in_default-form-2-clause-nothing_evident :
    goal.returns-in_default-form-2-clause-nothing_evident
returns-in_default-form-2-clause-nothing_evident c = search rules

pub returns-in_default-form-3-clause-nothing_evident :
    goal.returns-in_default-form-3-clause-nothing_evident
returns-in_default-form-3-clause-nothing_evident c = grind (arith, common_steps)
