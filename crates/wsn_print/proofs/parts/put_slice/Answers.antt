use Rattle.std.proofs.Common.{◌+◌, ◌-◌, length, arith}
use Rattle.std.proofs.lemmas.Grind.{common_steps}
use Rattle.std.proofs.lemmas.Slice.{drop-put_mid}
use Rattle.wsn_print.proofs.parts.put_slice.Goals as goal

pub returns-clause-rest : goal.returns-clause-rest
returns-clause-rest c =
    let at = c.args.at in
    let size = length c.args.part.now in
    drop-put_mid at (at + size - at) c.args.text.now c.copy_from_slice.new.self (at + size) (omega arith) (omega (arith, c.requires)) (omega (arith, c.requires))

pub returns-clause-written : goal.returns-clause-written
returns-clause-written c = grind (arith, common_steps)
