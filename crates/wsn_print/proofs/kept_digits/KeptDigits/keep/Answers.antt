use Rattle.std.proofs.Common.{rules, arith}
use Rattle.std.proofs.lemmas.Grind.{common_steps}
use Rattle.std.proofs.lemmas.Fmt.{length-decimal-le}
use Rattle.wsn_print.proofs.kept_digits.KeptDigits.keep.Goals as goal

pub write_digits-start-requires : goal.write_digits-start-requires
write_digits-start-requires c = search (rules, length-decimal-le 16)

pub invariant_of-self : goal.invariant_of-self
invariant_of-self c = grind (arith, common_steps)
