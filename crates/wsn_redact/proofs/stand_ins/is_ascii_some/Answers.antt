use Rattle.std.proofs.Common.{subst, arith}
use Rattle.std.specs.Prelude.{IsAscii}
use Rattle.std.proofs.lemmas.List.{take_all}
use Rattle.wsn_redact.proofs.stand_ins.is_ascii_some.Goals as goal

pub returns-then-text-eq-SOME : goal.returns-then-text-eq-SOME
returns-then-text-eq-SOME c = λ low. subst IsAscii (take_all 16 c.args.text.now (omega (arith, c.if-text-eq-SOME.true))) (c.is_ascii.ensures low)
