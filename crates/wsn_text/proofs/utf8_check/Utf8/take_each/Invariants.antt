use Rattle.std.proofs.Common.{ℕ, List}
use Rattle.wsn_text.specs.Validated.{Follows}
use Rattle.wsn_text.proofs.Taking.{TakesFirst}
use Rattle.wsn_text.proofs.utf8_check.Utf8.take_each.Given as goal

abbrev pub invariant-loop-i : goal.invariant-loop-i
invariant-loop-i l = record { consumes : TakesFirst l.fn.self l.self l.bytes l.i; live : (more : List ℕ) × Follows l.self more }
