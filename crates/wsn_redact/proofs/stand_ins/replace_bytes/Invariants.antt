use Rattle.std.proofs.Common.{◌≡◌}
use Rattle.std.specs.Prelude.{IsTrue}
use Rattle.wsn_redact.proofs.Singles.{singles_front, IsAsciiTo}
use Rattle.wsn_redact.proofs.stand_ins.replace_bytes.Given as goal

-- The bytes before `i` are replaced, the others are unchanged.
abbrev pub invariant-loop-i : goal.invariant-loop-i
invariant-loop-i l = record {
  front : l.text ≡ singles_front l.initial.text l.i;
  ascii : IsTrue l.ascii → IsAsciiTo l.initial.text l.i;
}
