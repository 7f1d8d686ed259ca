use Rattle.std.proofs.Common.{◌≡◌, ◌+◌, ◌-◌, ◌<◌, length}
use Rattle.std.specs.Prelude.{IsAscii}
use Rattle.wsn_redact.proofs.Singles.{singles_front, IsAsciiTo}
use Rattle.wsn_redact.proofs.stand_ins.replace_blocks.Given as goal

-- The bytes before `at` are replaced, the others are unchanged. `seen` has what was read.
abbrev pub invariant-loop-at : goal.invariant-loop-at
invariant-loop-at g l = record {
  within : l.at < l.last + g.row.N;
  front : l.text ≡ singles_front l.initial.text l.at;
  long : length l.seen ≡ g.row.N;
  ascii : IsAscii l.seen → IsAscii l.end × IsAsciiTo l.initial.text l.at;
}

abbrev pub decreases-loop-at : goal.decreases-loop-at
decreases-loop-at g l = l.last - l.at
