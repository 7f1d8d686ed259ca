use Rattle.std.proofs.Common.{◌≡◌, ◌++◌, take, drop}
use Rattle.wsn_redact.specs.StandIns.{stood, due_after}
use Rattle.wsn_redact.specs.Dues.{due_of}
use Rattle.wsn_redact.proofs.stand_ins.Due.replace_each.Given as goal

-- The bytes before `i` are replaced, the others are unchanged.
abbrev pub invariant-loop-i : goal.invariant-loop-i
invariant-loop-i l = record {
  written : l.text ≡ stood (due_of l.initial.self) (take l.i l.initial.text) ++ drop l.i l.initial.text;
  due : due_of l.self ≡ due_after (due_of l.initial.self) (take l.i l.initial.text);
}
