use Rattle.std.proofs.Common.{◌≡◌, ◌-◌, ◌≤◌, length, take}
use Rattle.wsn_redact.specs.StandIns.{due_after}
use Rattle.wsn_redact.specs.Dues.{due_of}
use Rattle.wsn_redact.proofs.StoodTexts.{stood_front}
use Rattle.wsn_redact.proofs.stand_ins.Due.replace_longer.Given as goal

-- The bytes before `at` are replaced, the others are unchanged.
abbrev pub invariant-loop-at : goal.invariant-loop-at
invariant-loop-at l = record {
  within : l.at ≤ length l.initial.text;
  written : l.text ≡ stood_front (due_of l.initial.self) l.initial.text l.at;
  due : due_of l.self ≡ due_after (due_of l.initial.self) (take l.at l.initial.text);
}

abbrev pub decreases-loop-at : goal.decreases-loop-at
decreases-loop-at l = length l.initial.text - l.at
