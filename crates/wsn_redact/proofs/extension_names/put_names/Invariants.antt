use Rattle.std.proofs.Common.{◌≡◌, ◌≤◌, ◌+◌, ◌++◌, length, take, drop}
use Rattle.wsn_redact.specs.declared.extension_names.Within.TheVariants.{Name}
use Rattle.wsn_redact.specs.ExtensionNames.{names_in}
use Rattle.wsn_redact.proofs.extension_names.put_names.Given as goal

-- what was put, and what is left of the rest of the list
abbrev pub invariant-loop-i : goal.invariant-loop-i
invariant-loop-i l = record {
  few : l.count ≤ l.front + l.i;
  from : l.front ≤ l.count;
  size : length l.into ≡ length l.fn.into;
  names : take l.count l.into ++ names_in l.within (drop l.i l.list) ≡ take l.front l.fn.into ++ names_in Name l.fn.list;
}
