use Rattle.std.proofs.Common.{◌≡◌, ◌+◌, cond, map, drop, string_bytes}
use Rattle.wsn_cli.specs.Inputs.{dashes}
use Rattle.wsn_cli.proofs.closings.has_two_dashes.Given as goal

-- One of the names so far is a dash, or none; the others are left.
abbrev pub invariant-loop-file : goal.invariant-loop-file
invariant-loop-file l = dashes (map string_bytes l.files) ≡ (cond l.has_one 1 0) + dashes (drop l.file-index (map string_bytes l.files))
