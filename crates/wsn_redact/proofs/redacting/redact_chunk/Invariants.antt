use Rattle.std.proofs.Common.{◌≡◌, ◌-◌, ◌≤◌, ℕ, List, ◌++◌, length, take, drop}
use Rattle.wsn_wire.specs.declared.endpoint.Role.{Role}
use Rattle.wsn_rules.specs.Limits.{Limits}
use Rattle.wsn_redact.specs.RedactedParts.{HasRedacted}
use Rattle.wsn_redact.proofs.redacting.redact_chunk.Given as goal

-- The chunk so far is redacted, and the rest of it is unchanged.
abbrev pub invariant-loop-at : goal.invariant-loop-at
invariant-loop-at l = record {
  within : l.at ≤ length l.fn.chunk;
  size : length l.chunk ≡ length l.fn.chunk;
  kept : drop l.at l.chunk ≡ drop l.at l.fn.chunk;
  redacts : (role : Role) (limits : Limits) (came written : List ℕ) → HasRedacted role limits l.fn.scan l.fn.redactor came written →
      HasRedacted role limits l.scan l.redactor (came ++ take l.at l.fn.chunk) (written ++ take l.at l.chunk);
}

abbrev pub decreases-loop-at : goal.decreases-loop-at
decreases-loop-at l = length l.initial.chunk - l.at
