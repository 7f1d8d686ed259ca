use Rattle.std.proofs.Common.{◌≡◌, take}
use Rattle.wsn_rules.specs.BadCharacter.{bytes_of}
use Rattle.wsn_show.specs.LastPayloads.{placed_bytes}
use Rattle.wsn_show.proofs.last_payload.LastPayload.bytes.Given as goal

-- The bytes so far.
abbrev pub invariant-loop-held : goal.invariant-loop-held
invariant-loop-held l = l.bytes ≡ bytes_of (placed_bytes (take l.held-index l.held-items))
