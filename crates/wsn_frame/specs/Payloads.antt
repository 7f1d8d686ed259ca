-- Payload bytes as they are sent, in parts, and a frame whose payload is being read. RFC 6455 section 5.3.
use Rattle.std.specs.Prelude.{◌≡◌, ℕ, Option, None, Some, List, ◌++◌}
use Rattle.wsn_wire.specs.declared.endpoint.Role.{Role}
use Rattle.wsn_wire.specs.Frame.{Frame, IsBytes, first_byte, masked}
use Rattle.wsn_rules.specs.Limits.{Limits}
use Rattle.wsn_rules.specs.Evidence.{HasNoEvidence}
use Rattle.wsn_frame.specs.declared.heads.Head.{Head}
use Rattle.wsn_frame.specs.declared.payload_check.PayloadCheck.{PayloadCheck}
use Rattle.wsn_frame.specs.PartialHeads.{IsHead}
use Rattle.wsn_frame.specs.PayloadChecks.{HasChecked}

-- The bytes from offset `start` of the payload, masked or unmasked if there is a key.
abbrev pub unmasked_by : Option (List ℕ) → ℕ → List ℕ → List ℕ
unmasked_by None start bytes = bytes
unmasked_by (Some key) start bytes = masked key start bytes

-- A complete head has come, and this part of the payload as it was sent; nothing is evidence for a refusal.
pub record HoldsPayload (role : Role) (limits : Limits) (group : List Frame) (head : Head) (check : PayloadCheck)
    (wire rest : List ℕ) : Type 0 where
  pub head_bytes : List ℕ
  pub whole : rest ≡ head_bytes ++ wire
  pub is_head : IsHead role limits group head head_bytes
  pub in_bytes : IsBytes wire
  pub checked : HasChecked group (first_byte head.first.fin head.first.op) check (unmasked_by head.key 0 wire)
  pub has_no_evidence : HasNoEvidence role limits group rest
