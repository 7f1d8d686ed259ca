-- A masked payload is what is sent.
use Rattle.std.proofs.Common.{◌≡◌, ℕ, Option, List, arith}
use Rattle.wsn_wire.specs.Frame.{wire_payload}
use Rattle.wsn_frame.specs.Payloads.{unmasked_by}

pub masked_is : (key : Option (List ℕ)) (payload : List ℕ) → unmasked_by key 0 payload ≡ wire_payload key payload
masked_is key payload = grind arith
