-- The rules for the head of a frame that an endpoint sends. RFC 6455 sections 5.1, 5.2 and 5.5.
use Rattle.std.specs.Prelude.{◌≡◌, ℕ, ◌≤◌, ◌↔◌, true, List, length, IsSome}
use Rattle.wsn_wire.specs.declared.endpoint.Role.{Role, TheVariants.{Client}}
use Rattle.wsn_wire.specs.declared.length_encoding.Form.TheVariants as form
use Rattle.wsn_wire.specs.declared.length_encoding.Lengths.{Lengths}
use Rattle.wsn_wire.specs.declared.length_encoding.Lengths.TheVariants as encodings
use Rattle.wsn_wire.specs.Frame.{Frame, is_control, IsEncodable}

-- [5.5] A control frame has FIN and at most 125 bytes of payload, with the shortest encoding of its length.
pub record ControlLaw (f : Frame) : Type 0 where
  pub final : f.fin ≡ true
  pub short : length f.payload ≤ 125
  pub shortest : f.form ≡ form.Shortest

-- The frame is encoded as its sender must.
pub record IsEncodedFor (role : Role) (lengths : Lengths) (f : Frame) : Type 0 where
  -- It can be encoded at all.
  pub encodable : IsEncodable f
  -- [5.1] A client masks, a server doesn't.
  pub masked : IsSome f.key ↔ (role ≡ Client)
  -- A longer encoding of the length is valid only if any is accepted.
  pub shortest : lengths ≡ encodings.Shortest → f.form ≡ form.Shortest
  pub control : is_control f.op ≡ true → ControlLaw f
