-- Uniform frames: the frames of a message are adjacent and, but for the last, of one size. RFC 6455 section 5.4.
use Rattle.std.specs.Prelude.{◌≡◌, ℕ, ◌≤◌, ◌⊎◌, true, false, Option, List, [], ◌∷◌, ◌++◌, length}
use Rattle.wsn_wire.specs.declared.length_encoding.Form.TheVariants.{Shortest}
use Rattle.wsn_wire.specs.Frame.{Frame}
use Rattle.wsn_rules.specs.Group.{is_data, unfinished, payload_of}

-- The last frame of a message has at least one byte and is not longer than the other frames; or the message is empty.
abbrev pub HoldsTheRest : ℕ → List Frame → Frame → Type 0
HoldsTheRest size earlier f =
    ((1 ≤ length f.payload) × (length f.payload ≤ size)) ⊎ (payload_of (earlier ++ f ∷ []) ≡ [])

-- The frame f is uniform after the frames `before`.
pub record IsUniformAt (size : ℕ) (key : Option (List ℕ)) (before : List Frame) (f : Frame) : Type 0 where
  pub same_key : f.key ≡ key
  pub shortest : f.form ≡ Shortest
  pub full : is_data f ≡ true → f.fin ≡ false → length f.payload ≡ size
  pub rest : is_data f ≡ true → f.fin ≡ true → HoldsTheRest size (unfinished before) f
  -- No control is between the frames of a message.
  pub between : is_data f ≡ false → unfinished before ≡ []

-- Each of the frames is uniform after those before it.
abbrev pub AreUniform : ℕ → Option (List ℕ) → List Frame → Type 0
AreUniform size key fs =
    (before after : List Frame) (f : Frame) → fs ≡ before ++ f ∷ after → IsUniformAt size key before f
