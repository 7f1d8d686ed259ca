-- Where a stream may end, and that nothing counts after a Close: the tail. RFC 6455 section 5.5.1. That a Close is the
-- last of the frames: `close_last` in Lawful.antt.
use Rattle.std.specs.Prelude.{◌≡◌, ℕ, ◌⊎◌, List, [], ◌∷◌, ◌++◌}
use Rattle.wsn_wire.specs.declared.opcode.Op.TheVariants.{Close}
use Rattle.wsn_wire.specs.Frame.{Frame, stream}
use Rattle.wsn_rules.specs.Group.{unfinished}

-- No frame is a Close.
abbrev pub HasNoClose : List Frame → Type 0
HasNoClose fs = (before after : List Frame) (f : Frame) → fs ≡ before ++ f ∷ after → f.op ≡ Close → ⊥

-- The last frame is a Close.
abbrev pub EndsWithClose : List Frame → Type 0
EndsWithClose fs = (before : List Frame) × (close : Frame) × (close.op ≡ Close) × (fs ≡ before ++ close ∷ [])

-- Without a Close, no message is open and the bytes are just the frames; with a Close, any tail may follow.
abbrev pub Ends : List Frame → List ℕ → Type 0
Ends fs bytes =
    (HasNoClose fs × (unfinished fs ≡ []) × (bytes ≡ stream fs))
    ⊎ (EndsWithClose fs × ((tail : List ℕ) × (bytes ≡ stream fs ++ tail)))
