-- Lawful lists of frames. RFC 6455 sections 5.1, 5.2, 5.5.1 and 7.4.
use Rattle.std.specs.Prelude.{◌≡◌, true, List, [], ◌∷◌, ◌++◌, ⊤}
use Rattle.wsn_wire.specs.declared.endpoint.Role.{Role}
use Rattle.wsn_wire.specs.declared.opcode.Op.TheVariants.{Close}
use Rattle.wsn_wire.specs.Frame.{Frame}
use Rattle.wsn_rules.specs.Limits.{Limits}
use Rattle.wsn_rules.specs.Group.{is_data, unfinished}
use Rattle.wsn_rules.specs.MessageLaw.{GroupLaw}
use Rattle.wsn_wire.specs.declared.length_encoding.Lengths.{Lengths}
use Rattle.wsn_wire.specs.HeadLaw.{IsEncodedFor}
use Rattle.wsn_text.specs.CloseBody.{IsCloseBody}

-- The frame is lawful by itself.
pub record FrameLaw (role : Role) (lengths : Lengths) (f : Frame) : Type 0 where
  -- [5.1, 5.2, 5.5] It is encoded as its sender must.
  pub encoded : IsEncodedFor role lengths f
  -- [7.4] The body of a Close is empty, or an accepted code and a reason.
  pub close : f.op ≡ Close → IsCloseBody f.payload

-- The frame f is lawful after the frames `before`.
pub record LawAt (role : Role) (limits : Limits) (before : List Frame) (f : Frame) : Type 0 where
  pub frame : FrameLaw role limits.lengths f
  pub group : is_data f ≡ true → GroupLaw limits (unfinished before) f

-- Each frame is lawful after those before it, and a Close is last [5.5.1].
pub record IsLawful (role : Role) (limits : Limits) (fs : List Frame) : Type 0 where
  pub each : (before after : List Frame) (f : Frame) → fs ≡ before ++ f ∷ after → LawAt role limits before f
  pub close_last : (before after : List Frame) (f : Frame) → fs ≡ before ++ f ∷ after → f.op ≡ Close → after ≡ []

-- After the frames `before`, each of the frames fs is lawful in its turn, and a Close is last.
abbrev pub AreLawfulAfter : Role → Limits → List Frame → List Frame → Type 0
AreLawfulAfter role limits before [] = ⊤
AreLawfulAfter role limits before (f ∷ fs) =
    LawAt role limits before f × (f.op ≡ Close → fs ≡ []) × AreLawfulAfter role limits (before ++ f ∷ []) fs
