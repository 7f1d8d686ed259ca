-- The heads that are reported of a stream. RFC 6455 section 5.2.
use Rattle.std.specs.Prelude.{◌≡◌, ℕ, ◌+◌, ◌<◌, ◌^◌, ◌⊎◌, IfSome, List, [], ◌∷◌, ◌++◌, length}
use Rattle.wsn_wire.specs.declared.endpoint.Role.{Role}
use Rattle.wsn_wire.specs.Frame.{Frame, IsKey, FormFits, head_bytes, frame_bytes, stream}
use Rattle.wsn_rules.specs.declared.head_info.HeadInfo.{HeadInfo}
use Rattle.wsn_rules.specs.Limits.{Limits}
use Rattle.wsn_rules.specs.Group.{unfinished}
use Rattle.wsn_rules.specs.Lawful.{IsLawful}
use Rattle.wsn_rules.specs.AfterClose.{HasNoClose, EndsWithClose}
use Rattle.wsn_rules.specs.Evidence.{HasNoEvidence}

-- The head of a frame at this offset.
abbrev pub info_of : ℕ → Frame → HeadInfo
info_of offset f = record { offset = offset; fin = f.fin; op = f.op; key = f.key; form = f.form; len = length f.payload }

-- The heads of frames, the first of which is at this offset.
abbrev pub heads_from : ℕ → List Frame → List HeadInfo
heads_from offset [] = []
heads_from offset (f ∷ fs) = info_of offset f ∷ heads_from (offset + length (frame_bytes f)) fs

-- The heads of frames from the start of a stream.
abbrev pub heads_of : List Frame → List HeadInfo
heads_of fs = heads_from 0 fs

-- After the frames fs, the rest begins with a complete head, and no prefix of the head is evidence for a refusal.
pub record BeginsWithHead (role : Role) (limits : Limits) (fs : List Frame) (rest : List ℕ) (info : HeadInfo)
    : Type 0 where
  pub head : List ℕ
  pub following : List ℕ
  pub whole : rest ≡ head ++ following
  pub offset : info.offset ≡ length (stream fs)
  pub encoded : head ≡ head_bytes info.fin info.op info.key info.form info.len
  pub key : IfSome info.key IsKey
  pub form : FormFits info.form info.len
  pub size : info.len < 2 ^ 63
  pub has_no_evidence : HasNoEvidence role limits (unfinished fs) head

-- The head that is reported for a frame that begins after the frames fs: the frame's head if it is complete and
-- evidence for no refusal, otherwise none; and none after a Close.
abbrev pub IsBegun : Role → Limits → List Frame → List ℕ → List HeadInfo → Type 0
IsBegun role limits fs rest begun =
    ((begun ≡ []) × EndsWithClose fs)
    ⊎ ((begun ≡ []) × HasNoClose fs × ((info : HeadInfo) → BeginsWithHead role limits fs rest info → ⊥))
    ⊎ (HasNoClose fs × ((info : HeadInfo) × (begun ≡ info ∷ []) × BeginsWithHead role limits fs rest info))

-- All heads that are reported of the bytes: those of their lawful frames, and that of a frame that begins after them.
pub record AreHeads (role : Role) (limits : Limits) (bytes : List ℕ) (fs : List Frame) (heads : List HeadInfo)
    : Type 0 where
  pub rest : List ℕ
  pub begun : List HeadInfo
  pub lawful : IsLawful role limits fs
  pub whole : bytes ≡ stream fs ++ rest
  pub is_begun : IsBegun role limits fs rest begun
  pub all : heads ≡ heads_of fs ++ begun
