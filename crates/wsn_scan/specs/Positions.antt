-- Where a scan is in a stream, and what it has taken of the stream's frames.
use Rattle.std.specs.Prelude.{◌≡◌, ℕ, ◌+◌, ◌≤◌, ⊤, List, [], ◌∷◌, ◌++◌, length, take}
use Rattle.wsn_wire.specs.declared.endpoint.Role.{Role}
use Rattle.wsn_wire.specs.Frame.{Frame, IsBytes, head_bytes, stream}
use Rattle.wsn_rules.specs.declared.head_info.HeadInfo.{HeadInfo}
use Rattle.wsn_rules.specs.Limits.{Limits, InRange}
use Rattle.wsn_rules.specs.AfterClose.{HasNoClose}
use Rattle.wsn_rules.specs.declared.verdict.Verdict.{Verdict}
use Rattle.wsn_rules.specs.Verdict.{IsVerdict}
use Rattle.wsn_rules.specs.Heads.{heads_of, AreHeads, BeginsWithHead}
use Rattle.wsn_rules.specs.Lawful.{IsLawful}
use Rattle.wsn_frame.specs.Payloads.{unmasked_by}

-- After whole frames: between frames, or within a head; or in a frame with this head, this much of whose payload was
-- taken, unmasked.
pub data Position : Type 0 where
  BetweenFrames : Position
  InFrame : HeadInfo → List ℕ → Position

-- the head of the frame that has begun, if one has
abbrev pub begun_at : Position → List HeadInfo
begun_at BetweenFrames = []
begun_at (InFrame head payload) = head ∷ []

-- After the frames fs a frame with this head has begun, and this is a prefix of its payload, unmasked.
pub record IsPayloadPrefix (fs : List Frame) (bytes : List ℕ) (head : HeadInfo) (payload : List ℕ) : Type 0 where
  pub wire : List ℕ
  pub later : List ℕ
  pub whole : bytes ≡ stream fs ++ (head_bytes head.fin head.op head.key head.form head.len ++ (wire ++ later))
  pub within : length wire ≤ head.len
  pub unmasked : payload ≡ unmasked_by head.key 0 wire

-- The same, and this is all of its payload that came.
abbrev pub IsPayloadSoFar : List Frame → List ℕ → HeadInfo → List ℕ → Type 0
IsPayloadSoFar fs bytes head payload = (front : IsPayloadPrefix fs bytes head payload) × (front.later ≡ [])

-- The bytes are lawful frames, which their verdict speaks of, and a rest. All their heads are those of the frames, and of
-- the frame that has begun, if one has: a prefix of its payload was taken, unmasked.
pub record IsPositionIn (role : Role) (limits : Limits) (bytes : List ℕ) (fs : List Frame) (rest : List ℕ) (at : Position)
    : Type 0 where
  pub lawful : IsLawful role limits fs
  pub whole : bytes ≡ stream fs ++ rest
  pub judged : (verdict : Verdict) × IsVerdict role limits bytes fs verdict
  pub heads : AreHeads role limits bytes fs (heads_of fs ++ begun_at at)
  pub payload : (head : HeadInfo) (payload : List ℕ) → at ≡ InFrame head payload →
      IsPayloadPrefix fs bytes head payload

-- The rest after whole frames: any bytes; or a head that is valid so far, after frames without a Close, and then this
-- payload, which is unmasked here.
abbrev pub IsBegunBy : Role → Limits → List Frame → List ℕ → Position → Type 0
IsBegunBy role limits fs rest BetweenFrames = ⊤
IsBegunBy role limits fs rest (InFrame head payload) =
    HasNoClose fs × (length payload ≤ head.len)
    × ((begins : BeginsWithHead role limits fs rest head)
    × (payload ≡ unmasked_by head.key 0 (take (length payload) begins.following)))

-- Of the bytes that came, those within the limit begin with these frames, which are lawful, and go on as the position
-- says. At most one byte past the limit came.
pub record IsTakenOf (role : Role) (limits : Limits) (came : List ℕ) (fs : List Frame) (at : Position) : Type 0 where
  pub in_range : InRange limits
  pub in_bytes : IsBytes came
  pub few : length came ≤ limits.input + 1
  pub lawful : IsLawful role limits fs
  pub rest : List ℕ
  pub whole : take limits.input came ≡ stream fs ++ rest
  pub begun : IsBegunBy role limits fs rest at
