-- The event that begins at an offset of a stream: its payload, what has come of it, or where the offset is if no event
-- begins there. RFC 6455 sections 5.4 to 5.6.
use Rattle.std.specs.Prelude.{◌≡◌, ◌≢◌, ℕ, ◌+◌, ◌<◌, ◌≤◌, ◌⊎◌, true, List, [], ◌∷◌, ◌++◌, length, drop, if◌then◌else◌}
use Rattle.wsn_wire.specs.declared.endpoint.Role.{Role}
use Rattle.wsn_wire.specs.Frame.{Frame, is_control, head_bytes, stream, wire_payload}
use Rattle.wsn_rules.specs.declared.head_info.HeadInfo.{HeadInfo}
use Rattle.wsn_rules.specs.declared.verdict.Verdict.{Verdict}
use Rattle.wsn_rules.specs.Limits.{Limits}
use Rattle.wsn_rules.specs.Group.{unfinished, IsOpen, first_op, payload_of}
use Rattle.wsn_rules.specs.Lawful.{IsLawful}
use Rattle.wsn_rules.specs.AfterClose.{HasNoClose, EndsWithClose}
use Rattle.wsn_rules.specs.Meaning.{event_at, payload_in}
use Rattle.wsn_rules.specs.Heads.{heads_of, BeginsWithHead, AreHeads}
use Rattle.wsn_rules.specs.ShownStream.{open_offset, event_offset, frame_so_far}
use Rattle.wsn_rules.specs.Verdict.{IsVerdict, judged_bytes}
use Rattle.wsn_scan.specs.Positions.{Position, BetweenFrames, InFrame}
use Rattle.wsn_parts.specs.declared.answer.EventStart.{EventStart}

-- ---- complete

-- The frame ends the event that begins at the offset, which has this payload.
pub record EndsEvent (fs : List Frame) (f : Frame) (at : ℕ) (payload : List ℕ) : Type 0 where
  pub final : f.fin ≡ true
  pub begins : event_offset fs f ≡ at
  pub payload_is : payload ≡ payload_in (event_at fs f)

-- The bytes begin with lawful frames, within the input limit. The last of them ends the event that begins at this
-- offset, and this is its payload.
pub record IsWholeAt (role : Role) (limits : Limits) (bytes : List ℕ) (at : ℕ) (payload : List ℕ) : Type 0 where
  pub before : List Frame
  pub last : Frame
  pub later : List ℕ
  pub whole : bytes ≡ stream (before ++ last ∷ []) ++ later
  pub within : length (stream (before ++ last ∷ [])) ≤ limits.input
  pub lawful : IsLawful role limits (before ++ last ∷ [])
  pub ends : EndsEvent before last at payload

-- ---- not complete

-- After whole frames, these bytes are left. Between frames: after a Close, or no complete head that is valid so far
-- comes. In a frame: such a head comes, and then this part of its payload, which is unmasked here.
abbrev pub IsRestAt : Role → Limits → List Frame → List ℕ → Position → Type 0
IsRestAt role limits fs rest BetweenFrames =
    EndsWithClose fs ⊎ ((info : HeadInfo) → BeginsWithHead role limits fs rest info → ⊥)
IsRestAt role limits fs rest (InFrame info part) =
    HasNoClose fs
    × ((begins : BeginsWithHead role limits fs rest info) × (part ≡ wire_payload info.key begins.following))

-- The message that the frames leave open begins at this offset, and this is its payload so far.
pub record IsOpenAt (fs : List Frame) (at : ℕ) (payload : List ℕ) : Type 0 where
  pub some : IsOpen fs
  pub begins : open_offset fs ≡ at
  pub payload_is : payload ≡ payload_of (unfinished fs)

-- The event that begins at this offset has begun and isn't complete, and this is its payload so far. It is the open
-- message, between frames or in a control; or the event of the frame that has begun.
abbrev pub IsBegunAt : List Frame → Position → ℕ → List ℕ → Type 0
IsBegunAt fs BetweenFrames at payload = IsOpenAt fs at payload
IsBegunAt fs (InFrame info part) at payload =
    ((is_control info.op ≡ true) × IsOpenAt fs at payload)
    ⊎ ((event_offset fs (frame_so_far info part) ≡ at) × (payload ≡ payload_in (event_at fs (frame_so_far info part))))

-- The offset at which a frame with this head ends.
abbrev pub end_of : HeadInfo → ℕ
end_of info = info.offset + length (head_bytes info.fin info.op info.key info.form info.len) + info.len

-- The whole frames, and the one that has begun, end before the offset or at it.
abbrev pub EndBefore : List Frame → Position → ℕ → Type 0
EndBefore fs BetweenFrames at = length (stream fs) ≤ at
EndBefore fs (InFrame info part) at = end_of info ≤ at

-- The bytes have this verdict, and up to their end or to the offending byte they are these frames and then this.
pub record AreApart (role : Role) (limits : Limits) (bytes : List ℕ) (verdict : Verdict) (fs : List Frame)
    (position : Position) : Type 0 where
  pub is_verdict : IsVerdict role limits bytes fs verdict
  pub is_rest : IsRestAt role limits fs (drop (length (stream fs)) (judged_bytes verdict bytes)) position

-- The bytes have this verdict, and the event that begins at this offset isn't complete in them. This is what has come
-- of its payload: with a refusal, up to the offending byte and with it, if that is in the event's payload.
pub record IsUnfinishedAt (role : Role) (limits : Limits) (bytes : List ℕ) (verdict : Verdict) (at : ℕ)
    (payload : List ℕ) : Type 0 where
  pub frames : List Frame
  pub position : Position
  pub are_apart : AreApart role limits bytes verdict frames position
  pub is_begun : IsBegunAt frames position at payload

-- ---- no event

-- The bytes have this verdict, and their frames end before the offset or at it.
pub record EndsBefore (role : Role) (limits : Limits) (bytes : List ℕ) (verdict : Verdict) (at : ℕ) : Type 0 where
  pub frames : List Frame
  pub position : Position
  pub are_apart : AreApart role limits bytes verdict frames position
  pub end : EndBefore frames position at

-- The same, and the offset is in a head that begins at the offset `start`, after the frames and without a Close: no
-- complete head comes there that is valid so far, but bytes up to this offset, of which the verdict takes account.
pub record IsInHeadAt (role : Role) (limits : Limits) (bytes : List ℕ) (verdict : Verdict) (at start : ℕ)
    : Type 0 where
  pub ends : EndsBefore role limits bytes verdict at
  pub between : ends.position ≡ BetweenFrames
  pub no_close : HasNoClose ends.frames
  pub begins : start ≡ length (stream ends.frames)
  pub reached : at < length (judged_bytes verdict bytes)

-- The frames end before the offset or at it, and what comes after them begins no head there: they end with a Close, or
-- all bytes of which the verdict takes account end before the offset or at it.
pub record IsAfterAll (role : Role) (limits : Limits) (bytes : List ℕ) (verdict : Verdict) (at : ℕ) : Type 0 where
  pub ends : EndsBefore role limits bytes verdict at
  pub no_head : ends.position ≡ BetweenFrames →
      EndsWithClose ends.frames ⊎ (length (judged_bytes verdict bytes) ≤ at)

-- The event of a frame with this head, after the frames `before`: the opcode of its first frame, and the offset at which
-- it begins.
pub record IsStartOf (before : List Frame) (info : HeadInfo) (start : EventStart) : Type 0 where
  pub op : start.op ≡ (if is_control info.op then info.op else first_op (unfinished before ++ frame_so_far info [] ∷ []))
  pub offset : start.offset ≡ event_offset before (frame_so_far info [])

-- The offset is in the frame with this head, after the frames fs, and its event begins elsewhere.
pub record IsElsewhere (fs : List Frame) (info : HeadInfo) (at : ℕ) (start : EventStart) : Type 0 where
  pub from : info.offset ≤ at
  pub to : at < end_of info
  pub is_start : IsStartOf fs info start
  pub other : start.offset ≢ at

-- The offset is in a frame of this event, which begins elsewhere: the bytes begin with frames, within the input limit,
-- and the head of the last of them, which is complete and valid so far, says so. The frame may be whole.
pub record IsInsideAt (role : Role) (limits : Limits) (bytes : List ℕ) (at : ℕ) (start : EventStart) : Type 0 where
  pub front : List ℕ
  pub later : List ℕ
  pub whole : bytes ≡ front ++ later
  pub within : length front ≤ limits.input
  pub before : List Frame
  pub last : List Frame
  pub info : HeadInfo
  pub are_heads : AreHeads role limits front (before ++ last) (heads_of before ++ info ∷ [])
  pub elsewhere : IsElsewhere before info at start
