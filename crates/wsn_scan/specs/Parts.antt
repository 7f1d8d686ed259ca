-- What a call takes of a stream's frames.
use Rattle.std.specs.Prelude.{◌≡◌, ◌≢◌, ℕ, ◌<◌, ◌⊎◌, ⊤, true, false, Option, None, Some, List, [], ◌∷◌, ◌++◌, length}
use Rattle.wsn_wire.specs.declared.opcode.Kind.{Kind}
use Rattle.wsn_wire.specs.Frame.{Frame, stream}
use Rattle.wsn_rules.specs.Heads.{info_of}
use Rattle.wsn_rules.specs.NormalForm.{op_of}
use Rattle.wsn_rules.specs.declared.verdict.Refusal.{Refusal}
use Rattle.wsn_rules.specs.AfterClose.{HasNoClose, EndsWithClose}
use Rattle.wsn_frame.specs.Payloads.{unmasked_by}
use Rattle.wsn_scan.specs.declared.part.Part.{Part}
use Rattle.wsn_scan.specs.declared.part.Taken.{Taken}
use Rattle.wsn_scan.specs.declared.part.Taken.TheVariants as taken
use Rattle.wsn_scan.specs.Positions.{Position, BetweenFrames, InFrame}

-- A part of the frame after the frames fs: this payload comes after what came before it. If the part ends the frame, the
-- frame is one more, with the part's head and all of this payload.
pub record ContinuesFrame (fs : List Frame) (before : List ℕ) (part : Part) (payload : List ℕ) (frames : List Frame)
    (position : Position) : Type 0 where
  pub within : part.ends ≡ false → (frames ≡ fs) × (position ≡ InFrame part.head (before ++ payload))
  pub ends : part.ends ≡ true → (frame : Frame) × (part.head ≡ info_of (length (stream fs)) frame)
      × (frame.payload ≡ before ++ payload) × (frames ≡ fs ++ frame ∷ []) × (position ≡ BetweenFrames)

-- Between frames, a part begins one; in a frame it goes on with it, after the payload so far.
abbrev pub IsPartAt : Position → Part → List ℕ → Type 0
IsPartAt BetweenFrames part before = (part.begins ≡ true) × (before ≡ [])
IsPartAt (InFrame head payload) part before = (part.begins ≡ false) × (part.head ≡ head) × (before ≡ payload)

-- After the frames fs and at this position, the part takes this payload of a frame, and leads to these frames and to
-- this position.
pub record IsPart (fs : List Frame) (at : Position) (part : Part) (payload : List ℕ) (frames : List Frame)
    (position : Position) : Type 0 where
  pub before : List ℕ
  pub is_at : IsPartAt at part before
  pub goes_on : ContinuesFrame fs before part payload frames position

-- The part is a whole message of this kind: of one frame, which is final.
pub record IsWholeMessage (part : Part) (kind : Kind) : Type 0 where
  pub begins : part.begins ≡ true
  pub ends : part.ends ≡ true
  pub final : part.head.fin ≡ true
  pub op : part.head.op ≡ op_of kind

-- What a call has found after the frames fs, at this position: nothing yet; a part of a frame with this payload; no more
-- frames, after a Close; or a refusal.
abbrev pub Finds : Taken → Part → List ℕ → List Frame → Position → List Frame → Position → Type 0
Finds taken.More part payload fs at frames position = (frames ≡ fs) × (position ≡ at) × HasNoClose fs
Finds taken.Part part payload fs at frames position = IsPart fs at part payload frames position
Finds taken.Closed part payload fs at frames position = (frames ≡ fs) × (position ≡ at) × EndsWithClose fs
Finds taken.Refused part payload fs at frames position = (frames ≡ fs) × (position ≡ at)

-- How many bytes of a chunk of this size a call consumes: of a frame's part all that the chunk has of the frame, or its
-- head alone, if it begins there.
abbrev pub Consumes : Taken → Part → ℕ → ℕ → Type 0
Consumes taken.More part size n = n ≡ size
Consumes taken.Part part size n =
    (0 < size → 0 < n) × (part.ends ≡ false → (n ≡ size) ⊎ ((part.begins ≡ true) × (part.start ≡ n)))
Consumes taken.Closed part size n = n ≡ size
Consumes taken.Refused part size n = ⊤

-- What a call finds in a chunk of this size, by what was taken before it, and how many bytes n it consumes.
pub record FindsByCase (fs : List Frame) (refused : Option Refusal) (size n : ℕ) (found : Taken) (part : Part)
    : Type 0 where
  -- after a refusal, the refusal again
  pub again : (refusal : Refusal) → refused ≡ Some refusal → (found ≡ taken.Refused) × (n ≡ 0)
  -- after a Close, all of the chunk
  pub tail : refused ≡ None → EndsWithClose fs → (found ≡ taken.Closed) × (n ≡ size)
  -- otherwise part of a head, a part of a frame, or a refusal
  pub frame : refused ≡ None → HasNoClose fs → (found ≢ taken.Closed) × Consumes found part size n

-- The next bytes after this position: payload unmasked, others as they came.
abbrev pub unmasked_at : Position → List ℕ → List ℕ
unmasked_at BetweenFrames bytes = bytes
unmasked_at (InFrame head payload) bytes = unmasked_by head.key (length payload) bytes
