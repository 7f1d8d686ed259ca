-- What a part of a frame says of the bytes that came.
use Rattle.std.proofs.Common.{◌≡◌, ◌≢◌, ℕ, Bool, true, false, List, [], ◌∷◌, ◌++◌, length, take, refl, sym, ap, ◌∙◌, subst, arith, append_assoc, length-append}
use Rattle.wsn_wire.specs.declared.endpoint.Role.{Role}
use Rattle.wsn_wire.specs.Frame.{Frame, is_control, wire_payload, frame_bytes, stream}
use Rattle.wsn_wire.proofs.FrameLemmas.{length-wire_payload}
use Rattle.wsn_rules.specs.declared.head_info.HeadInfo.{HeadInfo}
use Rattle.wsn_rules.specs.Heads.{info_of}
use Rattle.wsn_rules.specs.Limits.{Limits}
use Rattle.wsn_rules.specs.Meaning.{MeantEvent, meaning}
use Rattle.wsn_rules.proofs.LawfulLists.{came_on}
use Rattle.wsn_rules.proofs.Walk.{stream_push}
use Rattle.wsn_scan.specs.declared.part.Part.{Part}
use Rattle.wsn_scan.specs.Parts.{IsPart}
use Rattle.wsn_scan.specs.Positions.{Position, BetweenFrames, InFrame, IsTakenOf}
use Rattle.wsn_scan.proofs.HeadsReported.{frame_begins}
use Rattle.wsn_events.specs.Sources.{AreFirstOf, HasDataPayload}
use Rattle.wsn_events.proofs.GivenSoFar.{data_came, given_first, positive}

-- The part ends a lawful frame, which has the part's head and all of this payload.
pub record EndsPart (role : Role) (limits : Limits) (came : List ℕ) (fs : List Frame) (part : Part) (payload : List ℕ) (frames : List Frame) (position : Position) : Type 0 where
  pub frame : Frame
  pub head_is : part.head ≡ info_of (length (stream fs)) frame
  pub payload_is : frame.payload ≡ payload
  pub frames_are : frames ≡ fs ++ frame ∷ []
  pub position_is : position ≡ BetweenFrames
  pub taken : IsTakenOf role limits came (fs ++ frame ∷ []) BetweenFrames

-- the bytes begin with the frames before a frame that has come
by_frame : (bytes rest : List ℕ) (fs : List Frame) (f : Frame) → bytes ≡ stream (fs ++ f ∷ []) ++ rest → bytes ≡ stream fs ++ (frame_bytes f ++ rest)
by_frame bytes rest fs f whole = whole ∙ ap (λ (bs : List ℕ). bs ++ rest) (stream_push fs f) ∙ append_assoc (stream fs) (frame_bytes f) rest

pub before_frame : (role : Role) (limits : Limits) (came : List ℕ) (fs : List Frame) (f : Frame) → IsTakenOf role limits came (fs ++ f ∷ []) BetweenFrames → IsTakenOf role limits came fs BetweenFrames
before_frame role limits came fs f t = record {
  in_range = t.in_range;
  in_bytes = t.in_bytes;
  few = t.few;
  lawful = (came_on role limits fs f t.lawful).0;
  rest = frame_bytes f ++ t.rest;
  whole = by_frame (take limits.input came) t.rest fs f t.whole;
  begun = tt;
}

-- a whole data frame with payload has come
pub data_of_frame : (role : Role) (limits : Limits) (came : List ℕ) (fs : List Frame) (f : Frame) → IsTakenOf role limits came (fs ++ f ∷ []) BetweenFrames → is_control f.op ≡ false → f.payload ≢ [] → HasDataPayload role limits (take limits.input came)
unfolding frame_begins
data_of_frame role limits came fs f taken of_data some =
    let on = came_on role limits fs f taken.lawful in
    let size = positive f.payload some in
    record {
      frames = fs;
      lawful = on.0;
      no_close = on.1;
      rest = frame_bytes f ++ taken.rest;
      whole = by_frame (take limits.input came) taken.rest fs f taken.whole;
      info = info_of (length (stream fs)) f;
      begins = frame_begins role limits fs f [] taken.rest taken.lawful;
      of_data = of_data;
      some = size;
      payload = λ none.
          let sizes : length (wire_payload f.key f.payload ++ taken.rest) ≡ 0 = ap (λ (bs : List ℕ). length bs) none in
          omega (arith, sizes, size, length-wire_payload f.key f.payload, length-append (wire_payload f.key f.payload) taken.rest);
    }

no_end : (xs ys : List ℕ) → xs ++ ys ≡ [] → ys ≡ []
no_end [] ys none = none
no_end (x ∷ xs) ys none = absurd cc

module _ (role : Role) (limits : Limits) (came : List ℕ) (fs : List Frame) (at : Position) (part : Part) (payload : List ℕ) (frames : List Frame) (position : Position) (is : IsPart fs at part payload frames position)
    (taken : IsTakenOf role limits came frames position) where
  taken_at : (gs : List Frame) (there : Position) → frames ≡ gs → position ≡ there → IsTakenOf role limits came gs there
  taken_at gs there same same_position = subst (IsTakenOf role limits came gs) same_position (subst (λ (hs : List Frame). IsTakenOf role limits came hs position) same taken)

  pub ended_by : part.ends ≡ true → EndsPart role limits came fs part (is.before ++ payload) frames position
  ended_by ends = grind (arith, taken_at)

  taken_within : part.ends ≡ false → IsTakenOf role limits came fs (InFrame part.head (is.before ++ payload))
  taken_within more = let on = is.goes_on.within more in taken_at fs (InFrame part.head (is.before ++ payload)) on.0 on.1

  pub place_of : part.head.offset ≡ length (stream fs)
  place_of = grind (arith, taken_within, ended_by)

  -- the bytes begin with the frames before it
  before_it : IsTakenOf role limits came fs BetweenFrames
  before_it = by part.ends refl
    where
      by : (ends : Bool) → part.ends ≡ ends → IsTakenOf role limits came fs BetweenFrames
      by false more =
          let t = taken_within more in record { in_range = t.in_range; in_bytes = t.in_bytes; few = t.few; lawful = t.lawful; rest = t.rest; whole = t.whole; begun = tt }
      by true ends = let e = ended_by ends in before_frame role limits came fs e.frame e.taken

  pub first_of_part : (given : List MeantEvent) → given ≡ meaning fs → AreFirstOf role limits (take limits.input came) given
  first_of_part given events = given_first role limits came fs BetweenFrames before_it given events

  -- its payload is a data frame's
  pub data_of_part : is_control part.head.op ≡ false → payload ≢ [] → HasDataPayload role limits (take limits.input came)
  data_of_part of_data some = by part.ends refl
    where
      all_some : is.before ++ payload ≢ []
      all_some none = some (no_end is.before payload none)

      by : (ends : Bool) → part.ends ≡ ends → HasDataPayload role limits (take limits.input came)
      by false more = data_came role limits came fs (InFrame part.head (is.before ++ payload)) (taken_within more) part.head (is.before ++ payload) refl all_some of_data
      by true ends =
          let e = ended_by ends in
          data_of_frame role limits came fs e.frame e.taken (sym (ap (λ (h : HeadInfo). is_control h.op) e.head_is) ∙ of_data) (λ none. all_some (sym e.payload_is ∙ none))
