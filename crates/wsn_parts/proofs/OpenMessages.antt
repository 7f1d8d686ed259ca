-- The open message and the event of one more frame.
use Rattle.std.proofs.Common.{◌≡◌, ◌≢◌, ℕ, ◌+◌, ◌<◌, ◌≤◌, ◌⊎◌, true, false, List, [], ◌∷◌, ◌++◌, length, inl, inr, refl, sym, ap, ◌∙◌, subst, append-nil, arith, length-append}
use Rattle.std.proofs.lemmas.Bool.{cases_Bool, cond-true, cond-false}
use Rattle.wsn_wire.specs.declared.endpoint.Role.{Role}
use Rattle.wsn_wire.specs.Frame.{Frame, is_control, head_bytes, frame_bytes, wire_payload, stream}
use Rattle.wsn_wire.proofs.FrameLemmas.{length-wire_payload}
use Rattle.wsn_rules.specs.Limits.{Limits}
use Rattle.wsn_rules.specs.Group.{is_data, unfinished, IsOpen, first_op, payload_of}
use Rattle.wsn_rules.specs.Lawful.{IsLawful}
use Rattle.wsn_rules.specs.Meaning.{event_at, payload_in}
use Rattle.wsn_rules.specs.ShownStream.{open_offset, event_offset}
use Rattle.wsn_rules.proofs.Groups.{unfinished_control, unfinished_final}
use Rattle.wsn_rules.proofs.LawfulMeaning.{event_of_control, event_of_data}
use Rattle.wsn_rules.proofs.MessageText.{text_of_push}
use Rattle.wsn_rules.proofs.OpenOffsets.{offset_after_control, offset_after_fragment}
use Rattle.wsn_rules.proofs.Prefixes.{push-append}
use Rattle.wsn_rules.proofs.Walk.{stream_push}
use Rattle.wsn_rules.specs.Heads.{info_of}
use Rattle.wsn_parts.specs.EventsAt.{end_of}

pub open_or_not : (fs : List Frame) → (unfinished fs ≡ []) ⊎ IsOpen fs
open_or_not fs = by (unfinished fs)
  where
    by : (group : List Frame) → (group ≡ []) ⊎ (group ≢ [])
    by [] = inl refl
    by (g ∷ group) = inr (λ none. cc)

-- ---- how many bytes

pub frame_some : (f : Frame) → 2 ≤ length (frame_bytes f)
frame_some f =
    let size = length-append (head_bytes f.fin f.op f.key f.form (length f.payload)) (wire_payload f.key f.payload) in
    omega (arith, size)

pub longer_by : (fs : List Frame) (f : Frame) → length (stream (fs ++ f ∷ [])) ≡ length (stream fs) + length (frame_bytes f)
longer_by fs f = ap (λ (bs : List ℕ). length bs) (stream_push fs f) ∙ length-append (stream fs) (frame_bytes f)

-- The frame's head and its payload end where the frame ends.
pub frame_end : (fs : List Frame) (f : Frame) → end_of (info_of (length (stream fs)) f) ≡ length (stream (fs ++ f ∷ []))
frame_end fs f =
    let size = length-append (head_bytes f.fin f.op f.key f.form (length f.payload)) (wire_payload f.key f.payload) in
    omega (arith, longer_by fs f, size, length-wire_payload f.key f.payload)

-- An open message begins before the next frame.
pub open_before : (fs : List Frame) → IsOpen fs → open_offset fs < length (stream fs)
open_before fs = from_front fs [] (λ some. absurd (some refl))
  where
    one_more : (before : List Frame) (f : Frame) → (IsOpen before → open_offset before < length (stream before)) → IsOpen (before ++ f ∷ []) → open_offset (before ++ f ∷ []) < length (stream (before ++ f ∷ []))
    one_more before f so_far some = by (cases_Bool (is_data f)) (cases_Bool f.fin)
      where
        longer : length (stream (before ++ f ∷ [])) ≡ length (stream before) + length (frame_bytes f)
        longer = longer_by before f

        by : (is_data f ≡ true) ⊎ (is_data f ≡ false) → (f.fin ≡ true) ⊎ (f.fin ≡ false) → open_offset (before ++ f ∷ []) < length (stream (before ++ f ∷ []))
        by (inr control) any =
            let open_was : IsOpen before = λ none. some (unfinished_control before f control ∙ none) in
            let was = so_far open_was in
            omega (arith, was, longer, offset_after_control before f control open_was)
        by (inl data_frame) (inl final) = absurd (some (unfinished_final before f data_frame final))
        by (inl data_frame) (inr more) =
            let size = frame_some f in
            omega (arith, longer, size, offset_after_fragment before f data_frame more)

    from_front : (gs before : List Frame) → (IsOpen before → open_offset before < length (stream before)) → IsOpen (before ++ gs) → open_offset (before ++ gs) < length (stream (before ++ gs))
    from_front [] before so_far = subst (λ (hs : List Frame). IsOpen hs → open_offset hs < length (stream hs)) (sym (append-nil before)) so_far
    from_front (f ∷ gs) before so_far =
        subst (λ (hs : List Frame). IsOpen hs → open_offset hs < length (stream hs)) (push-append before f gs)
        (from_front gs (before ++ f ∷ []) (one_more before f so_far))

-- ---- the event of a frame

module _ (fs : List Frame) (f : Frame) where
  pub offset_of_control : is_control f.op ≡ true → event_offset fs f ≡ length (stream fs)
  offset_of_control control = cond-true (is_control f.op) (length (stream fs)) (open_offset fs) control

  pub offset_of_data : is_control f.op ≡ false → event_offset fs f ≡ open_offset fs
  offset_of_data other = cond-false (is_control f.op) (length (stream fs)) (open_offset fs) other

  pub offset_within : event_offset fs f ≤ length (stream fs)
  offset_within =
      elim (cases_Bool (is_control f.op)) [
        | inl control ↦ omega (arith, offset_of_control control)
        | inr other ↦ omega (arith, offset_of_data other)
      ]

  pub content_of_control : is_control f.op ≡ true → payload_in (event_at fs f) ≡ f.payload
  content_of_control control = ap payload_in (event_of_control fs f control)

  pub content_of_data : is_control f.op ≡ false → payload_in (event_at fs f) ≡ payload_of (unfinished fs) ++ f.payload
  content_of_data other = ap payload_in (event_of_data fs f other) ∙ text_of_push (unfinished fs) f

-- A control that belongs to the event that begins at an offset is no part of the open message.
pub apart_from_control : (fs : List Frame) (f : Frame) (at : ℕ) → is_control f.op ≡ true → IsOpen fs → open_offset fs ≡ at → event_offset fs f ≡ at → ⊥
apart_from_control fs f at control some begins also =
    let before = open_before fs some in omega (arith, before, begins, also, offset_of_control fs f control)

pub first_of_more : (group : List Frame) (f : Frame) → group ≢ [] → first_op (group ++ f ∷ []) ≡ first_op group
first_of_more [] f some = absurd (some refl)
first_of_more (g ∷ group) f some = refl

pub control_is_final : (role : Role) (limits : Limits) (fs : List Frame) (f : Frame) → IsLawful role limits (fs ++ f ∷ []) → is_control f.op ≡ true → f.fin ≡ true
control_is_final role limits fs f lawful control = (((lawful.each fs [] f refl).frame.encoded).control control).final
