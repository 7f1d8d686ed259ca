-- Each item that is shown of a stream is where it says, and every byte of the stream is in exactly one of them.
use Rattle.std.proofs.Common.{◌≡◌, ◌≢◌, ℕ, ◌+◌, ◌-◌, ◌<◌, ◌≤◌, true, false, not, Option, None, Some, List, [], ◌∷◌, ◌++◌, ◌⊎◌, length, take, drop, nat_lt, if◌then◌else◌, refl, sym, ap, ◌∙◌, subst, inl, inr, append-nil, append_assoc, length-append, true≢false, arith}
use Rattle.std.specs.Prelude.{◌↔◌}
use Rattle.std.specs.List.{AllByRecursion}
use Rattle.std.proofs.lemmas.Bool.{cases_Bool, cond-true, cond-false}
use Rattle.std.proofs.lemmas.List.{map-append, take_at}
use Rattle.wsn_wire.specs.declared.endpoint.Role.{Role}
use Rattle.wsn_wire.specs.declared.opcode.Op.{Op}
use Rattle.wsn_wire.specs.declared.opcode.Op.TheVariants.{Continue, Close}
use Rattle.wsn_wire.specs.Frame.{Frame, IsEncodable, frame_bytes, stream, is_control, wire_payload}
use Rattle.wsn_rules.specs.declared.detail.Detail.TheVariants.{Events}
use Rattle.wsn_rules.specs.declared.head_info.HeadInfo.{HeadInfo}
use Rattle.wsn_rules.specs.declared.verdict.Refusal.{Refusal}
use Rattle.wsn_rules.specs.declared.verdict.Verdict.{Verdict}
use Rattle.wsn_rules.specs.declared.verdict.Verdict.TheVariants.{Accepted, Cut, Refused}
use Rattle.wsn_rules.specs.Limits.{Limits}
use Rattle.wsn_rules.specs.AfterClose.{HasNoClose, EndsWithClose}
use Rattle.wsn_rules.specs.Group.{is_data, unfinished, kind_of, payload_of}
use Rattle.wsn_rules.specs.Heads.{BeginsWithHead}
use Rattle.wsn_rules.specs.Lawful.{IsLawful, AreLawfulAfter}
use Rattle.wsn_rules.specs.Meaning.{MeantEvent, Message, Control, event_at}
use Rattle.wsn_rules.specs.Summary.{is_close}
use Rattle.wsn_rules.specs.Verdict.{EndsWithinFrame, IsCut, IsRefused, IsVerdict}
use Rattle.wsn_rules.specs.ShownOffsets.{IsGroupOf, begun_bytes}
use Rattle.wsn_rules.specs.BadCharacter.{BadCharacter, PlacedByte, placed}
use Rattle.wsn_rules.specs.ShownOffsets.{BeginsAt, end_of, PlacedFrame, frames_in, placed_frames, IsFragment, IsLastFrame, IsControlFrame, BeginOnce, IsMessageOf, IsEncodableHead, IsPartOfHead, HasBegun, IsPlaced, is_open_message, Interrupts, IsShownWithNext, AreInPlace}
use Rattle.wsn_rules.specs.ShownStream.{Item, Shown, shown_after, open_offset, open_item, open_items, event_offset, event_frames, items_of_final, shown_at, shown_of, items_of_bytes, frame_so_far, items_of_part, items_of_head, IsLeftOfRest, IsLeftOf, IsLeftOver, IsShownEvidence, IsShownVerdict, IsShownStream}
use Rattle.wsn_rules.specs.ShownStream.Item.{Event, Unfinished, UnfinishedHead, RefusedFrame, Unread, Tail}
use Rattle.wsn_rules.proofs.AllOfList.{all_push}
use Rattle.wsn_rules.proofs.Prefixes.{nil-push, push-append}
use Rattle.wsn_rules.proofs.LawfulLists.{no_close_before, lawful_after}
use Rattle.wsn_rules.proofs.Groups.{unfinished_control, unfinished_final, unfinished_more}
use Rattle.wsn_rules.proofs.LeastEvident.{evidence_is_some}
use Rattle.wsn_rules.proofs.OpenOffsets.{offset_of_none, offset_after_control, offset_after_fragment}
use Rattle.wsn_rules.proofs.Walk.{stream_push}
use Rattle.wsn_rules.proofs.OneVerdict.{one_verdict}
use Rattle.wsn_rules.proofs.ShownStreams.{shown_of-append}
use Rattle.wsn_rules.proofs.BegunHeads.{has_begun, of_one_frame, begins_with, encodable_begun, begun_is, continues, is_part_of_head, shown_evidence}
use Rattle.wsn_rules.proofs.PlacedBytes.{end_is, end_with, frames_in-push, placed_frames-push, takes, Dealt, nothing_dealt, other_item, its_item, at, fragment, all_placed}

-- ---- frames

frame_some : (f : Frame) → 0 < length (frame_bytes f)
frame_some f = omega arith

begun_some : (info : HeadInfo) (following : List ℕ) → 0 < length (begun_bytes info following)
begun_some info following = omega arith

nil_of_map : (held : List PlacedFrame) → frames_in held ≡ [] → held ≡ []
nil_of_map [] none = refl
nil_of_map (f ∷ held) none = cc

all_data : (fs : List Frame) → AllByRecursion IsFragment fs → AllByRecursion (λ (f : Frame). is_data f ≡ true) fs
all_data [] all = tt
all_data (f ∷ fs) all = (all.0.data_frame, all_data fs all.1)

-- A message begins once: another frame continues it exactly if there are frames before it.
once_push : (fs : List Frame) (f : Frame) → BeginOnce fs → (f.op ≡ Continue) ↔ (fs ≢ []) → BeginOnce (fs ++ f ∷ [])
once_push [] f once on = ((λ is. on.0 is refl), tt)
once_push (g ∷ fs) f once on = (once.0, all_push (λ (h : Frame). h.op ≡ Continue) fs f once.1 (on.1 (λ none. cc)))

group_is : (group : List Frame) → AllByRecursion (λ (f : Frame). is_data f ≡ true) group → IsGroupOf group (kind_of group) (payload_of group) (length group)
group_is group all = record { data_frames = all; of_kind = refl; joined = refl; counted = refl }

next_offset : (before : List Frame) (f : Frame) → length (stream (before ++ f ∷ [])) ≡ length (stream before) + length (frame_bytes f)
next_offset before f = ap (λ (bs : List ℕ). length bs) (stream_push before f) ∙ length-append (stream before) (frame_bytes f)

-- ---- the frames that are held of the open message

-- The first of the frames is at this offset, if there is one.
abbrev HeldFrom : ℕ → List PlacedFrame → Type 0
HeldFrom n [] = Unit {0}
HeldFrom n (f ∷ held) = f.offset ≡ n

-- They are the open message's after these frames.
record IsHeld (before : List Frame) (held : List PlacedFrame) : Type 0 where
  pub frames : frames_in held ≡ unfinished before
  pub at_offset : HeldFrom (open_offset before) held
  pub fragments : AllByRecursion IsFragment (frames_in held)
  pub once : BeginOnce (frames_in held)
  pub within : end_of (placed_frames held) ≤ length (stream before)

none_held : IsHeld [] []
none_held = record { frames = refl; at_offset = tt; fragments = tt; once = tt; within = omega arith }

held_some : (before : List Frame) (f : PlacedFrame) (held : List PlacedFrame) → IsHeld before (f ∷ held) → unfinished before ≡ [] → ⊥
held_some before f held is none = let same : f.frame ∷ frames_in held ≡ [] = is.frames ∙ none in cc

held_after_control : (before : List Frame) (held : List PlacedFrame) (f : Frame) → is_data f ≡ false → IsHeld before held → IsHeld (before ++ f ∷ []) held
held_after_control before held f control is =
    let within = is.within in
    let next = next_offset before f in
    record {
      frames = is.frames ∙ sym (unfinished_control before f control);
      at_offset = from held is;
      fragments = is.fragments;
      once = is.once;
      within = omega (arith, within, next);
    }
  where
    from : (held : List PlacedFrame) → IsHeld before held → HeldFrom (open_offset (before ++ f ∷ [])) held
    from [] is = tt
    from (g ∷ held) is = is.at_offset ∙ sym (offset_after_control before f control (held_some before g held is))

held_after_final : (before : List Frame) (f : Frame) → is_data f ≡ true → f.fin ≡ true → IsHeld (before ++ f ∷ []) []
held_after_final before f data_frame final = record { frames = sym (unfinished_final before f data_frame final); at_offset = tt; fragments = tt; once = tt; within = omega arith }

held_with_fragment : (before : List Frame) (held : List PlacedFrame) (f : Frame) → IsFragment f → (f.op ≡ Continue) ↔ (unfinished before ≢ []) → IsHeld before held → IsHeld (before ++ f ∷ []) (held ++ at (length (stream before)) f ∷ [])
held_with_fragment before held f one on is =
    let n = length (stream before) in
    let pushed = sym (frames_in-push held (at n f)) in
    let end : end_of (placed_frames (held ++ at n f ∷ [])) ≡ n + length (frame_bytes f) =
    ap (λ (ps : List PlacedByte). end_of ps) (placed_frames-push held (at n f)) ∙ end_with (placed_frames held) n (frame_bytes f) (frame_some f) in
    let next = next_offset before f in
    record {
      frames = frames_in-push held (at n f) ∙ ap (λ (fs : List Frame). fs ++ f ∷ []) is.frames ∙ sym (unfinished_more before f one.data_frame one.not_final);
      at_offset = from held is;
      fragments = subst (λ (fs : List Frame). AllByRecursion IsFragment fs) pushed (all_push IsFragment (frames_in held) f is.fragments one);
      once = subst BeginOnce pushed (once_push (frames_in held) f is.once (subst (λ (fs : List Frame). (f.op ≡ Continue) ↔ (fs ≢ [])) (sym is.frames) on));
      within = omega (arith, end, next);
    }
  where
    from : (held : List PlacedFrame) → IsHeld before held → HeldFrom (open_offset (before ++ f ∷ [])) (held ++ at (length (stream before)) f ∷ [])
    from [] is = sym (offset_of_none before (sym is.frames)) ∙ sym (offset_after_fragment before f one.data_frame one.not_final)
    from (g ∷ held) is = is.at_offset ∙ sym (offset_after_fragment before f one.data_frame one.not_final)

-- The open message's bytes begin at its offset: those that are held, or else what comes.
begins_open : (before : List Frame) (held : List PlacedFrame) (pile : List PlacedByte) → IsHeld before held → (unfinished before ≡ [] → BeginsAt (length (stream before)) pile) → BeginsAt (open_offset before) (placed_frames held ++ pile)
begins_open before [] pile is first =
    let none : unfinished before ≡ [] = sym is.frames in
    subst (λ n. BeginsAt n pile) (sym (offset_of_none before none)) (first none)
begins_open before (f ∷ held) pile is first = is.at_offset

none_held_of : (before : List Frame) (held : List PlacedFrame) → IsHeld before held → unfinished before ≡ [] → held ≡ []
none_held_of before held is none = nil_of_map held (is.frames ∙ none)

-- The frames that are held are those of one message.
held_message : (before : List Frame) (held : List PlacedFrame) → IsHeld before held → IsMessageOf (frames_in held) (kind_of (unfinished before)) (payload_of (unfinished before)) (length (unfinished before))
held_message before held is = record {
  group = subst (λ (gs : List Frame). IsGroupOf (frames_in held) (kind_of gs) (payload_of gs) (length gs)) is.frames (group_is (frames_in held) (all_data (frames_in held) is.fragments));
  once = is.once;
}

-- With one more data frame.
held_message_with : (before : List Frame) (held : List PlacedFrame) (f : Frame) → is_data f ≡ true → (f.op ≡ Continue) ↔ (unfinished before ≢ []) → IsHeld before held
    → IsMessageOf (frames_in held ++ f ∷ []) (kind_of (unfinished before ++ f ∷ [])) (payload_of (unfinished before ++ f ∷ [])) (length (unfinished before ++ f ∷ []))
held_message_with before held f data_frame on is = record {
  group =
      subst (λ (gs : List Frame). IsGroupOf (frames_in held ++ f ∷ []) (kind_of (gs ++ f ∷ [])) (payload_of (gs ++ f ∷ [])) (length (gs ++ f ∷ []))) is.frames
      (group_is (frames_in held ++ f ∷ []) (all_push (λ (g : Frame). is_data g ≡ true) (frames_in held) f (all_data (frames_in held) is.fragments) data_frame));
  once = once_push (frames_in held) f is.once (subst (λ (fs : List Frame). (f.op ≡ Continue) ↔ (fs ≢ [])) (sym is.frames) on);
}

-- ---- an open message in front

none_open : (fs : List Frame) → nat_lt 0 (length fs) ≡ false → fs ≡ []
none_open [] fails = refl
none_open (f ∷ fs) fails = absurd (true≢false (sym some ∙ fails))
  where
    some : nat_lt 0 (length (f ∷ fs)) ≡ true
    some = grind (arith)

some_open : (fs : List Frame) → nat_lt 0 (length fs) ≡ true → fs ≡ [] → ⊥
some_open fs holds none =
    let not_some : nat_lt 0 (length fs) ≡ false = ap (λ (gs : List Frame). nat_lt 0 (length gs)) none in
    true≢false (sym holds ∙ not_some)

-- An item that is shown with k bytes.
abbrev with : ℕ → Item → Shown
with k item = record { after = k; item = item }

-- A message that is interrupted.
open_in_front : (total : ℕ) (fs : List Frame) (held : List PlacedFrame) (k : ℕ) (shown : List Shown) (rest : List ℕ) → IsHeld fs held → IsShownWithNext total k shown → length (stream fs) ≤ k → Dealt total (length (stream fs)) [] shown rest
    → Dealt total (length (stream fs)) held (shown_after k (open_items fs (Some 0)) ++ shown) rest
open_in_front total fs held k shown rest is next later d =
    let n = length (stream fs) in
    let group = unfinished fs in
    let some = nat_lt 0 (length group) in
    let item = open_item fs group (Some 0) in
    elim (cases_Bool some) [
      | inl holds ↦
          let end : end_of (placed_frames held ++ []) ≡ end_of (placed_frames held) = ap (λ (ps : List PlacedByte). end_of ps) (append-nil (placed_frames held)) in
          let held_within = is.within in
          let of : IsPlaced (with k item) (placed_frames held ++ placed n []) = record {
            begins = begins_open fs held (placed n []) is (λ none. absurd (some_open group holds none));
            is_pile = (held, is.fragments, inl (refl, held_message fs held is, append-nil (placed_frames held)));
            within = omega (arith, end, held_within, later);
          } in
          let same : n ≡ n + length {A = ℕ} [] = omega arith in
          subst (λ (is : List Item). Dealt total n held (shown_after k is ++ shown) rest) (sym (cond-true some (item ∷ []) [] holds))
          (its_item total n held (with k item) shown [] rest refl (λ some_lack. absurd (some_lack refl)) (inl (refl, next)) of (subst (λ m. Dealt total m [] shown rest) same d))
      | inr fails ↦
          subst (λ (is : List Item). Dealt total n held (shown_after k is ++ shown) rest) (sym (cond-false some (item ∷ []) [] fails))
          (subst (λ (gs : List PlacedFrame). Dealt total n gs shown rest) (sym (none_held_of fs held is (none_open group fails))) d)
    ]

-- ---- whole frames

-- A frame that is shown with its last byte or waits for its message's last frame: a control is final, and no Close.
record IsUsual (before : List Frame) (f : Frame) : Type 0 where
  pub encodable : IsEncodable f
  pub final_control : is_control f.op ≡ true → f.fin ≡ true
  pub no_close : is_close f.op ≡ false
  pub continues : is_data f ≡ true → (f.op ≡ Continue) ↔ (unfinished before ≢ [])

abbrev AreUsual : List Frame → List Frame → Type 0
AreUsual before [] = Unit {0}
AreUsual before (f ∷ fs) = IsUsual before f × AreUsual (before ++ f ∷ []) fs

-- The item of the event that a frame ends.
abbrev event_of : List Frame → Frame → Item
event_of before f = Event (event_offset before f) (event_at before f) (event_frames before f)

-- The number of bytes with which a frame is whole.
abbrev last_of : List Frame → Frame → ℕ
last_of before f = length (stream (before ++ f ∷ []))

shown_final : (before : List Frame) (f : Frame) → f.fin ≡ true → shown_at before f ≡ shown_after (last_of before f) (items_of_final before f)
shown_final before f final = cond-true f.fin (shown_after (last_of before f) (items_of_final before f)) [] final

shown_more : (before : List Frame) (f : Frame) → f.fin ≡ false → shown_at before f ≡ []
shown_more before f more = cond-false f.fin (shown_after (last_of before f) (items_of_final before f)) [] more

shown_usual : (before : List Frame) (f : Frame) → f.fin ≡ true → is_close f.op ≡ false → shown_at before f ≡ with (last_of before f) (event_of before f) ∷ []
shown_usual before f final fails =
    shown_final before f final ∙ ap (λ (is : List Item). shown_after (last_of before f) (is ++ event_of before f ∷ [])) (cond-false (is_close f.op) (open_items before (Some 0)) [] fails)

shown_close : (before : List Frame) (f : Frame) → f.fin ≡ true → is_close f.op ≡ true → shown_at before f ≡ shown_after (last_of before f) (open_items before (Some 0)) ++ with (last_of before f) (event_of before f) ∷ []
shown_close before f final holds =
    shown_final before f final ∙ ap (λ (is : List Item). shown_after (last_of before f) (is ++ event_of before f ∷ [])) (cond-true (is_close f.op) (open_items before (Some 0)) [] holds)
    ∙ map-append (λ (item : Item). with (last_of before f) item) (open_items before (Some 0)) (event_of before f ∷ [])

data_or_control : (f : Frame) → (is_data f ≡ true) ⊎ (is_control f.op ≡ true)
data_or_control f =
    elim (cases_Bool (is_control f.op)) [
      | inl holds ↦ inr holds
      | inr fails ↦ inl (ap not fails)
    ]

no_control : (f : Frame) → is_data f ≡ true → is_control f.op ≡ false
no_control f holds =
    elim (cases_Bool (is_control f.op)) [
      | inl control ↦ absurd (true≢false (sym holds ∙ ap not control))
      | inr fails ↦ fails
    ]

-- An event that is a message.
message_item : (before : List Frame) (f : Frame) → is_data f ≡ true
    → event_of before f ≡ Event (open_offset before) (Message (kind_of (unfinished before ++ f ∷ [])) (payload_of (unfinished before ++ f ∷ []))) (length (unfinished before ++ f ∷ []))
message_item before f holds =
    let group = unfinished before ++ f ∷ [] in
    let fails = no_control f holds in
    ap (λ (e : MeantEvent). Event (event_offset before f) e (event_frames before f)) (cond-false (is_control f.op) (Control f.op f.payload) (Message (kind_of group) (payload_of group)) fails)
    ∙ ap (λ (n : ℕ). Event (event_offset before f) (Message (kind_of group) (payload_of group)) n) (cond-false (is_control f.op) 1 (length group) fails)
    ∙ ap (λ (n : ℕ). Event n (Message (kind_of group) (payload_of group)) (length group)) (cond-false (is_control f.op) (length (stream before)) (open_offset before) fails)

-- An event that is a control.
control_item : (before : List Frame) (f : Frame) → is_control f.op ≡ true → event_of before f ≡ Event (length (stream before)) (Control f.op f.payload) 1
control_item before f holds =
    let group = unfinished before ++ f ∷ [] in
    ap (λ (e : MeantEvent). Event (event_offset before f) e (event_frames before f)) (cond-true (is_control f.op) (Control f.op f.payload) (Message (kind_of group) (payload_of group)) holds)
    ∙ ap (λ (n : ℕ). Event (event_offset before f) (Control f.op f.payload) n) (cond-true (is_control f.op) 1 (length group) holds)
    ∙ ap (λ (n : ℕ). Event n (Control f.op f.payload) 1) (cond-true (is_control f.op) (length (stream before)) (open_offset before) holds)

message_ends : (total : ℕ) (before : List Frame) (held : List PlacedFrame) (f : Frame) (later : List Shown) (rest : List ℕ) → IsLastFrame f → (f.op ≡ Continue) ↔ (unfinished before ≢ []) → IsHeld before held
    → Dealt total (length (stream before) + length (frame_bytes f)) [] later rest → Dealt total (length (stream before)) held (with (last_of before f) (event_of before f) ∷ later) (frame_bytes f ++ rest)
message_ends total before held f later rest last on is d =
    let n = length (stream before) in
    let k = last_of before f in
    let group = unfinished before ++ f ∷ [] in
    let item = Event (open_offset before) (Message (kind_of group) (payload_of group)) (length group) in
    let next = next_offset before f in
    let end = end_with (placed_frames held) n (frame_bytes f) (frame_some f) in
    let of : IsPlaced (with k item) (placed_frames held ++ placed n (frame_bytes f)) = record {
      begins = begins_open before held (placed n (frame_bytes f)) is (λ none. refl);
      is_pile = (held, at n f, is.fragments, last, held_message_with before held f last.data_frame on is, refl);
      within = omega (arith, end, next);
    } in
    subst (λ (i : Item). Dealt total n held (with k i ∷ later) (frame_bytes f ++ rest)) (sym (message_item before f last.data_frame))
    (its_item total n held (with k item) later (frame_bytes f) rest refl (λ e. absurd e) (inr (refl, frame_some f, next)) of d)

control_ends : (total : ℕ) (held : List PlacedFrame) (before : List Frame) (f : Frame) (later : List Shown) (rest : List ℕ) → IsControlFrame f → Dealt total (length (stream before) + length (frame_bytes f)) held later rest
    → Dealt total (length (stream before)) held (with (last_of before f) (event_of before f) ∷ later) (frame_bytes f ++ rest)
control_ends total held before f later rest control d =
    let n = length (stream before) in
    let k = last_of before f in
    let item = Event n (Control f.op f.payload) 1 in
    let next = next_offset before f in
    let end = end_is n (frame_bytes f) (frame_some f) in
    let of : IsPlaced (with k item) (placed n (frame_bytes f)) = record {
      begins = refl;
      is_pile = (f, control, refl, refl, refl, refl);
      within = omega (arith, end, next);
    } in
    subst (λ (i : Item). Dealt total n held (with k i ∷ later) (frame_bytes f ++ rest)) (sym (control_item before f control.control))
    (other_item total n held (with k item) later (frame_bytes f) rest refl (λ e. absurd e) refl (frame_some f) next of d)

-- What comes after frames, whatever is held of them.
abbrev DealtAfter : ℕ → List Frame → List Shown → List ℕ → Type 0
DealtAfter total before shown rest = (held : List PlacedFrame) → IsHeld before held → Dealt total (length (stream before)) held shown rest

one_frame : (total : ℕ) (before : List Frame) (f : Frame) (later : List Shown) (rest : List ℕ) → IsUsual before f → DealtAfter total (before ++ f ∷ []) later rest → DealtAfter total before (shown_at before f ++ later) (frame_bytes f ++ rest)
one_frame total before f later rest usual d held is =
    let n = length (stream before) in
    let moved : (others : List PlacedFrame) → IsHeld (before ++ f ∷ []) others → Dealt total (n + length (frame_bytes f)) others later rest =
    λ others are. subst (λ k. Dealt total k others later rest) (next_offset before f) (d others are) in
    elim (data_or_control f) [
      | inl data_frame ↦ elim (cases_Bool f.fin) [
        | inl final ↦
            subst (λ (ss : List Shown). Dealt total n held (ss ++ later) (frame_bytes f ++ rest)) (sym (shown_usual before f final usual.no_close))
            (message_ends total before held f later rest (record { encodable = usual.encodable; data_frame = data_frame; final = final }) (usual.continues data_frame) is (moved [] (held_after_final before f data_frame final)))
        | inr more ↦
            subst (λ (ss : List Shown). Dealt total n held (ss ++ later) (frame_bytes f ++ rest)) (sym (shown_more before f more))
            (fragment total n held f later rest
            (moved (held ++ at n f ∷ []) (held_with_fragment before held f (record { encodable = usual.encodable; data_frame = data_frame; not_final = more }) (usual.continues data_frame) is)))
      ]
      | inr control ↦
          let final = usual.final_control control in
          subst (λ (ss : List Shown). Dealt total n held (ss ++ later) (frame_bytes f ++ rest)) (sym (shown_usual before f final usual.no_close))
          (control_ends total held before f later rest (record { encodable = usual.encodable; control = control; final = final }) (moved held (held_after_control before held f (ap not control) is)))
    ]

all_frames : (total : ℕ) (before fs : List Frame) (last : List Shown) (rest : List ℕ) → AreUsual before fs → DealtAfter total (before ++ fs) last rest → DealtAfter total before (shown_of before fs ++ last) (stream fs ++ rest)
all_frames total before [] last rest usual d = subst (λ (gs : List Frame). DealtAfter total gs last rest) (append-nil before) d
all_frames total before (f ∷ fs) last rest usual d =
    let later = all_frames total (before ++ f ∷ []) fs last rest usual.1 (subst (λ (gs : List Frame). DealtAfter total gs last rest) (sym (push-append before f fs)) d) in
    let here = one_frame total before f (shown_of (before ++ f ∷ []) fs ++ last) (stream fs ++ rest) usual.0 later in
    subst (λ (ss : List Shown). DealtAfter total before ss (stream (f ∷ fs) ++ rest)) (sym (append_assoc (shown_at before f) (shown_of (before ++ f ∷ []) fs) last))
    (subst (λ (bs : List ℕ). DealtAfter total before (shown_at before f ++ (shown_of (before ++ f ∷ []) fs ++ last)) bs) (sym (append_assoc (frame_bytes f) (stream fs) rest)) here)

-- A Close, which may interrupt a message.
close_ends : (total : ℕ) (before : List Frame) (f : Frame) (last : List Shown) (rest : List ℕ) → f.op ≡ Close → IsControlFrame f → Dealt total (last_of before f) [] last rest → DealtAfter total before (shown_at before f ++ last) (frame_bytes f ++ rest)
close_ends total before f last rest close control d held is =
    let n = length (stream before) in
    let k = last_of before f in
    let next = next_offset before f in
    let ended = with k (event_of before f) in
    let item_is : event_of before f ≡ Event n (Control Close f.payload) 1 = control_item before f control.control ∙ ap (λ (op : Op). Event n (Control op f.payload) 1) close in
    let interrupting : Interrupts (event_of before f) = subst Interrupts (sym item_is) tt in
    let all : shown_at before f ++ last ≡ shown_after k (open_items before (Some 0)) ++ ended ∷ last =
    ap (λ (ss : List Shown). ss ++ last) (shown_close before f control.final (ap is_close close)) ∙ append_assoc (shown_after k (open_items before (Some 0))) (ended ∷ []) last in
    subst (λ (ss : List Shown). Dealt total n held ss (frame_bytes f ++ rest)) (sym all)
    (open_in_front total before held k (ended ∷ last) (frame_bytes f ++ rest) is (interrupting, refl) (omega (arith, next))
    (control_ends total [] before f last rest control (subst (λ m. Dealt total m [] last rest) next d)))

drop_front : (front rest : List ℕ) → drop (length front) (front ++ rest) ≡ rest
drop_front [] rest = refl
drop_front (b ∷ front) rest = drop_front front rest

-- ---- lawful frames

module _ (role : Role) (limits : Limits) where
  not_close : (op : Op) → (op ≡ Close → ⊥) → is_close op ≡ false
  not_close Close other = absurd (other refl)
  not_close _ other = refl

  usual_frames : (before fs : List Frame) → AreLawfulAfter role limits before fs → HasNoClose fs → AreUsual before fs
  usual_frames before [] lawful none = tt
  usual_frames before (f ∷ fs) lawful none = (
    record {
      encodable = lawful.0.frame.encoded.encodable;
      final_control = λ control. (lawful.0.frame.encoded.control control).final;
      no_close = not_close f.op (none [] fs f refl);
      continues = λ data_frame. (lawful.0.group data_frame).continues;
    },
    usual_frames (before ++ f ∷ []) fs lawful.2 (λ b a g e c. none (f ∷ b) a g (ap (λ (hs : List Frame). f ∷ hs) e) c),
  )

  module _ (total : ℕ) where
    -- What is shown of frames without a Close, and then the rest.
    frames_without_close : (fs : List Frame) (last : List Shown) (rest : List ℕ) → IsLawful role limits fs → HasNoClose fs → DealtAfter total fs last rest → Dealt total 0 [] (shown_of [] fs ++ last) (stream fs ++ rest)
    frames_without_close fs last rest lawful none d = all_frames total [] fs last rest (usual_frames [] fs (lawful_after role limits [] fs lawful) none) d [] none_held

    frames_with_close : (fs : List Frame) (last : List Shown) (rest : List ℕ) → IsLawful role limits fs → EndsWithClose fs → Dealt total (length (stream fs)) [] last rest → Dealt total 0 [] (shown_of [] fs ++ last) (stream fs ++ rest)
    frames_with_close fs last rest lawful (before, close, is, whole) d =
        let lawful_here = subst (IsLawful role limits) whole lawful in
        let law = lawful_here.each before [] close refl in
        let control : is_control close.op ≡ true = ap is_control is in
        let of : IsControlFrame close = record { encodable = law.frame.encoded.encodable; control = control; final = (law.frame.encoded.control control).final } in
        let at_end = close_ends total before close last rest is of (subst (λ (gs : List Frame). Dealt total (length (stream gs)) [] last rest) whole d) in
        let none = no_close_before role limits before close [] lawful_here in
        let usual = usual_frames [] before (front [] before (close ∷ []) (lawful_after role limits [] (before ++ close ∷ []) lawful_here)) none in
        let first = all_frames total [] before (shown_at before close ++ last) (frame_bytes close ++ rest) usual at_end [] none_held in
        let all : shown_of [] before ++ (shown_at before close ++ last) ≡ shown_of [] (before ++ close ∷ []) ++ last =
        sym (append_assoc (shown_of [] before) (shown_at before close) last)
        ∙ ap (λ (ss : List Shown). ss ++ last) (sym (shown_of-append [] before (close ∷ []) ∙ ap (λ (ss : List Shown). shown_of [] before ++ ss) (append-nil (shown_at before close)))) in
        let bytes : stream before ++ (frame_bytes close ++ rest) ≡ stream (before ++ close ∷ []) ++ rest =
        sym (append_assoc (stream before) (frame_bytes close) rest) ∙ ap (λ (bs : List ℕ). bs ++ rest) (sym (stream_push before close)) in
        subst (λ (gs : List Frame). Dealt total 0 [] (shown_of [] gs ++ last) (stream gs ++ rest)) (sym whole)
        (subst (λ (ss : List Shown). Dealt total 0 [] ss (stream (before ++ close ∷ []) ++ rest)) all
        (subst (λ (bs : List ℕ). Dealt total 0 [] (shown_of [] before ++ (shown_at before close ++ last)) bs) bytes first))
      where
        front_close : (f : Frame) (fs gs : List Frame) → (f.op ≡ Close → fs ++ gs ≡ []) → f.op ≡ Close → fs ≡ []
        front_close f [] gs last close = refl
        front_close f (g ∷ fs) gs last close = absurd (nil-push [] g (fs ++ gs) (sym (last close)))

        front : (before fs gs : List Frame) → AreLawfulAfter role limits before (fs ++ gs) → AreLawfulAfter role limits before fs
        front before [] gs lawful = tt
        front before (f ∷ fs) gs lawful = (lawful.0, front_close f fs gs lawful.1, front (before ++ f ∷ []) fs gs lawful.2)

    -- ---- what is left of a stream that ends inside a frame or a message

    open_alone : (fs : List Frame) → length (stream fs) ≤ total → DealtAfter total fs (shown_after total (open_items fs (Some 0))) []
    open_alone fs fits held is =
        subst (λ (ss : List Shown). Dealt total (length (stream fs)) held ss []) (append-nil (shown_after total (open_items fs (Some 0))))
        (open_in_front total fs held total [] [] is refl fits (nothing_dealt total (length (stream fs))))

    module _ (fs : List Frame) (rest : List ℕ) (all : total ≡ length (stream fs) + length rest) where
      lacks_some : (info : HeadInfo) (begun : BeginsWithHead role limits fs rest info) → EndsWithinFrame rest → HasBegun info begun.following (info.len - length (wire_payload info.key begun.following))
      lacks_some info begun within = has_begun info begun.following (encodable_begun role limits fs rest info begun) (subst EndsWithinFrame (begun_is role limits fs rest info begun) within)

      rest_some : (info : HeadInfo) → BeginsWithHead role limits fs rest info → 0 < length rest
      rest_some info begun =
          let some = begun_some info begun.following in
          let size : length rest ≡ length (begun_bytes info begun.following) = ap (λ (bs : List ℕ). length bs) (begun_is role limits fs rest info begun) in
          omega (arith, some, size)

      -- A data frame has begun.
      begun_data : (info : HeadInfo) (begun : BeginsWithHead role limits fs rest info) → EndsWithinFrame rest → is_control info.op ≡ false
          → DealtAfter total fs (shown_after total (open_item fs (unfinished fs ++ frame_so_far info (wire_payload info.key begun.following) ∷ []) (Some (info.len - length (wire_payload info.key begun.following))) ∷ [])) (rest ++ [])
      begun_data info begun within fails held is =
          let n = length (stream fs) in
          let part = wire_payload info.key begun.following in
          let f = frame_so_far info part in
          let item = open_item fs (unfinished fs ++ f ∷ []) (Some (info.len - length part)) in
          let whole = begun_is role limits fs rest info begun in
          let piece : placed n rest ≡ placed info.offset (begun_bytes info begun.following) = ap (placed n) whole ∙ ap (λ k. placed k (begun_bytes info begun.following)) (sym begun.offset) in
          let first : unfinished fs ≡ [] → BeginsAt n (placed n rest) = λ none. subst (BeginsAt n) (ap (placed n) (sym whole)) refl in
          let end = end_with (placed_frames held) n rest (rest_some info begun) in
          let message = held_message_with fs held f (ap not fails) (continues role limits fs rest info begun (ap not fails)) is in
          let of : IsPlaced (with total item) (placed_frames held ++ placed n rest) = record {
            begins = begins_open fs held (placed n rest) is first;
            is_pile = (held, is.fragments, inr (info, begun.following, lacks_some info begun within, message, ap (λ (ps : List PlacedByte). placed_frames held ++ ps) piece));
            within = omega (arith, end, all);
          } in
          its_item total n held (with total item) [] rest [] refl (λ e. refl) (inl (refl, refl)) of (nothing_dealt total (n + length rest))

      -- A control has begun.
      begun_control : (info : HeadInfo) (begun : BeginsWithHead role limits fs rest info) → EndsWithinFrame rest → is_control info.op ≡ true
          → DealtAfter total fs (shown_after total (open_items fs (Some 0) ++ Unfinished info.offset (Control info.op (wire_payload info.key begun.following)) 1 (Some (info.len - length (wire_payload info.key begun.following))) ∷ [])) (rest ++ [])
      begun_control info begun within holds held is =
          let n = length (stream fs) in
          let part = wire_payload info.key begun.following in
          let item = Unfinished info.offset (Control info.op part) 1 (Some (info.len - length part)) in
          let whole = begun_is role limits fs rest info begun in
          let piece : placed info.offset (begun_bytes info begun.following) ≡ placed n rest = ap (λ k. placed k (begun_bytes info begun.following)) begun.offset ∙ ap (placed n) (sym whole) in
          let some = rest_some info begun in
          let end = end_is n rest some in
          let of : IsPlaced (with total item) (placed n rest) = record {
            begins = subst (BeginsAt info.offset) piece refl;
            is_pile = (info, begun.following, info.len - length part, lacks_some info begun within, holds, refl, refl, refl, refl, sym piece);
            within = omega (arith, end, all);
          } in
          subst (λ (ss : List Shown). Dealt total n held ss (rest ++ [])) (sym (map-append (λ (i : Item). with total i) (open_items fs (Some 0)) (item ∷ [])))
          (open_in_front total fs held total (with total item ∷ []) (rest ++ []) is (tt, refl) (omega (arith, all))
          (other_item total n [] (with total item) [] rest [] refl (λ e. refl) refl some all of (nothing_dealt total (n + length rest))))

      begun_part : (info : HeadInfo) (begun : BeginsWithHead role limits fs rest info) → EndsWithinFrame rest → DealtAfter total fs (shown_after total (items_of_part fs info (wire_payload info.key begun.following))) (rest ++ [])
      begun_part info begun within =
          let part = wire_payload info.key begun.following in
          let lacks = Some (info.len - length part) in
          let of_control = open_items fs (Some 0) ++ Unfinished info.offset (Control info.op part) 1 lacks ∷ [] in
          let of_data = open_item fs (unfinished fs ++ frame_so_far info part ∷ []) lacks ∷ [] in
          elim (cases_Bool (is_control info.op)) [
            | inl holds ↦ subst (λ (is : List Item). DealtAfter total fs (shown_after total is) (rest ++ [])) (sym (cond-true (is_control info.op) of_control of_data holds)) (begun_control info begun within holds)
            | inr fails ↦ subst (λ (is : List Item). DealtAfter total fs (shown_after total is) (rest ++ [])) (sym (cond-false (is_control info.op) of_control of_data fails)) (begun_data info begun within fails)
          ]

    -- Only a part of a head has come, or nothing.
    head_part : (fs : List Frame) (rest : List ℕ) → total ≡ length (stream fs) + length rest → (rest ≢ [] → IsPartOfHead rest) → DealtAfter total fs (shown_after total (items_of_head fs rest)) (rest ++ [])
    head_part fs [] all part held is = open_alone fs (omega (arith, all)) held is
    head_part fs (b ∷ rest) all part held is =
        let n = length (stream fs) in
        let group = unfinished fs in
        let some = nat_lt 0 (length group) in
        let item = open_item fs group None in
        let head = UnfinishedHead n in
        let of_open = if some then item ∷ [] else [] in
        let is_part : IsPartOfHead (b ∷ rest) = part (λ none. cc) in
        let size : 0 < length (b ∷ rest) = omega arith in
        elim (cases_Bool some) [
          | inl holds ↦
              let end = end_with (placed_frames held) n (b ∷ rest) size in
              let of : IsPlaced (with total item) (placed_frames held ++ placed n (b ∷ rest)) = record {
                begins = begins_open fs held (placed n (b ∷ rest)) is (λ none. refl);
                is_pile = (held, is.fragments, (n, b ∷ rest, is_part, held_message fs held is, refl));
                within = omega (arith, end, all);
              } in
              subst (λ (is : List Item). Dealt total n held (shown_after total is) ((b ∷ rest) ++ [])) (sym (cond-true some of_open (head ∷ []) holds ∙ cond-true some (item ∷ []) [] holds))
              (its_item total n held (with total item) [] (b ∷ rest) [] refl (λ e. refl) (inl (refl, refl)) of (nothing_dealt total (n + length (b ∷ rest))))
          | inr fails ↦
              let end = end_is n (b ∷ rest) size in
              let of : IsPlaced (with total head) (placed n (b ∷ rest)) = record { begins = refl; is_pile = (b ∷ rest, is_part, refl); within = omega (arith, end, all) } in
              subst (λ (is : List Item). Dealt total n held (shown_after total is) ((b ∷ rest) ++ [])) (sym (cond-false some of_open (head ∷ []) fails))
              (subst (λ (gs : List PlacedFrame). Dealt total n gs (with total head ∷ []) ((b ∷ rest) ++ [])) (sym (none_held_of fs held is (none_open group fails)))
              (other_item total n [] (with total head) [] (b ∷ rest) [] refl (λ e. refl) refl size all of (nothing_dealt total (n + length (b ∷ rest)))))
        ]

    left_of_rest : (bytes : List ℕ) (fs : List Frame) (c : IsCut role limits bytes fs) (left : List Item) → total ≡ length (stream fs) + length c.rest → IsLeftOfRest role limits fs c.rest left → DealtAfter total fs (shown_after total left) c.rest
    left_of_rest bytes fs c left all (inl p) =
        subst (λ (is : List Item). DealtAfter total fs (shown_after total is) c.rest) (sym p.2)
        (subst (DealtAfter total fs (shown_after total (items_of_part fs p.0 (wire_payload p.0.key p.1.following)))) (append-nil c.rest) (begun_part fs c.rest all p.0 p.1 c.within))
    left_of_rest bytes fs c left all (inr p) =
        let whole : bytes ≡ stream fs ++ (c.rest ++ []) = c.whole ∙ ap (λ (bs : List ℕ). stream fs ++ bs) (sym (append-nil c.rest)) in
        let not_whole : (info : HeadInfo) (following : List ℕ) → IsEncodableHead info → c.rest ≡ begun_bytes info following → ⊥ =
        λ info following is e. p.0 (record info { offset = length (stream fs) }) (begins_with role limits bytes fs c.rest [] whole info following is e (λ q r ev. absurd (c.has_no_evidence q r ev))).0 in
        subst (λ (is : List Item). DealtAfter total fs (shown_after total is) c.rest) (sym p.1)
        (subst (DealtAfter total fs (shown_after total (items_of_head fs c.rest))) (append-nil c.rest) (head_part fs c.rest all (λ some. is_part_of_head role limits bytes fs c some not_whole)))

    -- ---- bytes as they came

    of_bytes : (item : ℕ → List ℕ → Item) (offset : ℕ) (bytes : List ℕ) → total ≡ offset + length bytes → ((all : List ℕ) → takes (item offset all) ≡ false) → ((all : List ℕ) → is_open_message (item offset all) ≡ false)
        → ((b : ℕ) (all : List ℕ) → end_of (placed offset (b ∷ all)) ≤ total → IsPlaced (with total (item offset (b ∷ all))) (placed offset (b ∷ all)))
        → Dealt total offset [] (shown_after total (items_of_bytes item offset bytes)) bytes
    of_bytes item offset [] all other whole each = nothing_dealt total offset
    of_bytes item offset (b ∷ bytes) all other whole each =
        let size : 0 < length (b ∷ bytes) = omega arith in
        let end = end_is offset (b ∷ bytes) size in
        subst (Dealt total offset [] (with total (item offset (b ∷ bytes)) ∷ [])) (append-nil (b ∷ bytes))
        (other_item total offset [] (with total (item offset (b ∷ bytes))) [] (b ∷ bytes) [] (other (b ∷ bytes)) (λ e. refl) (whole (b ∷ bytes)) size all (each b bytes (omega (arith, end, all))) (nothing_dealt total (offset + length (b ∷ bytes))))

    unread : (offset : ℕ) (bytes : List ℕ) → total ≡ offset + length bytes → Dealt total offset [] (shown_after total (items_of_bytes Unread offset bytes)) bytes
    unread offset bytes all = of_bytes Unread offset bytes all (λ some. refl) (λ some. refl) (λ b some fits. record { begins = refl; is_pile = refl; within = fits })

    tail : (offset : ℕ) (bytes : List ℕ) → total ≡ offset + length bytes → Dealt total offset [] (shown_after total (items_of_bytes Tail offset bytes)) bytes
    tail offset bytes all = of_bytes Tail offset bytes all (λ some. refl) (λ some. refl) (λ b some fits. record { begins = refl; is_pile = refl; within = fits })

  -- ---- a refused frame

  begins_some : (n : ℕ) (bytes : List ℕ) → 0 < length bytes → BeginsAt n (placed n bytes)
  begins_some n [] some = absurd (omega (arith, some))
  begins_some n (b ∷ bytes) some = refl

  pub refused_placed : (bytes : List ℕ) (fs : List Frame) (refusal : Refusal) (refused : IsRefused role limits bytes fs refusal.offset refusal.reason) (evidence : List ℕ) (character : Option BadCharacter)
      → IsShownEvidence role limits fs refusal.reason (drop (length (stream fs)) (take (refusal.offset + 1) bytes)) evidence character
      → IsPlaced (with (refusal.offset + 1) (RefusedFrame (length (stream fs)) refusal evidence character)) (placed (length (stream fs)) refused.is_evident.seen)
  refused_placed bytes fs refusal refused evidence character is_evidence =
      let n = length (stream fs) in
      let seen = refused.is_evident.seen in
      let later = refused.is_evident.later in
      let stops : refusal.offset + 1 ≡ n + length seen = refused.is_evident.at_offset in
      let some = evidence_is_some role limits (unfinished fs) refusal.reason seen refused.is_evident.evidence in
      let grouped : bytes ≡ (stream fs ++ seen) ++ later = refused.is_evident.whole ∙ sym (append_assoc (stream fs) seen later) in
      let to_seen : length (stream fs ++ seen) ≡ refusal.offset + 1 = length-append (stream fs) seen ∙ sym stops in
      let front : drop n (take (refusal.offset + 1) bytes) ≡ seen =
      ap (λ (bs : List ℕ). drop n (take (refusal.offset + 1) bs)) grouped ∙ ap (λ (bs : List ℕ). drop n bs) (take_at (stream fs ++ seen) later (refusal.offset + 1) to_seen) ∙ drop_front (stream fs) seen in
      let is = shown_evidence role limits bytes fs refusal refused evidence character (subst (λ (bs : List ℕ). IsShownEvidence role limits fs refusal.reason bs evidence character) front is_evidence) in
      let end = end_is n seen some in
      record {
        begins = begins_some n seen some;
        is_pile = (seen, of_one_frame role limits (unfinished fs) refusal.reason seen refused.is_evident.evidence, is, sym stops, refl);
        within = omega (arith, end, stops);
      }

  -- ---- the verdicts

  size_of : (bytes front rest : List ℕ) → bytes ≡ front ++ rest → length bytes ≡ length front + length rest
  size_of bytes front rest whole = ap (λ (bs : List ℕ). length bs) whole ∙ length-append front rest

  dealt_out : (bytes : List ℕ) (fs : List Frame) (v : Verdict) (of_verdict : List Shown) (left : List Item) → IsVerdict role limits bytes fs v → IsShownVerdict Events role limits bytes fs v of_verdict → IsLeftOf role limits bytes fs v left
      → Dealt (length bytes) 0 [] (shown_of [] fs ++ (of_verdict ++ shown_after (length bytes) left)) bytes
  dealt_out bytes fs (Accepted summary) of_verdict left (accepted, counts) shown is_left =
      let total = length bytes in
      elim accepted.ends [
        | inl (none, finished, whole) ↦
            let over : drop (length (stream fs)) bytes ≡ [] = ap (λ (bs : List ℕ). drop (length (stream fs)) bs) (whole ∙ sym (append-nil (stream fs))) ∙ drop_front (stream fs) [] in
            let nothing : of_verdict ++ shown_after total left ≡ [] =
            ap (λ (ss : List Shown). ss ++ shown_after total left) shown ∙ ap (shown_after total) (is_left ∙ ap (λ (bs : List ℕ). items_of_bytes Tail (length (stream fs)) bs) over) in
            subst (λ (ss : List Shown). Dealt total 0 [] (shown_of [] fs ++ ss) bytes) (sym nothing)
            (subst (Dealt total 0 [] (shown_of [] fs ++ [])) (append-nil (stream fs) ∙ sym whole)
            (frames_without_close total fs [] [] accepted.lawful none
            (λ held is. subst (λ (gs : List PlacedFrame). Dealt total (length (stream fs)) gs [] []) (sym (none_held_of fs held is finished)) (nothing_dealt total (length (stream fs))))))
        | inr (close, (after, whole)) ↦
            let over : drop (length (stream fs)) bytes ≡ after = ap (λ (bs : List ℕ). drop (length (stream fs)) bs) whole ∙ drop_front (stream fs) after in
            let last : of_verdict ++ shown_after total left ≡ shown_after total (items_of_bytes Tail (length (stream fs)) after) =
            ap (λ (ss : List Shown). ss ++ shown_after total left) shown ∙ ap (shown_after total) (is_left ∙ ap (λ (bs : List ℕ). items_of_bytes Tail (length (stream fs)) bs) over) in
            subst (λ (ss : List Shown). Dealt total 0 [] (shown_of [] fs ++ ss) bytes) (sym last)
            (subst (Dealt total 0 [] (shown_of [] fs ++ shown_after total (items_of_bytes Tail (length (stream fs)) after))) (sym whole)
            (frames_with_close total fs (shown_after total (items_of_bytes Tail (length (stream fs)) after)) after accepted.lawful close (tail total (length (stream fs)) after (size_of bytes (stream fs) after whole))))
      ]
  dealt_out bytes fs (Cut summary) of_verdict left (is_cut, counts) shown is_left =
      let total = length bytes in
      let over : drop (length (stream fs)) bytes ≡ is_cut.rest = ap (λ (bs : List ℕ). drop (length (stream fs)) bs) is_cut.whole ∙ drop_front (stream fs) is_cut.rest in
      let left_is = left_of_rest total bytes fs is_cut left (size_of bytes (stream fs) is_cut.rest is_cut.whole) (subst (λ (bs : List ℕ). IsLeftOfRest role limits fs bs left) over is_left) in
      subst (λ (ss : List Shown). Dealt total 0 [] (shown_of [] fs ++ (ss ++ shown_after total left)) bytes) (sym shown)
      (subst (Dealt total 0 [] (shown_of [] fs ++ shown_after total left)) (sym is_cut.whole)
      (frames_without_close total fs (shown_after total left) is_cut.rest is_cut.lawful is_cut.no_close left_is))
  dealt_out bytes fs (Refused refusal) of_verdict left refused shown is_left =
      let total = length bytes in
      let n = length (stream fs) in
      let k = refusal.offset + 1 in
      let seen = refused.is_evident.seen in
      let later = refused.is_evident.later in
      let whole : bytes ≡ stream fs ++ (seen ++ later) = refused.is_evident.whole in
      let stops : refusal.offset + 1 ≡ n + length seen = refused.is_evident.at_offset in
      let some = evidence_is_some role limits (unfinished fs) refusal.reason seen refused.is_evident.evidence in
      let item = RefusedFrame n refusal shown.evidence shown.character in
      let grouped : bytes ≡ (stream fs ++ seen) ++ later = whole ∙ sym (append_assoc (stream fs) seen later) in
      let to_seen : length (stream fs ++ seen) ≡ refusal.offset + 1 = length-append (stream fs) seen ∙ sym stops in
      let past : drop (refusal.offset + 1) bytes ≡ later =
      ap (λ (m : ℕ). drop m bytes) (sym to_seen) ∙ ap (λ (bs : List ℕ). drop (length (stream fs ++ seen)) bs) grouped ∙ drop_front (stream fs ++ seen) later in
      let of = refused_placed bytes fs refusal refused shown.evidence shown.character shown.is_evidence in
      let rest = shown_after total (items_of_bytes Unread (refusal.offset + 1) later) in
      let all_size : total ≡ (refusal.offset + 1) + length later = size_of bytes (stream fs ++ seen) later grouped ∙ ap (λ m. m + length later) to_seen in
      let of_refusal : of_verdict ≡ shown_after k (open_items fs (Some 0)) ++ with k item ∷ [] = shown.is ∙ map-append (λ (i : Item). with k i) (open_items fs (Some 0)) (item ∷ []) in
      let last : of_verdict ++ shown_after total left ≡ shown_after k (open_items fs (Some 0)) ++ with k item ∷ rest =
      ap (λ (ss : List Shown). ss ++ shown_after total left) of_refusal ∙ append_assoc (shown_after k (open_items fs (Some 0))) (with k item ∷ []) (shown_after total left)
      ∙ ap (λ (is : List Item). shown_after k (open_items fs (Some 0)) ++ with k item ∷ shown_after total is) (is_left ∙ ap (λ (bs : List ℕ). items_of_bytes Unread (refusal.offset + 1) bs) past) in
      let all : DealtAfter total fs (shown_after k (open_items fs (Some 0)) ++ with k item ∷ rest) (seen ++ later) = λ held is.
      open_in_front total fs held k (with k item ∷ rest) (seen ++ later) is (tt, refl) (omega (arith, stops))
      (other_item total n [] (with k item) rest seen later refl (λ e. absurd e) refl some stops of (subst (λ m. Dealt total m [] rest later) stops (unread total (refusal.offset + 1) later all_size))) in
      subst (λ (ss : List Shown). Dealt total 0 [] (shown_of [] fs ++ ss) bytes) (sym last)
      (subst (Dealt total 0 [] (shown_of [] fs ++ (shown_after k (open_items fs (Some 0)) ++ with k item ∷ rest))) (sym whole)
      (frames_without_close total fs (shown_after k (open_items fs (Some 0)) ++ with k item ∷ rest) (seen ++ later) refused.lawful refused.no_close all))

  pub all_in_place : (bytes : List ℕ) (shown : List Shown) (left : List Item) → IsShownStream Events role limits bytes shown → IsLeftOver role limits bytes left → AreInPlace bytes (shown ++ shown_after (length bytes) left)
  all_in_place bytes shown left p q =
      let same = one_verdict role limits bytes q.frames p.frames q.verdict p.verdict q.is_verdict p.is_verdict in
      let moved : IsLeftOf role limits bytes p.frames p.verdict left =
      subst (λ (v : Verdict). IsLeftOf role limits bytes p.frames v left) same.1 (subst (λ (fs : List Frame). IsLeftOf role limits bytes fs q.verdict left) same.0 q.is) in
      let all = dealt_out bytes p.frames p.verdict p.of_verdict left p.is_verdict p.is_of_verdict moved in
      let rest = shown_after (length bytes) left in
      let each : shown ++ rest ≡ shown_of [] p.frames ++ (p.of_verdict ++ rest) =
      ap (λ (ss : List Shown). ss ++ rest) (p.all ∙ ap (λ (ss : List Shown). ss ++ p.of_verdict) p.are_of_frames) ∙ append_assoc (shown_of [] p.frames) p.of_verdict rest in
      subst (AreInPlace bytes) (sym each)
      (record {
        piles = all.piles;
        dealt = all.dealt;
        are_placed = all_placed (shown_of [] p.frames ++ (p.of_verdict ++ rest)) all.piles all.have;
        in_order = all.order;
      })
