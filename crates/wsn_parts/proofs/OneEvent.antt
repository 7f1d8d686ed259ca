-- One event begins at an offset.
use Rattle.std.proofs.Common.{◌≡◌, ◌≢◌, ℕ, ◌<◌, ◌≤◌, ◌⊎◌, true, false, not, List, [], ◌∷◌, ◌++◌, length, inl, inr, refl, sym, ap, ◌∙◌, subst, append-nil, append_assoc, arith}
use Rattle.std.proofs.lemmas.Bool.{cases_Bool}
use Rattle.wsn_wire.specs.declared.endpoint.Role.{Role}
use Rattle.wsn_wire.specs.Frame.{Frame, is_control, stream}
use Rattle.wsn_rules.specs.declared.head_info.HeadInfo.{HeadInfo}
use Rattle.wsn_rules.specs.declared.verdict.Verdict.{Verdict}
use Rattle.wsn_rules.specs.Limits.{Limits}
use Rattle.wsn_rules.specs.Group.{IsOpen}
use Rattle.wsn_rules.specs.Lawful.{IsLawful}
use Rattle.wsn_rules.specs.Meaning.{event_at, payload_in}
use Rattle.wsn_rules.specs.ShownStream.{open_offset, event_offset, frame_so_far}
use Rattle.wsn_rules.specs.Verdict.{IsVerdict}
use Rattle.wsn_rules.proofs.Groups.{unfinished_control, unfinished_final}
use Rattle.wsn_rules.proofs.LawfulLists.{lawful_front}
use Rattle.wsn_rules.proofs.OneVerdict.{one_verdict}
use Rattle.wsn_rules.proofs.OpenOffsets.{offset_of_none, offset_after_control, offset_after_fragment}
use Rattle.wsn_rules.proofs.Prefixes.{push-append}
use Rattle.wsn_rules.proofs.Walk.{stream-append}
use Rattle.wsn_scan.specs.Positions.{Position, BetweenFrames, InFrame}
use Rattle.wsn_parts.specs.EventsAt.{IsWholeAt, IsBegunAt, EndBefore, AreApart, IsUnfinishedAt, EndsBefore}
use Rattle.wsn_parts.proofs.OpenMessages.{open_or_not, longer_by, frame_some, open_before, offset_of_control, offset_of_data, offset_within}

-- Frames after the event that begins at an offset: they are past the offset, and the open message isn't that event.
pub record ArePast (fs : List Frame) (at : ℕ) : Type 0 where
  pub over : at < length (stream fs)
  pub other : IsOpen fs → open_offset fs ≢ at

pub past_differs : (fs : List Frame) (f : Frame) (at : ℕ) → ArePast fs at → event_offset fs f ≡ at → ⊥
past_differs fs f at past same =
    let over = past.over in
    elim (cases_Bool (is_control f.op)) [
      | inl control ↦ omega (arith, over, same, offset_of_control fs f control)
      | inr other ↦ elim (open_or_not fs) [
        | inl none ↦ omega (arith, over, same, offset_of_data fs f other, offset_of_none fs none)
        | inr some ↦ past.other some (sym (offset_of_data fs f other) ∙ same)
      ]
    ]

past_push : (fs : List Frame) (f : Frame) (at : ℕ) → ArePast fs at → ArePast (fs ++ f ∷ []) at
past_push fs f at past = record { over = (let over = past.over in omega (arith, over, longer_by fs f)); other = by (cases_Bool (is_control f.op)) (cases_Bool f.fin) }
  where
    by : (is_control f.op ≡ true) ⊎ (is_control f.op ≡ false) → (f.fin ≡ true) ⊎ (f.fin ≡ false) → IsOpen (fs ++ f ∷ []) → open_offset (fs ++ f ∷ []) ≢ at
    by (inl control) any some same =
        let was : IsOpen fs = λ none. some (unfinished_control fs f (ap not control) ∙ none) in
        past.other was (sym (offset_after_control fs f (ap not control) was) ∙ same)
    by (inr other) (inl final) some same = some (unfinished_final fs f (ap not other) final)
    by (inr other) (inr more) some same = past_differs fs f at past (offset_of_data fs f other ∙ sym (offset_after_fragment fs f (ap not other) more) ∙ same)

pub past_more : (fs gs : List Frame) (at : ℕ) → ArePast fs at → ArePast (fs ++ gs) at
past_more fs [] at past = subst (λ (hs : List Frame). ArePast hs at) (sym (append-nil fs)) past
past_more fs (g ∷ gs) at past = subst (λ (hs : List Frame). ArePast hs at) (push-append fs g gs) (past_more (fs ++ g ∷ []) gs at (past_push fs g at past))

past_ended : (fs : List Frame) (f : Frame) (at : ℕ) → f.fin ≡ true → event_offset fs f ≡ at → ArePast (fs ++ f ∷ []) at
past_ended fs f at final same = record { over = (let some = frame_some f in omega (arith, same, offset_within fs f, longer_by fs f, some)); other = by (cases_Bool (is_control f.op)) }
  where
    by : (is_control f.op ≡ true) ⊎ (is_control f.op ≡ false) → IsOpen (fs ++ f ∷ []) → open_offset (fs ++ f ∷ []) ≢ at
    by (inl control) some is =
        let was : IsOpen fs = λ none. some (unfinished_control fs f (ap not control) ∙ none) in
        let before = open_before fs was in
        omega (arith, before, is, same, offset_of_control fs f control, offset_after_control fs f (ap not control) was)
    by (inr other) some is = some (unfinished_final fs f (ap not other) final)

pub past_within : (fs gs : List Frame) (f : Frame) (at : ℕ) → f.fin ≡ true → event_offset fs f ≡ at → ArePast (fs ++ f ∷ gs) at
past_within fs gs f at final same = subst (λ (hs : List Frame). ArePast hs at) (push-append fs f gs) (past_more (fs ++ f ∷ []) gs at (past_ended fs f at final same))

-- ---- two frames of one list

pub split : (before other later others : List Frame) (f g : Frame) → before ++ f ∷ later ≡ other ++ g ∷ others
    → ((before ≡ other) × (f ≡ g)) ⊎ ((mid : List Frame) × (other ≡ before ++ f ∷ mid)) ⊎ ((mid : List Frame) × (before ≡ other ++ g ∷ mid))
split [] [] later others f g same = inl (refl, cc)
split [] (y ∷ ys) later others f g same = let first : y ≡ f = cc in inr (inl (ys, ap (λ (h : Frame). h ∷ ys) first))
split (x ∷ xs) [] later others f g same = let first : x ≡ g = cc in inr (inr (xs, ap (λ (h : Frame). h ∷ xs) first))
split (x ∷ xs) (y ∷ ys) later others f g same =
    let first : x ≡ y = cc in
    let rest : xs ++ f ∷ later ≡ ys ++ g ∷ others = cc in
    elim (split xs ys later others f g rest) [
      | inl both ↦ inl ((λ i. first i ∷ both.0 i), both.1)
      | inr (inl after) ↦ inr (inl (after.0, λ i. sym first i ∷ after.1 i))
      | inr (inr before) ↦ inr (inr (before.0, λ i. first i ∷ before.1 i))
    ]

pub one_event : (before other later others : List Frame) (f g : Frame) (at : ℕ) → before ++ f ∷ later ≡ other ++ g ∷ others → f.fin ≡ true → g.fin ≡ true → event_offset before f ≡ at → event_offset other g ≡ at
    → event_at before f ≡ event_at other g
one_event before other later others f g at same final ends begins also =
    elim (split before other later others f g same) [
      | inl both ↦ λ i. event_at (both.0 i) (both.1 i)
      | inr (inl after) ↦ absurd (past_differs other g at (subst (λ (hs : List Frame). ArePast hs at) (sym after.1) (past_within before after.0 f at final begins)) also)
      | inr (inr first) ↦ absurd (past_differs before f at (subst (λ (hs : List Frame). ArePast hs at) (sym first.1) (past_within other first.0 g at ends also)) begins)
    ]

-- ---- after all frames

pub not_begun : (fs : List Frame) (position : Position) (at : ℕ) (payload : List ℕ) → ArePast fs at → IsBegunAt fs position at payload → ⊥
not_begun fs BetweenFrames at payload past is = past.other is.some is.begins
not_begun fs (InFrame info part) at payload past (inl is) = past.other is.1.some is.1.begins
not_begun fs (InFrame info part) at payload past (inr is) = past_differs fs (frame_so_far info part) at past is.0

pub not_before : (fs : List Frame) (position : Position) (at : ℕ) → ArePast fs at → ((info : HeadInfo) (part : List ℕ) → position ≡ InFrame info part → info.offset ≡ length (stream fs)) → EndBefore fs position at → ⊥
not_before fs BetweenFrames at past offset ends = let over = past.over in omega (arith, over, ends)
not_before fs (InFrame info part) at past offset ends = let over = past.over in let there = offset info part refl in omega (arith, over, ends, there)

-- ---- of a stream

-- A frame that has begun begins where the whole frames end.
pub place_of : (role : Role) (limits : Limits) (bytes : List ℕ) (verdict : Verdict) (fs : List Frame) (position : Position) → AreApart role limits bytes verdict fs position → (info : HeadInfo) (part : List ℕ) → position ≡ InFrame info part → info.offset ≡ length (stream fs)
place_of role limits bytes verdict fs BetweenFrames a info part is_at = let both : BetweenFrames ≡ InFrame info part = is_at in cc
place_of role limits bytes verdict fs (InFrame own taken) a info part is_at = let own_is : own ≡ info = cc in ap (λ (i : HeadInfo). i.offset) (sym own_is) ∙ a.is_rest.1.0.offset

module _ (role : Role) (limits : Limits) (bytes : List ℕ) (fs before later : List Frame) (f : Frame) (verdict : Verdict) (is : IsVerdict role limits bytes fs verdict) (parts : fs ≡ before ++ f ∷ later) (final : f.fin ≡ true)
    (lawful : IsLawful role limits fs) where
  abbrev at : ℕ
  at = event_offset before f

  past_all : ArePast fs at
  past_all = subst (λ (hs : List Frame). ArePast hs at) (sym parts) (past_within before later f at final refl)

  frames_apart : fs ≡ (before ++ f ∷ []) ++ later
  frames_apart = parts ∙ sym (push-append before f later)

  pub first_lawful : IsLawful role limits (before ++ f ∷ [])
  first_lawful = lawful_front role limits (before ++ f ∷ []) later (subst (IsLawful role limits) frames_apart lawful)

  pub first_whole : (rest : List ℕ) → bytes ≡ stream fs ++ rest → bytes ≡ stream (before ++ f ∷ []) ++ (stream later ++ rest)
  first_whole rest whole =
      whole ∙ ap (λ (hs : List Frame). stream hs ++ rest) frames_apart ∙ ap (λ (bs : List ℕ). bs ++ rest) (stream-append (before ++ f ∷ []) later)
      ∙ append_assoc (stream (before ++ f ∷ [])) (stream later) rest

  pub some_whole : (rest : List ℕ) → bytes ≡ stream fs ++ rest → length (stream (before ++ f ∷ [])) ≤ limits.input → IsWholeAt role limits bytes at (payload_in (event_at before f))
  some_whole rest whole within = record {
    before = before;
    last = f;
    later = stream later ++ rest;
    whole = first_whole rest whole;
    within = within;
    lawful = first_lawful;
    ends = record { final = final; begins = refl; payload_is = refl };
  }

  -- these lawful frames are the first of all
  pub one_whole : (payload : List ℕ) (w : IsWholeAt role limits bytes at payload) (extra : List Frame) → fs ≡ (w.before ++ w.last ∷ []) ++ extra → payload ≡ payload_in (event_at before f)
  one_whole payload w extra goes =
      w.ends.payload_is ∙ ap payload_in (sym (one_event before w.before later extra f w.last at (sym parts ∙ goes ∙ push-append w.before w.last extra) final w.ends.final refl w.ends.begins))

  pub never_unfinished : (other : Verdict) (payload : List ℕ) → IsUnfinishedAt role limits bytes other at payload → ⊥
  never_unfinished other payload u =
      let same = (one_verdict role limits bytes fs u.frames verdict other is u.are_apart.is_verdict).0 in
      not_begun u.frames u.position at payload (subst (λ (hs : List Frame). ArePast hs at) same past_all) u.is_begun

  pub never_before : (other : Verdict) → EndsBefore role limits bytes other at → ⊥
  never_before other u =
      let same = (one_verdict role limits bytes fs u.frames verdict other is u.are_apart.is_verdict).0 in
      not_before u.frames u.position at (subst (λ (hs : List Frame). ArePast hs at) same past_all) (place_of role limits bytes other u.frames u.position u.are_apart) u.end
