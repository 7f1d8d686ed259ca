-- If an event begins at an offset, the offset isn't in a frame of another event.
use Rattle.std.proofs.Common.{◌≡◌, ◌≢◌, ℕ, ◌+◌, ◌<◌, ◌≤◌, ◌⊎◌, true, false, not, List, [], ◌∷◌, ◌++◌, length, inl, inr, refl, sym, ap, ◌∙◌, subst, append-nil, append_assoc, arith}
use Rattle.std.proofs.lemmas.Bool.{cases_Bool}
use Rattle.wsn_wire.specs.declared.endpoint.Role.{Role}
use Rattle.wsn_wire.specs.Frame.{Frame, is_control, frame_bytes, stream}
use Rattle.wsn_rules.specs.declared.head_info.HeadInfo.{HeadInfo}
use Rattle.wsn_rules.specs.Limits.{Limits}
use Rattle.wsn_rules.specs.AfterClose.{HasNoClose}
use Rattle.wsn_rules.specs.Group.{IsOpen}
use Rattle.wsn_rules.specs.Heads.{info_of, heads_from, heads_of, BeginsWithHead, IsBegun, AreHeads}
use Rattle.wsn_rules.specs.Lawful.{IsLawful}
use Rattle.wsn_rules.specs.ShownStream.{open_offset, event_offset, frame_so_far}
use Rattle.wsn_rules.proofs.Groups.{unfinished_control, unfinished_final}
use Rattle.wsn_rules.proofs.HeadsGoOn.{begins_longer}
use Rattle.wsn_rules.proofs.LawfulLists.{lawful_front, no_close_before}
use Rattle.wsn_rules.proofs.OneHead.{one_begun}
use Rattle.wsn_rules.proofs.OpenOffsets.{offset_after_control, offset_after_fragment}
use Rattle.wsn_rules.proofs.Prefixes.{push-append, append_cancel}
use Rattle.wsn_rules.proofs.Walk.{stream-append}
use Rattle.wsn_scan.proofs.HeadsReported.{heads_push, frame_begins}
use Rattle.wsn_parts.specs.declared.answer.EventStart.{EventStart}
use Rattle.wsn_parts.specs.EventsAt.{end_of, IsInsideAt}
use Rattle.wsn_parts.proofs.OpenMessages.{open_before, offset_of_data, frame_end}
use Rattle.wsn_parts.proofs.OneEvent.{ArePast, past_differs, past_more, past_within, split}

-- After a frame that has the offset and whose event begins elsewhere, no event begins at the offset.
pub past_elsewhere : (fs : List Frame) (f : Frame) (at : ℕ) → length (stream fs) ≤ at → at < length (stream (fs ++ f ∷ [])) → event_offset fs f ≢ at → ArePast (fs ++ f ∷ []) at
past_elsewhere fs f at from to differs = record { over = to; other = by (cases_Bool (is_control f.op)) (cases_Bool f.fin) }
  where
    by : (is_control f.op ≡ true) ⊎ (is_control f.op ≡ false) → (f.fin ≡ true) ⊎ (f.fin ≡ false) → IsOpen (fs ++ f ∷ []) → open_offset (fs ++ f ∷ []) ≢ at
    by (inl control) any some is =
        let was : IsOpen fs = λ none. some (unfinished_control fs f (ap not control) ∙ none) in
        let before = open_before fs was in
        omega (arith, before, is, from, offset_after_control fs f (ap not control) was)
    by (inr other) (inl final) some is = some (unfinished_final fs f (ap not other) final)
    by (inr other) (inr more) some is = differs (offset_of_data fs f other ∙ sym (offset_after_fragment fs f (ap not other) more) ∙ is)

-- The offset of an event isn't in another frame of these.
elsewhere : (before later front rest : List Frame) (f x : Frame) (info : HeadInfo) → before ++ f ∷ later ≡ front ++ x ∷ rest → f.fin ≡ true → info ≡ info_of (length (stream front)) x → info.offset ≤ event_offset before f → event_offset before f < end_of info
    → event_offset front (frame_so_far info []) ≢ event_offset before f → ⊥
elsewhere before later front rest f x info same final info_is from to differs =
    elim (split before front later rest f x same) [
      | inl both ↦ own_differs (λ i. event_offset (sym both.0 i) (sym both.1 i))
      | inr (inl after) ↦
          let past = (subst (λ (hs : List Frame). ArePast hs at) (sym after.1) (past_within before after.0 f at final refl)).over in
          omega (arith, past, from_front)
      | inr (inr first) ↦
          past_differs before f at (subst (λ (hs : List Frame). ArePast hs at) (push-append front x first.0 ∙ sym first.1) (past_more (front ++ x ∷ []) first.0 at (past_elsewhere front x at from_front to_front own_differs))) refl
    ]
  where
    at : ℕ
    at = event_offset before f

    from_front : length (stream front) ≤ event_offset before f
    from_front = subst (λ (i : HeadInfo). i.offset ≤ event_offset before f) info_is from

    to_front : event_offset before f < length (stream (front ++ x ∷ []))
    to_front = let there = subst (λ (i : HeadInfo). event_offset before f < end_of i) info_is to in omega (arith, there, frame_end front x)

    own_differs : event_offset front x ≢ event_offset before f
    own_differs = subst (λ (i : HeadInfo). event_offset front (frame_so_far i []) ≢ event_offset before f) info_is differs

heads_prefix : (offset : ℕ) (fs gs : List Frame) → (more : List HeadInfo) × (heads_from offset (fs ++ gs) ≡ heads_from offset fs ++ more)
heads_prefix offset [] gs = (heads_from offset gs, refl)
heads_prefix offset (f ∷ fs) gs = let r = heads_prefix (offset + length (frame_bytes f)) fs gs in (r.0, ap (λ (hs : List HeadInfo). info_of offset f ∷ hs) r.1)

-- The head after those of the frames `front` is that of the next frame.
next_head : (front : List Frame) (g : Frame) (gs : List Frame) (begun : List HeadInfo) (info : HeadInfo) → heads_of front ++ info ∷ [] ≡ heads_of (front ++ g ∷ gs) ++ begun → info ≡ info_of (length (stream front)) g
next_head front g gs begun info same =
    let r = heads_prefix 0 (front ++ g ∷ []) gs in
    let own = info_of (length (stream front)) g in
    let all : heads_of (front ++ g ∷ gs) ++ begun ≡ heads_of front ++ (own ∷ (r.0 ++ begun)) =
    ap (λ (hs : List Frame). heads_of hs ++ begun) (sym (push-append front g gs)) ∙ ap (λ (hs : List HeadInfo). hs ++ begun) (r.1 ∙ ap (λ (hs : List HeadInfo). hs ++ r.0) (heads_push front g))
    ∙ append_assoc (heads_of front ++ own ∷ []) r.0 begun ∙ append_assoc (heads_of front) (own ∷ []) (r.0 ++ begun) in
    let tails : info ∷ [] ≡ own ∷ (r.0 ++ begun) = append_cancel (heads_of front) (info ∷ []) (own ∷ (r.0 ++ begun)) (same ∙ all) in
    cc

module _ (role : Role) (limits : Limits) (bytes : List ℕ) where
  -- After these lawful frames the bytes begin with this head.
  pub record IsHeadAfter (fs : List Frame) (info : HeadInfo) : Type 0 where
    pub rest : List ℕ
    pub lawful : IsLawful role limits fs
    pub no_close : HasNoClose fs
    pub whole : bytes ≡ stream fs ++ rest
    pub head : BeginsWithHead role limits fs rest info

  begun_head : (rest : List ℕ) (fs : List Frame) (begun : List HeadInfo) (info : HeadInfo) → IsBegun role limits fs rest begun → begun ≡ info ∷ [] → HasNoClose fs × BeginsWithHead role limits fs rest info
  begun_head rest fs begun info (inl closed) is = let both : [] ≡ info ∷ [] = sym closed.0 ∙ is in absurd cc
  begun_head rest fs begun info (inr (inl none)) is = let both : [] ≡ info ∷ [] = sym none.0 ∙ is in absurd cc
  begun_head rest fs begun info (inr (inr some)) is =
      let both : some.1.0 ∷ [] ≡ info ∷ [] = sym some.1.1 ∙ is in
      let same : some.1.0 ≡ info = cc in
      (some.0, subst (BeginsWithHead role limits fs rest) same some.1.2)

  stream_parts : (fs : List Frame) (x : Frame) (xs : List Frame) (after : List ℕ) → stream (fs ++ x ∷ xs) ++ after ≡ stream fs ++ (frame_bytes x ++ (stream xs ++ after))
  stream_parts fs x xs after =
      ap (λ (bs : List ℕ). bs ++ after) (stream-append fs (x ∷ xs)) ∙ append_assoc (stream fs) (stream (x ∷ xs)) after ∙ ap (λ (bs : List ℕ). stream fs ++ bs) (append_assoc (frame_bytes x) (stream xs) after)

  -- The frame in which the offset is begins after frames of the stream.
  pub head_of_inside : (at : ℕ) (start : EventStart) (w : IsInsideAt role limits bytes at start) → IsHeadAfter w.before w.info
  head_of_inside at start w = by w.last w.are_heads
    where
      by : (last : List Frame) → AreHeads role limits w.front (w.before ++ last) (heads_of w.before ++ w.info ∷ []) → IsHeadAfter w.before w.info
      by [] are =
          let heads = subst (λ (hs : List Frame). AreHeads role limits w.front hs (heads_of w.before ++ w.info ∷ [])) (append-nil w.before) are in
          let some = begun_head heads.rest w.before heads.begun w.info heads.is_begun (sym (append_cancel (heads_of w.before) (w.info ∷ []) heads.begun heads.all)) in
          record {
            rest = heads.rest ++ w.later;
            lawful = heads.lawful;
            no_close = some.0;
            whole = w.whole ∙ ap (λ (bs : List ℕ). bs ++ w.later) heads.whole ∙ append_assoc (stream w.before) heads.rest w.later;
            head = begins_longer role limits w.before heads.rest w.later w.info some.1;
          }
      by (g ∷ gs) are =
          let after : List ℕ = are.rest ++ w.later in
          record {
            rest = frame_bytes g ++ (stream gs ++ after);
            lawful = lawful_front role limits w.before (g ∷ gs) are.lawful;
            no_close = no_close_before role limits w.before g gs are.lawful;
            whole = w.whole ∙ ap (λ (bs : List ℕ). bs ++ w.later) are.whole ∙ append_assoc (stream (w.before ++ g ∷ gs)) are.rest w.later ∙ stream_parts w.before g gs after;
            head = subst (BeginsWithHead role limits w.before (frame_bytes g ++ (stream gs ++ after))) (sym (next_head w.before g gs are.begun w.info are.all)) (frame_begins role limits w.before g gs (stream gs ++ after) are.lawful);
          }

  -- If a lawful frame follows the frames, the head is that frame's.
  pub head_of_next : (fs : List Frame) (info : HeadInfo) → IsHeadAfter fs info → (x : Frame) (xs : List Frame) (after : List ℕ) → IsLawful role limits (fs ++ x ∷ xs) → bytes ≡ stream (fs ++ x ∷ xs) ++ after → info ≡ info_of (length (stream fs)) x
  head_of_next fs info h x xs after lawful whole =
      let following : List ℕ = stream xs ++ after in
      let rest_is : h.rest ≡ frame_bytes x ++ following = append_cancel (stream fs) h.rest (frame_bytes x ++ following) (sym h.whole ∙ whole ∙ stream_parts fs x xs after) in
      one_begun role limits fs (frame_bytes x ++ following) info (info_of (length (stream fs)) x) (subst (λ (bs : List ℕ). BeginsWithHead role limits fs bs info) rest_is h.head) (frame_begins role limits fs x xs following lawful)

  -- ---- the offset of an event

  module _ (fs before later : List Frame) (f : Frame) (parts : fs ≡ before ++ f ∷ later) (final : f.fin ≡ true) (lawful : IsLawful role limits fs) (after : List ℕ) (whole : bytes ≡ stream fs ++ after) where
    abbrev offset : ℕ
    offset = event_offset before f

    pub never_inside : (start : EventStart) (w : IsInsideAt role limits bytes offset start) (extra : List Frame) → fs ≡ w.before ++ extra → ⊥
    never_inside start w [] goes =
        let past = (subst (λ (hs : List Frame). ArePast hs offset) (sym parts ∙ goes ∙ append-nil w.before) (past_within before later f offset final refl)).over in
        let from = w.elsewhere.from in
        let there = (head_of_inside offset start w).head.offset in
        omega (arith, past, from, there)
    never_inside start w (x ∷ rest) goes =
        let is = head_of_next w.before w.info (head_of_inside offset start w) x rest after (subst (IsLawful role limits) goes lawful) (whole ∙ ap (λ (hs : List Frame). stream hs ++ after) goes) in
        elsewhere before later w.before rest f x w.info (sym parts ∙ goes) final is w.elsewhere.from w.elsewhere.to (λ same. w.elsewhere.other (w.elsewhere.is_start.offset ∙ same))
