-- An input has one answer for an offset, and one payload is written.
use Rattle.std.specs.Prelude.{if◌then◌else◌}
use Rattle.std.proofs.Common.{◌≡◌, ◌≢◌, ℕ, ◌+◌, ◌-◌, ◌<◌, ◌≤◌, ◌⊎◌, Result, Ok, Err, List, [], ◌∷◌, ◌++◌, length, take, drop, inl, inr, refl, sym, ap, ◌∙◌, subst, append-nil, append_assoc, length-append, arith}
use Rattle.std.proofs.Math.Seq.{take-append-add}
use Rattle.std.proofs.lemmas.List.{take_at, drop_at}
use Rattle.wsn_wire.specs.declared.endpoint.Role.{Role}
use Rattle.wsn_wire.specs.declared.opcode.Op.{Op}
use Rattle.wsn_wire.specs.Frame.{Frame, is_control, wire_payload, stream}
use Rattle.wsn_io.specs.Stops.{HasNoFailure}
use Rattle.wsn_io.specs.Transfer.{Outgoing, IsWritten}
use Rattle.wsn_io.specs.declared.stop.Stop.{Stop}
use Rattle.wsn_io.specs.declared.stop.Stop.TheVariants as stop
use Rattle.wsn_rules.specs.declared.head_info.HeadInfo.{HeadInfo}
use Rattle.wsn_rules.specs.declared.verdict.Verdict.{Verdict}
use Rattle.wsn_rules.specs.declared.verdict.Verdict.TheVariants.{Accepted, Cut, Refused}
use Rattle.wsn_rules.specs.Limits.{Limits}
use Rattle.wsn_rules.specs.Group.{unfinished, first_op}
use Rattle.wsn_rules.specs.Heads.{info_of, BeginsWithHead}
use Rattle.wsn_rules.specs.Lawful.{IsLawful}
use Rattle.wsn_rules.specs.Meaning.{event_at, payload_in}
use Rattle.wsn_rules.specs.ShownStream.{event_offset, frame_so_far}
use Rattle.wsn_rules.specs.Verdict.{IsVerdict, judged_bytes}
use Rattle.wsn_rules.proofs.OneHead.{one_begun, one_following}
use Rattle.wsn_rules.proofs.OneVerdict.{AreAll, all_go_on, all_of_verdict, one_verdict}
use Rattle.wsn_rules.proofs.Prefixes.{push-append, append_cancel, two_fronts}
use Rattle.wsn_rules.proofs.Walk.{walk, spellable_of_lawful}
use Rattle.wsn_scan.specs.Positions.{Position, BetweenFrames, InFrame}
use Rattle.wsn_scan.proofs.WholeInputs.{not_past}
use Rattle.wsn_parts.specs.declared.answer.EventStart.{EventStart}
use Rattle.wsn_parts.specs.declared.answer.Payload.{Payload}
use Rattle.wsn_parts.specs.declared.answer.Payload.TheVariants.{Whole, Unfinished, Inside, Head, Nothing}
use Rattle.wsn_parts.specs.EventsAt.{end_of, IsWholeAt, IsRestAt, IsBegunAt, EndBefore, AreApart, IsUnfinishedAt, EndsBefore, IsInHeadAt, IsAfterAll, IsInsideAt}
use Rattle.wsn_parts.specs.Payloads.{IsPartAt, IsPayloadOfAll}
use Rattle.wsn_parts.proofs.OpenMessages.{open_before, offset_within, apart_from_control, frame_end}
use Rattle.wsn_parts.proofs.OneEvent.{ArePast, past_more, past_within, one_event, not_begun, not_before, place_of}
use Rattle.wsn_parts.proofs.ElsewhereBegun.{past_elsewhere, IsHeadAfter, head_of_inside, head_of_next, never_inside}

module _ (role : Role) (limits : Limits) (bytes : List ℕ) where
  -- Of two lists of lawful frames at the front of the bytes, one continues the other.
  one_goes_on : (fs gs : List Frame) (r s : List ℕ) → IsLawful role limits fs → IsLawful role limits gs → bytes ≡ stream fs ++ r → bytes ≡ stream gs ++ s → ((more : List Frame) × (gs ≡ fs ++ more)) ⊎ ((more : List Frame) × (fs ≡ gs ++ more))
  one_goes_on fs gs r s lawful also whole other =
      elim (walk fs gs r s (spellable_of_lawful role limits fs lawful) (spellable_of_lawful role limits gs also) (sym whole ∙ other)) [
        | inl p ↦ inl (p.0, p.1)
        | inr p ↦ inr (p.0, p.1)
      ]

  -- ---- an event that isn't complete

  -- After whole frames, one position fits the bytes that are left.
  one_position : (fs : List Frame) (rest : List ℕ) (p q : Position) → IsRestAt role limits fs rest p → IsRestAt role limits fs rest q → p ≡ q
  one_position fs rest BetweenFrames BetweenFrames is also = refl
  one_position fs rest BetweenFrames (InFrame info part) (inl closed) also = absurd (also.0 closed.0 [] closed.1 closed.3 closed.2)
  one_position fs rest BetweenFrames (InFrame info part) (inr none) also = absurd (none info also.1.0)
  one_position fs rest (InFrame info part) BetweenFrames is (inl closed) = absurd (is.0 closed.0 [] closed.1 closed.3 closed.2)
  one_position fs rest (InFrame info part) BetweenFrames is (inr none) = absurd (none info is.1.0)
  one_position fs rest (InFrame info part) (InFrame other more) is also =
      let head = one_begun role limits fs rest info other is.1.0 also.1.0 in
      let following = one_following role limits fs rest info other is.1.0 also.1.0 in
      let parts : part ≡ more = is.1.1 ∙ (λ i. wire_payload (head i).key (following i)) ∙ sym also.1.1 in
      λ i. InFrame (head i) (parts i)

  -- There, this has come of the payload.
  one_begun_payload : (fs : List Frame) (position : Position) (at : ℕ) (payload other : List ℕ) → IsBegunAt fs position at payload → IsBegunAt fs position at other → payload ≡ other
  one_begun_payload fs BetweenFrames at payload other is also = is.payload_is ∙ sym also.payload_is
  one_begun_payload fs (InFrame info part) at payload other (inl is) (inl also) = is.1.payload_is ∙ sym also.1.payload_is
  one_begun_payload fs (InFrame info part) at payload other (inl is) (inr also) = absurd (apart_from_control fs (frame_so_far info part) at is.0 is.1.some is.1.begins also.0)
  one_begun_payload fs (InFrame info part) at payload other (inr is) (inl also) = absurd (apart_from_control fs (frame_so_far info part) at also.0 also.1.some also.1.begins is.0)
  one_begun_payload fs (InFrame info part) at payload other (inr is) (inr also) = is.1 ∙ sym also.1

  -- A frame ends after its first byte.
  after_place : (info : HeadInfo) → info.offset < end_of info
  after_place info = omega arith

  -- What has begun begins before the end of what is there.
  begun_not_before : (fs : List Frame) (position : Position) (at : ℕ) (payload : List ℕ) → ((info : HeadInfo) (part : List ℕ) → position ≡ InFrame info part → info.offset ≡ length (stream fs)) → IsBegunAt fs position at payload → EndBefore fs position at → ⊥
  begun_not_before fs BetweenFrames at payload offset is ends = omega (arith, open_before fs is.some, is.begins, ends)
  begun_not_before fs (InFrame info part) at payload offset (inl is) ends = omega (arith, open_before fs is.1.some, is.1.begins, ends, after_place info, offset info part refl)
  begun_not_before fs (InFrame info part) at payload offset (inr is) ends = omega (arith, offset_within fs (frame_so_far info part), is.0, ends, after_place info, offset info part refl)

  -- One verdict, one list of frames and one position fit the bytes.
  one_apart : (v w : Verdict) (fs gs : List Frame) (p q : Position) → AreApart role limits bytes v fs p → AreApart role limits bytes w gs q → (v ≡ w) × (fs ≡ gs) × (p ≡ q)
  one_apart v w fs gs p q a b =
      let same = one_verdict role limits bytes fs gs v w a.is_verdict b.is_verdict in
      let rest : IsRestAt role limits fs (drop (length (stream fs)) (judged_bytes v bytes)) q =
      subst (λ (hs : List Frame). IsRestAt role limits hs (drop (length (stream hs)) (judged_bytes v bytes)) q) (sym same.0) (subst (λ (u : Verdict). IsRestAt role limits gs (drop (length (stream gs)) (judged_bytes u bytes)) q) (sym same.1) b.is_rest) in
      (same.1, same.0, one_position fs (drop (length (stream fs)) (judged_bytes v bytes)) p q a.is_rest rest)

  module _ (at : ℕ) where
    -- An event that is not complete has one payload so far, and the stream one verdict.
    pub one_unfinished : (v w : Verdict) (payload other : List ℕ) → IsUnfinishedAt role limits bytes v at payload → IsUnfinishedAt role limits bytes w at other → (v ≡ w) × (payload ≡ other)
    one_unfinished v w payload other a b =
        let same = one_apart v w a.frames b.frames a.position b.position a.are_apart b.are_apart in (
          same.0,
          one_begun_payload a.frames a.position at payload other a.is_begun
              (subst (λ (hs : List Frame). IsBegunAt hs a.position at other) (sym same.1) (subst (λ (q : Position). IsBegunAt b.frames q at other) (sym same.2) b.is_begun)),
        )

    -- With no event at the offset, the stream has one verdict.
    pub one_before : (v w : Verdict) → EndsBefore role limits bytes v at → EndsBefore role limits bytes w at → v ≡ w
    one_before v w a b = (one_apart v w a.frames b.frames a.position b.position a.are_apart b.are_apart).0

    -- The head in which the offset is begins at one offset.
    pub one_head : (v w : Verdict) (start other : ℕ) → IsInHeadAt role limits bytes v at start → IsInHeadAt role limits bytes w at other → (v ≡ w) × (start ≡ other)
    one_head v w start other a b =
        let same = one_apart v w a.ends.frames b.ends.frames a.ends.position b.ends.position a.ends.are_apart b.ends.are_apart in
        (same.0, a.begins ∙ ap (λ (fs : List Frame). length (stream fs)) same.1 ∙ sym b.begins)

    -- An offset in a head isn't after all that came, nor after a Close.
    pub head_not_after : (v w : Verdict) (start : ℕ) → IsInHeadAt role limits bytes v at start → IsAfterAll role limits bytes w at → ⊥
    head_not_after v w start a b =
        elim (b.no_head (sym same.2 ∙ a.between)) [
          | inl closed ↦ a.no_close closed.0 [] closed.1 (same.1 ∙ closed.3) closed.2
          | inr ends ↦ let reached = a.reached in omega (arith, reached, ends, ap (λ (u : Verdict). length (judged_bytes u bytes)) same.0)
        ]
      where
        same : (v ≡ w) × (a.ends.frames ≡ b.ends.frames) × (a.ends.position ≡ b.ends.position)
        same = one_apart v w a.ends.frames b.ends.frames a.ends.position b.ends.position a.ends.are_apart b.ends.are_apart

    -- If the event has begun, not all frames end before the offset.
    pub unfinished_not_before : (v w : Verdict) (payload : List ℕ) → IsUnfinishedAt role limits bytes v at payload → EndsBefore role limits bytes w at → ⊥
    unfinished_not_before v w payload a b =
        let same = one_apart v w a.frames b.frames a.position b.position a.are_apart b.are_apart in
        begun_not_before a.frames a.position at payload (place_of role limits bytes v a.frames a.position a.are_apart) a.is_begun
        (subst (λ (hs : List Frame). EndBefore hs a.position at) (sym same.1) (subst (λ (q : Position). EndBefore b.frames q at) (sym same.2) b.end))

    -- What has come of the payload is the same with both verdicts.
    pub one_part : (v w : Verdict) (payload other : List ℕ) → IsPartAt role limits bytes v at payload → IsPartAt role limits bytes w at other → payload ≡ other
    one_part v w payload other (inl a) (inl b) = (one_unfinished v w payload other a b).1
    one_part v w payload other (inl a) (inr b) = absurd (unfinished_not_before v w payload a b.0)
    one_part v w payload other (inr a) (inl b) = absurd (unfinished_not_before w v other b a.0)
    one_part v w payload other (inr a) (inr b) = a.1 ∙ sym b.1

    -- After frames that are past the event, nothing is left of it.
    past_is_no_part : (v : Verdict) (payload : List ℕ) → ((fs : List Frame) → IsVerdict role limits bytes fs v → ArePast fs at) → IsPartAt role limits bytes v at payload → ⊥
    past_is_no_part v payload past (inl u) = not_begun u.frames u.position at payload (past u.frames u.are_apart.is_verdict) u.is_begun
    past_is_no_part v payload past (inr u) =
        let apart = u.0.are_apart in
        not_before u.0.frames u.0.position at (past u.0.frames apart.is_verdict) (place_of role limits bytes v u.0.frames u.0.position apart) u.0.end

    -- ---- a complete event

    -- A complete event has one payload.
    pub one_whole : (payload other : List ℕ) → IsWholeAt role limits bytes at payload → IsWholeAt role limits bytes at other → payload ≡ other
    one_whole payload other a b = a.ends.payload_is ∙ ap payload_in same ∙ sym b.ends.payload_is
      where
        same : event_at a.before a.last ≡ event_at b.before b.last
        same =
            elim (one_goes_on (a.before ++ a.last ∷ []) (b.before ++ b.last ∷ []) a.later b.later a.lawful b.lawful a.whole b.whole) [
              | inl p ↦ one_event a.before b.before p.0 [] a.last b.last at (sym (p.1 ∙ push-append a.before a.last p.0)) a.ends.final b.ends.final a.ends.begins b.ends.begins
              | inr p ↦ one_event a.before b.before [] p.0 a.last b.last at (p.1 ∙ push-append b.before b.last p.0) a.ends.final b.ends.final a.ends.begins b.ends.begins
            ]

    -- A complete event is not unfinished, and not all frames end before it.
    pub whole_not_part : (v : Verdict) (payload part : List ℕ) → IsWholeAt role limits bytes at payload → IsPartAt role limits bytes v at part → ⊥
    whole_not_part v payload part w is = past_is_no_part v part past is
      where
        past : (fs : List Frame) → IsVerdict role limits bytes fs v → ArePast fs at
        past fs verdict =
            let goes = all_go_on role limits bytes (w.before ++ w.last ∷ []) fs w.later w.lawful w.whole (all_of_verdict role limits bytes fs v verdict) in
            subst (λ (hs : List Frame). ArePast hs at) (sym (goes.1 ∙ push-append w.before w.last goes.0)) (past_within w.before goes.0 w.last at w.ends.final w.ends.begins)

    -- Its offset is in no frame of another event.
    pub whole_not_inside : (payload : List ℕ) (start : EventStart) → IsWholeAt role limits bytes at payload → IsInsideAt role limits bytes at start → ⊥
    whole_not_inside payload start w is =
        elim (one_goes_on (w.before ++ w.last ∷ []) i.before w.later head.rest w.lawful head.lawful w.whole head.whole) [
          | inl p ↦ never_inside role limits bytes i.before w.before p.0 w.last (p.1 ∙ push-append w.before w.last p.0) w.ends.final head.lawful head.rest head.whole start i [] (sym (append-nil i.before))
          | inr p ↦ never_inside role limits bytes (w.before ++ w.last ∷ []) w.before [] w.last refl w.ends.final w.lawful w.later w.whole start i p.0 p.1
        ]
      where
        i : IsInsideAt role limits bytes (event_offset w.before w.last) start
        i = subst (λ (n : ℕ). IsInsideAt role limits bytes n start) (sym w.ends.begins) is

        head : IsHeadAfter role limits bytes i.before i.info
        head = head_of_inside role limits bytes (event_offset w.before w.last) start i

    -- ---- inside another event

    -- After the frame in which the offset is, no event begins there.
    past_frame : (start : EventStart) (w : IsInsideAt role limits bytes at start) (x : Frame) (xs : List Frame) (after : List ℕ) → IsLawful role limits (w.before ++ x ∷ xs) → bytes ≡ stream (w.before ++ x ∷ xs) ++ after → ArePast (w.before ++ x ∷ xs) at
    past_frame start w x xs after lawful whole =
        subst (λ (hs : List Frame). ArePast hs at) (push-append w.before x xs)
        (past_more (w.before ++ x ∷ []) xs at (past_elsewhere w.before x at from to (subst (λ (i : HeadInfo). event_offset w.before (frame_so_far i []) ≢ at) is (λ same. w.elsewhere.other (w.elsewhere.is_start.offset ∙ same)))))
      where
        is : w.info ≡ info_of (length (stream w.before)) x
        is = head_of_next role limits bytes w.before w.info (head_of_inside role limits bytes at start w) x xs after lawful whole

        from : length (stream w.before) ≤ at
        from = subst (λ (i : HeadInfo). i.offset ≤ at) is w.elsewhere.from

        to : at < length (stream (w.before ++ x ∷ []))
        to = let there = subst (λ (i : HeadInfo). at < end_of i) is w.elsewhere.to in omega (arith, there, frame_end w.before x)

    -- If the offset is in two frames, they are the same.
    one_inside_after : (start other : EventStart) (w : IsInsideAt role limits bytes at start) (v : IsInsideAt role limits bytes at other) (more : List Frame) → v.before ≡ w.before ++ more → start ≡ other
    one_inside_after start other w v [] goes = λ i. record { op = op i; offset = offset i }
      where
        front : w.before ≡ v.before
        front = sym (goes ∙ append-nil w.before)

        h : IsHeadAfter role limits bytes w.before w.info
        h = head_of_inside role limits bytes at start w

        k : IsHeadAfter role limits bytes v.before v.info
        k = head_of_inside role limits bytes at other v

        rests : h.rest ≡ k.rest
        rests = append_cancel (stream w.before) h.rest k.rest (sym h.whole ∙ k.whole ∙ ap (λ (hs : List Frame). stream hs ++ k.rest) (sym front))

        head : w.info ≡ v.info
        head = one_begun role limits w.before k.rest w.info v.info (subst (λ (bs : List ℕ). BeginsWithHead role limits w.before bs w.info) rests h.head) (subst (λ (hs : List Frame). BeginsWithHead role limits hs k.rest v.info) (sym front) k.head)

        first : List Frame → HeadInfo → Op
        first fs info = if is_control info.op then info.op else first_op (unfinished fs ++ frame_so_far info [] ∷ [])

        op : start.op ≡ other.op
        op = w.elsewhere.is_start.op ∙ (λ i. first (front i) (head i)) ∙ sym v.elsewhere.is_start.op

        offset : start.offset ≡ other.offset
        offset = w.elsewhere.is_start.offset ∙ (λ i. event_offset (front i) (frame_so_far (head i) [])) ∙ sym v.elsewhere.is_start.offset
    one_inside_after start other w v (x ∷ xs) goes =
        let k = head_of_inside role limits bytes at other v in
        let past = past_frame start w x xs k.rest (subst (IsLawful role limits) goes k.lawful) (k.whole ∙ ap (λ (hs : List Frame). stream hs ++ k.rest) goes) in
        let over = (subst (λ (hs : List Frame). ArePast hs at) (sym goes) past).over in
        let offset = k.head.offset in
        let from = v.elsewhere.from in
        absurd (omega (arith, over, offset, from))

    -- The offset is inside one event.
    pub one_inside : (start other : EventStart) → IsInsideAt role limits bytes at start → IsInsideAt role limits bytes at other → start ≡ other
    one_inside start other w v =
        let h = head_of_inside role limits bytes at start w in
        let k = head_of_inside role limits bytes at other v in
        elim (one_goes_on w.before v.before h.rest k.rest h.lawful k.lawful h.whole k.whole) [
          | inl p ↦ one_inside_after start other w v p.0 p.1
          | inr p ↦ sym (one_inside_after other start v w p.0 p.1)
        ]

    -- ---- inside another event nothing is unfinished

    -- A head after the frames that is valid so far comes before the offending byte.
    head_judged : (v : Verdict) (fs : List Frame) (info : HeadInfo) → IsVerdict role limits bytes fs v → IsHeadAfter role limits bytes fs info → BeginsWithHead role limits fs (drop (length (stream fs)) (judged_bytes v bytes)) info
    head_judged (Accepted s) fs info is h = subst (λ (bs : List ℕ). BeginsWithHead role limits fs bs info) (sym (ap (λ (bs : List ℕ). drop (length (stream fs)) bs) h.whole ∙ drop_at (stream fs) h.rest (length (stream fs)) refl)) h.head
    head_judged (Cut s) fs info is h = subst (λ (bs : List ℕ). BeginsWithHead role limits fs bs info) (sym (ap (λ (bs : List ℕ). drop (length (stream fs)) bs) h.whole ∙ drop_at (stream fs) h.rest (length (stream fs)) refl)) h.head
    head_judged (Refused r) fs info is h = subst (λ (bs : List ℕ). BeginsWithHead role limits fs bs info) (sym judged) begins
      where
        b : BeginsWithHead role limits fs h.rest info
        b = h.head

        seen : List ℕ
        seen = is.is_evident.seen

        later : List ℕ
        later = is.is_evident.later

        size : length (stream fs ++ seen) ≡ r.offset + 1
        size = length-append (stream fs) seen ∙ sym is.is_evident.at_offset

        judged : drop (length (stream fs)) (take (r.offset + 1) bytes) ≡ seen
        judged =
            ap (λ (bs : List ℕ). drop (length (stream fs)) (take (r.offset + 1) bs)) (is.is_evident.whole ∙ sym (append_assoc (stream fs) seen later))
            ∙ ap (λ (bs : List ℕ). drop (length (stream fs)) bs) (take_at (stream fs ++ seen) later (r.offset + 1) size) ∙ drop_at (stream fs) seen (length (stream fs)) refl

        rest_is : seen ++ later ≡ b.head ++ b.following
        rest_is = append_cancel (stream fs) (seen ++ later) (b.head ++ b.following) (sym is.is_evident.whole ∙ h.whole ∙ ap (λ (bs : List ℕ). stream fs ++ bs) b.whole)

        begins : BeginsWithHead role limits fs seen info
        begins =
            elim (two_fronts seen b.head later b.following rest_is) [
              | inl p ↦ absurd (b.has_no_evidence.none seen p.0 r.reason p.1 is.is_evident.evidence)
              | inr p ↦ record { head = b.head; following = p.0; whole = p.1; offset = b.offset; encoded = b.encoded; key = b.key; form = b.form; size = b.size; has_no_evidence = b.has_no_evidence }
            ]

    -- After these frames the position is in the frame with this head.
    in_frame : (v : Verdict) (fs : List Frame) (position : Position) (info : HeadInfo) → AreApart role limits bytes v fs position → IsHeadAfter role limits bytes fs info → (part : List ℕ) × (position ≡ InFrame info part)
    in_frame v fs position info a h = by position a.is_rest
      where
        left : List ℕ
        left = drop (length (stream fs)) (judged_bytes v bytes)

        head : BeginsWithHead role limits fs left info
        head = head_judged v fs info a.is_verdict h

        by : (p : Position) → IsRestAt role limits fs left p → (part : List ℕ) × (p ≡ InFrame info part)
        by BetweenFrames (inl closed) = absurd (h.no_close closed.0 [] closed.1 closed.3 closed.2)
        by BetweenFrames (inr none) = absurd (none info head)
        by (InFrame other part) is = (part, ap (λ (i : HeadInfo). InFrame i part) (one_begun role limits fs left other info is.1.0 head))

    -- In a frame of another event, the one that begins at the offset has not begun.
    begun_elsewhere : (fs : List Frame) (info : HeadInfo) (part payload : List ℕ) → length (stream fs) ≤ at → event_offset fs (frame_so_far info []) ≢ at → IsBegunAt fs (InFrame info part) at payload → ⊥
    begun_elsewhere fs info part payload from differs (inl is) = omega (arith, open_before fs is.1.some, is.1.begins, from)
    begun_elsewhere fs info part payload from differs (inr is) = differs is.0

    module _ (start : EventStart) (w : IsInsideAt role limits bytes at start) where
      head : IsHeadAfter role limits bytes w.before w.info
      head = head_of_inside role limits bytes at start w

      differs : event_offset w.before (frame_so_far w.info []) ≢ at
      differs same = w.elsewhere.other (w.elsewhere.is_start.offset ∙ same)

      from : length (stream w.before) ≤ at
      from = let offset = head.head.offset in let first = w.elsewhere.from in omega (arith, offset, first)

      -- If the frame in which the offset is isn't whole, the event hasn't begun, and that frame doesn't end before the offset.
      there_is_no_part : (v : Verdict) (fs : List Frame) (position : Position) (payload : List ℕ) → AreApart role limits bytes v fs position → fs ≡ w.before → IsBegunAt fs position at payload ⊎ EndBefore fs position at → ⊥
      there_is_no_part v fs position payload a same is = by (subst (λ (p : Position). IsBegunAt fs p at payload ⊎ EndBefore fs p at) offset.1 is)
        where
          offset : (part : List ℕ) × (position ≡ InFrame w.info part)
          offset = in_frame v fs position w.info a (subst (λ (hs : List Frame). IsHeadAfter role limits bytes hs w.info) (sym same) head)

          by : IsBegunAt fs (InFrame w.info offset.0) at payload ⊎ (end_of w.info ≤ at) → ⊥
          by (inl begun) = begun_elsewhere w.before w.info offset.0 payload from differs (subst (λ (hs : List Frame). IsBegunAt hs (InFrame w.info offset.0) at payload) same begun)
          by (inr ends) = let to = w.elsewhere.to in omega (arith, ends, to)

      -- The same, whether that frame is whole or not.
      no_part_after : (v : Verdict) (fs : List Frame) (position : Position) (payload : List ℕ) → AreApart role limits bytes v fs position → (more : List Frame) → fs ≡ w.before ++ more → IsBegunAt fs position at payload ⊎ EndBefore fs position at → ⊥
      no_part_after v fs position payload a [] goes is = there_is_no_part v fs position payload a (goes ∙ append-nil w.before) is
      no_part_after v fs position payload a (x ∷ xs) goes is = by is
        where
          all : AreAll role limits bytes fs
          all = all_of_verdict role limits bytes fs v a.is_verdict

          past : ArePast fs at
          past = subst (λ (hs : List Frame). ArePast hs at) (sym goes) (past_frame start w x xs all.rest (subst (IsLawful role limits) goes all.lawful) (all.whole ∙ ap (λ (hs : List Frame). stream hs ++ all.rest) goes))

          by : IsBegunAt fs position at payload ⊎ EndBefore fs position at → ⊥
          by (inl begun) = not_begun fs position at payload past begun
          by (inr ends) = not_before fs position at past (place_of role limits bytes v fs position a) ends

      -- The same for the frames of any verdict.
      no_part : (v : Verdict) (fs : List Frame) (position : Position) (payload : List ℕ) → AreApart role limits bytes v fs position → IsBegunAt fs position at payload ⊎ EndBefore fs position at → ⊥
      no_part v fs position payload a is =
          let goes = all_go_on role limits bytes w.before fs head.rest head.lawful head.whole (all_of_verdict role limits bytes fs v a.is_verdict) in
          no_part_after v fs position payload a goes.0 goes.1 is

      -- Inside another event no event begins, and not all frames end before the offset.
      pub inside_not_part : (v : Verdict) (payload : List ℕ) → IsPartAt role limits bytes v at payload → ⊥
      inside_not_part v payload (inl u) = no_part v u.frames u.position payload u.are_apart (inl u.is_begun)
      inside_not_part v payload (inr u) = no_part v u.0.frames u.0.position payload u.0.are_apart (inr u.0.end)

-- ---- within the input limit

-- The first bytes of a list, if there are no more than n, begin its first n bytes.
take_front : (front later : List ℕ) (n : ℕ) → length front ≤ n → take n (front ++ later) ≡ front ++ take (n - length front) later
take_front front later n within =
    let size : n ≡ length front + (n - length front) = omega (arith, within) in
    ap (λ (m : ℕ). take m (front ++ later)) size ∙ take-append-add front later (n - length front)

module _ (role : Role) (limits : Limits) (at : ℕ) (all : List ℕ) where
  -- The bytes within the limit.
  abbrev within : List ℕ
  within = take limits.input all

  -- An event that is complete within the limit is so in them.
  whole_within : (payload : List ℕ) → IsWholeAt role limits all at payload → IsWholeAt role limits within at payload
  whole_within payload w = record {
    before = w.before;
    last = w.last;
    later = take (limits.input - length (stream (w.before ++ w.last ∷ []))) w.later;
    whole = ap (λ (bs : List ℕ). take limits.input bs) w.whole ∙ take_front (stream (w.before ++ w.last ∷ [])) w.later limits.input w.within;
    within = w.within;
    lawful = w.lawful;
    ends = w.ends;
  }

  -- So is a frame of another event.
  inside_within : (start : EventStart) → IsInsideAt role limits all at start → IsInsideAt role limits within at start
  inside_within start w = record {
    front = w.front;
    later = take (limits.input - length w.front) w.later;
    whole = ap (λ (bs : List ℕ). take limits.input bs) w.whole ∙ take_front w.front w.later limits.input w.within;
    within = w.within;
    before = w.before;
    last = w.last;
    info = w.info;
    are_heads = w.are_heads;
    elsewhere = w.elsewhere;
  }

  -- ---- one answer

  -- One answer is one result.
  answer_alike : (answer other : Payload) → answer ≡ other → (let result : Result Payload Stop = Ok answer in result) ≡ Ok other
  answer_alike answer other same = ap (λ (a : Payload). let result : Result Payload Stop = Ok a in result) same

  -- Both calls wrote the same payload.
  abbrev AreAlike : Outgoing → Outgoing → Outgoing → Outgoing → Type 0
  AreAlike before after other_before other_after = (payload : List ℕ) × IsWritten before after payload × IsWritten other_before other_after payload

  -- An event that is complete within the limit is answered as such, and its payload written.
  pub whole_payload : (payload : List ℕ) → IsWholeAt role limits all at payload → (before after : Outgoing) (result : Result Payload Stop) → HasNoFailure result → IsPayloadOfAll role limits at all before after result → (result ≡ Ok Whole) × IsWritten before after payload
  whole_payload payload w before after (Ok Whole) says is = (refl, subst (IsWritten before after) (one_whole role limits all at is.0 payload is.1 w) is.2)
  whole_payload payload w before after (Ok (Unfinished v)) says is = absurd (whole_not_part role limits all at v payload is.0 w (inl is.1))
  whole_payload payload w before after (Ok (Inside start)) says is = absurd (whole_not_inside role limits all at payload start w is.0)
  whole_payload payload w before after (Ok (Head start v)) says is = absurd (whole_not_part role limits all at v payload [] w (inr (is.0.ends, refl)))
  whole_payload payload w before after (Ok (Nothing v)) says is = absurd (whole_not_part role limits all at v payload [] w (inr (is.0.ends, refl)))
  whole_payload payload w before after (Err stop.InputLimit) says is = absurd (whole_not_part role limits within at is.1.0 payload is.0 (whole_within payload w) is.1.1)
  whole_payload payload w before after (Err stop.Read) says is = absurd says
  whole_payload payload w before after (Err stop.Memory) says is = absurd says
  whole_payload payload w before after (Err stop.Write) says is = absurd says

  -- An offset inside an event that begins elsewhere is answered as such, and nothing written.
  pub inside_payload : (start : EventStart) → IsInsideAt role limits all at start → (before after : Outgoing) (result : Result Payload Stop) → HasNoFailure result → IsPayloadOfAll role limits at all before after result → (result ≡ Ok (Inside start)) × IsWritten before after []
  inside_payload start w before after (Ok Whole) says is = absurd (whole_not_inside role limits all at is.0 start is.1 w)
  inside_payload start w before after (Ok (Unfinished v)) says is = absurd (inside_not_part role limits all at start w v is.0 (inl is.1))
  inside_payload start w before after (Ok (Inside other)) says is = (answer_alike (Inside other) (Inside start) (ap Inside (one_inside role limits all at other start is.0 w)), is.1)
  inside_payload start w before after (Ok (Head other v)) says is = absurd (inside_not_part role limits all at start w v [] (inr (is.0.ends, refl)))
  inside_payload start w before after (Ok (Nothing v)) says is = absurd (inside_not_part role limits all at start w v [] (inr (is.0.ends, refl)))
  inside_payload start w before after (Err stop.InputLimit) says is = absurd (inside_not_part role limits within at start (inside_within start w) is.1.0 is.0 is.1.1)
  inside_payload start w before after (Err stop.Read) says is = absurd says
  inside_payload start w before after (Err stop.Memory) says is = absurd says
  inside_payload start w before after (Err stop.Write) says is = absurd says

  module _ (before after other_before other_after : Outgoing) where
    -- One payload that both wrote.
    alike : (payload other : List ℕ) → payload ≡ other → IsWritten before after payload → IsWritten other_before other_after other → AreAlike before after other_before other_after
    alike payload other same one two = (payload, one, subst (IsWritten other_before other_after) (sym same) two)

    -- Two calls answer alike and write alike.
    pub one_payload : (result other : Result Payload Stop) → HasNoFailure result → HasNoFailure other → IsPayloadOfAll role limits at all before after result → IsPayloadOfAll role limits at all other_before other_after other
        → (result ≡ other) × AreAlike before after other_before other_after
    one_payload (Ok Whole) other says also one two = let same = whole_payload one.0 one.1 other_before other_after other also two in (sym same.0, (one.0, one.2, same.1))
    one_payload result (Ok Whole) says also one two = let same = whole_payload two.0 two.1 before after result says one in (same.0, (two.0, same.1, two.2))
    one_payload (Ok (Inside start)) other says also one two = let same = inside_payload start one.0 other_before other_after other also two in (sym same.0, ([], one.1, same.1))
    one_payload result (Ok (Inside start)) says also one two = let same = inside_payload start two.0 before after result says one in (same.0, ([], same.1, two.1))
    one_payload (Ok (Unfinished v)) (Ok (Unfinished w)) says also one two =
        let same = one_unfinished role limits all at v w one.0 two.0 one.1 two.1 in
        (answer_alike (Unfinished v) (Unfinished w) (ap Unfinished same.0), alike one.0 two.0 same.1 one.2 two.2)
    one_payload (Ok (Unfinished v)) (Ok (Head start w)) says also one two = absurd (unfinished_not_before role limits all at v w one.0 one.1 two.0.ends)
    one_payload (Ok (Unfinished v)) (Ok (Nothing w)) says also one two = absurd (unfinished_not_before role limits all at v w one.0 one.1 two.0.ends)
    one_payload (Ok (Unfinished v)) (Err stop.InputLimit) says also one two = absurd (not_past role limits all one.1.frames v one.1.are_apart.is_verdict one.3 two.3 two.4)
    one_payload (Ok (Head start v)) (Ok (Unfinished w)) says also one two = absurd (unfinished_not_before role limits all at w v two.0 two.1 one.0.ends)
    one_payload (Ok (Head start v)) (Ok (Head next w)) says also one two =
        let same = one_head role limits all at v w start next one.0 two.0 in
        (answer_alike (Head start v) (Head next w) (λ i. Head (same.1 i) (same.0 i)), alike [] [] refl one.1 two.1)
    one_payload (Ok (Head start v)) (Ok (Nothing w)) says also one two = absurd (head_not_after role limits all at v w start one.0 two.0)
    one_payload (Ok (Head start v)) (Err stop.InputLimit) says also one two = absurd (not_past role limits all one.0.ends.frames v one.0.ends.are_apart.is_verdict one.2 two.3 two.4)
    one_payload (Ok (Nothing v)) (Ok (Unfinished w)) says also one two = absurd (unfinished_not_before role limits all at w v two.0 two.1 one.0.ends)
    one_payload (Ok (Nothing v)) (Ok (Head start w)) says also one two = absurd (head_not_after role limits all at w v start two.0 one.0)
    one_payload (Ok (Nothing v)) (Ok (Nothing w)) says also one two = (answer_alike (Nothing v) (Nothing w) (ap Nothing (one_before role limits all at v w one.0.ends two.0.ends)), alike [] [] refl one.1 two.1)
    one_payload (Ok (Nothing v)) (Err stop.InputLimit) says also one two = absurd (not_past role limits all one.0.ends.frames v one.0.ends.are_apart.is_verdict one.2 two.3 two.4)
    one_payload (Err stop.InputLimit) (Ok (Unfinished w)) says also one two = absurd (not_past role limits all two.1.frames w two.1.are_apart.is_verdict two.3 one.3 one.4)
    one_payload (Err stop.InputLimit) (Ok (Head start w)) says also one two = absurd (not_past role limits all two.0.ends.frames w two.0.ends.are_apart.is_verdict two.2 one.3 one.4)
    one_payload (Err stop.InputLimit) (Ok (Nothing w)) says also one two = absurd (not_past role limits all two.0.ends.frames w two.0.ends.are_apart.is_verdict two.2 one.3 one.4)
    one_payload (Err stop.InputLimit) (Err stop.InputLimit) says also one two = (refl, alike one.0 two.0 (one_part role limits within at one.1.0 two.1.0 one.0 two.0 one.1.1 two.1.1) one.2 two.2)
    one_payload (Err stop.Read) other says also one two = absurd says
    one_payload (Err stop.Memory) other says also one two = absurd says
    one_payload (Err stop.Write) other says also one two = absurd says
    one_payload result (Err stop.Read) says also one two = absurd also
    one_payload result (Err stop.Memory) says also one two = absurd also
    one_payload result (Err stop.Write) says also one two = absurd also
