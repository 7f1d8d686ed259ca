-- What was shown of a stream, and what is left over where it ends.
use Rattle.std.proofs.Common.{◌≡◌, ℕ, ◌+◌, ◌<◌, ◌≤◌, ◌^◌, ◌⊎◌, true, false, Option, None, Some, List, [], ◌∷◌, ◌++◌, length, take, drop, inl, inr, refl, sym, ap, ◌∙◌, subst, append-nil, arith, nat_lt}
use Rattle.std.proofs.lemmas.Bool.{cases_Bool, cond-true, cond-false}
use Rattle.std.proofs.lemmas.List.{take-append-le, drop_at}
use Rattle.wsn_wire.specs.declared.endpoint.Role.{Role}
use Rattle.wsn_wire.specs.declared.length_encoding.Form.{Form}
use Rattle.wsn_wire.specs.declared.length_encoding.Form.TheVariants as form
use Rattle.wsn_wire.specs.declared.length_encoding.LenForm.TheVariants as len_form
use Rattle.wsn_wire.specs.declared.opcode.Op.{Op}
use Rattle.wsn_wire.specs.declared.opcode.Op.TheVariants.{Continue, Text, Binary, Close, Ping, Pong}
use Rattle.wsn_wire.specs.declared.refusal.Reason.TheVariants.{NothingToContinue, ControlTooLong}
use Rattle.wsn_wire.specs.Frame.{Frame, opcode, is_control, first_byte, second_byte, len_form_of, stream}
use Rattle.wsn_wire.specs.ReceivedHead.{opcode_field}
use Rattle.wsn_wire.specs.EvidenceInHeads.{IsControlOpcode, IsLong}
use Rattle.wsn_wire.proofs.FrameLemmas.{first_byte_fields, second_byte_fields, spells-len_form_of}
use Rattle.wsn_wire.proofs.HeadLemmas.{control_opcode}
use Rattle.wsn_rules.specs.declared.detail.Detail.{Detail}
use Rattle.wsn_rules.specs.declared.head_info.HeadInfo.{HeadInfo}
use Rattle.wsn_rules.specs.declared.verdict.Refusal.{Refusal}
use Rattle.wsn_rules.specs.declared.verdict.Summary.{Summary}
use Rattle.wsn_rules.specs.declared.verdict.Verdict.{Verdict}
use Rattle.wsn_rules.specs.declared.verdict.Verdict.TheVariants.{Accepted, Cut, Refused}
use Rattle.wsn_rules.specs.Limits.{Limits}
use Rattle.wsn_rules.specs.AfterClose.{HasNoClose, EndsWithClose, Ends}
use Rattle.wsn_rules.specs.Evidence.Evidence.{ByFirst, BySecond}
use Rattle.wsn_rules.specs.Group.{unfinished, first_op}
use Rattle.wsn_rules.specs.Heads.{BeginsWithHead}
use Rattle.wsn_rules.specs.Lawful.{IsLawful}
use Rattle.wsn_rules.specs.ShownStream.{Shown, AreShownFrames, frame_so_far, items_of_bytes, items_of_head, items_of_part, IsLeftOfRest, IsShownEvidence, IsShownVerdict, IsShownStream, IsLeftOf, IsLeftOver}
use Rattle.wsn_rules.specs.ShownStream.Item.{Unread, Tail}
use Rattle.wsn_rules.specs.Summary.{close_of, close_code}
use Rattle.wsn_rules.specs.Verdict.{IsRefused, IsVerdict}
use Rattle.wsn_rules.proofs.Groups.{group_of_lawful}
use Rattle.wsn_rules.proofs.LawfulLists.{came_on}
use Rattle.wsn_rules.proofs.Prefixes.{append_cancel}
use Rattle.wsn_rules.proofs.ShownStreams.{frames_stay}
use Rattle.wsn_rules.proofs.StaysRefused.{stays_refused}
use Rattle.wsn_scan.specs.declared.scan.Scan.{Scan}
use Rattle.wsn_scan.specs.Positions.{Position, BetweenFrames, InFrame}
use Rattle.wsn_scan.specs.Scans.{HasScanned, refusal_in, refusal_judged}
use Rattle.wsn_scan.proofs.FrameEnds.{close_of-push, unfinished_few}
use Rattle.wsn_rules.proofs.HeadsGoOn.{begins_two}
use Rattle.wsn_print.specs.declared.style.Style.{Style}
use Rattle.wsn_show.specs.declared.stream_parts.StreamParts.{StreamParts}
use Rattle.wsn_show.specs.HeldParts.{HasFirst}
use Rattle.wsn_show.specs.StreamParts.{HasKind, IsSoundPart, rest_at, items_left}
use Rattle.wsn_scan.specs.FollowedScans.{HasFollowed}
use Rattle.wsn_show.specs.ShownSoFar.{HasShownFrames, HasShownRefusal, HasShown}
use Rattle.wsn_scan.proofs.FollowedScans.{few, rest_few, unrefused_so_far, judged_so_far, is_begun, in_frame, between}
use Rattle.wsn_show.proofs.FramesSoFar.{are_so_far}
use Rattle.wsn_show.proofs.HeldItems.{none_is}

-- ---- a frame that has begun

-- A continuation without an open message is refused at its first byte.
begun_continues : (role : Role) (limits : Limits) (fs : List Frame) (rest : List ℕ) (info : HeadInfo) → BeginsWithHead role limits fs rest info → info.op ≡ Continue → unfinished fs ≡ [] → ⊥
begun_continues role limits fs rest info b is none =
    let first = first_byte info.fin info.op in
    let field : opcode_field first ≡ 0 = (first_byte_fields info.fin info.op).opcode_is ∙ ap opcode is in
    b.has_no_evidence.none (first ∷ []) _ NothingToContinue b.encoded (ByFirst first refl (field, none))

less_of : (a b : ℕ) → nat_lt a b ≡ true → a < b
less_of a b is = grind (arith)

-- A length over 125 is in more bytes than the second one.
short_or_long : (f : Form) (len : ℕ) → (len ≤ 125) ⊎ IsLong (len_form_of f len)
short_or_long form.Two len = inr tt
short_or_long form.Eight len = inr tt
short_or_long form.Shortest len =
    elim (cases_Bool (nat_lt len 126)) [
      | inl less ↦ inl (let few = less_of len 126 less in omega (arith, few))
      | inr more ↦ elim (cases_Bool (nat_lt len 65536)) [
        | inl two ↦ inr (subst IsLong (sym (cond-false (nat_lt len 126) (len_form.Short len) _ more ∙ cond-true (nat_lt len 65536) len_form.Two len_form.Eight two)) tt)
        | inr eight ↦ inr (subst IsLong (sym (cond-false (nat_lt len 126) (len_form.Short len) _ more ∙ cond-false (nat_lt len 65536) len_form.Two len_form.Eight eight)) tt)
      ]
    ]

-- A control of more than 125 bytes is refused at its second byte.
begun_control : (role : Role) (limits : Limits) (fs : List Frame) (rest : List ℕ) (info : HeadInfo) → BeginsWithHead role limits fs rest info → is_control info.op ≡ true → info.len ≤ 125
begun_control role limits fs rest info b control =
    elim (short_or_long info.form info.len) [
      | inl short ↦ short
      | inr long ↦
          let first = first_byte info.fin info.op in
          let field = len_form_of info.form info.len in
          let second = second_byte info.key field in
          let of_second = second_byte_fields info.key field info.len (spells-len_form_of info.form info.len b.form b.size) in
          let opcode_is : IsControlOpcode (opcode_field first) = subst IsControlOpcode (sym (first_byte_fields info.fin info.op).opcode_is) (control_opcode info.op control) in
          absurd (b.has_no_evidence.none (first ∷ second ∷ []) _ ControlTooLong b.encoded (BySecond first second refl (opcode_is, subst IsLong (sym of_second.field_is) long)))
    ]

kind_of_op : (op : Op) → is_control op ≡ false → (op ≡ Continue → ⊥) → HasKind op
kind_of_op Text is other = inl refl
kind_of_op Binary is other = inr refl
kind_of_op Continue is other = absurd (other refl)
kind_of_op Close is other = cc
kind_of_op Ping is other = cc
kind_of_op Pong is other = cc

begun_kind : (role : Role) (limits : Limits) (fs : List Frame) (rest : List ℕ) (info : HeadInfo) (payload : List ℕ) → IsLawful role limits fs → BeginsWithHead role limits fs rest info → is_control info.op ≡ false
    → HasKind (first_op (unfinished fs ++ frame_so_far info payload ∷ []))
begun_kind role limits fs rest info payload lawful b other = by (unfinished fs) refl
  where
    by : (group : List Frame) → unfinished fs ≡ group → HasKind (first_op (unfinished fs ++ frame_so_far info payload ∷ []))
    by [] none =
        subst (λ (gs : List Frame). HasKind (first_op (gs ++ frame_so_far info payload ∷ []))) (sym none)
        (kind_of_op info.op other (λ is. begun_continues role limits fs rest info b is none))
    by (g ∷ group) some =
        let kind = (group_of_lawful role limits fs lawful).kind (λ none. let both : g ∷ group ≡ [] = sym some ∙ none in cc) in
        subst (λ (gs : List Frame). HasKind (first_op (gs ++ frame_so_far info payload ∷ []))) (sym some) (subst (λ (gs : List Frame). HasKind (first_op gs)) some kind)

module _ (style : Style) (role : Role) (limits : Limits) (scan : Scan) (parts : StreamParts) (came : List ℕ) (shown : List Shown) where
  abbrev detail : Detail
  detail = style.detail

  -- ---- all that is shown

  module _ (frames : HasShownFrames style role limits scan parts came shown) where
    abbrev done : List Frame
    done = frames.done

    no_refusal : (fs : List Frame) (refusal : Refusal) → IsVerdict role limits came fs (Refused refusal) → ⊥
    no_refusal fs refusal is =
        unrefused_so_far role limits scan came done frames.at frames.rest frames.followed fs refusal.offset refusal.reason is

    verdict_of : (verdict : Verdict) × IsVerdict role limits came done verdict
    verdict_of = judged_so_far role limits scan came done frames.at frames.rest frames.followed

    nothing_of : (verdict : Verdict) → IsVerdict role limits came done verdict → IsShownVerdict detail role limits came done verdict []
    nothing_of (Accepted summary) is = refl
    nothing_of (Cut summary) is = refl
    nothing_of (Refused refusal) is = absurd (no_refusal done refusal is)

    frames_shown : IsShownStream detail role limits came shown
    frames_shown = record {
      frames = done;
      verdict = verdict_of.0;
      is_verdict = verdict_of.1;
      of_frames = shown;
      are_of_frames = let h = frames.followed in are_so_far detail role limits came frames.rest done frames.at shown h.has_scanned.has_consumed.lawful h.has_scanned.has_consumed.whole (is_begun role limits scan came done frames.at frames.rest h) frames.is;
      of_verdict = [];
      is_of_verdict = nothing_of verdict_of.0 verdict_of.1;
      all = sym (append-nil shown);
    }

  refusal_shown : HasShownRefusal detail role limits scan parts came shown → IsShownStream detail role limits came shown
  refusal_shown r =
      let at_end = r.offset in
      let front : take (r.refusal.offset + 1) came ≡ take (r.refusal.offset + 1) r.read =
      ap (λ (bs : List ℕ). take (r.refusal.offset + 1) bs) r.whole ∙ take-append-le (r.refusal.offset + 1) r.read r.unread (omega (arith, at_end)) in
      let own = r.is_of_refusal in
      record {
        frames = r.done;
        verdict = Refused r.refusal;
        is_verdict = subst (λ (bs : List ℕ). IsRefused role limits bs r.done r.refusal.offset r.refusal.reason) (sym r.whole) (r.refused r.unread);
        of_frames = r.of_frames;
        are_of_frames =
            subst (λ (bs : List ℕ). AreShownFrames detail role limits bs r.done r.of_frames) (sym r.whole)
            (frames_stay role limits detail r.read r.unread r.done r.refusal r.of_frames
            (subst (λ (bs : List ℕ). IsRefused role limits bs r.done r.refusal.offset r.refusal.reason) (append-nil r.read) (r.refused [])) r.are_of_frames);
        of_verdict = r.of_refusal;
        is_of_verdict = record {
          evidence = own.evidence;
          character = own.character;
          is_evidence = subst (λ (bs : List ℕ). IsShownEvidence role limits r.done r.refusal.reason (drop (length (stream r.done)) bs) own.evidence own.character) (sym front) own.is_evidence;
          is = own.is;
        };
        all = r.is;
      }

  pub all_shown : HasShown style role limits scan parts came shown → IsShownStream detail role limits came shown
  all_shown (inl frames) = frames_shown frames
  all_shown (inr refusal) = refusal_shown refusal

  -- ---- the verdict

  verdict_on : (read unread : List ℕ) (fs : List Frame) (verdict : Verdict) (refusal : Refusal) → refusal_judged verdict ≡ Some refusal → IsVerdict role limits read fs verdict → IsVerdict role limits (read ++ unread) fs verdict
  verdict_on read unread fs (Accepted summary) refusal is judged = absurd cc
  verdict_on read unread fs (Cut summary) refusal is judged = absurd cc
  verdict_on read unread fs (Refused own) refusal is judged = stays_refused role limits fs read unread own.offset own.reason judged

  pub judged : (verdict : Verdict) → ((bytes rest : List ℕ) (fs : List Frame) (at : Position) → HasScanned role limits scan bytes fs rest at → IsVerdict role limits bytes fs verdict) → refusal_judged verdict ≡ refusal_in scan
      → HasShown style role limits scan parts came shown → (fs : List Frame) × IsVerdict role limits came fs verdict
  judged verdict judges reported (inl frames) = let h = frames.followed in (frames.done, judges came frames.rest frames.done frames.at h.has_scanned)
  judged verdict judges reported (inr r) =
      let s = r.scanned in (
        s.frames,
        subst (λ (bs : List ℕ). IsVerdict role limits bs s.frames verdict) (sym r.whole)
            (verdict_on r.read r.unread s.frames verdict r.refusal (reported ∙ r.reported) (judges r.read s.since s.frames _ s.has_scanned)),
      )

  -- ---- bytes after a refusal

  pub record LeavesUnread (offset : ℕ) : Type 0 where
    pub unread : List ℕ
    pub first : HasFirst parts.rest unread
    pub small : offset + 1 < 2 ^ 64
    pub left_over : IsLeftOver role limits came (items_of_bytes Unread (offset + 1) unread)

  pub leaves_unread : (refusal : Refusal) → refusal_in scan ≡ Some refusal → HasShown style role limits scan parts came shown → LeavesUnread refusal.offset
  leaves_unread refusal is (inl frames) = let both : Some refusal ≡ None = sym is ∙ frames.followed.unrefused in absurd cc
  leaves_unread refusal is (inr r) =
      let same : r.refusal ≡ refusal = let both : Some r.refusal ≡ Some refusal = sym r.reported ∙ is in cc in
      let at_end = r.offset in
      let room = r.scanned.has_scanned.has_consumed.room in
      let input = r.scanned.has_scanned.has_consumed.in_range.input in
      subst (λ (own : Refusal). LeavesUnread own.offset) same (record {
        unread = r.unread;
        first = r.first;
        small = omega (arith, at_end, room, input);
        left_over = record {
          frames = r.done;
          verdict = Refused r.refusal;
          is_verdict = subst (λ (bs : List ℕ). IsRefused role limits bs r.done r.refusal.offset r.refusal.reason) (sym r.whole) (r.refused r.unread);
          is = ap (λ (bs : List ℕ). items_of_bytes Unread (r.refusal.offset + 1) bs) (sym (ap (λ (bs : List ℕ). drop (r.refusal.offset + 1) bs) r.whole ∙ drop_at r.read r.unread (r.refusal.offset + 1) (sym at_end)));
        };
      })

  -- ---- the tail, or what isn't complete

  module _ (frames : HasShownFrames style role limits scan parts came shown) where
    abbrev fs : List Frame
    fs = frames.done

    abbrev h : HasFollowed role limits scan came frames.done frames.at frames.rest
    h = frames.followed

    -- What has to be known of the frame that has begun.
    pub record LeavesFrames : Type 0 where
      pub lawful : IsLawful role limits fs
      pub few_frames : length (unfinished fs) + 1 < 2 ^ 64
      pub sound : IsSoundPart fs frames.at
      pub left_over : IsLeftOver role limits came (items_left fs frames.at frames.rest)

    few_open : length (unfinished fs) + 1 < 2 ^ 64
    few_open = let size = rest_few role limits scan came fs frames.at frames.rest h in let most = few role limits scan came fs frames.at frames.rest h in omega (arith, unfinished_few fs, size, most)

    is_sound : (p : Position) → frames.at ≡ p → IsSoundPart fs p
    is_sound BetweenFrames is = tt
    is_sound (InFrame info payload) is =
        let begun = in_frame role limits scan came fs frames.at frames.rest h info payload is in
        let within = begun.within in (
          begun.begins.offset,
          λ control. let short = begun_control role limits fs frames.rest info begun.begins control in omega (arith, short, within),
          λ other. begun_kind role limits fs frames.rest info payload h.has_scanned.has_consumed.lawful begun.begins other,
          begun.text,
        )

    rest_of : drop (length (stream fs)) came ≡ frames.rest
    rest_of = ap (λ (bs : List ℕ). drop (length (stream fs)) bs) h.has_scanned.has_consumed.whole ∙ drop_at (stream fs) frames.rest (length (stream fs)) refl

    -- a Close that isn't the last frame's
    closed : EndsWithClose fs → (code : Option ℕ) × (close_of fs ≡ Some code)
    closed (before, close, is, whole) =
        let on = came_on role limits before close (subst (IsLawful role limits) whole h.has_scanned.has_consumed.lawful) in
        (close_code close.payload, ap close_of whole ∙ close_of-push before close on.1 is)

    part_left : (p : Position) → frames.at ≡ p → HasNoClose fs → (summary : Summary) → IsLeftOf role limits came fs (Cut summary) (items_left fs frames.at frames.rest)
    part_left (InFrame info payload) is none summary =
        let begun = in_frame role limits scan came fs frames.at frames.rest h info payload is in
        subst (λ (bs : List ℕ). IsLeftOfRest role limits fs bs (items_left fs frames.at frames.rest)) (sym rest_of)
        (inl (info, begun.begins, ap (λ (p : Position). items_left fs p frames.rest) is ∙ ap (λ (bs : List ℕ). items_of_part fs info bs) begun.payload_is))
    part_left BetweenFrames is none summary =
        subst (λ (bs : List ℕ). IsLeftOfRest role limits fs bs (items_left fs frames.at frames.rest)) (sym rest_of)
        (inr (no_head (between role limits scan came fs frames.at frames.rest h is), ap (λ (p : Position). items_left fs p frames.rest) is))
      where
        no_head : EndsWithClose fs ⊎ (HasNoClose fs × ((info : HeadInfo) → BeginsWithHead role limits fs frames.rest info → ⊥)) → (info : HeadInfo) → BeginsWithHead role limits fs frames.rest info → ⊥
        no_head (inl close) info b = none close.0 [] close.1 close.3 close.2
        no_head (inr other) info b = other.1 info b

    nothing_left : (p : Position) → frames.at ≡ p → unfinished fs ≡ [] → frames.rest ≡ [] → items_left fs frames.at frames.rest ≡ []
    nothing_left BetweenFrames is open_none none =
        ap (λ (p : Position). items_left fs p frames.rest) is ∙ ap (λ (bs : List ℕ). items_of_head fs bs) none ∙ none_is fs (Some 0) (ap (λ (gs : List Frame). length gs) open_none)
    nothing_left (InFrame info payload) is open_none none =
        let begun = in_frame role limits scan came fs frames.at frames.rest h info payload is in
        let two = begins_two role limits fs frames.rest info begun.begins in
        absurd (omega (arith, two, ap (λ (bs : List ℕ). length bs) none))

    pub leaves_cut : (summary : Summary) → IsVerdict role limits came fs (Cut summary) → LeavesFrames
    leaves_cut summary judged =
        record {
          lawful = h.has_scanned.has_consumed.lawful;
          few_frames = few_open;
          sound = is_sound frames.at refl;
          left_over = record { frames = fs; verdict = Cut summary; is_verdict = judged; is = part_left frames.at refl judged.0.no_close summary };
        }

    pub leaves_accepted : (summary : Summary) → summary.close ≡ None → IsVerdict role limits came fs (Accepted summary) → LeavesFrames
    leaves_accepted summary open_close judged =
        record {
          lawful = h.has_scanned.has_consumed.lawful;
          few_frames = few_open;
          sound = is_sound frames.at refl;
          left_over = record { frames = fs; verdict = Accepted summary; is_verdict = judged; is = by judged.0.ends (ap (λ (s : Summary). s.close) judged.1) };
        }
      where
        by : Ends fs came → summary.close ≡ close_of fs → IsLeftOf role limits came fs (Accepted summary) (items_left fs frames.at frames.rest)
        by (inl ended) close_is =
            let none : frames.rest ≡ [] = append_cancel (stream fs) frames.rest [] (sym h.has_scanned.has_consumed.whole ∙ ended.2 ∙ sym (append-nil (stream fs))) in
            nothing_left frames.at refl ended.1 none ∙ sym (ap (λ (bs : List ℕ). items_of_bytes Tail (length (stream fs)) bs) (rest_of ∙ none))
        by (inr ended) close_is = let code = closed ended.0 in let both : Some code.0 ≡ None = sym code.1 ∙ sym close_is ∙ open_close in cc

    not_within : (info : HeadInfo) (payload : List ℕ) → frames.at ≡ InFrame info payload → Ends fs came → ⊥
    not_within info payload is (inl ended) =
        let begun = in_frame role limits scan came fs frames.at frames.rest h info payload is in
        let two = begins_two role limits fs frames.rest info begun.begins in
        let none : frames.rest ≡ [] = append_cancel (stream fs) frames.rest [] (sym h.has_scanned.has_consumed.whole ∙ ended.2 ∙ sym (append-nil (stream fs))) in
        omega (arith, two, ap (λ (bs : List ℕ). length bs) none)
    not_within info payload is (inr ended) =
        let begun = in_frame role limits scan came fs frames.at frames.rest h info payload is in
        begun.no_close ended.0.0 [] ended.0.1 ended.0.3 ended.0.2

    -- The tail is held.
    pub tail_held : (summary : Summary) → IsVerdict role limits came fs (Accepted summary) → HasFirst parts.rest frames.rest
    tail_held summary judged = subst (HasFirst parts.rest) (by frames.at refl) frames.keeps.frame.begun
      where
        by : (p : Position) → frames.at ≡ p → rest_at p frames.rest ≡ frames.rest
        by BetweenFrames is = refl
        by (InFrame info payload) is = absurd (not_within info payload is judged.0.ends)

    pub leaves_tail : (summary : Summary) (code : Option ℕ) → summary.close ≡ Some code → IsVerdict role limits came fs (Accepted summary)
        → IsLeftOver role limits came (items_of_bytes Tail (length (stream fs)) frames.rest)
    leaves_tail summary code close_is judged = record {
      frames = fs;
      verdict = Accepted summary;
      is_verdict = judged;
      is = ap (λ (bs : List ℕ). items_of_bytes Tail (length (stream fs)) bs) (sym rest_of);
    }
