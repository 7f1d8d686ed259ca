-- What one call of a scan says of the frames that it follows.
use Rattle.std.proofs.Common.{◌≡◌, ℕ, ◌+◌, ◌-◌, ◌<◌, ◌≤◌, ◌^◌, ◌⊎◌, true, false, not, Option, None, Some, List, [], ◌∷◌, ◌++◌, length, take, drop, inl, inr, refl, sym, ap, ◌∙◌, subst, arith, append-nil, append_assoc, length-append, length-drop}
use Rattle.std.specs.Prelude.{IsSome}
use Rattle.std.proofs.lemmas.Bool.{cases_Bool}
use Rattle.std.proofs.lemmas.List.{length-take, length-take-le, take_all}
use Rattle.wsn_wire.specs.declared.endpoint.Role.{Role}
use Rattle.wsn_wire.specs.declared.opcode.Op.TheVariants.{Text}
use Rattle.wsn_wire.specs.Frame.{Frame, first_byte, head_bytes, frame_bytes, is_control, opcode, wire_payload, stream}
use Rattle.wsn_wire.specs.ReceivedHead.{opcode_field}
use Rattle.wsn_wire.proofs.FrameLemmas.{first_byte_fields, length-wire_payload}
use Rattle.wsn_text.specs.Utf8.{BeginsText}
use Rattle.wsn_rules.specs.declared.head_info.HeadInfo.{HeadInfo}
use Rattle.wsn_rules.specs.declared.verdict.Refusal.{Refusal}
use Rattle.wsn_rules.specs.declared.verdict.Verdict.{Verdict}
use Rattle.wsn_rules.specs.Limits.{Limits}
use Rattle.wsn_rules.specs.AfterClose.{HasNoClose, EndsWithClose}
use Rattle.wsn_rules.specs.Evidence.{IsOfText, HasNoEvidence}
use Rattle.wsn_rules.specs.Group.{unfinished, first_op, payload_of}
use Rattle.wsn_rules.specs.BadCharacter.{payload_offset}
use Rattle.wsn_rules.specs.Heads.{heads_of, info_of, BeginsWithHead, IsBegun, AreHeads}
use Rattle.wsn_rules.specs.Lawful.{IsLawful}
use Rattle.wsn_rules.specs.ShownStream.{frame_so_far}
use Rattle.wsn_rules.specs.Verdict.{IsVerdict, IsUnrefused}
use Rattle.wsn_rules.proofs.Groups.{group_of_lawful}
use Rattle.wsn_rules.proofs.MessageText.{of_text_from_group, opcode_of_data, text_of_push}
use Rattle.wsn_rules.proofs.Prefixes.{append_cancel}
use Rattle.wsn_rules.proofs.Walk.{stream_push}
use Rattle.wsn_frame.specs.declared.payload_check.PayloadCheck.{PayloadCheck}
use Rattle.wsn_frame.specs.declared.payload_check.PayloadCheck.TheVariants as checks
use Rattle.wsn_frame.specs.PartialHeads.{info_at}
use Rattle.wsn_frame.specs.PayloadChecks.{HasChecked}
use Rattle.wsn_frame.specs.Payloads.{unmasked_by}
use Rattle.wsn_frame.proofs.HeadsAtOnce.{no_items}
use Rattle.wsn_frame.proofs.PayloadMore.{length-unmasked_by}
use Rattle.wsn_scan.specs.declared.part.Part.{Part}
use Rattle.wsn_scan.specs.declared.part.Taken.{Taken}
use Rattle.wsn_scan.specs.declared.part.Taken.TheVariants as taken
use Rattle.wsn_scan.specs.declared.stage.Stage.{Stage}
use Rattle.wsn_scan.specs.declared.stage.Stage.TheVariants as stages
use Rattle.wsn_scan.specs.declared.scan.Scan.{Scan}
use Rattle.wsn_scan.specs.Feeding.{HasScannedBytes}
use Rattle.wsn_scan.specs.FollowedScans.{HasFollowed, IsCall, IsTaken}
use Rattle.wsn_scan.specs.Parts.{IsPart, IsPartAt, Finds, Consumes}
use Rattle.wsn_scan.specs.Positions.{Position, BetweenFrames, InFrame, begun_at}
use Rattle.wsn_scan.specs.Scans.{HasScanned, IsAt, IsReachedBy, IsRefusedThere, refusal_in, refusal_at}
use Rattle.wsn_scan.proofs.FrameEnds.{unfinished_few}
use Rattle.wsn_scan.proofs.HeadsReported.{front_without_evidence, head_begins_at}
use Rattle.wsn_scan.proofs.HeadsSoFar.{heads_reported}
use Rattle.wsn_scan.proofs.Unrefused.{unrefused, not_refused, refused}

pub wire_payload_is : (key : Option (List ℕ)) (payload : List ℕ) → wire_payload key payload ≡ unmasked_by key 0 payload
wire_payload_is None payload = refl
wire_payload_is (Some key) payload = refl

-- All that is left after some bytes.
all_left : (k : ℕ) (bytes : List ℕ) → take (length bytes - k) (drop k bytes) ≡ drop k bytes
all_left k bytes = take_all (length bytes - k) (drop k bytes) (omega (arith, length-drop k bytes))

none_unless : (refusal : Option Refusal) → (IsSome refusal → ⊥) → refusal ≡ None
none_unless None other = refl
none_unless (Some refusal) other = absurd (other refl)

-- The payload so far of a text message begins text, if it was checked.
checked_text : (group : List Frame) (info : HeadInfo) (check : PayloadCheck) (payload : List ℕ) → HasChecked group (first_byte info.fin info.op) check payload → is_control info.op ≡ false
    → first_op (group ++ frame_so_far info payload ∷ []) ≡ Text → BeginsText (payload_of (group ++ frame_so_far info payload ∷ []))
checked_text group info check payload checked other text = subst BeginsText (sym (text_of_push group (frame_so_far info payload))) (by check checked)
  where
    field : opcode_field (first_byte info.fin info.op) ≡ opcode info.op
    field = (first_byte_fields info.fin info.op).opcode_is

    of_text : IsOfText group (opcode_field (first_byte info.fin info.op))
    of_text = subst (IsOfText group) (sym field) (of_text_from_group group (frame_so_far info payload) (ap not other) text)

    by : (check : PayloadCheck) → HasChecked group (first_byte info.fin info.op) check payload → BeginsText (payload_of group ++ payload)
    by checks.Free checked = absurd (checked.0 of_text)
    by (checks.Text utf8) checked = checked.2
    by (checks.Close body) checked = let small = opcode_of_data info.op (ap not other) in absurd (omega (arith, small, checked.0, field))

-- Where a part begins its frame, and where it doesn't.
pub begins_at : (at : Position) (part : Part) (before : List ℕ) → IsPartAt at part before → part.begins ≡ true → (at ≡ BetweenFrames) × (before ≡ [])
begins_at BetweenFrames part before is begins = (refl, is.1)
begins_at (InFrame head payload) part before is begins = let both : true ≡ false = sym begins ∙ is.0 in cc

pub goes_on_at : (at : Position) (part : Part) (before : List ℕ) → IsPartAt at part before → part.begins ≡ false → at ≡ InFrame part.head before
goes_on_at BetweenFrames part before is more = let both : true ≡ false = sym is.0 ∙ more in cc
goes_on_at (InFrame head payload) part before is more = λ i. InFrame (sym is.1 i) (sym is.2 i)

module _ (role : Role) (limits : Limits) where
  -- ---- where a scan is

  -- The heads after whole frames are those of the rest.
  begun_by : (bytes rest : List ℕ) (fs : List Frame) (begun : List HeadInfo) → bytes ≡ stream fs ++ rest → AreHeads role limits bytes fs (heads_of fs ++ begun) → IsBegun role limits fs rest begun
  begun_by bytes rest fs begun whole heads =
      let rest_is : heads.rest ≡ rest = append_cancel (stream fs) heads.rest rest (sym heads.whole ∙ whole) in
      let begun_is : heads.begun ≡ begun = append_cancel (heads_of fs) heads.begun begun (sym heads.all) in
      subst (λ (bs : List ℕ). IsBegun role limits fs bs begun) rest_is (subst (IsBegun role limits fs heads.rest) begun_is heads.is_begun)

  module _ (scan : Scan) (came : List ℕ) (done : List Frame) (at : Position) (rest : List ℕ) (h : HasFollowed role limits scan came done at rest) where
    -- the bytes are few
    pub few : length came ≤ 2 ^ 40
    few = let room = h.has_scanned.has_consumed.room in let input = h.has_scanned.has_consumed.in_range.input in omega (arith, room, input)

    pub lawful_done : IsLawful role limits done
    lawful_done = h.has_scanned.has_consumed.lawful

    pub whole_is : came ≡ stream done ++ rest
    whole_is = h.has_scanned.has_consumed.whole

    pub rest_few : length (stream done) + length rest ≡ length came
    rest_few = sym (ap (λ (bs : List ℕ). length bs) whole_is ∙ length-append (stream done) rest)

    pub room_within : length came ≤ limits.input
    room_within = let room = h.has_scanned.has_consumed.room in omega (arith, room)

    pub unrefused_so_far : IsUnrefused role limits came
    unrefused_so_far = unrefused role limits scan came (heads_of done ++ begun_at at) (record { frames = done; since = rest; position = at; has_scanned = h.has_scanned; heads_are = refl }) h.unrefused

    pub judged_so_far : (verdict : Verdict) × IsVerdict role limits came done verdict
    judged_so_far = not_refused role limits scan came rest done at h.has_scanned h.unrefused

    -- Bytes of a payload aren't many.
    pub few_open : length (payload_of (unfinished done)) ≤ 16777216
    few_open =
        let size = (group_of_lawful role limits done lawful_done).size in
        let most = h.has_scanned.has_consumed.in_range.message in
        omega (arith, size, most)

    heads : AreHeads role limits came done (heads_of done ++ begun_at at)
    heads = heads_reported role limits scan came rest done at h.has_scanned

    pub is_begun : IsBegun role limits done rest (begun_at at)
    is_begun = begun_by came rest done (begun_at at) whole_is heads

    -- The frame has begun, and this is all of its payload that came.
    pub record HasBegun (info : HeadInfo) (payload : List ℕ) : Type 0 where
      pub begins : BeginsWithHead role limits done rest info
      pub no_close : HasNoClose done
      pub payload_is : payload ≡ wire_payload info.key begins.following
      pub within : length payload ≤ info.len
      pub size : length begins.following ≡ length payload
      pub text : is_control info.op ≡ false → first_op (unfinished done ++ frame_so_far info payload ∷ []) ≡ Text
          → BeginsText (payload_of (unfinished done ++ frame_so_far info payload ∷ []))

    module _ (info : HeadInfo) (payload : List ℕ) (is : at ≡ InFrame info payload) where
      other : at ≡ BetweenFrames → HasBegun info payload
      other between = let both : BetweenFrames ≡ InFrame info payload = sym between ∙ is in absurd cc

      at_stage : (stage : Stage) → IsAt role limits stage came done rest at → refusal_at stage ≡ None → HasBegun info payload
      at_stage stages.Between there none = other there.2
      at_stage (stages.Head part) there none = other there.2
      at_stage (stages.Closed code) there none = other there.2
      at_stage (stages.Refused refusal) there none = absurd cc
      at_stage (stages.Payload inside) there none =
          let own : InFrame (info_at (length (stream done)) inside.head) there.1.0 ≡ InFrame info payload = sym there.1.2 ∙ is in
          let info_is : info_at (length (stream done)) inside.head ≡ info = cc in
          let part_is : there.1.0 ≡ payload = cc in
          let p = there.1.1 in
          let holds = p.holds in
          let key = inside.head.key in
          let none = front_without_evidence role limits (unfinished done) holds.head_bytes p.wire (subst (HasNoEvidence role limits (unfinished done)) holds.whole holds.has_no_evidence) in
          let found = head_begins_at role limits done inside.head holds.head_bytes p.wire rest holds.is_head none holds.whole in
          let size : length there.1.0 ≡ length p.wire = ap (λ (bs : List ℕ). length bs) p.unmasked ∙ length-unmasked_by key 0 p.wire in
          let short = p.short in
          let base : HasBegun (info_at (length (stream done)) inside.head) there.1.0 = record {
            begins = found.0;
            no_close = there.0;
            payload_is = p.unmasked ∙ ap (λ (bs : List ℕ). unmasked_by key 0 bs) (sym found.1) ∙ sym (wire_payload_is key found.0.following);
            within = omega (arith, size, short);
            size = ap (λ (bs : List ℕ). length bs) found.1 ∙ sym size;
            text = λ data_frame. checked_text (unfinished done) (info_at (length (stream done)) inside.head) inside.check there.1.0
                (subst (λ (bs : List ℕ). HasChecked (unfinished done) (first_byte inside.head.first.fin inside.head.first.op) inside.check bs) (sym p.unmasked) holds.checked) data_frame;
          } in
          subst (λ (i : HeadInfo). HasBegun i payload) info_is (subst (λ (bs : List ℕ). HasBegun (info_at (length (stream done)) inside.head) bs) part_is base)

      pub in_frame : HasBegun info payload
      in_frame = at_stage scan.stage h.has_scanned.is_at h.unrefused

      -- all its bytes: a head of this size, and the payload
      pub size_in_frame : length rest ≡ length (head_bytes info.fin info.op info.key info.form info.len) + length payload
      size_in_frame =
          let b = in_frame.begins in
          let size = in_frame.size in
          let whole : length rest ≡ length b.head + length b.following = ap (λ (bs : List ℕ). length bs) b.whole ∙ length-append b.head b.following in
          omega (arith, whole, size, ap (λ (bs : List ℕ). length bs) b.encoded)

    pub between : at ≡ BetweenFrames → EndsWithClose done ⊎ (HasNoClose done × ((info : HeadInfo) → BeginsWithHead role limits done rest info → ⊥))
    between is = by is_begun
      where
        by : IsBegun role limits done rest (begun_at at) → EndsWithClose done ⊎ (HasNoClose done × ((info : HeadInfo) → BeginsWithHead role limits done rest info → ⊥))
        by (inl closed) = inl closed.1
        by (inr (inl none)) = inr (none.1, none.2)
        by (inr (inr some)) = let both : some.1.0 ∷ [] ≡ [] = sym some.1.1 ∙ ap begun_at is in absurd cc

    -- the payload before a part
    pub before_few : (part : Part) (before : List ℕ) → IsPartAt at part before → length before ≤ length rest
    before_few part before is = by at refl is
      where
        by : (p : Position) → at ≡ p → IsPartAt p part before → length before ≤ length rest
        by BetweenFrames here is = omega (arith, ap (λ (bs : List ℕ). length bs) is.1)
        by (InFrame info payload) here is = omega (arith, size_in_frame info payload here, ap (λ (bs : List ℕ). length bs) is.2)

  -- ---- a call

  module _ (old new : Scan) (chunk after : List ℕ) (n : ℕ) (found : Taken) (part : Part) (came : List ℕ) (done : List Frame) (at : Position) (rest : List ℕ) (h : HasFollowed role limits old came done at rest) (call : IsCall old new chunk after n found part) where
    abbrev share : List ℕ
    share = take n chunk

    pub size_of_share : length share ≡ n
    size_of_share = length-take-le n chunk call.within

    pub reached : IsReachedBy role limits new (came ++ share) (Finds found part (drop part.start (take n after)) done at) × Consumes found part (length chunk) n
    reached = call.advances role limits came rest done at call.in_bytes h.has_scanned

    pub same_whole : stream done ++ (rest ++ share) ≡ stream reached.0.frames ++ reached.0.since
    same_whole = sym (append_assoc (stream done) rest share) ∙ ap (λ (bs : List ℕ). bs ++ share) (sym h.has_scanned.has_consumed.whole) ∙ reached.0.has_scanned.has_consumed.whole

    pub unrefused_by : (found ≡ taken.Refused → ⊥) → refusal_in new ≡ None
    unrefused_by other = none_unless (refusal_in new) (λ some. other (call.reported.0 some))

    pub follows : (found ≡ taken.Refused → ⊥) → HasFollowed role limits new (came ++ share) reached.0.frames reached.0.position reached.0.since
    follows other = record { has_scanned = reached.0.has_scanned; unrefused = unrefused_by other }

    pub few_more : length rest + n < 2 ^ 64
    few_more =
        let size = rest_few old came done at rest h in
        let most = few old came done at rest h in
        let room = call.room in
        let all = h.has_scanned.has_consumed.room in
        let input = h.has_scanned.has_consumed.in_range.input in
        omega (arith, size, most, room, all, input)

    -- The same frames, and the same position.
    module _ (frames : reached.0.frames ≡ done) (position : reached.0.position ≡ at) where
      since_is : reached.0.since ≡ rest ++ share
      since_is = sym (append_cancel (stream done) (rest ++ share) reached.0.since (same_whole ∙ ap (λ (fs : List Frame). stream fs ++ reached.0.since) frames))

      pub same_scanned : HasScanned role limits new (came ++ share) done (rest ++ share) at
      same_scanned =
          subst (λ (bs : List ℕ). HasScanned role limits new (came ++ share) done bs at) since_is
          (subst (λ (p : Position). HasScanned role limits new (came ++ share) done reached.0.since p) position
          (subst (λ (fs : List Frame). HasScanned role limits new (came ++ share) fs reached.0.since reached.0.position) frames reached.0.has_scanned))

      pub same_follows : (found ≡ taken.Refused → ⊥) → HasFollowed role limits new (came ++ share) done at (rest ++ share)
      same_follows other = record { has_scanned = same_scanned; unrefused = unrefused_by other }

      -- Within a frame each byte is of its payload.
      pub is_between : (found ≡ taken.Refused → ⊥) → 0 < n → at ≡ BetweenFrames
      is_between other some = by at refl
        where
          by : (p : Position) → at ≡ p → at ≡ BetweenFrames
          by BetweenFrames here = here
          by (InFrame info payload) here =
              let before = size_in_frame old came done at rest h info payload here in
              let now = size_in_frame new (came ++ share) done at (rest ++ share) (same_follows other) info payload here in
              absurd (omega (arith, before, now, length-append rest share, size_of_share, some))

  -- A part was taken.
  module _ (old new : Scan) (chunk after : List ℕ) (n : ℕ) (part : Part) (came : List ℕ) (done : List Frame) (at : Position) (rest : List ℕ) (h : HasFollowed role limits old came done at rest) (call : IsCall old new chunk after n taken.Part part) where
    pub reach : IsReachedBy role limits new (came ++ take n chunk) (IsPart done at part (drop part.start (take n after)))
    reach = (reached old new chunk after n taken.Part part came done at rest h call).0

    same_size : length (stream done) + (length rest + length (take n chunk)) ≡ length (stream reach.frames) + length reach.since
    unfolding reach reached
    same_size =
        let all = ap (λ (bs : List ℕ). length bs) (same_whole old new chunk after n taken.Part part came done at rest h call) in
        omega (arith, all, length-append (stream done) (rest ++ take n chunk), length-append rest (take n chunk), length-append (stream reach.frames) reach.since)

    abbrev payload : List ℕ
    payload = reach.found.before ++ drop part.start (take n after)

    -- The payload that was taken is at the end of the bytes.
    payload_at_end : (part.ends ≡ true → reach.since ≡ []) → payload_offset part.head + length payload ≡ length (stream done) + (length rest + length (take n chunk))
    unfolding reach reached
    payload_at_end no_rest =
        elim (cases_Bool part.ends) [
          | inl ends ↦ at_frame_end (reach.found.goes_on.ends ends) (no_rest ends)
          | inr within ↦ in_the_frame (reach.found.goes_on.within within)
        ]
      where
        at_frame_end : ((frame : Frame) × (part.head ≡ info_of (length (stream done)) frame) × (frame.payload ≡ payload) × (reach.frames ≡ done ++ frame ∷ []) × (reach.position ≡ BetweenFrames)) → reach.since ≡ []
            → payload_offset part.head + length payload ≡ length (stream done) + (length rest + length (take n chunk))
        at_frame_end (frame, head_is, payload_is, frames_are, there) none =
            let head : payload_offset part.head ≡ payload_offset (info_of (length (stream done)) frame) = ap payload_offset head_is in
            let size : length payload ≡ length frame.payload = ap (λ (bs : List ℕ). length bs) (sym payload_is) in
            let own = length-append (head_bytes frame.fin frame.op frame.key frame.form (length frame.payload)) (wire_payload frame.key frame.payload) in
            let wire = length-wire_payload frame.key frame.payload in
            let all : length (stream reach.frames) ≡ length (stream done) + length (frame_bytes frame) =
            ap (λ (gs : List Frame). length (stream gs)) frames_are ∙ ap (λ (bs : List ℕ). length bs) (stream_push done frame) ∙ length-append (stream done) (frame_bytes frame) in
            omega (arith, head, size, own, wire, all, same_size, ap (λ (bs : List ℕ). length bs) none)

        in_the_frame : (reach.frames ≡ done) × (reach.position ≡ InFrame part.head payload) → payload_offset part.head + length payload ≡ length (stream done) + (length rest + length (take n chunk))
        in_the_frame g =
            let now = follows old new chunk after n taken.Part part came done at rest h call (λ same. cc) in
            let all = came ++ take n chunk in
            let size = size_in_frame new all reach.frames reach.position reach.since now part.head payload g.1 in
            let offset = (in_frame new all reach.frames reach.position reach.since now part.head payload g.1).begins.offset in
            omega (arith, size, offset, same_size, ap (λ (gs : List Frame). length (stream gs)) g.0)

    taken_whole : IsTaken role limits done rest reach.found.before part (drop part.start (take n after)) (take n chunk) reach.frames reach.position reach.since
    unfolding reach reached
    taken_whole =
        let consumed = reach.has_scanned.has_consumed in
        let size = rest_few old came done at rest h in
        let most = few old came done at rest h in
        let own = size_of_share old new chunk after n taken.Part part came done at rest h call in
        let more = few_more old new chunk after n taken.Part part came done at rest h call in
        let open_few = few_open old came done at rest h in
        let before = before_few old came done at rest h part reach.found.before reach.found.is_at in
        let room = call.room in
        let all = h.has_scanned.has_consumed.room in
        let input = h.has_scanned.has_consumed.in_range.input in
        let no_rest : part.ends ≡ true → reach.since ≡ [] = λ ends.
        let used = call.whole refl ends in
        let is_used = consumed.used in
        let now = consumed.room in
        let limit : new.context.limits.input ≡ limits.input = ap (λ (l : Limits). l.input) consumed.under in
        no_items reach.since (omega (arith, used, is_used, now, limit, ap (λ (bs : List ℕ). length bs) consumed.whole, length-append (stream reach.frames) reach.since)) in
        record {
          goes_on = reach.found.goes_on;
          lawful = consumed.lawful;
          whole = same_whole old new chunk after n taken.Part part came done at rest h call;
          no_rest = no_rest;
          sized = payload_at_end no_rest;
          small = omega (arith, size, most, own, room, all, input);
          few_frames = omega (arith, unfinished_few done, size, most);
          few_bytes = omega (arith, open_few, before, size, most, length-drop part.start (take n after), length-take n after, room, all, input);
        }

    -- all bytes after the first `start` are passed on
    pub part_taken : IsTaken role limits done rest reach.found.before part (take (length (take n after) - part.start) (drop part.start (take n after))) (take n chunk) reach.frames reach.position reach.since
    part_taken =
        subst (λ (bs : List ℕ). IsTaken role limits done rest reach.found.before part bs (take n chunk) reach.frames reach.position reach.since) (sym (all_left part.start (take n after))) taken_whole

    pub part_follows : HasFollowed role limits new (came ++ take n chunk) reach.frames reach.position reach.since
    unfolding reach reached
    part_follows = follows old new chunk after n taken.Part part came done at rest h call (λ same. cc)

  -- ---- a refusal

  module _ (old new : Scan) (chunk after : List ℕ) (n : ℕ) (part : Part) (came : List ℕ) (done : List Frame) (at : Position) (rest : List ℕ) (h : HasFollowed role limits old came done at rest) (refusal : Refusal) (is : refusal_in new ≡ Some refusal)
      (call : IsCall old new chunk after n taken.Refused part) where
    abbrev all : List ℕ
    all = came ++ take n chunk

    abbrev longer : List ℕ
    longer = rest ++ take n chunk

    pub refused_there : (scanned : HasScanned role limits new all done longer at) × IsRefusedThere role limits refusal all done at
    refused_there =
        let r = reached old new chunk after n taken.Refused part came done at rest h call in
        let there = same_scanned old new chunk after n taken.Refused part came done at rest h call r.0.found.0 r.0.found.1 in
        let scanned : HasScannedBytes role limits new all (heads_of done ++ begun_at at) = record { frames = done; since = longer; position = at; has_scanned = there; heads_are = refl } in
        (there, refused role limits new all (heads_of done ++ begun_at at) refusal scanned is)

    pub refused_begun : IsBegun role limits done longer (begun_at at)
    refused_begun =
        begun_by all longer done (begun_at at) refused_there.0.has_consumed.whole
        (subst (λ (bs : List ℕ). AreHeads role limits bs done (heads_of done ++ begun_at at)) (append-nil all) (refused_there.1.heads []))
