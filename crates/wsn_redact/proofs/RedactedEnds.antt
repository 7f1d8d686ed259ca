-- What was written is the redaction of the bytes that came: where they are refused, after that, and where they end.
use Rattle.std.proofs.Common.{◌≡◌, ℕ, ◌+◌, ◌<◌, ◌⊎◌, Bool, true, false, None, Some, List, [], ◌∷◌, ◌++◌, length, take, drop, inl, inr, refl, sym, ap, ◌∙◌, subst, append-nil, append_assoc, length-append, arith}
use Rattle.std.proofs.lemmas.Bool.{cases_lt}
use Rattle.std.proofs.lemmas.List.{take_all, drop_at, take-append-le, length-take-le}
use Rattle.wsn_wire.specs.declared.endpoint.Role.{Role}
use Rattle.wsn_wire.specs.declared.opcode.Op.{Op}
use Rattle.wsn_wire.specs.declared.opcode.Op.TheVariants.{Text, Close, Ping, Pong}
use Rattle.wsn_wire.specs.Frame.{Frame, first_byte, is_control, wire_payload, stream}
use Rattle.wsn_wire.proofs.FrameLemmas.{first_byte_fields}
use Rattle.wsn_text.specs.Utf8.{BeginsText}
use Rattle.wsn_text.proofs.Prefixes.{begins-nil}
use Rattle.wsn_frame.specs.Payloads.{unmasked_by}
use Rattle.wsn_frame.specs.PartialHeads.{info_at}
use Rattle.wsn_frame.specs.PayloadChecks.{HasChecked, IsBody}
use Rattle.wsn_frame.specs.declared.payload_check.PayloadCheck.{PayloadCheck}
use Rattle.wsn_frame.specs.declared.payload_check.PayloadCheck.TheVariants as checks
use Rattle.wsn_frame.specs.declared.payload_check.CloseBody.{CloseBody}
use Rattle.wsn_frame.specs.declared.payload_check.CloseBody.TheVariants as bodies
use Rattle.wsn_frame.proofs.HeadsAtOnce.{no_items}
use Rattle.wsn_frame.proofs.PayloadMore.{unmasked_by-joined}
use Rattle.wsn_rules.specs.declared.head_info.HeadInfo.{HeadInfo}
use Rattle.wsn_rules.specs.declared.verdict.Refusal.{Refusal}
use Rattle.wsn_rules.specs.declared.verdict.Verdict.{Verdict}
use Rattle.wsn_rules.specs.declared.verdict.Verdict.TheVariants.{Accepted, Cut, Refused}
use Rattle.wsn_rules.specs.Limits.{Limits}
use Rattle.wsn_rules.specs.AfterClose.{HasNoClose, EndsWithClose}
use Rattle.wsn_rules.specs.Evidence.{Evidence, EvidentByPayload, IsOfText}
use Rattle.wsn_rules.specs.Group.{unfinished, first_op, payload_of}
use Rattle.wsn_rules.specs.Heads.{BeginsWithHead, IsBegun}
use Rattle.wsn_rules.specs.ShownStream.{frame_so_far}
use Rattle.wsn_rules.specs.Verdict.{IsRefused, IsVerdict, judged_bytes}
use Rattle.wsn_rules.proofs.HeadsGoOn.{begins_longer}
use Rattle.wsn_rules.proofs.MessageText.{text_of_push}
use Rattle.wsn_rules.proofs.Prefixes.{append_cancel}
use Rattle.wsn_scan.specs.declared.part.Part.{Part}
use Rattle.wsn_scan.specs.declared.part.Taken.TheVariants as taken
use Rattle.wsn_scan.specs.declared.scan.Scan.{Scan}
use Rattle.wsn_scan.specs.declared.stage.Stage.{Stage}
use Rattle.wsn_scan.specs.declared.stage.Stage.TheVariants as stages
use Rattle.wsn_scan.specs.FollowedScans.{IsCall}
use Rattle.wsn_scan.specs.Parts.{unmasked_at}
use Rattle.wsn_scan.specs.Positions.{Position, BetweenFrames, InFrame, begun_at}
use Rattle.wsn_scan.specs.Scans.{HasScanned, IsAt, IsRefusedThere, refusal_in, refusal_at}
use Rattle.wsn_scan.proofs.FollowedScans.{wire_payload_is, lawful_done, whole_is, unrefused_so_far, in_frame, between, refused_there, refused_begun}
use Rattle.wsn_redact.specs.declared.redacted_payload.Redactor.{Redactor}
use Rattle.wsn_redact.specs.Redaction.{zeros_for, is_text, is_of_text, IsRedactedPayload, IsRedactedRest, unjudged, IsRedactionAt, redacted_payload, redacted_frames}
use Rattle.wsn_redact.specs.RedactedParts.{RefusesPart, KeepsAt, IsRestWritten, IsRedacting, HasRefused, IsBadReason, refused_part}
use Rattle.wsn_redact.proofs.RedactedPayloads.{HasText, zeros-append, payload_is, are_redacted, length-redacted_payload}
use Rattle.wsn_redact.proofs.KeptParts.{text_of_group}
use Rattle.wsn_redact.proofs.RedactedSteps.{may_begun, head_of}
use Rattle.wsn_redact.proofs.RefusedEvidence.{in_payload, refused_payload}

pub last_of : (bytes : List ℕ) → 0 < length bytes → (front : List ℕ) × (last : ℕ) × (bytes ≡ front ++ last ∷ [])
last_of [] some = absurd (omega (arith, some))
last_of (b ∷ []) some = ([], b, refl)
last_of (b ∷ c ∷ bytes) some = let rest = last_of (c ∷ bytes) (omega arith) in (b ∷ rest.0, rest.1, ap (λ (bs : List ℕ). b ∷ bs) rest.2)

pub is_text_first : (op : Op) → is_text op ≡ true → op ≡ Text
is_text_first Text is = refl
is_text_first _ is = absurd cc

module _ (role : Role) (limits : Limits) where
  -- ---- a refusal

  -- The offending byte is one of the call's.
  pub refused_some : (old new : Scan) (chunk after : List ℕ) (n : ℕ) (part : Part) (came : List ℕ) (kept : Redactor) (written : List ℕ) (h : IsRedacting role limits old kept came written) (refusal : Refusal) → refusal_in new ≡ Some refusal
      → IsCall old new chunk after n taken.Refused part → 0 < n
  refused_some old new chunk after n part came kept written h refusal is call = elim (cases_lt 0 n) [
    | inl more ↦ more
    | inr none ↦
        let there = refused_there role limits old new chunk after n part came h.frames h.position h.rest h.followed refusal is call in
        let count : n ≡ 0 = omega (arith, none) in
        let same : (came ++ take n chunk) ++ [] ≡ came = append-nil (came ++ take n chunk) ∙ ap (λ (m : ℕ). came ++ take m chunk) count ∙ append-nil came in
        absurd (unrefused_so_far role limits old came h.frames h.position h.rest h.followed h.frames refusal.offset refusal.reason (subst (λ (bs : List ℕ). IsRefused role limits bs h.frames refusal.offset refusal.reason) same (there.1.refused [])))
  ]

  module _ (old new : Scan) (chunk after : List ℕ) (n : ℕ) (part : Part) (came : List ℕ) (kept : Redactor) (written : List ℕ) (h : IsRedacting role limits old kept came written) (refusal : Refusal) (is : refusal_in new ≡ Some refusal)
      (call : IsCall old new chunk after n taken.Refused part) (sized : length after ≡ length chunk) (final : List ℕ) (outside : kept.inside ≡ false → final ≡ take n after) (inside : kept.inside ≡ true → RefusesPart kept refusal.reason (take n after) final) where
    abbrev share : List ℕ
    share = take n chunk

    abbrev longer : List ℕ
    longer = h.rest ++ take n chunk

    reaches : (scanned : HasScanned role limits new (came ++ share) h.frames longer h.position) × IsRefusedThere role limits refusal (came ++ share) h.frames h.position
    reaches = refused_there role limits old new chunk after n part came h.frames h.position h.rest h.followed refusal is call

    begun : IsBegun role limits h.frames longer (begun_at h.position)
    begun = refused_begun role limits old new chunk after n part came h.frames h.position h.rest h.followed refusal is call

    unmasked : take n after ≡ unmasked_at h.position share
    unmasked = call.refused refl role limits came h.rest h.frames h.position h.followed.has_scanned

    none_after : came ++ share ≡ (came ++ share) ++ []
    none_after = sym (append-nil (came ++ share))

    refused_here : IsRefused role limits (came ++ share) h.frames refusal.offset refusal.reason
    refused_here = subst (λ (bs : List ℕ). IsRefused role limits bs h.frames refusal.offset refusal.reason) (append-nil (came ++ share)) (reaches.1.refused [])

    some : 0 < n
    some = refused_some old new chunk after n part came kept written h refusal is call

    size_of_share : length share ≡ n
    size_of_share = length-take-le n chunk call.within

    whole_rest : came ++ share ≡ stream h.frames ++ longer
    whole_rest = ap (λ (bs : List ℕ). bs ++ share) (whole_is role limits old came h.frames h.position h.rest h.followed) ∙ append_assoc (stream h.frames) h.rest share

    -- The evidence is all of the bytes after the frames.
    seen_is : refused_here.is_evident.seen ≡ longer
    seen_is =
        let e = refused_here.is_evident in
        let offset = reaches.1.offset in
        let at = e.at_offset in
        let same : e.seen ++ e.later ≡ longer = append_cancel (stream h.frames) (e.seen ++ e.later) longer (sym e.whole ∙ whole_rest) in
        let size = ap (λ (bs : List ℕ). length bs) whole_rest ∙ length-append (stream h.frames) longer in
        let sum = ap (λ (bs : List ℕ). length bs) same in
        let none : e.later ≡ [] = no_items e.later (omega (arith, offset, at, size, sum, length-append e.seen e.later)) in
        sym (append-nil e.seen) ∙ ap (λ (bs : List ℕ). e.seen ++ bs) (sym none) ∙ same

    in_the_frame : (info : HeadInfo) (payload : List ℕ) → h.position ≡ InFrame info payload → IsRedactedRest role limits h.frames longer (h.rest_written ++ final)
    unfolding begins_longer
    in_the_frame info payload here =
        let own = in_frame role limits old came h.frames h.position h.rest h.followed info payload here in
        let b = begins_longer role limits h.frames h.rest share info own.begins in
        let following = own.begins.following in
        let size = own.size in
        let k = subst (KeepsAt kept h.frames) here h.keeps in
        let evidence = take n after in
        let same : evidence ≡ unmasked_by info.key (length following) share = unmasked ∙ ap (λ (p : Position). unmasked_at p share) here ∙ ap (λ (m : ℕ). unmasked_by info.key m share) (sym size) in
        let payload_whole : wire_payload info.key (following ++ share) ≡ payload ++ evidence =
        sym ((λ i. (own.payload_is ∙ wire_payload_is info.key following) i ++ same i) ∙ sym (unmasked_by-joined info.key following share) ∙ sym (wire_payload_is info.key (following ++ share))) in
        let within = call.within in
        let count : length evidence ≡ n = length-take-le n after (omega (arith, sized, within)) in
        let last = last_of evidence (omega (arith, count, some)) in
        let says = inside k.0 last.0 last.1 last.2 in
        let may = may_begun role limits h.frames h.rest info own.begins in
        let more : 0 < length (following ++ share) = omega (arith, size_of_share, some, length-append following share) in
        let evident = in_payload role limits h.frames longer info b more refusal.reason (subst (Evidence role limits (unfinished h.frames) refusal.reason) seen_is refused_here.is_evident.evidence) in
        let evident_whole = subst (λ (bs : List ℕ). EvidentByPayload (unfinished h.frames) refusal.reason (first_byte info.fin info.op) info.len bs) (payload_whole ∙ ap (λ (bs : List ℕ). payload ++ bs) last.2) evident in
        let bad = says.0 in
        let wrong = says.2.0 in
        let is_bad : IsBadReason kept info.op (last.0 ++ last.1 ∷ []) bad = subst (λ (o : Op). IsBadReason kept o (last.0 ++ last.1 ∷ []) bad) k.1 (subst (λ (bs : List ℕ). IsBadReason kept kept.op bs bad) last.2 says.1) in
        let part_written = redacted_payload (unfinished h.frames) info.op payload ++ refused_part kept wrong last.0 last.1 in
        let it : IsRedactedPayload (unfinished h.frames) info.op (payload ++ (last.0 ++ last.1 ∷ [])) part_written =
        refused_payload kept (unfinished h.frames) info.op payload last.0 last.1 bad wrong refusal.reason may k.1 k.3 k.4 is_bad says.2.1 info.fin info.len refusal.reason refl evident_whole in
        let offset : kept.done ≡ length (redacted_payload (unfinished h.frames) info.op payload) = k.3 ∙ sym (length-redacted_payload (unfinished h.frames) info.op payload) in
        let head_written = subst (λ (q : Position). IsRestWritten h.frames h.rest q h.rest_written) here h.is_rest in
        let final_is : final ≡ unmasked_by info.key (length (redacted_payload (unfinished h.frames) info.op payload)) (refused_part kept wrong last.0 last.1) =
        says.2.2 ∙ (λ i. unmasked_by (k.2 i) (offset i) (refused_part kept wrong last.0 last.1)) in
        inr (inr (
          own.no_close,
          record {
            info = info;
            begins = b;
            part = part_written;
            is_part = subst (λ (bs : List ℕ). IsRedactedPayload (unfinished h.frames) info.op bs part_written) (sym (payload_whole ∙ ap (λ (bs : List ℕ). payload ++ bs) last.2)) it;
            redacted_is =
                (λ i. head_written i ++ final_is i)
                ∙ append_assoc (head_of info) (wire_payload info.key (redacted_payload (unfinished h.frames) info.op payload)) (unmasked_by info.key (length (redacted_payload (unfinished h.frames) info.op payload)) (refused_part kept wrong last.0 last.1))
                ∙ (λ i. sym own.begins.encoded i ++ (wire_payload_is info.key (redacted_payload (unfinished h.frames) info.op payload) i ++ unmasked_by info.key (length (redacted_payload (unfinished h.frames) info.op payload)) (refused_part kept wrong last.0 last.1)))
                ∙ ap (λ (bs : List ℕ). own.begins.head ++ bs) (sym (wire_payload_is info.key part_written ∙ unmasked_by-joined info.key (redacted_payload (unfinished h.frames) info.op payload) (refused_part kept wrong last.0 last.1)));
          },
        ))

    between_frames : h.position ≡ BetweenFrames → IsRedactedRest role limits h.frames longer (h.rest_written ++ final)
    between_frames here =
        let k = subst (KeepsAt kept h.frames) here h.keeps in
        let same : final ≡ share = outside k.0 ∙ unmasked ∙ ap (λ (p : Position). unmasked_at p share) here in
        let no_close = refused_here.no_close in
        let head : h.rest_written ≡ h.rest = elim (subst (λ (q : Position). IsRestWritten h.frames h.rest q h.rest_written) here h.is_rest) [
          | inl closed ↦ let ends = closed.0 in absurd (no_close ends.0 [] ends.1 ends.3 ends.2)
          | inr none ↦ none.1
        ] in
        by head same begun
      where
        by : h.rest_written ≡ h.rest → final ≡ share → IsBegun role limits h.frames longer (begun_at h.position) → IsRedactedRest role limits h.frames longer (h.rest_written ++ final)
        by head same (inl closed) = let ends = closed.1 in absurd (refused_here.no_close ends.0 [] ends.1 ends.3 ends.2)
        by head same (inr (inl none)) = inr (inl (none.1, none.2, λ i. head i ++ same i))
        by head same (inr (inr one)) = let both : one.1.0 ∷ [] ≡ [] = sym one.1.1 ∙ ap begun_at here in absurd cc

    rest_is : (p : Position) → h.position ≡ p → IsRedactedRest role limits h.frames longer (h.rest_written ++ final)
    rest_is BetweenFrames here = between_frames here
    rest_is (InFrame info payload) here = in_the_frame info payload here

    pub refused_step : HasRefused role limits new (came ++ share) (written ++ final)
    refused_step = record {
      refusal = refusal;
      reported = is;
      frames = h.frames;
      position = h.position;
      rest = longer;
      seen = came ++ share;
      later = [];
      came_is = none_after;
      has_scanned = reaches.0;
      refused = reaches.1.refused;
      seen_written = written ++ final;
      written_is = sym (append-nil (written ++ final));
      is_redaction = λ more. at_more more;
    }
      where
        at_more : (more : List ℕ) → IsRedactionAt role limits ((came ++ share) ++ more) h.frames (Refused refusal) ((written ++ final) ++ zeros_for more)
        at_more more =
            let offset = reaches.1.offset in
            let all = came ++ share in
            let front : take (refusal.offset + 1) (all ++ more) ≡ all = take-append-le (refusal.offset + 1) all more (omega (arith, offset)) ∙ take_all (refusal.offset + 1) all (omega (arith, offset)) in
            let rest : drop (length (stream h.frames)) (take (refusal.offset + 1) (all ++ more)) ≡ longer =
            ap (λ (bs : List ℕ). drop (length (stream h.frames)) bs) (front ∙ whole_rest) ∙ drop_at (stream h.frames) longer (length (stream h.frames)) refl in
            let end : drop (refusal.offset + 1) (all ++ more) ≡ more = drop_at all more (refusal.offset + 1) (sym offset) in
            record {
              frames = redacted_frames [] h.frames;
              are_frames = are_redacted role limits [] h.frames (lawful_done role limits old came h.frames h.position h.rest h.followed);
              rest = h.rest_written ++ final;
              is_rest = subst (λ (bs : List ℕ). IsRedactedRest role limits h.frames bs (h.rest_written ++ final)) (sym rest) (rest_is h.position refl);
              whole =
                  ap (λ (bs : List ℕ). bs ++ zeros_for more) (ap (λ (bs : List ℕ). bs ++ final) h.whole ∙ append_assoc (stream (redacted_frames [] h.frames)) h.rest_written final)
                  ∙ append_assoc (stream (redacted_frames [] h.frames)) (h.rest_written ++ final) (zeros_for more)
                  ∙ ap (λ (bs : List ℕ). stream (redacted_frames [] h.frames) ++ ((h.rest_written ++ final) ++ zeros_for bs)) (sym end);
            }

  -- More bytes come after a refusal.
  pub refused_on : (scan : Scan) (came written chunk : List ℕ) → HasRefused role limits scan came written → HasRefused role limits scan (came ++ chunk) (written ++ zeros_for chunk)
  refused_on scan came written chunk h = record {
    refusal = h.refusal;
    reported = h.reported;
    frames = h.frames;
    position = h.position;
    rest = h.rest;
    seen = h.seen;
    later = h.later ++ chunk;
    came_is = ap (λ (bs : List ℕ). bs ++ chunk) h.came_is ∙ append_assoc h.seen h.later chunk;
    has_scanned = h.has_scanned;
    refused = h.refused;
    seen_written = h.seen_written;
    written_is = ap (λ (bs : List ℕ). bs ++ zeros_for chunk) h.written_is ∙ append_assoc h.seen_written (zeros_for h.later) (zeros_for chunk) ∙ ap (λ (bs : List ℕ). h.seen_written ++ bs) (sym (zeros-append h.later chunk));
    is_redaction = h.is_redaction;
  }

  -- ---- the end

  module _ (scan : Scan) (kept : Redactor) (came written : List ℕ) (h : IsRedacting role limits scan kept came written) where
    -- A Close's reason so far begins text.
    body_begins : (body : CloseBody) (payload : List ℕ) → IsBody body payload → BeginsText (drop 2 payload)
    body_begins bodies.Empty payload is = subst BeginsText (sym (ap (λ (bs : List ℕ). drop 2 bs) is)) begins-nil
    body_begins (bodies.HalfCode b) payload is = subst BeginsText (sym (ap (λ (bs : List ℕ). drop 2 bs) is)) begins-nil
    body_begins (bodies.Code code reason) payload is = subst BeginsText (sym (ap (λ (bs : List ℕ). drop 2 bs) is.1)) is.5

    checked_begins : (group : List Frame) (fin : Bool) (check : PayloadCheck) (payload : List ℕ) → HasChecked group (first_byte fin Close) check payload → BeginsText (drop 2 payload)
    checked_begins group fin checks.Free payload checked = absurd (checked.1 ((first_byte_fields fin Close).opcode_is))
    checked_begins group fin (checks.Text utf8) payload checked = absurd (not_of_text group (subst (IsOfText group) (first_byte_fields fin Close).opcode_is checked.0))
      where
        not_of_text : (gs : List Frame) → IsOfText gs 8 → ⊥
        not_of_text [] is = omega (arith, is)
        not_of_text (g ∷ gs) is = let few = is.0 in omega (arith, few)
    checked_begins group fin (checks.Close body) payload checked = body_begins body payload checked.1

    close_begins : (info : HeadInfo) (payload : List ℕ) → h.position ≡ InFrame info payload → info.op ≡ Close → BeginsText (drop 2 payload)
    close_begins info payload here closes = at_stage scan.stage h.followed.has_scanned.is_at h.followed.unrefused
      where
        other : h.position ≡ BetweenFrames → BeginsText (drop 2 payload)
        other between_them = let both : BetweenFrames ≡ InFrame info payload = sym between_them ∙ here in absurd cc

        at_stage : (stage : Stage) → IsAt role limits stage came h.frames h.rest h.position → refusal_at stage ≡ None → BeginsText (drop 2 payload)
        at_stage stages.Between there none = other there.2
        at_stage (stages.Head part) there none = other there.2
        at_stage (stages.Closed code) there none = other there.2
        at_stage (stages.Refused refusal) there none = absurd cc
        at_stage (stages.Payload inside) there none =
            let own : InFrame (info_at (length (stream h.frames)) inside.head) there.1.0 ≡ InFrame info payload = sym there.1.2 ∙ here in
            let info_is : info_at (length (stream h.frames)) inside.head ≡ info = cc in
            let part_is : there.1.0 ≡ payload = cc in
            let p = there.1.1 in
            let op_is : inside.head.first.op ≡ Close = ap (λ (i : HeadInfo). i.op) info_is ∙ closes in
            let checked = subst (λ (bs : List ℕ). HasChecked (unfinished h.frames) (first_byte inside.head.first.fin inside.head.first.op) inside.check bs) (sym p.unmasked ∙ part_is) p.holds.checked in
            checked_begins (unfinished h.frames) inside.head.first.fin inside.check payload (subst (λ (o : Op). HasChecked (unfinished h.frames) (first_byte inside.head.first.fin o) inside.check payload) op_is checked)

    has_text : (info : HeadInfo) (payload : List ℕ) → h.position ≡ InFrame info payload → HasText (unfinished h.frames) info.op payload
    has_text info payload here = by info.op refl
      where
        text : is_control info.op ≡ false → is_of_text (unfinished h.frames) info.op ≡ true → BeginsText (payload_of (unfinished h.frames) ++ payload)
        text data_frame of_text =
            let own = in_frame role limits scan came h.frames h.position h.rest h.followed info payload here in
            let may = may_begun role limits h.frames h.rest info own.begins in
            subst BeginsText (text_of_push (unfinished h.frames) (frame_so_far info payload)) (own.text data_frame (is_text_first (first_op (unfinished h.frames ++ frame_so_far info payload ∷ [])) (text_of_group (unfinished h.frames) (frame_so_far info payload) may data_frame ∙ of_text)))

        by : (op : Op) → info.op ≡ op → HasText (unfinished h.frames) op payload
        by Close is = close_begins info payload here is
        by Ping is = λ t. absurd cc
        by Pong is = λ t. absurd cc
        by _ is = λ t. text (ap is_control is) (ap (λ (o : Op). is_of_text (unfinished h.frames) o) is ∙ t)

    rest_ends : (p : Position) → h.position ≡ p → IsRedactedRest role limits h.frames h.rest h.rest_written
    rest_ends BetweenFrames here = by (subst (λ (q : Position). IsRestWritten h.frames h.rest q h.rest_written) here h.is_rest) (between role limits scan came h.frames h.position h.rest h.followed here)
      where
        by : IsRestWritten h.frames h.rest BetweenFrames h.rest_written → EndsWithClose h.frames ⊎ (HasNoClose h.frames × ((info : HeadInfo) → BeginsWithHead role limits h.frames h.rest info → ⊥)) → IsRedactedRest role limits h.frames h.rest h.rest_written
        by (inl closed) there = inl closed
        by (inr none) (inl ends) = absurd (none.0 ends.0 [] ends.1 ends.3 ends.2)
        by (inr none) (inr nothing) = inr (inl (none.0, nothing.1, none.1))
    rest_ends (InFrame info payload) here =
        let own = in_frame role limits scan came h.frames h.position h.rest h.followed info payload here in
        inr (inr (
          own.no_close,
          record {
            info = info;
            begins = own.begins;
            part = redacted_payload (unfinished h.frames) info.op payload;
            is_part = subst (λ (bs : List ℕ). IsRedactedPayload (unfinished h.frames) info.op bs (redacted_payload (unfinished h.frames) info.op payload)) own.payload_is (payload_is (unfinished h.frames) info.op payload (has_text info payload here));
            redacted_is = subst (λ (q : Position). IsRestWritten h.frames h.rest q h.rest_written) here h.is_rest ∙ ap (λ (bs : List ℕ). bs ++ wire_payload info.key (redacted_payload (unfinished h.frames) info.op payload)) (sym own.begins.encoded);
          },
        ))

    pub redacting_ends : (v : Verdict) → IsVerdict role limits came h.frames v → IsRedactionAt role limits came h.frames v written
    redacting_ends v is = record {
      frames = redacted_frames [] h.frames;
      are_frames = are_redacted role limits [] h.frames (lawful_done role limits scan came h.frames h.position h.rest h.followed);
      rest = h.rest_written;
      is_rest = subst (λ (bs : List ℕ). IsRedactedRest role limits h.frames bs h.rest_written) (sym rest) (rest_ends h.position refl);
      whole = h.whole ∙ ap (λ (bs : List ℕ). stream (redacted_frames [] h.frames) ++ bs) (sym (append-nil h.rest_written)) ∙ ap (λ (bs : List ℕ). stream (redacted_frames [] h.frames) ++ (h.rest_written ++ zeros_for bs)) (sym (all v is).1);
    }
      where
        all : (w : Verdict) → IsVerdict role limits came h.frames w → (judged_bytes w came ≡ came) × (unjudged w came ≡ [])
        all (Accepted s) is_w = (refl, refl)
        all (Cut s) is_w = (refl, refl)
        all (Refused r) is_w = absurd (unrefused_so_far role limits scan came h.frames h.position h.rest h.followed h.frames r.offset r.reason is_w)

        rest : drop (length (stream h.frames)) (judged_bytes v came) ≡ h.rest
        rest = ap (λ (bs : List ℕ). drop (length (stream h.frames)) bs) ((all v is).0 ∙ whole_is role limits scan came h.frames h.position h.rest h.followed) ∙ drop_at (stream h.frames) h.rest (length (stream h.frames)) refl
