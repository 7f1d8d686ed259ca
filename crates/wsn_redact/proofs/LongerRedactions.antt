-- The redaction of a longer stream continues that of the shorter one.
use Rattle.std.proofs.Common.{◌≡◌, ℕ, ◌+◌, ◌-◌, ◌≤◌, List, [], ◌∷◌, ◌++◌, length, take, drop, inl, inr, refl, sym, ap, ◌∙◌, subst, append-nil, append_assoc, length-append, take-append-drop, arith}
use Rattle.std.proofs.lemmas.Bool.{cases_lt}
use Rattle.std.proofs.lemmas.List.{take_all, take_at, drop_at, take-append-le, drop-append-le}
use Rattle.wsn_wire.specs.declared.endpoint.Role.{Role}
use Rattle.wsn_wire.specs.Frame.{Frame, head_bytes, frame_bytes, stream, wire_payload}
use Rattle.wsn_wire.proofs.FrameLemmas.{length-wire_payload, wire_payload_twice}
use Rattle.wsn_rules.specs.declared.head_info.HeadInfo.{HeadInfo}
use Rattle.wsn_rules.specs.declared.verdict.Verdict.{Verdict}
use Rattle.wsn_rules.specs.declared.verdict.Verdict.TheVariants.{Accepted, Cut, Refused}
use Rattle.wsn_rules.specs.Limits.{Limits}
use Rattle.wsn_rules.specs.AfterClose.{HasNoClose, EndsWithClose}
use Rattle.wsn_rules.specs.Group.{unfinished}
use Rattle.wsn_rules.specs.Heads.{info_of, BeginsWithHead}
use Rattle.wsn_rules.specs.Lawful.{IsLawful}
use Rattle.wsn_rules.specs.Verdict.{IsVerdict, judged_bytes}
use Rattle.wsn_rules.proofs.HeadsGoOn.{begins_longer}
use Rattle.wsn_rules.proofs.OneHead.{one_begun}
use Rattle.wsn_rules.proofs.LawfulLists.{no_close_before}
use Rattle.wsn_rules.proofs.OneVerdict.{lawful_frame_shows_nothing, all_of_verdict, one_verdict, longer_goes_on}
use Rattle.wsn_rules.proofs.Prefixes.{append_cancel}
use Rattle.wsn_rules.proofs.StaysRefused.{refused_alike}
use Rattle.wsn_rules.proofs.Walk.{stream-append}
use Rattle.wsn_rules.specs.declared.verdict.Refusal.{Refusal}
use Rattle.wsn_redact.specs.Redaction.{zeros_for, IsRedactedPayload, with_payload, IsRedactedBegun, IsRedactedRest, redacted_payload, redacted_frames, unjudged, IsRedaction}
use Rattle.wsn_redact.proofs.RedactedPayloads.{zeros-append, payload_length, length-redacted_payload, payload_is, one_payload, lawful_text, are_redacted, one_frames}
use Rattle.wsn_redact.proofs.OneRedaction.{rest_is_one}
use Rattle.std.proofs.Math.Seq.{take-append-add}
use Rattle.wsn_redact.proofs.HeadsAlike.{payload_prefix}
use Rattle.wsn_redact.proofs.QuietPayloads.{take_wire}
use Rattle.wsn_redact.proofs.KnownParts.{begun_by, redaction_at}

-- The longer list begins with the shorter one.
abbrev Continues : List ℕ → List ℕ → Type 0
Continues longer shorter = (more : List ℕ) × (longer ≡ shorter ++ more)

continues_append : (front longer shorter : List ℕ) → Continues longer shorter → Continues (front ++ longer) (front ++ shorter)
continues_append front longer shorter c = (c.0, ap (λ (bs : List ℕ). front ++ bs) c.1 ∙ sym (append_assoc front shorter c.0))

continues_with : (longer shorter tail : List ℕ) → Continues longer shorter → Continues (longer ++ tail) shorter
continues_with longer shorter tail c = (c.0 ++ tail, ap (λ (bs : List ℕ). bs ++ tail) c.1 ∙ append_assoc shorter c.0 tail)

-- A list that two lists begin with: the shorter begins the longer.
front_continues : (shorter longer a b : List ℕ) → length shorter ≤ length longer → shorter ++ a ≡ longer ++ b → Continues longer shorter
front_continues shorter longer a b few same =
    let n = length shorter in
    let front : take n longer ≡ shorter = sym (take-append-le n longer b few) ∙ ap (λ (bs : List ℕ). take n bs) (sym same) ∙ take_at shorter a n refl in
    (drop n longer, sym (take-append-drop n longer) ∙ ap (λ (bs : List ℕ). bs ++ drop n longer) front)

redacted_append : (before fs gs : List Frame) → redacted_frames before (fs ++ gs) ≡ redacted_frames before fs ++ redacted_frames (before ++ fs) gs
redacted_append before [] gs = ap (λ (xs : List Frame). redacted_frames xs gs) (sym (append-nil before))
redacted_append before (f ∷ fs) gs =
    let g = with_payload f (redacted_payload (unfinished before) f.op f.payload) in
    ap (λ (xs : List Frame). g ∷ xs) (redacted_append (before ++ f ∷ []) fs gs)
    ∙ ap (λ (xs : List Frame). g ∷ (redacted_frames (before ++ f ∷ []) fs ++ redacted_frames xs gs)) (append_assoc before (f ∷ []) fs)

module _ (role : Role) (limits : Limits) where
  -- A lawful frame's head.
  head_of_lawful : (fs : List Frame) (f : Frame) (gs : List Frame) (following : List ℕ) → IsLawful role limits (fs ++ f ∷ gs) → BeginsWithHead role limits fs (frame_bytes f ++ following) (info_of (length (stream fs)) f)
  head_of_lawful fs f gs following lawful =
      let e = (lawful.each fs gs f refl).frame.encoded.encodable in
      let head = head_bytes f.fin f.op f.key f.form (length f.payload) in
      let wire = wire_payload f.key f.payload in
      record {
        head = head;
        following = wire ++ following;
        whole = append_assoc head wire following;
        offset = refl;
        encoded = refl;
        key = e.key;
        form = e.form;
        size = e.size;
        has_no_evidence = record {
          none = λ seen later reason is evidence. lawful_frame_shows_nothing role limits fs f gs lawful seen (later ++ (wire ++ following)) following reason
              (sym (append_assoc seen later (wire ++ following)) ∙ ap (λ (bs : List ℕ). bs ++ (wire ++ following)) (sym is) ∙ sym (append_assoc head wire following)) evidence;
        };
      }

  -- A head that ends within the first of these bytes begins them.
  head_within : (fs : List Frame) (rest more : List ℕ) (info : HeadInfo) (b : BeginsWithHead role limits fs (rest ++ more) info) → length b.head ≤ length rest → BeginsWithHead role limits fs rest info
  head_within fs rest more info b few =
      let c = front_continues b.head rest b.following more few (sym b.whole) in
      record { head = b.head; following = c.0; whole = c.1; offset = b.offset; encoded = b.encoded; key = b.key; form = b.form; size = b.size; has_no_evidence = b.has_no_evidence }

  -- A part of a head, while more comes.
  part_of_head : (fs : List Frame) (rest more tail : List ℕ) (info : HeadInfo) → ((i : HeadInfo) → BeginsWithHead role limits fs rest i → ⊥) → (b : BeginsWithHead role limits fs (rest ++ more) info) → Continues (b.head ++ tail) rest
  part_of_head fs rest more tail info none b = elim (cases_lt (length rest) (length b.head)) [
    | inl short ↦ continues_with b.head rest tail (front_continues rest b.head more b.following (omega (arith, short)) b.whole)
    | inr long ↦ absurd (none info (head_within fs rest more info b long))
  ]

  -- A part of a payload, while more comes: what is written for it stays.
  part_stays : (group : List Frame) (info : HeadInfo) (short long part written : List ℕ) → Continues long short → IsRedactedPayload group info.op (wire_payload info.key short) part → IsRedactedPayload group info.op (wire_payload info.key long) written → Continues (wire_payload info.key written) (wire_payload info.key part)
  part_stays group info short long part written c r s =
      let n = length short in
      let front : take n long ≡ short = ap (λ (bs : List ℕ). take n bs) c.1 ∙ take_at short c.0 n refl in
      let size = payload_length group info.op (wire_payload info.key long) written s in
      let long_size = length-wire_payload info.key long in
      let sum = ap (λ (bs : List ℕ). length bs) c.1 in
      let few : n ≤ length written = omega (arith, size, long_size, sum, length-append short c.0) in
      let own : take n written ≡ part = elim (cases_lt n (length (wire_payload info.key long))) [
        | inl less ↦
            let prefix = payload_prefix n group info.op (wire_payload info.key long) written less s in
            let there : take n (wire_payload info.key long) ≡ wire_payload info.key short = take_wire info.key n long (omega (arith, sum, length-append short c.0)) ∙ ap (λ (bs : List ℕ). wire_payload info.key bs) front in
            one_payload group info.op (wire_payload info.key short) (take n written) part (subst (λ (bs : List ℕ). IsRedactedPayload group info.op bs (take n written)) there prefix) r
        | inr full ↦
            let whole : long ≡ short = sym (take_all n long (omega (arith, full, long_size))) ∙ front in
            take_all n written (omega (arith, full, size)) ∙ one_payload group info.op (wire_payload info.key short) written part (subst (λ (bs : List ℕ). IsRedactedPayload group info.op (wire_payload info.key bs) written) whole s) r
      ] in
      let wire = wire_payload info.key written in
      let taken : take n wire ≡ wire_payload info.key part = take_wire info.key n written few ∙ ap (λ (bs : List ℕ). wire_payload info.key bs) own in
      (drop n wire, sym (take-append-drop n wire) ∙ ap (λ (bs : List ℕ). bs ++ drop n wire) taken)

  -- ---- what follows the frames

  closed_or_not : (fs : List Frame) → EndsWithClose fs → HasNoClose fs → ⊥
  closed_or_not fs closed none = none closed.0 [] closed.1 closed.3 closed.2

  -- No frame ends in what came.
  pub rest_stays : (fs : List Frame) (rest more redacted longer : List ℕ) → IsRedactedRest role limits fs rest redacted → IsRedactedRest role limits fs (rest ++ more) longer → Continues longer redacted
  unfolding begins_longer
  rest_stays fs rest more redacted longer (inl r) (inl s) = (zeros_for more, s.1 ∙ zeros-append rest more ∙ ap (λ (bs : List ℕ). bs ++ zeros_for more) (sym r.1))
  rest_stays fs rest more redacted longer (inl r) (inr (inl s)) = absurd (closed_or_not fs r.0 s.0)
  rest_stays fs rest more redacted longer (inl r) (inr (inr s)) = absurd (closed_or_not fs r.0 s.0)
  rest_stays fs rest more redacted longer (inr (inl r)) (inl s) = absurd (closed_or_not fs s.0 r.0)
  rest_stays fs rest more redacted longer (inr (inr r)) (inl s) = absurd (closed_or_not fs s.0 r.0)
  rest_stays fs rest more redacted longer (inr (inl r)) (inr (inl s)) = (more, s.2 ∙ ap (λ (bs : List ℕ). bs ++ more) (sym r.2))
  rest_stays fs rest more redacted longer (inr (inl r)) (inr (inr s)) =
      let b = s.1 in
      subst (λ (bs : List ℕ). Continues longer bs) (sym r.2) (subst (λ (bs : List ℕ). Continues bs rest) (sym b.redacted_is) (part_of_head fs rest more (wire_payload b.info.key b.part) b.info r.1 b.begins))
  rest_stays fs rest more redacted longer (inr (inr r)) (inr (inl s)) = absurd (s.1 r.1.info (begins_longer role limits fs rest more r.1.info r.1.begins))
  rest_stays fs rest more redacted longer (inr (inr r)) (inr (inr s)) = begun r.1 s.1
    where
      begun : IsRedactedBegun role limits fs rest redacted → IsRedactedBegun role limits fs (rest ++ more) longer → Continues longer redacted
      begun a z =
          let b = a.begins in
          let c = begins_longer role limits fs rest more a.info b in
          let y = begun_by role limits fs (rest ++ more) longer a.info c z in
          let stays = part_stays (unfinished fs) a.info b.following (b.following ++ more) a.part y.part (more, refl) a.is_part y.is_part in
          subst (λ (bs : List ℕ). Continues longer bs) (sym a.redacted_is) (subst (λ (bs : List ℕ). Continues bs (b.head ++ wire_payload a.info.key a.part)) (sym y.redacted_is) (continues_append b.head (wire_payload a.info.key y.part) (wire_payload a.info.key a.part) stays))

  -- A frame of whose payload a part has come.
  begun_frame : (fs : List Frame) (f : Frame) (gs : List Frame) (rest more following tail redacted : List ℕ) → IsLawful role limits (fs ++ f ∷ gs) → rest ++ more ≡ frame_bytes f ++ following → length rest ≤ length (frame_bytes f) → BeginsWithHead role limits fs (rest ++ more) (info_of (length (stream fs)) f) → IsRedactedBegun role limits fs rest redacted
      → Continues (frame_bytes (with_payload f (redacted_payload (unfinished fs) f.op f.payload)) ++ tail) redacted
  begun_frame fs f gs rest more following tail redacted lawful whole few b a =
      let head = head_bytes f.fin f.op f.key f.form (length f.payload) in
      let wire = wire_payload f.key f.payload in
      let payload = redacted_payload (unfinished fs) f.op f.payload in
      let mine = a.begins in
      let same : a.info ≡ info_of (length (stream fs)) f = one_begun role limits fs (rest ++ more) a.info (info_of (length (stream fs)) f) (begins_longer role limits fs rest more a.info mine) b in
      let head_is : mine.head ≡ head = mine.encoded ∙ ap (λ (i : HeadInfo). head_bytes i.fin i.op i.key i.form i.len) same in
      let all : head ++ (mine.following ++ more) ≡ head ++ (wire ++ following) =
      ap (λ (bs : List ℕ). bs ++ (mine.following ++ more)) (sym head_is) ∙ sym (append_assoc mine.head mine.following more) ∙ ap (λ (bs : List ℕ). bs ++ more) (sym mine.whole) ∙ whole ∙ append_assoc head wire following in
      let parts : mine.following ++ more ≡ wire ++ following = append_cancel head (mine.following ++ more) (wire ++ following) all in
      let size = ap (λ (bs : List ℕ). length bs) mine.whole in
      let head_size = ap (λ (bs : List ℕ). length bs) head_is in
      let short : length mine.following ≤ length wire = omega (arith, few, size, head_size, length-append mine.head mine.following, length-append head wire) in
      let c = front_continues mine.following wire more following short parts in
      let r : IsRedactedPayload (unfinished fs) f.op (wire_payload f.key mine.following) a.part = subst (λ (i : HeadInfo). IsRedactedPayload (unfinished fs) i.op (wire_payload i.key mine.following) a.part) same a.is_part in
      let own = payload_is (unfinished fs) f.op f.payload (lawful_text role limits fs f (lawful.each fs gs f refl)) in
      let s : IsRedactedPayload (unfinished fs) f.op (wire_payload f.key wire) payload = subst (λ (bs : List ℕ). IsRedactedPayload (unfinished fs) f.op bs payload) (sym (wire_payload_twice f.key f.payload)) own in
      let stays = part_stays (unfinished fs) (info_of (length (stream fs)) f) mine.following wire a.part payload c r s in
      let written : frame_bytes (with_payload f payload) ++ tail ≡ head ++ (wire_payload f.key payload ++ tail) =
      ap (λ (n : ℕ). (head_bytes f.fin f.op f.key f.form n ++ wire_payload f.key payload) ++ tail) (length-redacted_payload (unfinished fs) f.op f.payload) ∙ append_assoc head (wire_payload f.key payload) tail in
      let redacted_is : redacted ≡ head ++ wire_payload f.key a.part = a.redacted_is ∙ (λ i. head_is i ++ wire_payload (same i).key a.part) in
      subst (λ (bs : List ℕ). Continues (frame_bytes (with_payload f payload) ++ tail) bs) (sym redacted_is)
      (subst (λ (bs : List ℕ). Continues bs (head ++ wire_payload f.key a.part)) (sym written) (continues_append head (wire_payload f.key payload ++ tail) (wire_payload f.key a.part) (continues_with (wire_payload f.key payload) (wire_payload f.key a.part) tail stays)))

  -- A frame ends after what came.
  pub frame_stays : (fs : List Frame) (f : Frame) (gs : List Frame) (rest more following tail redacted : List ℕ) → IsLawful role limits (fs ++ f ∷ gs) → HasNoClose fs → rest ++ more ≡ frame_bytes f ++ following → length rest ≤ length (frame_bytes f) → IsRedactedRest role limits fs rest redacted
      → Continues (frame_bytes (with_payload f (redacted_payload (unfinished fs) f.op f.payload)) ++ tail) redacted
  frame_stays fs f gs rest more following tail redacted lawful open_still whole few r = by r
    where
      b : BeginsWithHead role limits fs (rest ++ more) (info_of (length (stream fs)) f)
      b = subst (λ (bs : List ℕ). BeginsWithHead role limits fs bs (info_of (length (stream fs)) f)) (sym whole) (head_of_lawful fs f gs following lawful)

      written : frame_bytes (with_payload f (redacted_payload (unfinished fs) f.op f.payload)) ++ tail ≡ head_bytes f.fin f.op f.key f.form (length f.payload) ++ (wire_payload f.key (redacted_payload (unfinished fs) f.op f.payload) ++ tail)
      written = ap (λ (n : ℕ). (head_bytes f.fin f.op f.key f.form n ++ wire_payload f.key (redacted_payload (unfinished fs) f.op f.payload)) ++ tail) (length-redacted_payload (unfinished fs) f.op f.payload) ∙ append_assoc (head_bytes f.fin f.op f.key f.form (length f.payload)) (wire_payload f.key (redacted_payload (unfinished fs) f.op f.payload)) tail

      by : IsRedactedRest role limits fs rest redacted → Continues (frame_bytes (with_payload f (redacted_payload (unfinished fs) f.op f.payload)) ++ tail) redacted
      by (inl closed) = absurd (closed_or_not fs closed.0 open_still)
      by (inr (inl none)) =
          let c = part_of_head fs rest more (wire_payload f.key (redacted_payload (unfinished fs) f.op f.payload) ++ tail) (info_of (length (stream fs)) f) none.1 b in
          subst (λ (bs : List ℕ). Continues (frame_bytes (with_payload f (redacted_payload (unfinished fs) f.op f.payload)) ++ tail) bs) (sym none.2)
          (subst (λ (bs : List ℕ). Continues bs rest) (ap (λ (bs : List ℕ). bs ++ (wire_payload f.key (redacted_payload (unfinished fs) f.op f.payload) ++ tail)) b.encoded ∙ sym written) c)
      by (inr (inr some)) = begun_frame fs f gs rest more following tail redacted lawful whole few b some.1

  -- ---- a stream

  rest_of : (bytes rest : List ℕ) (fs : List Frame) → bytes ≡ stream fs ++ rest → drop (length (stream fs)) bytes ≡ rest
  rest_of bytes rest fs whole = ap (λ (bs : List ℕ). drop (length (stream fs)) bs) whole ∙ drop_at (stream fs) rest (length (stream fs)) refl

  -- A refused stream: zeros follow.
  refused_longer : (bytes more redacted longer : List ℕ) (fs : List Frame) (q : Refusal) → IsVerdict role limits bytes fs (Refused q) → IsRedaction role limits bytes redacted → IsRedaction role limits (bytes ++ more) longer → Continues longer redacted
  refused_longer bytes more redacted longer fs q is r s =
      let e = is.is_evident in
      let stop = e.at_offset in
      let total = ap (λ (bs : List ℕ). length bs) e.whole in
      let n = q.offset + 1 in
      let within : n ≤ length bytes = omega (arith, stop, total, length-append (stream fs) (e.seen ++ e.later), length-append e.seen e.later) in
      let front : take n (bytes ++ more) ≡ take n bytes = take-append-le n bytes more within in
      let also : IsVerdict role limits (bytes ++ more) fs (Refused q) = refused_alike role limits fs bytes (bytes ++ more) q.offset q.reason front is in
      let x = redaction_at role limits bytes redacted fs (Refused q) is r in
      let y = redaction_at role limits (bytes ++ more) longer fs (Refused q) also s in
      let frames = one_frames [] fs y.frames x.frames y.are_frames x.are_frames in
      let rest = rest_is_one role limits fs (drop (length (stream fs)) (take n bytes)) y.rest x.rest (subst (λ (bs : List ℕ). IsRedactedRest role limits fs (drop (length (stream fs)) bs) y.rest) front y.is_rest) x.is_rest in
      let later : drop n (bytes ++ more) ≡ drop n bytes ++ more = drop-append-le n bytes more within in
      let zeros : zeros_for (drop n (bytes ++ more)) ≡ zeros_for (drop n bytes) ++ zeros_for more = ap (λ (bs : List ℕ). zeros_for bs) later ∙ zeros-append (drop n bytes) more in (
        zeros_for more,
        y.whole ∙ (λ i. stream (frames i) ++ (rest i ++ zeros i)) ∙ ap (λ (bs : List ℕ). stream x.frames ++ bs) (sym (append_assoc x.rest (zeros_for (drop n bytes)) (zeros_for more)))
            ∙ sym (append_assoc (stream x.frames) (x.rest ++ zeros_for (drop n bytes)) (zeros_for more)) ∙ ap (λ (bs : List ℕ). bs ++ zeros_for more) (sym x.whole),
      )

  -- What a longer stream's verdict takes account of, if the shorter one isn't refused.
  longer_judged : (bytes more : List ℕ) (fs : List Frame) (v : Verdict) (gs : List Frame) (w : Verdict) → ((q : Refusal) → v ≡ Refused q → ⊥) → IsVerdict role limits bytes fs v → IsVerdict role limits (bytes ++ more) gs w → (m : List ℕ) × (judged_bytes w (bytes ++ more) ≡ bytes ++ m)
  longer_judged bytes more fs v gs (Accepted t) quiet is also = (more, refl)
  longer_judged bytes more fs v gs (Cut t) quiet is also = (more, refl)
  longer_judged bytes more fs v gs (Refused q) quiet is also = elim (cases_lt (length bytes) (q.offset + 1)) [
    | inl past ↦
        let n = q.offset + 1 - length bytes in
        let sum : q.offset + 1 ≡ length bytes + n = omega (arith, past) in
        (take n more, ap (λ (k : ℕ). take k (bytes ++ more)) sum ∙ take-append-add bytes more n)
    | inr inside ↦
        let mine : IsVerdict role limits bytes gs (Refused q) = refused_alike role limits gs (bytes ++ more) bytes q.offset q.reason (sym (take-append-le (q.offset + 1) bytes more inside)) also in
        absurd (quiet q (one_verdict role limits bytes fs gs v (Refused q) is mine).1)
  ]

  -- A stream that isn't refused.
  quiet_longer : (bytes more redacted longer : List ℕ) (r : IsRedaction role limits bytes redacted) (s : IsRedaction role limits (bytes ++ more) longer) → ((q : Refusal) → r.verdict ≡ Refused q → ⊥) → judged_bytes r.verdict bytes ≡ bytes → unjudged r.verdict bytes ≡ [] → (extra : List Frame) → s.frames ≡ r.frames ++ extra → Continues longer redacted
  quiet_longer bytes more redacted longer r s quiet all none extra gs_is =
      let fs = r.frames in
      let a = all_of_verdict role limits bytes fs r.verdict r.is_verdict in
      let z = all_of_verdict role limits (bytes ++ more) s.frames s.verdict s.is_verdict in
      let lawful : IsLawful role limits (fs ++ extra) = subst (IsLawful role limits) gs_is z.lawful in
      let hs = redacted_frames [] fs in
      let own : redacted ≡ stream hs ++ r.is.rest =
      r.is.whole ∙ (λ i. stream (one_frames [] fs r.is.frames hs r.is.are_frames (are_redacted role limits [] fs a.lawful) i) ++ (r.is.rest ++ zeros_for (none i))) ∙ ap (λ (bs : List ℕ). stream hs ++ bs) (append-nil r.is.rest) in
      let seen : drop (length (stream fs)) (judged_bytes r.verdict bytes) ≡ a.rest = ap (λ (bs : List ℕ). drop (length (stream fs)) bs) all ∙ rest_of bytes a.rest fs a.whole in
      let rest : IsRedactedRest role limits fs a.rest r.is.rest = subst (λ (bs : List ℕ). IsRedactedRest role limits fs bs r.is.rest) seen r.is.is_rest in
      let end = s.is.rest ++ zeros_for (unjudged s.verdict (bytes ++ more)) in
      let written : longer ≡ stream hs ++ (stream (redacted_frames fs extra) ++ end) =
      s.is.whole ∙ ap (λ (ks : List Frame). stream ks ++ end) (one_frames [] s.frames s.is.frames (redacted_frames [] s.frames) s.is.are_frames (are_redacted role limits [] s.frames z.lawful) ∙ ap (λ (ks : List Frame). redacted_frames [] ks) gs_is ∙ redacted_append [] fs extra)
      ∙ ap (λ (bs : List ℕ). bs ++ end) (stream-append hs (redacted_frames fs extra)) ∙ append_assoc (stream hs) (stream (redacted_frames fs extra)) end in
      let stays = by extra gs_is lawful rest in
      subst (λ (bs : List ℕ). Continues longer bs) (sym own) (subst (λ (bs : List ℕ). Continues bs (stream hs ++ r.is.rest)) (sym written) (continues_append (stream hs) (stream (redacted_frames fs extra) ++ end) r.is.rest stays))
    where
      by : (ex : List Frame) → s.frames ≡ r.frames ++ ex → IsLawful role limits (r.frames ++ ex) → IsRedactedRest role limits r.frames (all_of_verdict role limits bytes r.frames r.verdict r.is_verdict).rest r.is.rest
          → Continues (stream (redacted_frames r.frames ex) ++ (s.is.rest ++ zeros_for (unjudged s.verdict (bytes ++ more)))) r.is.rest
      by [] is lawful rest =
          let a = all_of_verdict role limits bytes r.frames r.verdict r.is_verdict in
          let same : s.frames ≡ r.frames = is ∙ append-nil r.frames in
          let m = longer_judged bytes more r.frames r.verdict s.frames s.verdict quiet r.is_verdict s.is_verdict in
          let there : drop (length (stream r.frames)) (judged_bytes s.verdict (bytes ++ more)) ≡ a.rest ++ m.0 =
          ap (λ (bs : List ℕ). drop (length (stream r.frames)) bs) m.1 ∙ rest_of (bytes ++ m.0) (a.rest ++ m.0) r.frames (ap (λ (bs : List ℕ). bs ++ m.0) a.whole ∙ append_assoc (stream r.frames) a.rest m.0) in
          let longer_rest : IsRedactedRest role limits r.frames (a.rest ++ m.0) s.is.rest =
          subst (λ (bs : List ℕ). IsRedactedRest role limits r.frames bs s.is.rest) there (subst (λ (ks : List Frame). IsRedactedRest role limits ks (drop (length (stream ks)) (judged_bytes s.verdict (bytes ++ more))) s.is.rest) same s.is.is_rest) in
          continues_with s.is.rest r.is.rest (zeros_for (unjudged s.verdict (bytes ++ more))) (rest_stays r.frames a.rest m.0 r.is.rest s.is.rest rest longer_rest)
      by (f ∷ ex) is lawful rest =
          let a = all_of_verdict role limits bytes r.frames r.verdict r.is_verdict in
          let z = all_of_verdict role limits (bytes ++ more) s.frames s.verdict s.is_verdict in
          let fs = r.frames in
          let end = s.is.rest ++ zeros_for (unjudged s.verdict (bytes ++ more)) in
          let h = with_payload f (redacted_payload (unfinished fs) f.op f.payload) in
          let others = redacted_frames (fs ++ f ∷ []) ex in
          let following = stream ex ++ z.rest in
          let long : stream fs ++ (a.rest ++ more) ≡ stream fs ++ (frame_bytes f ++ following) =
          sym (append_assoc (stream fs) a.rest more) ∙ ap (λ (bs : List ℕ). bs ++ more) (sym a.whole) ∙ z.whole ∙ ap (λ (ks : List Frame). stream ks ++ z.rest) is ∙ ap (λ (bs : List ℕ). bs ++ z.rest) (stream-append fs (f ∷ ex))
          ∙ append_assoc (stream fs) (stream (f ∷ ex)) z.rest ∙ ap (λ (bs : List ℕ). stream fs ++ bs) (append_assoc (frame_bytes f) (stream ex) z.rest) in
          let whole : a.rest ++ more ≡ frame_bytes f ++ following = append_cancel (stream fs) (a.rest ++ more) (frame_bytes f ++ following) long in
          let few : length a.rest ≤ length (frame_bytes f) = elim (cases_lt (length (frame_bytes f)) (length a.rest)) [
            | inl long_rest ↦ (let c = front_continues (frame_bytes f) a.rest following more (omega (arith, long_rest)) (sym whole) in absurd (a.last f ex c.0 lawful c.1))
            | inr short ↦ short
          ] in
          let it = frame_stays fs f ex a.rest more following (stream others ++ end) r.is.rest lawful (no_close_before role limits fs f ex lawful) whole few rest in
          subst (λ (bs : List ℕ). Continues bs r.is.rest) (sym (append_assoc (frame_bytes h) (stream others) end)) it

  pub longer_continues : (bytes more redacted longer : List ℕ) → IsRedaction role limits bytes redacted → IsRedaction role limits (bytes ++ more) longer → (later : List ℕ) × (longer ≡ redacted ++ later)
  longer_continues bytes more redacted longer r s = by r.verdict refl
    where
      on : (extra : List Frame) × (s.frames ≡ r.frames ++ extra)
      on = let o = longer_goes_on role limits bytes more r.frames s.frames r.verdict s.verdict r.is_verdict s.is_verdict in (o.0, o.1)

      by : (v : Verdict) → r.verdict ≡ v → Continues longer redacted
      by (Refused q) is = refused_longer bytes more redacted longer r.frames q (subst (λ (v : Verdict). IsVerdict role limits bytes r.frames v) is r.is_verdict) r s
      by (Accepted t) is = quiet_longer bytes more redacted longer r s (λ q also. (let both : Accepted t ≡ Refused q = sym is ∙ also in cc)) (ap (λ (v : Verdict). judged_bytes v bytes) is) (ap (λ (v : Verdict). unjudged v bytes) is) on.0 on.1
      by (Cut t) is = quiet_longer bytes more redacted longer r s (λ q also. (let both : Cut t ≡ Refused q = sym is ∙ also in cc)) (ap (λ (v : Verdict). judged_bytes v bytes) is) (ap (λ (v : Verdict). unjudged v bytes) is) on.0 on.1
