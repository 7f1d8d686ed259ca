-- Every stream has a redaction.
use Rattle.std.proofs.Common.{◌≡◌, ℕ, ◌+◌, ◌-◌, ◌<◌, Bool, true, false, List, [], ◌∷◌, ◌++◌, length, take, drop, inl, inr, refl, sym, ap, ◌∙◌, subst, append-nil, append_assoc, length-append, arith, take-append-drop}
use Rattle.std.proofs.lemmas.Bool.{cases_lt}
use Rattle.std.proofs.lemmas.List.{drop_all, drop_at, take_at, take_all, take-take, drop-append-le, length-take-le}
use Rattle.wsn_wire.specs.declared.endpoint.Role.{Role}
use Rattle.wsn_wire.specs.declared.opcode.Op.{Op}
use Rattle.wsn_wire.specs.declared.opcode.Op.TheVariants.{Continue, Text, Binary, Close, Ping, Pong}
use Rattle.wsn_wire.specs.declared.refusal.Reason.{Reason}
use Rattle.wsn_wire.specs.Frame.{Frame, IsBytes, stream, wire_payload}
use Rattle.wsn_wire.proofs.FrameLemmas.{length-wire_payload}
use Rattle.wsn_text.specs.Utf8.{BeginsText}
use Rattle.wsn_text.proofs.Prefixes.{begins-nil, bad_ends, begins_or_first_bad}
use Rattle.wsn_rules.specs.declared.detail.Detail.TheVariants.{Frames}
use Rattle.wsn_rules.specs.declared.head_info.HeadInfo.{HeadInfo}
use Rattle.wsn_rules.specs.declared.verdict.Verdict.{Verdict}
use Rattle.wsn_rules.specs.declared.verdict.Verdict.TheVariants.{Accepted, Cut, Refused}
use Rattle.wsn_rules.specs.Limits.{Limits, InRange}
use Rattle.wsn_rules.specs.AfterClose.{HasNoClose, EndsWithClose}
use Rattle.wsn_rules.specs.Evidence.{Evidence}
use Rattle.wsn_rules.specs.Group.{unfinished, payload_of}
use Rattle.wsn_rules.specs.Heads.{BeginsWithHead, IsBegun, AreHeads}
use Rattle.wsn_rules.specs.Verdict.{EndsWithinFrame, IsEvidentAt, IsRefused, IsCut, IsVerdict, judged_bytes}
use Rattle.wsn_rules.proofs.EveryInput.{has_verdict}
use Rattle.wsn_rules.proofs.EveryShown.{some_shown}
use Rattle.wsn_rules.proofs.HeadsGoOn.{begins_two}
use Rattle.wsn_rules.proofs.LeastEvident.{evidence_is_some}
use Rattle.wsn_rules.proofs.OneVerdict.{one_verdict, all_of_verdict}
use Rattle.wsn_rules.proofs.Prefixes.{append_cancel}
use Rattle.wsn_rules.proofs.StaysRefused.{refused_alike}
use Rattle.wsn_frame.proofs.HeadsAtOnce.{no_items}
use Rattle.wsn_redact.specs.StandIns.{single_stand_in, IsRedactedText, stood, due_after}
use Rattle.wsn_redact.specs.Redaction.{zeros_for, is_of_text, IsRedactedData, IsRedactedPayload, IsRedactedBegun, IsRedactedRest, unjudged, IsRedaction, redacted_payload, redacted_frames}
use Rattle.wsn_redact.proofs.StoodTexts.{stood-append, length-stood, stood_is}
use Rattle.wsn_redact.proofs.RedactedPayloads.{HasText, payload_is, are_redacted}
use Rattle.wsn_redact.proofs.RefusedEvidence.{within_payload}
use Rattle.wsn_redact.proofs.RedactedEnds.{last_of}
use Rattle.wsn_redact.proofs.QuietPayloads.{take_wire, within_frame, quiet_text}
use Rattle.wsn_rules.proofs.PlanTheory.MessageFrames.{bytes_take}

-- ---- a payload with one byte more

data_last : (group : List Frame) (front : List ℕ) (last : ℕ) (c : Bool) → (c ≡ true → BeginsText (payload_of group ++ front)) → (redacted : List ℕ) × IsRedactedData c (payload_of group) (front ++ last ∷ []) redacted
data_last group front last false has = (zeros_for (front ++ last ∷ []), refl)
data_last group front last true has =
    let earlier = payload_of group in
    let whole = front ++ last ∷ [] in
    elim (begins_or_first_bad (earlier ++ whole)) [
      | inl begins ↦
          (stood (due_after [] earlier) whole, record { before = stood [] earlier; same_place = length-stood [] earlier; is = inl (subst (IsRedactedText (earlier ++ whole)) (stood-append [] earlier whole) (stood_is (earlier ++ whole) begins)) })
      | inr bad ↦ (
        stood (due_after [] earlier) front ++ single_stand_in last ∷ [],
        record {
          before = stood [] earlier;
          same_place = length-stood [] earlier;
          is = inr (record {
            front = earlier ++ front;
            bad = last;
            front_redacted = stood [] (earlier ++ front);
            text_is = sym (append_assoc earlier front (last ∷ []));
            goes_wrong = bad_ends (earlier ++ whole) bad.0 bad.1;
            is_front = stood_is (earlier ++ front) (has refl);
            redacted_is = sym (append_assoc (stood [] earlier) (stood (due_after [] earlier) front) (single_stand_in last ∷ [])) ∙ ap (λ (bs : List ℕ). bs ++ single_stand_in last ∷ []) (sym (stood-append [] earlier front));
          });
        },
      )
    ]

body_last : (group : List Frame) (front : List ℕ) (last : ℕ) → BeginsText (drop 2 front) → (redacted : List ℕ) × IsRedactedPayload group Close (front ++ last ∷ []) redacted
body_last group front last has =
    let whole = front ++ last ∷ [] in
    elim (begins_or_first_bad (drop 2 whole)) [
      | inl begins ↦ (redacted_payload group Close whole, payload_is group Close whole begins)
      | inr bad ↦
          let not_text = bad_ends (drop 2 whole) bad.0 bad.1 in
          elim (cases_lt (length front) 2) [
            | inl short ↦ absurd (not_text (subst BeginsText (sym (drop_all 2 whole (omega (arith, short, length-append front (last ∷ []))))) begins-nil))
            | inr long ↦
                let text = stood [] (drop 2 front) in (
                  take 2 whole ++ (text ++ single_stand_in last ∷ []),
                  (
                    text ++ single_stand_in last ∷ [],
                    inr (record { front = drop 2 front; bad = last; front_redacted = text; text_is = drop-append-le 2 front (last ∷ []) long; goes_wrong = not_text; is_front = stood_is (drop 2 front) has; redacted_is = refl }),
                    refl,
                  ),
                )
          ]
    ]

pub last_redacted : (group : List Frame) (op : Op) (front : List ℕ) (last : ℕ) → HasText group op front → (redacted : List ℕ) × IsRedactedPayload group op (front ++ last ∷ []) redacted
last_redacted group Close front last has = body_last group front last has
last_redacted group Continue front last has = data_last group front last (is_of_text group Continue) has
last_redacted group Text front last has = data_last group front last (is_of_text group Text) has
last_redacted group Binary front last has = data_last group front last (is_of_text group Binary) has
last_redacted group Ping front last has = data_last group front last (is_of_text group Ping) has
last_redacted group Pong front last has = data_last group front last (is_of_text group Pong) has

-- ---- what follows the frames

module _ (role : Role) (limits : Limits) (bytes : List ℕ) (fs : List Frame) (rest : List ℕ) (whole : bytes ≡ stream fs ++ rest) where
  evident_at : (front after : List ℕ) (reason : Reason) → rest ≡ front ++ after → Evidence role limits (unfinished fs) reason front → IsEvidentAt role limits bytes fs (length (stream fs) + length front - 1) reason
  evident_at front after reason is evidence =
      let some = evidence_is_some role limits (unfinished fs) reason front evidence in
      record { seen = front; later = after; whole = whole ∙ ap (λ (bs : List ℕ). stream fs ++ bs) is; at_offset = omega (arith, some); evidence = evidence }

  module _ (info : HeadInfo) (b : BeginsWithHead role limits fs rest info) where
    part_of : (n : ℕ) → rest ≡ (b.head ++ take n b.following) ++ drop n b.following
    part_of n = b.whole ∙ ap (λ (bs : List ℕ). b.head ++ bs) (sym (take-append-drop n b.following)) ∙ sym (append_assoc b.head (take n b.following) (drop n b.following))

    begun_with : (part : List ℕ) → IsRedactedPayload (unfinished fs) info.op (wire_payload info.key b.following) part → IsRedactedBegun role limits fs rest (b.head ++ wire_payload info.key part)
    begun_with part is = record { info = info; begins = b; part = part; is_part = is; redacted_is = refl }

    pub cut_begun : IsCut role limits bytes fs → (redacted : List ℕ) × IsRedactedBegun role limits fs rest redacted
    cut_begun c =
        let same : c.rest ≡ rest = append_cancel (stream fs) c.rest rest (sym c.whole ∙ whole) in
        let within = within_frame role limits fs rest info b (subst (λ (bs : List ℕ). EndsWithinFrame bs) same c.within) in
        let all : take (length b.following) b.following ≡ b.following = take_all (length b.following) b.following (omega arith) in
        let text = quiet_text role limits fs rest info b c.lawful within (length b.following) (omega arith) (λ n reason few evidence. c.has_no_evidence (length (stream fs) + length (b.head ++ take n b.following) - 1) reason (evident_at (b.head ++ take n b.following) (drop n b.following) reason (part_of n) evidence)) in
        let payload = wire_payload info.key b.following in
        let part = redacted_payload (unfinished fs) info.op payload in
        (b.head ++ wire_payload info.key part, begun_with part (payload_is (unfinished fs) info.op payload (subst (λ (bs : List ℕ). HasText (unfinished fs) info.op (wire_payload info.key bs)) all text)))

    -- The bytes end with the offending one.
    pub refused_begun : (offset : ℕ) (reason : Reason) → IsRefused role limits bytes fs offset reason → offset + 1 ≡ length bytes → (redacted : List ℕ) × IsRedactedBegun role limits fs rest redacted
    refused_begun offset reason r last_is =
        let e = r.is_evident in
        let at = e.at_offset in
        let total = ap (λ (bs : List ℕ). length bs) whole ∙ length-append (stream fs) rest in
        let both : e.seen ++ e.later ≡ rest = append_cancel (stream fs) (e.seen ++ e.later) rest (sym e.whole ∙ whole) in
        let sum = ap (λ (bs : List ℕ). length bs) both in
        let none : e.later ≡ [] = no_items e.later (omega (arith, last_is, at, total, sum, length-append e.seen e.later)) in
        let seen_is : e.seen ≡ rest = sym (append-nil e.seen) ∙ ap (λ (bs : List ℕ). e.seen ++ bs) (sym none) ∙ both in
        let evidence : Evidence role limits (unfinished fs) reason rest = subst (Evidence role limits (unfinished fs) reason) seen_is e.evidence in
        let size : length rest ≡ length b.head + length b.following = ap (λ (bs : List ℕ). length bs) b.whole ∙ length-append b.head b.following in
        let some : 0 < length b.following = elim (cases_lt 0 (length b.following)) [
          | inl more ↦ more
          | inr empty ↦
              let nothing : b.following ≡ [] = no_items b.following (omega (arith, empty)) in
              let head : rest ≡ b.head = b.whole ∙ ap (λ (bs : List ℕ). b.head ++ bs) nothing ∙ append-nil b.head in
              absurd (b.has_no_evidence.none b.head [] reason (sym (append-nil b.head)) (subst (Evidence role limits (unfinished fs) reason) head evidence))
        ] in
        let within = within_payload role limits fs rest info b some reason evidence in
        let m = length b.following - 1 in
        let payload = wire_payload info.key b.following in
        let count : length payload ≡ length b.following = length-wire_payload info.key b.following in
        let text = quiet_text role limits fs rest info b r.lawful within m (omega arith) (λ n other few found.
        let front = b.head ++ take n b.following in
        let front_size : length front ≡ length b.head + n = length-append b.head (take n b.following) ∙ ap (λ (k : ℕ). length b.head + k) (length-take-le n b.following (omega (arith, few))) in
        let head_some = evidence_is_some role limits (unfinished fs) other front found in
        elim (r.least (length (stream fs) + length front - 1) other (evident_at front (drop n b.following) other (part_of n) found)) [
          | inl less ↦ omega (arith, less, front_size, head_some, few, some, size, total, last_is)
          | inr same ↦ let here = same.0 in omega (arith, here, front_size, head_some, few, some, size, total, last_is)
        ]) in
        let l = last_of payload (omega (arith, count, some)) in
        let l_size : length payload ≡ length l.0 + 1 = ap (λ (bs : List ℕ). length bs) l.2 ∙ length-append l.0 (l.1 ∷ []) in
        let front_is : l.0 ≡ wire_payload info.key (take m b.following) = sym (take_at l.0 (l.1 ∷ []) m (omega (arith, l_size, count))) ∙ ap (λ (bs : List ℕ). take m bs) (sym l.2) ∙ take_wire info.key m b.following (omega arith) in
        let made = last_redacted (unfinished fs) info.op l.0 l.1 (subst (HasText (unfinished fs) info.op) (sym front_is) text) in
        (b.head ++ wire_payload info.key made.0, begun_with made.0 (subst (λ (bs : List ℕ). IsRedactedPayload (unfinished fs) info.op bs made.0) (sym l.2) made.1))

module _ (role : Role) (limits : Limits) (range : InRange limits) where
  closed_or_not : (fs : List Frame) → EndsWithClose fs → HasNoClose fs → ⊥
  closed_or_not fs closed none = none closed.0 [] closed.1 closed.3 closed.2

  -- The bytes of which the verdict takes account have the same one.
  same_verdict : (bytes : List ℕ) (fs : List Frame) (v : Verdict) → IsVerdict role limits bytes fs v → IsVerdict role limits (judged_bytes v bytes) fs v
  same_verdict bytes fs (Accepted s) is = is
  same_verdict bytes fs (Cut s) is = is
  same_verdict bytes fs (Refused r) is = refused_alike role limits fs bytes (take (r.offset + 1) bytes) r.offset r.reason (take-take (r.offset + 1) (r.offset + 1) bytes (omega arith)) is

  begun_rest : (seen : List ℕ) (fs : List Frame) (v : Verdict) (rest : List ℕ) → seen ≡ stream fs ++ rest → HasNoClose fs → (info : HeadInfo) → BeginsWithHead role limits fs rest info → IsVerdict role limits seen fs v → ((offset : ℕ) (reason : Reason) → IsRefused role limits seen fs offset reason → offset + 1 ≡ length seen)
      → (redacted : List ℕ) × IsRedactedBegun role limits fs rest redacted
  begun_rest seen fs (Accepted s) rest whole no_close info b is last = elim is.0.ends [
    | inl ends ↦
        let none : rest ≡ [] = append_cancel (stream fs) rest [] (sym whole ∙ ends.2 ∙ sym (append-nil (stream fs))) in
        let two = begins_two role limits fs rest info b in
        absurd (omega (arith, two, ap (λ (bs : List ℕ). length bs) none))
    | inr ends ↦ absurd (closed_or_not fs ends.0 no_close)
  ]
  begun_rest seen fs (Cut s) rest whole no_close info b is last = cut_begun role limits seen fs rest whole info b is.0
  begun_rest seen fs (Refused r) rest whole no_close info b is last = refused_begun role limits seen fs rest whole info b r.offset r.reason is (last r.offset r.reason is)

  judged_ends : (bytes : List ℕ) (fs : List Frame) (v : Verdict) → IsVerdict role limits bytes fs v → (offset : ℕ) (reason : Reason) → IsRefused role limits (judged_bytes v bytes) fs offset reason → offset + 1 ≡ length (judged_bytes v bytes)
  judged_ends bytes fs v is offset reason r = by v refl is r
    where
      by : (w : Verdict) → v ≡ w → IsVerdict role limits bytes fs w → IsRefused role limits (judged_bytes w bytes) fs offset reason → offset + 1 ≡ length (judged_bytes w bytes)
      by (Accepted s) v_is is_w r_w = let both : Accepted s ≡ Refused (record { offset = offset; reason = reason }) = (one_verdict role limits bytes fs fs (Accepted s) (Refused (record { offset = offset; reason = reason })) is_w r_w).1 in absurd cc
      by (Cut s) v_is is_w r_w = let both : Cut s ≡ Refused (record { offset = offset; reason = reason }) = (one_verdict role limits bytes fs fs (Cut s) (Refused (record { offset = offset; reason = reason })) is_w r_w).1 in absurd cc
      by (Refused q) v_is is_w r_w =
          let same = (one_verdict role limits (take (q.offset + 1) bytes) fs fs (Refused q) (Refused (record { offset = offset; reason = reason })) (same_verdict bytes fs (Refused q) is_w) r_w).1 in
          let offset_is : q.offset ≡ offset = cc in
          let e = is_w.is_evident in
          let at = e.at_offset in
          let total = ap (λ (bs : List ℕ). length bs) e.whole in
          omega (arith, offset_is, at, total, length-append (stream fs) (e.seen ++ e.later), length-append e.seen e.later, length-take-le (q.offset + 1) bytes (omega (arith, at, total, length-append (stream fs) (e.seen ++ e.later), length-append e.seen e.later)))

  some_rest : (bytes : List ℕ) → IsBytes bytes → (fs : List Frame) (v : Verdict) → IsVerdict role limits bytes fs v → (redacted : List ℕ) × IsRedactedRest role limits fs (drop (length (stream fs)) (judged_bytes v bytes)) redacted
  some_rest bytes in_bytes fs v is =
      let seen = judged_bytes v bytes in
      let is_seen = same_verdict bytes fs v is in
      let s = (some_shown role limits range Frames seen (all_bytes v)).1 in
      let same = one_verdict role limits seen s.frames fs s.verdict v s.is_verdict is_seen in
      let a : AreHeads role limits seen fs s.are_of_frames.0 = subst (λ (gs : List Frame). AreHeads role limits seen gs s.are_of_frames.0) same.0 s.are_of_frames.1 in
      let rest_is : drop (length (stream fs)) seen ≡ a.rest = ap (λ (bs : List ℕ). drop (length (stream fs)) bs) a.whole ∙ drop_at (stream fs) a.rest (length (stream fs)) refl in
      let made = by seen a.rest a.whole a.begun a.is_begun is_seen (judged_ends bytes fs v is) in
      (made.0, subst (λ (bs : List ℕ). IsRedactedRest role limits fs bs made.0) (sym rest_is) made.1)
    where
      all_bytes : (w : Verdict) → IsBytes (judged_bytes w bytes)
      all_bytes (Accepted s) = in_bytes
      all_bytes (Cut s) = in_bytes
      all_bytes (Refused r) = bytes_take (r.offset + 1) bytes in_bytes

      by : (seen rest : List ℕ) → seen ≡ stream fs ++ rest → (begun : List HeadInfo) → IsBegun role limits fs rest begun → IsVerdict role limits seen fs v → ((offset : ℕ) (reason : Reason) → IsRefused role limits seen fs offset reason → offset + 1 ≡ length seen) → (redacted : List ℕ) × IsRedactedRest role limits fs rest redacted
      by seen rest whole begun (inl closed) is_seen last = (zeros_for rest, inl (closed.1, refl))
      by seen rest whole begun (inr (inl none)) is_seen last = (rest, inr (inl (none.1, none.2, refl)))
      by seen rest whole begun (inr (inr some)) is_seen last =
          let made = begun_rest seen fs v rest whole some.0 some.1.0 some.1.2 is_seen last in
          (made.0, inr (inr (some.0, made.1)))

  pub some_redaction_of : (bytes : List ℕ) → IsBytes bytes → (redacted : List ℕ) × IsRedaction role limits bytes redacted
  some_redaction_of bytes in_bytes =
      let found = has_verdict role limits range bytes in_bytes in
      let rest = some_rest bytes in_bytes found.frames found.verdict found.is in
      let lawful = (all_of_verdict role limits bytes found.frames found.verdict found.is).lawful in (
        stream (redacted_frames [] found.frames) ++ (rest.0 ++ zeros_for (unjudged found.verdict bytes)),
        record {
          frames = found.frames;
          verdict = found.verdict;
          is_verdict = found.is;
          is = record {
            frames = redacted_frames [] found.frames;
            are_frames = are_redacted role limits [] found.frames lawful;
            rest = rest.0;
            is_rest = rest.1;
            whole = refl;
          };
        },
      )
