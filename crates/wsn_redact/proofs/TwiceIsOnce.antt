-- The redaction of a redaction is itself, whatever the verdict is.
use Rattle.std.proofs.Common.{◌≡◌, ℕ, ◌+◌, ◌≤◌, Bool, true, false, List, [], ◌∷◌, ◌++◌, length, take, drop, inl, inr, refl, sym, ap, ◌∙◌, subst, append-nil, append_assoc, length-append, length-drop, take-append-drop, arith}
use Rattle.std.proofs.lemmas.List.{take_at, drop_at, length-take-le}
use Rattle.wsn_wire.specs.declared.endpoint.Role.{Role}
use Rattle.wsn_wire.specs.declared.opcode.Op.{Op}
use Rattle.wsn_wire.specs.declared.opcode.Op.TheVariants.{Continue, Text, Close}
use Rattle.wsn_wire.specs.Frame.{Frame, IsBytes, stream, wire_payload}
use Rattle.wsn_text.specs.Utf8.{BeginsText}
use Rattle.wsn_rules.specs.declared.verdict.Verdict.{Verdict}
use Rattle.wsn_rules.specs.declared.verdict.Verdict.TheVariants.{Accepted, Cut, Refused}
use Rattle.wsn_rules.specs.Limits.{Limits}
use Rattle.wsn_rules.specs.AfterClose.{HasNoClose, EndsWithClose}
use Rattle.wsn_rules.specs.Group.{unfinished, payload_of}
use Rattle.wsn_rules.specs.Heads.{BeginsWithHead}
use Rattle.wsn_rules.specs.Lawful.{IsLawful}
use Rattle.wsn_rules.specs.Verdict.{IsVerdict, judged_bytes}
use Rattle.wsn_rules.proofs.Groups.{group_of_lawful}
use Rattle.wsn_rules.proofs.OneVerdict.{all_of_verdict}
use Rattle.wsn_redact.specs.StandIns.{single_stand_in, IsRedactedText, IsRedacted, stood}
use Rattle.wsn_redact.specs.Redaction.{zeros_for, is_text, is_of_text, IsRedactedData, IsRedactedPayload, IsRedactedRest, AreRedacted, redacted_frames, unjudged, IsRedaction}
use Rattle.wsn_redact.proofs.StoodTexts.{is_stood, stood_is, redacted_begins}
use Rattle.wsn_redact.proofs.RedactedPayloads.{are_redacted, one_frames}
use Rattle.wsn_redact.proofs.OneRedaction.{frames_length, rest_length}
use Rattle.wsn_redact.proofs.KeptParts.{MayBegin}
use Rattle.wsn_redact.proofs.RedactedSteps.{may_begun}
use Rattle.wsn_redact.proofs.QuietPayloads.{group_begins}
use Rattle.wsn_redact.proofs.RedactedLawful.{beginning_stays}
use Rattle.wsn_redact.proofs.RedactedVerdicts.{SameGroup, none_same, frames_stay_lawful, no_close_stays, close_stays}
use Rattle.wsn_redact.proofs.RedactedTwice.{stood_twice, zeros_twice}
use Rattle.wsn_redact.proofs.AcceptedTwice.{text_before, frames_twice}
use Rattle.wsn_redact.proofs.TextsStay.{begins_alike}
use Rattle.wsn_redact.proofs.PayloadsAlike.{payload_part, body_of}
use Rattle.wsn_redact.proofs.PayloadsStay.{head_before, head_after}
use Rattle.wsn_redact.proofs.SameVerdicts.{verdict_stays}
use Rattle.wsn_redact.proofs.Singles.{single_twice}
use Rattle.wsn_wire.proofs.FrameLemmas.{wire_payload_twice}

-- ---- texts

text_again : (text redacted : List ℕ) → IsRedactedText text redacted → IsRedactedText redacted redacted
text_again text redacted r =
    let begins = redacted_begins text redacted r in
    let it : IsRedactedText (stood [] text) (stood [] text) = subst (IsRedactedText (stood [] text)) (stood_twice text begins) (stood_is (stood [] text) (beginning_stays text begins)) in
    subst (λ (bs : List ℕ). IsRedactedText bs bs) (sym (is_stood text redacted r)) it

pub redacted_again : (text redacted : List ℕ) → IsRedacted text redacted → IsRedacted redacted redacted
redacted_again text redacted (inl r) = inl (text_again text redacted r)
redacted_again text redacted (inr r) = inr (record {
  front = r.front_redacted;
  bad = single_stand_in r.bad;
  front_redacted = r.front_redacted;
  text_is = r.redacted_is;
  goes_wrong = λ good. r.goes_wrong ((begins_alike text redacted (inr r)).1 good);
  is_front = text_again r.front r.front_redacted r.is_front;
  redacted_is = r.redacted_is ∙ ap (λ (b : ℕ). r.front_redacted ++ b ∷ []) (sym (single_twice r.bad));
})

-- ---- payloads

zeros_again : (payload part : List ℕ) → part ≡ zeros_for payload → part ≡ zeros_for part
zeros_again payload part is = is ∙ sym (ap (λ (bs : List ℕ). zeros_for bs) is ∙ zeros_twice payload)

data_again : (c : Bool) (earlier later payload part : List ℕ) → (c ≡ true → IsRedacted (earlier ++ payload) (later ++ part)) → IsRedactedData c earlier payload part → IsRedactedData c later part part
data_again true earlier later payload part whole r = record { before = later; same_place = refl; is = redacted_again (earlier ++ payload) (later ++ part) (whole refl) }
data_again false earlier later payload part whole r = zeros_again payload part r

module _ (group redacted : List Frame) (same : SameGroup group redacted) (payload part : List ℕ) where
  -- The whole text so far.
  pub whole_text : (op : Op) → MayBegin group op → (is_of_text group op ≡ true → BeginsText (payload_of group)) → IsRedactedPayload group op payload part → is_of_text group op ≡ true → IsRedacted (payload_of group ++ payload) (payload_of redacted ++ part)
  whole_text op may begins r is =
      subst (λ (bs : List ℕ). IsRedacted (payload_of group ++ payload) (bs ++ part)) (sym (text_before group redacted op same may is)) (payload_part group op payload part is (begins is) r)

  pub payload_again : (op : Op) → MayBegin group op → (is_of_text group op ≡ true → BeginsText (payload_of group)) → IsRedactedPayload group op payload part → IsRedactedPayload redacted op part part
  payload_again Close may begins r = let b = body_of payload part r in (drop 2 part, redacted_again (drop 2 payload) (drop 2 part) b.reason, sym (take-append-drop 2 part))
  payload_again Continue may begins r =
      subst (λ (c : Bool). IsRedactedData c (payload_of redacted) part part) (sym (ap is_text same.first)) (data_again (is_of_text group Continue) (payload_of group) (payload_of redacted) payload part (whole_text Continue may begins r) r)
  payload_again Text may begins r = data_again true (payload_of group) (payload_of redacted) payload part (whole_text Text may begins r) r
  payload_again _ may begins r = zeros_again payload part r

-- ---- what follows the frames

module _ (role : Role) (limits : Limits) (fs gs : List Frame) (lawful : IsLawful role limits fs) (same : SameGroup (unfinished fs) (unfinished gs)) (streams : length (stream gs) ≡ length (stream fs)) where
  pub rest_again : (EndsWithClose fs → EndsWithClose gs) → (HasNoClose fs → HasNoClose gs) → (seen rest : List ℕ) → IsRedactedRest role limits fs seen rest → IsRedactedRest role limits gs rest rest
  unfolding head_after
  rest_again closes none_closes seen rest (inl closed) = inl (closes closed.0, zeros_again seen rest closed.1)
  rest_again closes none_closes seen rest (inr (inl none)) =
      inr (inl (none_closes none.0, λ info g. none.1 info (head_before role limits fs gs lawful same streams seen info (subst (λ (bs : List ℕ). BeginsWithHead role limits gs bs info) none.2 g)), refl))
  rest_again closes none_closes seen rest (inr (inr some)) =
      let s = some.1 in
      let b = s.begins in
      let may = may_begun role limits fs seen s.info b in
      let wire = wire_payload s.info.key s.part in
      let payload = wire_payload s.info.key b.following in
      let text : is_of_text (unfinished fs) s.info.op ≡ true → BeginsText (payload_of (unfinished fs)) = λ is. group_begins limits (unfinished fs) s.info.op may (group_of_lawful role limits fs lawful) is in
      let part = payload_again (unfinished fs) (unfinished gs) same payload s.part s.info.op may text s.is_part in
      let it : IsRedactedRest role limits gs (b.head ++ wire) (b.head ++ wire) =
      inr (inr (
        none_closes some.0,
        record {
          info = s.info;
          begins = head_after role limits fs gs lawful same streams seen s.info b wire;
          part = s.part;
          is_part = subst (λ (bs : List ℕ). IsRedactedPayload (unfinished gs) s.info.op bs s.part) (sym (wire_payload_twice s.info.key s.part)) part;
          redacted_is = refl;
        },
      )) in
      subst (λ (bs : List ℕ). IsRedactedRest role limits gs bs bs) (sym s.redacted_is) it

-- ---- a stream

module _ (role : Role) (limits : Limits) where
  -- The parts of a redaction, which the same verdict divides.
  pub record IsDivided (gs : List Frame) (rest later redacted : List ℕ) (v : Verdict) : Type 0 where
    pub rest_is : drop (length (stream gs)) (judged_bytes v redacted) ≡ rest
    pub later_is : unjudged v redacted ≡ later

  pub divided : (bytes : List ℕ) (fs gs : List Frame) (rest redacted : List ℕ) (v : Verdict) → IsVerdict role limits bytes fs v → length (stream gs) ≡ length (stream fs) → length rest ≡ length (drop (length (stream fs)) (judged_bytes v bytes)) → redacted ≡ stream gs ++ (rest ++ zeros_for (unjudged v bytes))
      → IsDivided gs rest (zeros_for (unjudged v bytes)) redacted v
  divided bytes fs gs rest redacted (Accepted s) is streams size whole = record {
    rest_is = ap (λ (bs : List ℕ). drop (length (stream gs)) bs) whole ∙ drop_at (stream gs) (rest ++ []) (length (stream gs)) refl ∙ append-nil rest;
    later_is = refl;
  }
  divided bytes fs gs rest redacted (Cut s) is streams size whole = record {
    rest_is = ap (λ (bs : List ℕ). drop (length (stream gs)) bs) whole ∙ drop_at (stream gs) (rest ++ []) (length (stream gs)) refl ∙ append-nil rest;
    later_is = refl;
  }
  divided bytes fs gs rest redacted (Refused q) is streams size whole =
      let e = is.is_evident in
      let at = e.at_offset in
      let total = ap (λ (bs : List ℕ). length bs) e.whole in
      let within : q.offset + 1 ≤ length bytes = omega (arith, at, total, length-append (stream fs) (e.seen ++ e.later), length-append e.seen e.later) in
      let front = stream gs ++ rest in
      let later = zeros_for (drop (q.offset + 1) bytes) in
      let count : length front ≡ q.offset + 1 = omega (arith, at, size, streams, within, length-append (stream gs) rest, length-drop (length (stream fs)) (take (q.offset + 1) bytes), length-take-le (q.offset + 1) bytes within) in
      let all : redacted ≡ front ++ later = whole ∙ sym (append_assoc (stream gs) rest later) in
      record {
        rest_is = ap (λ (bs : List ℕ). drop (length (stream gs)) (take (q.offset + 1) bs)) all ∙ ap (λ (bs : List ℕ). drop (length (stream gs)) bs) (take_at front later (q.offset + 1) count) ∙ drop_at (stream gs) rest (length (stream gs)) refl;
        later_is = ap (λ (bs : List ℕ). drop (q.offset + 1) bs) all ∙ drop_at front later (q.offset + 1) count;
      }

  pub redaction_twice : (bytes redacted : List ℕ) → IsBytes bytes → IsRedaction role limits bytes redacted → IsRedaction role limits redacted redacted
  redaction_twice bytes redacted in_bytes r =
      let fs = r.frames in
      let v = r.verdict in
      let at = r.is in
      let gs = redacted_frames [] fs in
      let seen = drop (length (stream fs)) (judged_bytes v bytes) in
      let lawful = (all_of_verdict role limits bytes fs v r.is_verdict).lawful in
      let stays = frames_stay_lawful role limits fs lawful in
      let are = are_redacted role limits [] fs lawful in
      let streams : length (stream gs) ≡ length (stream fs) = frames_length [] fs gs are in
      let whole : redacted ≡ stream gs ++ (at.rest ++ zeros_for (unjudged v bytes)) = at.whole ∙ ap (λ (hs : List Frame). stream hs ++ (at.rest ++ zeros_for (unjudged v bytes))) (one_frames [] fs at.frames gs at.are_frames are) in
      let d = divided bytes fs gs at.rest redacted v r.is_verdict streams (rest_length role limits fs seen at.rest at.is_rest) whole in
      let rest = rest_again role limits fs gs lawful stays.same streams (close_stays fs) (no_close_stays fs) seen at.rest at.is_rest in
      let later : zeros_for (unjudged v bytes) ≡ zeros_for (unjudged v redacted) = sym (ap (λ (bs : List ℕ). zeros_for bs) d.later_is ∙ zeros_twice (unjudged v bytes)) in
      record {
        frames = gs;
        verdict = v;
        is_verdict = verdict_stays role limits bytes redacted fs v in_bytes r.is_verdict r;
        is = record {
          frames = gs;
          are_frames = subst (AreRedacted [] gs) (frames_twice role limits [] [] fs lawful none_same) (are_redacted role limits [] gs stays.lawful);
          rest = at.rest;
          is_rest = subst (λ (bs : List ℕ). IsRedactedRest role limits gs bs at.rest) (sym d.rest_is) rest;
          whole = whole ∙ ap (λ (bs : List ℕ). stream gs ++ (at.rest ++ bs)) later;
        };
      }
