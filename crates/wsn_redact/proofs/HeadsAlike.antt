-- A head is evidence for the same refusals after the redacted frames of a message, and prefixes of redacted payloads.
use Rattle.std.proofs.Common.{◌≡◌, ℕ, zero, suc, ◌+◌, ◌-◌, ◌<◌, ◌≤◌, Bool, true, false, Some, List, [], ◌∷◌, ◌++◌, length, take, drop, inl, inr, refl, sym, ap, ◌∙◌, subst, append-nil, length-append, length-drop, take-append-drop, arith}
use Rattle.std.proofs.lemmas.Bool.{cases_lt}
use Rattle.std.proofs.lemmas.List.{take_all, drop_all, take_at, take-append-le, take-take, drop-take, length-take-le}
use Rattle.std.proofs.Math.Seq.{take-append-add, take-add}
use Rattle.wsn_wire.specs.declared.endpoint.Role.{Role}
use Rattle.wsn_wire.specs.declared.opcode.Op.{Op}
use Rattle.wsn_wire.specs.declared.opcode.Op.TheVariants.{Continue, Text, Binary, Close, Ping, Pong}
use Rattle.wsn_wire.specs.declared.refusal.Reason.{Reason}
use Rattle.wsn_wire.specs.declared.refusal.Reason.TheVariants.{NothingToContinue, MessageOpen, MessageTooBig, CloseCode, CloseReason, TextBad, TextCut, TooManyFrames}
use Rattle.wsn_wire.specs.Frame.{Frame}
use Rattle.wsn_wire.specs.ReceivedHead.{opcode_field, encoded_length, len_form_at}
use Rattle.wsn_text.specs.Utf8.{BeginsText}
use Rattle.wsn_text.proofs.Prefixes.{begins-nil, begins_take, bad_ends}
use Rattle.wsn_rules.specs.Evidence.{Evidence, IntoPayload, EvidentByFirst, EvidentByLength, EvidentByPayload, IsOfText}
use Rattle.wsn_rules.specs.Evidence.Evidence.{ByFirst, BySecond, ByLength, ByPayload}
use Rattle.wsn_rules.specs.Group.{payload_of}
use Rattle.wsn_rules.specs.Limits.{Limits}
use Rattle.wsn_redact.specs.StandIns.{IsRedactedText, IsRedacted, stood, due_after}
use Rattle.wsn_redact.specs.Redaction.{zeros_for, is_of_text, IsRedactedData, IsRedactedBody, IsRedactedPayload}
use Rattle.wsn_redact.proofs.StoodTexts.{stood-append, length-stood, is_stood, stood_is, redacted_begins, redacted_length}
use Rattle.wsn_redact.proofs.RedactedLawful.{beginning_stays}
use Rattle.wsn_redact.proofs.RedactedVerdicts.{SameGroup}
use Rattle.wsn_redact.proofs.PayloadsAlike.{inside_alike, of_text_forth, of_text_back, text_of_text, body_of}
use Rattle.wsn_rules.proofs.HeadEvidence.{unmasked-nil}

-- ---- a head

none_too : (xs ys : List Frame) → length ys ≡ length xs → xs ≡ [] → ys ≡ []
none_too xs [] count none = refl
none_too xs (y ∷ ys) count none = let size = ap (λ (zs : List Frame). length zs) none in absurd (omega (arith, count, size))

by_first_too : (limits : Limits) (xs ys : List Frame) → length ys ≡ length xs → (reason : Reason) (first : ℕ) → EvidentByFirst limits xs reason first → EvidentByFirst limits ys reason first
by_first_too limits xs ys count NothingToContinue first e = (e.0, none_too xs ys count e.1)
by_first_too limits xs ys count MessageOpen first e = (e.0, λ none. e.1 (none_too ys xs (sym count) none))
by_first_too limits xs ys count TooManyFrames first e = (e.0, e.1 ∙ ap Some (sym count))
by_first_too limits xs ys count _ first e = e

by_length_too : (limits : Limits) (xs ys : List Frame) → length (payload_of ys) ≡ length (payload_of xs) → (reason : Reason) (first second : ℕ) (len : List ℕ) → EvidentByLength limits xs reason first second len → EvidentByLength limits ys reason first second len
by_length_too limits xs ys size MessageTooBig first second len e = (e.0, subst (λ (n : ℕ). limits.message < n + encoded_length (len_form_at second) len) (sym size) e.1)
by_length_too limits xs ys size _ first second len e = e

module _ (role : Role) (limits : Limits) (group redacted : List Frame) (same : SameGroup group redacted) (begins : (n : ℕ) → IsOfText group n → BeginsText (payload_of group)) where
  -- An empty payload.
  whole_of : (n : ℕ) → IsOfText group n → IsRedacted (payload_of group ++ []) (payload_of redacted ++ [])
  whole_of n is =
      let e = payload_of group in
      let it : IsRedacted e (stood [] e) = inl (stood_is e (begins n is)) in
      subst (λ (bs : List ℕ). IsRedacted bs (payload_of redacted ++ [])) (sym (append-nil e)) (subst (λ (bs : List ℕ). IsRedacted e bs) (sym (append-nil (payload_of redacted) ∙ text_of_text group redacted n same is)) it)

  payload_begins : (n : ℕ) → IsOfText group n → BeginsText (payload_of redacted ++ [])
  payload_begins n is = subst BeginsText (sym (append-nil (payload_of redacted) ∙ text_of_text group redacted n same is)) (beginning_stays (payload_of group) (begins n is))

  empty_forth : (reason : Reason) (first total : ℕ) → EvidentByPayload group reason first total [] → EvidentByPayload redacted reason first total []
  empty_forth CloseCode first total e = absurd (omega (arith, e.1))
  empty_forth CloseReason first total e = (e.0, e.1)
  empty_forth TextBad first total e = absurd (bad_ends (payload_of group ++ []) e.1.0 e.1.2 (subst BeginsText (sym (append-nil (payload_of group))) (begins (opcode_field first) e.0)))
  empty_forth TextCut first total e = (of_text_forth group redacted (opcode_field first) same e.0, e.1, e.2, (inside_alike (payload_of group ++ []) (payload_of redacted ++ []) (whole_of (opcode_field first) e.0)).0 e.3)
  empty_forth _ first total e = absurd e

  empty_back : (reason : Reason) (first total : ℕ) → EvidentByPayload redacted reason first total [] → EvidentByPayload group reason first total []
  empty_back CloseCode first total e = absurd (omega (arith, e.1))
  empty_back CloseReason first total e = (e.0, e.1)
  empty_back TextBad first total e = absurd (bad_ends (payload_of redacted ++ []) e.1.0 e.1.2 (payload_begins (opcode_field first) (of_text_back group redacted (opcode_field first) same e.0)))
  empty_back TextCut first total e = let own = of_text_back group redacted (opcode_field first) same e.0 in (own, e.1, e.2, (inside_alike (payload_of group ++ []) (payload_of redacted ++ []) (whole_of (opcode_field first) own)).1 e.3)
  empty_back _ first total e = absurd e

  -- Bytes without a payload.
  pub head_forth : (reason : Reason) (seen : List ℕ) → ((p : IntoPayload seen) → p.wire ≡ []) → Evidence role limits group reason seen → Evidence role limits redacted reason seen
  head_forth reason seen none (ByFirst first is row) = ByFirst first is (by_first_too limits group redacted same.count reason first row)
  head_forth reason seen none (BySecond first second is row) = BySecond first second is row
  head_forth reason seen none (ByLength first second len is count row) = ByLength first second len is count (by_length_too limits group redacted same.size reason first second len row)
  head_forth reason seen none (ByPayload p row) =
      let empty = unmasked-nil p.second p.key p.wire (none p) in
      let total = encoded_length (len_form_at p.second) p.len in
      ByPayload p (subst (λ (bs : List ℕ). EvidentByPayload redacted reason p.first total bs) (sym empty) (empty_forth reason p.first total (subst (λ (bs : List ℕ). EvidentByPayload group reason p.first total bs) empty row)))

  pub head_back : (reason : Reason) (seen : List ℕ) → ((p : IntoPayload seen) → p.wire ≡ []) → Evidence role limits redacted reason seen → Evidence role limits group reason seen
  head_back reason seen none (ByFirst first is row) = ByFirst first is (by_first_too limits redacted group (sym same.count) reason first row)
  head_back reason seen none (BySecond first second is row) = BySecond first second is row
  head_back reason seen none (ByLength first second len is count row) = ByLength first second len is count (by_length_too limits redacted group (sym same.size) reason first second len row)
  head_back reason seen none (ByPayload p row) =
      let empty = unmasked-nil p.second p.key p.wire (none p) in
      let total = encoded_length (len_form_at p.second) p.len in
      ByPayload p (subst (λ (bs : List ℕ). EvidentByPayload group reason p.first total bs) (sym empty) (empty_back reason p.first total (subst (λ (bs : List ℕ). EvidentByPayload redacted reason p.first total bs) empty row)))

-- ---- prefixes of a redacted payload

take_stood : (n : ℕ) (text : List ℕ) → n ≤ length text → take n (stood [] text) ≡ stood [] (take n text)
take_stood n text within =
    let front = take n text in
    let size : length (stood [] front) ≡ n = length-stood [] front ∙ length-take-le n text within in
    ap (λ (bs : List ℕ). take n (stood [] bs)) (sym (take-append-drop n text)) ∙ ap (λ (bs : List ℕ). take n bs) (stood-append [] front (drop n text)) ∙ take_at (stood [] front) (stood (due_after [] front) (drop n text)) n size

front_of : (n : ℕ) (text redacted : List ℕ) → n ≤ length text → IsRedactedText text redacted → IsRedactedText (take n text) (take n redacted)
front_of n text redacted within r =
    subst (IsRedactedText (take n text)) (sym (ap (λ (bs : List ℕ). take n bs) (is_stood text redacted r) ∙ take_stood n text within)) (stood_is (take n text) (begins_take n text (redacted_begins text redacted r)))

pub prefix_of : (n : ℕ) (text redacted : List ℕ) → n < length text → IsRedacted text redacted → IsRedacted (take n text) (take n redacted)
prefix_of n text redacted within (inl r) = inl (front_of n text redacted (omega (arith, within)) r)
prefix_of n text redacted within (inr r) =
    let size = ap (λ (bs : List ℕ). length bs) r.text_is ∙ length-append r.front (r.bad ∷ []) in
    let few : n ≤ length r.front = omega (arith, within, size) in
    let count = redacted_length r.front r.front_redacted (inl r.is_front) in
    let text_is : take n text ≡ take n r.front = ap (λ (bs : List ℕ). take n bs) r.text_is ∙ take-append-le n r.front (r.bad ∷ []) few in
    let redacted_is : take n redacted ≡ take n r.front_redacted = ap (λ (bs : List ℕ). take n bs) r.redacted_is ∙ take-append-le n r.front_redacted _ (omega (arith, few, count)) in
    inl (subst (λ (bs : List ℕ). IsRedactedText bs (take n redacted)) (sym text_is) (subst (IsRedactedText (take n r.front)) (sym redacted_is) (front_of n r.front r.front_redacted few r.is_front)))

take_zeros : (n : ℕ) (bytes : List ℕ) → take n (zeros_for bytes) ≡ zeros_for (take n bytes)
take_zeros zero bytes = refl
take_zeros (suc n) [] = refl
take_zeros (suc n) (b ∷ bytes) = ap (λ (bs : List ℕ). 0 ∷ bs) (take_zeros n bytes)

data_prefix : (n : ℕ) (c : Bool) (earlier payload part : List ℕ) → n < length payload → IsRedactedData c earlier payload part → IsRedactedData c earlier (take n payload) (take n part)
data_prefix n false earlier payload part within r = ap (λ (bs : List ℕ). take n bs) r ∙ take_zeros n payload
data_prefix n true earlier payload part within r =
    let k = length earlier + n in
    let same = r.same_place in
    let offset : k ≡ length r.before + n = omega (arith, same) in
    let front = prefix_of k (earlier ++ payload) (r.before ++ part) (omega (arith, within, length-append earlier payload)) r.is in
    record {
      before = r.before;
      same_place = r.same_place;
      is = subst (λ (bs : List ℕ). IsRedacted bs (r.before ++ take n part)) (take-append-add earlier payload n) (subst (IsRedacted (take k (earlier ++ payload))) (ap (λ (m : ℕ). take m (r.before ++ part)) offset ∙ take-append-add r.before part n) front);
    }

body_prefix : (n : ℕ) (body part : List ℕ) → n < length body → IsRedactedBody body part → IsRedactedBody (take n body) (take n part)
body_prefix n body part within r =
    let b = body_of body part r in
    elim (cases_lt n 2) [
      | inl short ↦
          let front = take n body in
          let count = length-take-le n body (omega (arith, within)) in
          let none : drop 2 front ≡ [] = drop_all 2 front (omega (arith, count, short)) in
          let all : take 2 front ≡ front = take_all 2 front (omega (arith, count, short)) in
          let same : take n part ≡ front = sym (take-take n 2 part (omega (arith, short))) ∙ ap (λ (bs : List ℕ). take n bs) b.code ∙ take-take n 2 body (omega (arith, short)) in
          ([], subst (λ (bs : List ℕ). IsRedacted bs []) (sym none) (inl (stood_is [] begins-nil)), same ∙ sym all ∙ sym (append-nil (take 2 front)))
      | inr long ↦
          let m = n - 2 in
          let sum : n ≡ 2 + m = omega (arith, long) in
          let rest : drop 2 (take n body) ≡ take m (drop 2 body) = ap (λ (k : ℕ). drop 2 (take k body)) sum ∙ drop-take 2 m body in
          let code : take 2 (take n body) ≡ take 2 part = take-take 2 n body long ∙ sym b.code in
          let it = prefix_of m (drop 2 body) (drop 2 part) (omega (arith, within, long, length-drop 2 body)) b.reason in (
            take m (drop 2 part),
            subst (λ (bs : List ℕ). IsRedacted bs (take m (drop 2 part))) (sym rest) it,
            ap (λ (k : ℕ). take k part) sum ∙ take-add 2 m part ∙ ap (λ (bs : List ℕ). bs ++ take m (drop 2 part)) (sym code),
          )
    ]

pub payload_prefix : (n : ℕ) (group : List Frame) (op : Op) (payload part : List ℕ) → n < length payload → IsRedactedPayload group op payload part → IsRedactedPayload group op (take n payload) (take n part)
payload_prefix n group Close payload part within r = body_prefix n payload part within r
payload_prefix n group Continue payload part within r = data_prefix n (is_of_text group Continue) (payload_of group) payload part within r
payload_prefix n group Text payload part within r = data_prefix n (is_of_text group Text) (payload_of group) payload part within r
payload_prefix n group Binary payload part within r = data_prefix n (is_of_text group Binary) (payload_of group) payload part within r
payload_prefix n group Ping payload part within r = data_prefix n (is_of_text group Ping) (payload_of group) payload part within r
payload_prefix n group Pong payload part within r = data_prefix n (is_of_text group Pong) (payload_of group) payload part within r
