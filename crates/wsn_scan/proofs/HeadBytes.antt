-- A head that a chunk continues.
use Rattle.std.proofs.Common.{◌≡◌, ◌≢◌, ℕ, ◌+◌, ◌-◌, ◌<◌, ◌≤◌, Bool, true, false, cond, Result, Ok, Err, List, [], ◌∷◌, ◌++◌, length, take, drop, min, get_or, inl, inr, refl, sym, ap, ◌∙◌, subst, take-append-drop, take-take, length-append, arith}
use Rattle.std.specs.Prelude.{◌↔◌, IsOk, OnOk}
use Rattle.std.proofs.Math.Seq.{take-append-add}
use Rattle.std.proofs.lemmas.Bool.{false≢true, cases_lt}
use Rattle.std.proofs.lemmas.List.{length-take-le, take-append-le, take_more}
use Rattle.wsn_wire.specs.declared.endpoint.Role.{Role}
use Rattle.wsn_wire.specs.declared.length_encoding.LenForm.{LenForm}
use Rattle.wsn_wire.specs.declared.length_encoding.LenForm.TheVariants as len_form
use Rattle.wsn_wire.specs.declared.refusal.Reason.{Reason}
use Rattle.wsn_wire.specs.Frame.{Frame}
use Rattle.wsn_wire.specs.ReceivedHead.{mask_bit, len_form_at, length_count, key_count}
use Rattle.wsn_rules.specs.declared.head_info.HeadInfo.{HeadInfo}
use Rattle.wsn_rules.specs.Limits.{Limits}
use Rattle.wsn_rules.specs.Group.{unfinished}
use Rattle.wsn_rules.specs.Evidence.{Evidence, HasNoEvidence}
use Rattle.wsn_rules.specs.Heads.{BeginsWithHead}
use Rattle.wsn_frame.specs.declared.heads.Head.{Head}
use Rattle.wsn_frame.specs.declared.parsing.Parsed.{Parsed}
use Rattle.wsn_frame.specs.KeptMessages.{IsOpenMessage}
use Rattle.wsn_frame.specs.PartialHeads.{IsEvidentLast, IsShort, IsHeadSoFar, IsHead, IsParsed}
use Rattle.wsn_scan.specs.declared.scan.Scan.{Scan}
use Rattle.wsn_scan.specs.Scans.{HasConsumed}
use Rattle.wsn_scan.proofs.HeadsReported.{refused_begins_none, short_begins_none, head_begins, front_without_evidence}

-- what is parsed for the scan's own role and limits
pub parsed_on : (role : Role) (limits : Limits) (scan : Scan) (bytes rest joined : List ℕ) (fs : List Frame) (parsed : Parsed) → HasConsumed role limits scan bytes fs rest
    → ((group : List Frame) → IsOpenMessage scan.context.message group → IsParsed scan.context.role scan.context.limits group joined parsed) → IsParsed role limits (unfinished fs) joined parsed
parsed_on role limits scan bytes rest joined fs parsed has_consumed each =
    let of_role = subst (λ (r : Role). IsParsed r scan.context.limits (unfinished fs) joined parsed) has_consumed.sender (each (unfinished fs) has_consumed.message) in
    subst (λ (b : Limits). IsParsed role b (unfinished fs) joined parsed) has_consumed.under of_role

-- The bytes of a head that came before, and as many of the chunk as there is room for.
pub record AreJoined (begun bytes chunk : List ℕ) (came : ℕ) : Type 0 where
  pub is : bytes ≡ begun ++ take came chunk
  pub size : length bytes ≡ length begun + came
  pub within : came ≤ length chunk
  pub whole : length bytes < 14 → bytes ≡ begun ++ take (length chunk) chunk

pub joined : {T E : Type 0} (r : Result T E) (begun new bytes chunk : List ℕ) (room came : ℕ) → room + length begun ≡ 14 → came ≡ min (length chunk) room → IsOk r ↔ (length begun + length (take came chunk) ≤ 14)
    → OnOk r (new ≡ begun ++ take came chunk) → bytes ≡ new → AreJoined begun bytes chunk came
joined r begun new bytes chunk room came all came_is fits extends same =
    let within : came ≤ length chunk = omega (arith, came_is) in
    let part = length-take-le came chunk within in
    let is : bytes ≡ begun ++ take came chunk = same ∙ taken r fits extends (omega (arith, all, came_is, part)) in
    let size : length bytes ≡ length begun + came = ap (λ (bs : List ℕ). length bs) is ∙ length-append begun (take came chunk) ∙ ap (λ (n : ℕ). length begun + n) part in
    record {
      is = is;
      size = size;
      within = within;
      whole = λ short. let last : came ≡ length chunk = omega (arith, all, came_is, size, short) in is ∙ ap (λ (n : ℕ). begun ++ take n chunk) last;
    }
  where
    taken : {T E : Type 0} (r : Result T E) → IsOk r ↔ (length begun + length (take came chunk) ≤ 14) → OnOk r (new ≡ begun ++ take came chunk) → length begun + length (take came chunk) ≤ 14 → new ≡ begun ++ take came chunk
    taken (Ok v) fits extends few = extends
    taken (Err e) fits extends few = absurd (false≢true (fits.1 few))

pub some_length : (bs : List ℕ) → bs ≢ [] → 0 < length bs
some_length [] some = absurd (some refl)
some_length (b ∷ bs) some = omega arith

few_lengths : (f : LenForm) → length_count f ≤ 8
few_lengths (len_form.Short n) = omega arith
few_lengths len_form.Two = omega arith
few_lengths len_form.Eight = omega arith

few_keys : (second : ℕ) → key_count second ≤ 4
few_keys second = either (mask_bit second)
  where
    either : (mask : Bool) → cond mask 4 0 ≤ 4
    either true = omega arith
    either false = omega arith

-- fewer bytes than a head are less than 14
pub short_size : (bs : List ℕ) → IsShort bs → length bs < 14
short_size [] short = omega arith
short_size (first ∷ []) short = omega arith
short_size (first ∷ second ∷ following) short = omega (arith, short, few_lengths (len_form_at second), few_keys second)

module _ (role : Role) (limits : Limits) (fs : List Frame) (begun : List ℕ) (so_far : IsHeadSoFar role limits (unfinished fs) begun) (bytes chunk : List ℕ) (came size : ℕ) (are : AreJoined begun bytes chunk came) where
  earlier : size ≤ length begun → take size bytes ≡ take size begun
  earlier before = ap (λ (bs : List ℕ). take size bs) are.is ∙ take-append-le size begun (take came chunk) before

  -- a whole head ends in the bytes that came since
  pub head_since : (head : Head) → IsHead role limits (unfinished fs) head (take size bytes) → length begun < size
  head_since head is_head =
      elim (cases_lt (length begun) size) [
        | inl since ↦ since
        | inr before ↦
            let front = take size begun in
            let whole : front ++ drop size begun ≡ begun = take-append-drop size begun in
            let h = subst (λ (bs : List ℕ). IsHead role limits (unfinished fs) head bs) (earlier before) is_head in
            let quiet = front_without_evidence role limits (unfinished fs) front (drop size begun) (subst (HasNoEvidence role limits (unfinished fs)) (sym whole) so_far.has_no_evidence) in
            absurd (short_begins_none role limits fs begun so_far.short _ (head_begins role limits fs head front (drop size begun) begun h quiet (sym whole)))
      ]

  -- and so does the offending byte
  pub refused_since : (reason : Reason) → IsEvidentLast role limits (unfinished fs) reason (take size bytes) → length begun < size
  refused_since reason is =
      elim (cases_lt (length begun) size) [
        | inl since ↦ since
        | inr before ↦ absurd (so_far.has_no_evidence.none (take size begun) (drop size begun) reason (sym (take-append-drop size begun))
            (subst (λ (bs : List ℕ). Evidence role limits (unfinished fs) reason bs) (earlier before) is.is_evident))
      ]

-- those up to a byte of the chunk
pub joined_front : (begun bytes chunk : List ℕ) (came size : ℕ) → AreJoined begun bytes chunk came → length begun < size → size ≤ length bytes → take size bytes ≡ begun ++ take (size - length begun) chunk
joined_front begun bytes chunk came size are since within =
    let start = size - length begun in
    let same : size ≡ length begun + start = omega (arith, since) in
    ap (λ (bs : List ℕ). take size bs) are.is ∙ ap (λ (n : ℕ). take n (begun ++ take came chunk)) same ∙ take-append-add begun (take came chunk) start
    ∙ ap (λ (bs : List ℕ). begun ++ bs) (take-take start came chunk (omega (arith, within, are.size)))

-- no whole head is reported if the offending byte is in the head
pub refused_head : (role : Role) (limits : Limits) (fs : List Frame) (bytes : List ℕ) (size : ℕ) (reason : Reason) → 0 < size → size ≤ length bytes → IsShort (take (size - 1) bytes)
    → IsEvidentLast role limits (unfinished fs) reason (take size bytes) → (info : HeadInfo) → BeginsWithHead role limits fs (take size bytes) info → ⊥
refused_head role limits fs bytes size reason some within short is =
    let before = size - 1 in
    let same : size ≡ before + 1 = omega (arith, some) in
    refused_begins_none role limits fs (take before bytes) (take size bytes) (get_or bytes before 0) reason
    (ap (λ (n : ℕ). take n bytes) same ∙ take_more bytes before 0 (omega (arith, some, within))) (short_begins_none role limits fs (take before bytes) short) is.is_evident
