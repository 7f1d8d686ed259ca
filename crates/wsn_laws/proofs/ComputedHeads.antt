-- The heads of bytes that are written out, where their frames compute.
use Rattle.std.specs.Prelude.{IfSome, nat_lt, nat_le}
use Rattle.std.proofs.Common.{◌≡◌, ℕ, ◌+◌, ◌-◌, ◌<◌, ◌≤◌, ◌^◌, Bool, true, false, List, [], ◌∷◌, ◌++◌, length, inl, inr, refl, sym, ap, ◌∙◌, append_assoc, append-nil, length-append, arith}
use Rattle.wsn_wire.specs.declared.endpoint.Role.{Role}
use Rattle.wsn_wire.specs.declared.opcode.Op.TheVariants.{Close}
use Rattle.wsn_wire.specs.declared.refusal.Reason.{Reason}
use Rattle.wsn_wire.specs.Frame.{Frame, IsKey, FormFits, first_byte, second_byte, len_form_of, length_bytes, key_bytes, head_bytes, stream}
use Rattle.wsn_rules.specs.declared.head_info.HeadInfo.{HeadInfo}
use Rattle.wsn_rules.specs.declared.verdict.Refusal.{Refusal}
use Rattle.wsn_rules.specs.declared.verdict.Summary.{Summary}
use Rattle.wsn_rules.specs.declared.verdict.Verdict.{Verdict}
use Rattle.wsn_rules.specs.declared.verdict.Verdict.TheVariants.{Accepted, Cut, Refused}
use Rattle.wsn_rules.specs.Limits.{Limits}
use Rattle.wsn_rules.specs.Group.{unfinished}
use Rattle.wsn_rules.specs.AfterClose.{EndsWithClose}
use Rattle.wsn_rules.specs.Evidence.{Evidence}
use Rattle.wsn_rules.specs.Heads.{heads_of, BeginsWithHead, AreHeads}
use Rattle.wsn_rules.specs.Verdict.{IsVerdict}
use Rattle.wsn_rules.proofs.Prefixes.{append_cancel, two_fronts}
use Rattle.wsn_rules.proofs.LeastEvident.{evidence_is_some}
use Rattle.wsn_rules.proofs.Computed.{all_bytes, bytes_by_test, in_range, range_by_test, found}
use Rattle.wsn_laws.specs.HeadExamples.{Lists}
use Rattle.wsn_print.specs.HeadText.{head_lines}
use Rattle.wsn_rules.proofs.EveryInput.{HasVerdict}
use Rattle.std.proofs.lemmas.Bool.{ltb-true, leb-true, false≢true}

empty : (xs : List ℕ) → length xs ≡ 0 → xs ≡ []
empty [] none = refl
empty (x ∷ xs) none = absurd (omega (arith, none))

two_more : (a b : ℕ) (xs : List ℕ) → 2 ≤ length (a ∷ b ∷ xs)
two_more a b xs = omega arith

module _ (role : Role) (limits : Limits) (bytes : List ℕ) (fs : List Frame) (rest : List ℕ) (whole : bytes ≡ stream fs ++ rest) where
  at_least_two : (info : HeadInfo) (b : BeginsWithHead role limits fs rest info) → 2 ≤ length b.head
  at_least_two info b =
      let size : length b.head ≡ length (head_bytes info.fin info.op info.key info.form info.len) = ap (λ (bs : List ℕ). length bs) b.encoded in
      let two = two_more (first_byte info.fin info.op) (second_byte info.key (len_form_of info.form info.len)) (length_bytes (len_form_of info.form info.len) info.len ++ key_bytes info.key) in
      omega (arith, size, two)

  -- The bytes end inside a head.
  of_cut : (summary : Summary) → IsVerdict role limits bytes fs (Cut summary) → length rest < 2 → AreHeads role limits bytes fs (heads_of fs)
  of_cut summary is few = record { rest = rest; begun = []; lawful = is.0.lawful; whole = whole; is_begun = inr (inl (refl, is.0.no_close, none)); all = sym (append-nil (heads_of fs)) }
    where
      none : (info : HeadInfo) → BeginsWithHead role limits fs rest info → ⊥
      none info b =
          let all : length rest ≡ length b.head + length b.following = ap (λ (bs : List ℕ). length bs) b.whole ∙ length-append b.head b.following in
          omega (arith, all, at_least_two info b, few)

  -- The frames end with a Close.
  of_close : (summary : Summary) → IsVerdict role limits bytes fs (Accepted summary) → EndsWithClose fs → AreHeads role limits bytes fs (heads_of fs)
  of_close summary is closed = record { rest = rest; begun = []; lawful = is.0.lawful; whole = whole; is_begun = inl (refl, closed); all = sym (append-nil (heads_of fs)) }

  -- One of the first two bytes of a frame is the offending byte.
  of_refused_head : (refusal : Refusal) → IsVerdict role limits bytes fs (Refused refusal) → refusal.offset < length (stream fs) + 2 → AreHeads role limits bytes fs (heads_of fs)
  of_refused_head refusal is early = record { rest = rest; begun = []; lawful = is.lawful; whole = whole; is_begun = inr (inl (refl, is.no_close, none)); all = sym (append-nil (heads_of fs)) }
    where
      seen : List ℕ
      seen = is.is_evident.seen

      later : List ℕ
      later = is.is_evident.later

      rest_is : rest ≡ seen ++ later
      rest_is = append_cancel (stream fs) rest (seen ++ later) (sym whole ∙ is.is_evident.whole)

      none : (info : HeadInfo) → BeginsWithHead role limits fs rest info → ⊥
      none info b =
          elim (two_fronts seen b.head later b.following (sym rest_is ∙ b.whole)) [
            | inl p ↦ b.has_no_evidence.none seen p.0 refusal.reason p.1 is.is_evident.evidence
            | inr p ↦
                let size : length seen ≡ length b.head + length p.0 = ap (λ (bs : List ℕ). length bs) p.1 ∙ length-append b.head p.0 in
                let same : seen ≡ b.head = p.1 ∙ ap (λ (bs : List ℕ). b.head ++ bs) (empty p.0 (omega (arith, size, at_least_two info b, is.is_evident.at_offset, early))) ∙ append-nil b.head in
                b.has_no_evidence.none seen [] refusal.reason (sym same ∙ sym (append-nil seen)) is.is_evident.evidence
          ]

  -- The offending byte comes after a complete head.
  of_refused_payload : (refusal : Refusal) → IsVerdict role limits bytes fs (Refused refusal) → (info : HeadInfo) (following : List ℕ) → rest ≡ head_bytes info.fin info.op info.key info.form info.len ++ following
      → info.offset ≡ length (stream fs) → IfSome info.key IsKey → FormFits info.form info.len → info.len < 2 ^ 63
      → length (stream fs) + length (head_bytes info.fin info.op info.key info.form info.len) ≤ refusal.offset → AreHeads role limits bytes fs (heads_of fs ++ info ∷ [])
  of_refused_payload refusal is info following begins offset key form size late = record {
    rest = rest;
    begun = info ∷ [];
    lawful = is.lawful;
    whole = whole;
    is_begun = inr (inr (is.no_close, (info, refl, record { head = head; following = following; whole = begins; offset = offset; encoded = refl; key = key; form = form; size = size; has_no_evidence = record { none = has_no_evidence } })));
    all = refl;
  }
    where
      head : List ℕ
      head = head_bytes info.fin info.op info.key info.form info.len

      has_no_evidence : (seen later : List ℕ) (reason : Reason) → head ≡ seen ++ later → Evidence role limits (unfinished fs) reason seen → ⊥
      has_no_evidence seen later reason parts evidence =
          let some = evidence_is_some role limits (unfinished fs) reason seen evidence in
          let size : length head ≡ length seen + length later = ap (λ (bs : List ℕ). length bs) parts ∙ length-append seen later in
          let first = is.least (length (stream fs) + length seen - 1) reason (record {
            seen = seen;
            later = later ++ following;
            whole = whole ∙ ap (λ (bs : List ℕ). stream fs ++ bs) (begins ∙ ap (λ (bs : List ℕ). bs ++ following) parts ∙ append_assoc seen later following);
            at_offset = omega (arith, some);
            evidence = evidence;
          }) in
          elim first [ inl less ↦ omega (arith, less, late, size, some) | inr same ↦ let at = same.0 in omega (arith, at, late, size, some) ]

-- ---- for the computed verdict

abbrev pub is_cut : Verdict → Bool
is_cut (Cut summary) = true
is_cut verdict = false

abbrev pub is_accepted : Verdict → Bool
is_accepted (Accepted summary) = true
is_accepted verdict = false

abbrev pub refused_before : ℕ → Verdict → Bool
refused_before offset (Refused refusal) = nat_lt refusal.offset offset
refused_before offset verdict = false

abbrev pub refused_from : ℕ → Verdict → Bool
refused_from offset (Refused refusal) = nat_le offset refusal.offset
refused_from offset verdict = false

module _ (role : Role) (limits : Limits) (bytes text : List ℕ) (range : in_range limits ≡ true) (in_bytes : all_bytes bytes ≡ true) (rest : List ℕ) where
  abbrev v : HasVerdict role limits (range_by_test limits range) bytes
  v = found role limits (range_by_test limits range) bytes (bytes_by_test bytes in_bytes)

  lists : (heads : List HeadInfo) → AreHeads role limits bytes v.frames heads → head_lines heads ≡ text → Lists role limits bytes text
  lists heads are lines = record { frames = v.frames; verdict = v.verdict; is = v.is; heads = heads; are = are; lines = lines }

  pub lists_cut : bytes ≡ stream v.frames ++ rest → is_cut v.verdict ≡ true → nat_lt (length rest) 2 ≡ true → head_lines (heads_of v.frames) ≡ text → Lists role limits bytes text
  lists_cut whole test few lines = lists (heads_of v.frames) (of v.verdict v.is test) lines
    where
      of : (verdict : Verdict) → IsVerdict role limits bytes v.frames verdict → is_cut verdict ≡ true → AreHeads role limits bytes v.frames (heads_of v.frames)
      of (Cut summary) is cut = of_cut role limits bytes v.frames rest whole summary is (ltb-true (length rest) 2 few)
      of (Accepted summary) is cut = absurd (false≢true cut)
      of (Refused refusal) is cut = absurd (false≢true cut)

  pub lists_closed : bytes ≡ stream v.frames ++ rest → is_accepted v.verdict ≡ true → (before : List Frame) (close : Frame) → close.op ≡ Close → v.frames ≡ before ++ close ∷ [] → head_lines (heads_of v.frames) ≡ text
      → Lists role limits bytes text
  lists_closed whole test before close op last lines = lists (heads_of v.frames) (of v.verdict v.is test) lines
    where
      of : (verdict : Verdict) → IsVerdict role limits bytes v.frames verdict → is_accepted verdict ≡ true → AreHeads role limits bytes v.frames (heads_of v.frames)
      of (Accepted summary) is accepted = of_close role limits bytes v.frames rest whole summary is (before, close, op, last)
      of (Cut summary) is accepted = absurd (false≢true accepted)
      of (Refused refusal) is accepted = absurd (false≢true accepted)

  pub lists_to_a_head : bytes ≡ stream v.frames ++ rest → refused_before (length (stream v.frames) + 2) v.verdict ≡ true → head_lines (heads_of v.frames) ≡ text → Lists role limits bytes text
  lists_to_a_head whole test lines = lists (heads_of v.frames) (of v.verdict v.is test) lines
    where
      early : ℕ
      early = length (stream v.frames) + 2

      of : (verdict : Verdict) → IsVerdict role limits bytes v.frames verdict → refused_before early verdict ≡ true → AreHeads role limits bytes v.frames (heads_of v.frames)
      of (Refused refusal) is before = of_refused_head role limits bytes v.frames rest whole refusal is (ltb-true refusal.offset early before)
      of (Accepted summary) is before = absurd (false≢true before)
      of (Cut summary) is before = absurd (false≢true before)

  pub lists_to_a_payload : (info : HeadInfo) (following : List ℕ) → bytes ≡ stream v.frames ++ rest → rest ≡ head_bytes info.fin info.op info.key info.form info.len ++ following
      → info.offset ≡ length (stream v.frames) → IfSome info.key IsKey → FormFits info.form info.len → nat_lt info.len (2 ^ 63) ≡ true
      → refused_from (length (stream v.frames) + length (head_bytes info.fin info.op info.key info.form info.len)) v.verdict ≡ true → head_lines (heads_of v.frames ++ info ∷ []) ≡ text → Lists role limits bytes text
  lists_to_a_payload info following whole begins offset key form size test lines = lists (heads_of v.frames ++ info ∷ []) (of v.verdict v.is test) lines
    where
      late : ℕ
      late = length (stream v.frames) + length (head_bytes info.fin info.op info.key info.form info.len)

      of : (verdict : Verdict) → IsVerdict role limits bytes v.frames verdict → refused_from late verdict ≡ true → AreHeads role limits bytes v.frames (heads_of v.frames ++ info ∷ [])
      of (Refused refusal) is from =
          of_refused_payload role limits bytes v.frames rest whole refusal is info following begins offset key form (ltb-true info.len (2 ^ 63) size) (leb-true late refusal.offset from)
      of (Accepted summary) is from = absurd (false≢true from)
      of (Cut summary) is from = absurd (false≢true from)
