-- The heads of given bytes are one list, and so is the listing printed of them.
use Rattle.std.proofs.Common.{◌≡◌, ℕ, ◌+◌, Option, None, Some, Result, Ok, Err, List, [], ◌++◌, length, take, refl, sym, ap, ◌∙◌, subst, length-append, append-nil, arith}
use Rattle.std.proofs.lemmas.List.{take-append-le}
use Rattle.std.specs.Io.KnownBytes.{Consumes, IsAtEnd}
use Rattle.wsn_wire.specs.declared.endpoint.Role.{Role}
use Rattle.wsn_wire.specs.Frame.{Frame}
use Rattle.wsn_io.specs.Transfer.{Incoming, Outgoing, IsWritten}
use Rattle.wsn_rules.specs.declared.head_info.HeadInfo.{HeadInfo}
use Rattle.wsn_rules.specs.declared.verdict.Verdict.{Verdict}
use Rattle.wsn_rules.specs.declared.verdict.Verdict.TheVariants.{Accepted, Cut, Refused}
use Rattle.wsn_rules.specs.Limits.{Limits}
use Rattle.wsn_rules.specs.Heads.{AreHeads}
use Rattle.wsn_rules.specs.Verdict.{IsVerdict, IsUnrefused}
use Rattle.wsn_rules.proofs.OneVerdict.{one_verdict}
use Rattle.wsn_rules.proofs.HeadsGoOn.{one_heads, heads_stay}
use Rattle.wsn_io.specs.declared.stop.Stop.{Stop}
use Rattle.wsn_io.specs.declared.stop.Stop.TheVariants as stop
use Rattle.wsn_print.specs.declared.format.Format.{Format}
use Rattle.wsn_print.specs.Formats.{heads_text}
use Rattle.wsn_scan.specs.Judging.{HasVerdictAndHeads, IsReached, IsWithinLimit}
use Rattle.wsn_parts.specs.Listing.{listing, IsPrinted, IsListAnswer, IsListedAs, IsListedWholeAs}
use Rattle.wsn_io.specs.Stops.{HasNoFailure}
use Rattle.wsn_scan.proofs.WholeInputs.{of_all, not_past}

module _ (role : Role) (limits : Limits) where
  pub one_report : (bytes : List ℕ) (verdict other : Verdict) (heads others : List HeadInfo) → HasVerdictAndHeads role limits bytes heads verdict → HasVerdictAndHeads role limits bytes others other
      → (heads ≡ others) × (verdict ≡ other)
  one_report bytes verdict other heads others has also =
      let same = one_verdict role limits bytes has.frames also.frames verdict other has.is_verdict also.is_verdict in
      (one_heads role limits bytes also.frames heads others (subst (λ (fs : List Frame). AreHeads role limits bytes fs heads) same.0 has.are_heads) also.are_heads, same.1)

  -- ---- all the bytes of an input

  report_of_all : (new : Incoming) (came rest : List ℕ) (heads : List HeadInfo) (verdict : Verdict) → IsReached role limits new came verdict → new.remaining ≡ Some rest
      → HasVerdictAndHeads role limits came heads verdict → HasVerdictAndHeads role limits (came ++ rest) heads verdict × IsWithinLimit limits (came ++ rest) verdict
  report_of_all new came rest heads verdict reached left has =
      let here = of_all role limits new came rest has.frames verdict reached left has.is_verdict in
      (record { frames = has.frames; is_verdict = here.0; are_heads = of verdict reached has.is_verdict }, here.1)
    where
      nothing_more : rest ≡ [] → AreHeads role limits (came ++ rest) has.frames heads
      nothing_more nothing =
          subst (λ (bs : List ℕ). AreHeads role limits bs has.frames heads) (sym (append-nil came) ∙ ap (λ (bs : List ℕ). came ++ bs) (sym nothing)) has.are_heads

      of : (v : Verdict) → IsReached role limits new came v → IsVerdict role limits came has.frames v → AreHeads role limits (came ++ rest) has.frames heads
      of (Refused r) is refused = heads_stay role limits came rest has.frames r.offset r.reason heads refused has.are_heads
      of (Accepted s) is accepted = nothing_more (subst IsAtEnd left is.2)
      of (Cut s) is cut = nothing_more (subst IsAtEnd left is.2)

  pub whole_listing : (format : Format) (old new : Incoming) (before after : Outgoing) (result : Result Verdict Stop) (all : List ℕ) → IsListedAs format role limits old new before after result → old.remaining ≡ Some all
      → IsListedWholeAs format role limits all before after result
  whole_listing format old new before after result all listed known =
      by_rest new.remaining refl (subst (λ (a : Option (List ℕ)). Consumes a new.remaining listed.came) known listed.received.consumed.consumed)
    where
      came : List ℕ
      came = listed.came

      by_result : (rest : List ℕ) → new.remaining ≡ Some rest → all ≡ came ++ rest → (r : Result Verdict Stop) → IsListAnswer role limits new came r
          → IsPrinted format role limits came before after r → IsListedWholeAs format role limits all before after r
      by_result rest left is (Ok verdict) reached (heads, has, written) =
          let here = report_of_all new came rest heads verdict reached left has in (
            heads,
            subst (λ (bs : List ℕ). HasVerdictAndHeads role limits bs heads verdict) (sym is) here.0,
            subst (λ (bs : List ℕ). IsWithinLimit limits bs verdict) (sym is) here.1,
            written,
          )
      by_result rest left is (Err stop.InputLimit) stopped (heads, verdict, has, written) =
          let size : length all ≡ length came + length rest = ap (λ (bs : List ℕ). length bs) is ∙ length-append came rest in
          let more : length came ≡ limits.input + 1 = stopped.0 in
          let front : take limits.input all ≡ take limits.input came = ap (λ (bs : List ℕ). take limits.input bs) is ∙ take-append-le limits.input came rest (omega (arith, more)) in (
            omega (arith, size, more),
            subst (λ (bs : List ℕ). IsUnrefused role limits bs) (sym front) stopped.1,
            (heads, verdict, subst (λ (bs : List ℕ). HasVerdictAndHeads role limits bs heads verdict) (sym front) has, written),
          )
      by_result rest left is (Err stop.Read) stopped written = tt
      by_result rest left is (Err stop.Memory) stopped written = tt
      by_result rest left is (Err stop.Write) stopped written = tt

      by_rest : (rest : Option (List ℕ)) → new.remaining ≡ rest → Consumes (Some all) rest came → IsListedWholeAs format role limits all before after result
      by_rest None left consumed = absurd consumed
      by_rest (Some rest) left consumed = by_result rest left consumed result listed.answer listed.printed

  -- ---- one answer and one text

  abbrev AreAlike : Outgoing → Outgoing → Outgoing → Outgoing → Type 0
  AreAlike before after other_before other_after = (bytes : List ℕ) × IsWritten before after bytes × IsWritten other_before other_after bytes

  pub one_listing : (format : Format) (all : List ℕ) (before after other_before other_after : Outgoing) (result other : Result Verdict Stop) → HasNoFailure result → HasNoFailure other
      → IsListedWholeAs format role limits all before after result → IsListedWholeAs format role limits all other_before other_after other → (result ≡ other) × AreAlike before after other_before other_after
  one_listing format all before after other_before other_after (Ok v) (Ok w) says also one two =
      let same = one_report all v w one.0 two.0 one.1 two.1 in (
        ap (λ (u : Verdict). let answer : Result Verdict Stop = Ok u in answer) same.1,
        (listing format one.0 v, one.3, subst (λ (bs : List ℕ). IsWritten other_before other_after bs) (λ i. listing format (sym same.0 i) (sym same.1 i)) two.3),
      )
  one_listing format all before after other_before other_after (Ok v) (Err stop.InputLimit) says also one two = absurd (not_past role limits all one.1.frames v one.1.is_verdict one.2 two.0 two.1)
  one_listing format all before after other_before other_after (Err stop.InputLimit) (Ok w) says also one two = absurd (not_past role limits all two.1.frames w two.1.is_verdict two.2 one.0 one.1)
  one_listing format all before after other_before other_after (Err stop.InputLimit) (Err stop.InputLimit) says also one two =
      let same = one_report (take limits.input all) one.2.1 two.2.1 one.2.0 two.2.0 one.2.2 two.2.2 in (
        refl,
        (heads_text format one.2.0, one.2.3, subst (λ (hs : List HeadInfo). IsWritten other_before other_after (heads_text format hs)) (sym same.0) two.2.3),
      )
  one_listing format all before after other_before other_after (Err stop.Read) other says also one two = absurd says
  one_listing format all before after other_before other_after (Err stop.Memory) other says also one two = absurd says
  one_listing format all before after other_before other_after (Err stop.Write) other says also one two = absurd says
  one_listing format all before after other_before other_after result (Err stop.Read) says also one two = absurd also
  one_listing format all before after other_before other_after result (Err stop.Memory) says also one two = absurd also
  one_listing format all before after other_before other_after result (Err stop.Write) says also one two = absurd also
