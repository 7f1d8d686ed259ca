-- The bytes that a scan has consumed are refused exactly as the scan reports it.
use Rattle.std.proofs.Common.{◌≡◌, ℕ, ◌+◌, ◌-◌, ◌≤◌, Option, None, Some, List, [], ◌++◌, length, inl, inr, refl, sym, ap, ◌∙◌, subst, arith}
use Rattle.std.proofs.lemmas.Bool.{cases_lt}
use Rattle.std.proofs.lemmas.List.{take-append-le}
use Rattle.wsn_wire.specs.declared.endpoint.Role.{Role}
use Rattle.wsn_wire.specs.declared.refusal.Reason.{Reason}
use Rattle.wsn_wire.specs.Frame.{Frame, IsBytes, stream}
use Rattle.wsn_wire.proofs.FrameLemmas.{IsBytes-right}
use Rattle.wsn_frame.specs.declared.kept_message.OpenMessage.{OpenMessage}
use Rattle.wsn_rules.specs.declared.verdict.Refusal.{Refusal}
use Rattle.wsn_rules.specs.declared.verdict.Verdict.{Verdict}
use Rattle.wsn_rules.specs.declared.verdict.Verdict.TheVariants.{Accepted, Cut, Refused}
use Rattle.wsn_scan.specs.declared.stage.Stage.{Stage}
use Rattle.wsn_scan.specs.declared.stage.Stage.TheVariants as stages
use Rattle.wsn_scan.specs.declared.scan.Scan.{Scan}
use Rattle.wsn_rules.specs.Limits.{Limits}
use Rattle.wsn_rules.specs.Group.{unfinished}
use Rattle.wsn_rules.specs.Verdict.{IsRefused, IsVerdict, IsUnrefused}
use Rattle.wsn_scan.specs.Scans.{HasScannedAt, summary_of, taken_of, verdict_between, refusal_at, refusal_in, refusal_judged, IsRefusedThere}
use Rattle.wsn_scan.specs.Positions.{Position}
use Rattle.wsn_rules.specs.Heads.{AreHeads}
use Rattle.wsn_scan.specs.Judging.{HasVerdictAndHeads}
use Rattle.wsn_rules.specs.declared.head_info.HeadInfo.{HeadInfo}
use Rattle.wsn_scan.specs.Feeding.{HasScannedBytes}
use Rattle.wsn_scan.proofs.HeadsSoFar.{heads_reported}
use Rattle.wsn_rules.proofs.OneVerdict.{one_verdict}
use Rattle.wsn_rules.proofs.StaysRefused.{place_within, refused_alike}
use Rattle.wsn_scan.proofs.ScanVerdicts.{closed_verdict, cut_verdict, between_verdict, some_payload}
use Rattle.wsn_scan.proofs.WithinFrames.{head_within, payload_within}

-- The bytes have a verdict other than a refusal.
record NotRefused (role : Role) (limits : Limits) (bytes : List ℕ) (fs : List Frame) : Type 0 where
  pub verdict : Verdict
  pub is : IsVerdict role limits bytes fs verdict
  pub other : refusal_judged verdict ≡ None

between_other : (scan : Scan) (m : Option OpenMessage) → refusal_judged (verdict_between scan m) ≡ None
between_other scan None = refl
between_other scan (Some m) = refl

module _ (role : Role) (limits : Limits) where
  -- at each stage but a refusal
  not_refused_at : (scan : Scan) (bytes rest : List ℕ) (fs : List Frame) (at : Position) (stage : Stage) → HasScannedAt role limits scan stage bytes fs rest at → refusal_at stage ≡ None → NotRefused role limits bytes fs
  not_refused_at scan bytes rest fs at (stages.Head begun) has_scanned none =
      let in_bytes = IsBytes-right (stream fs) rest (subst IsBytes has_scanned.has_consumed.whole has_scanned.has_consumed.in_bytes) in
      let so_far = has_scanned.is_at.1 in
      record {
        verdict = Cut (summary_of scan (taken_of scan) 0 None);
        is = cut_verdict role limits scan bytes rest fs at (stages.Head begun) has_scanned has_scanned.is_at.0 so_far.2.has_no_evidence (head_within rest in_bytes so_far.2.short) (inl so_far.1);
        other = refl;
      }
  not_refused_at scan bytes rest fs at (stages.Payload inside) has_scanned none =
      let in_bytes = IsBytes-right (stream fs) rest (subst IsBytes has_scanned.has_consumed.whole has_scanned.has_consumed.in_bytes) in
      record {
        verdict = Cut (summary_of scan (taken_of scan) 0 None);
        is = cut_verdict role limits scan bytes rest fs at (stages.Payload inside) has_scanned has_scanned.is_at.0 has_scanned.is_at.1.1.holds.has_no_evidence (payload_within role limits (unfinished fs) inside rest has_scanned.is_at.1.0 in_bytes has_scanned.is_at.1.1)
            (inl (some_payload role limits (unfinished fs) inside rest has_scanned.is_at.1.0 has_scanned.is_at.1.1));
        other = refl;
      }
  not_refused_at scan bytes rest fs at stages.Between has_scanned none =
      record { verdict = verdict_between scan scan.context.message; is = between_verdict role limits scan bytes rest fs at stages.Between has_scanned has_scanned.is_at.0 has_scanned.is_at.1; other = between_other scan scan.context.message }
  not_refused_at scan bytes rest fs at (stages.Closed code) has_scanned none =
      record { verdict = Accepted (summary_of scan scan.used (taken_of scan - scan.used) (Some code)); is = closed_verdict role limits scan bytes rest fs at (stages.Closed code) has_scanned code has_scanned.is_at.0 has_scanned.is_at.1; other = refl }
  not_refused_at scan bytes rest fs at (stages.Refused refusal) has_scanned none = absurd cc

  pub not_refused : (scan : Scan) (bytes rest : List ℕ) (fs : List Frame) (at : Position) → HasScannedAt role limits scan scan.stage bytes fs rest at → refusal_in scan ≡ None → (verdict : Verdict) × IsVerdict role limits bytes fs verdict
  not_refused scan bytes rest fs at has_scanned none = let not = not_refused_at scan bytes rest fs at scan.stage has_scanned none in (not.verdict, not.is)

  -- bytes with another verdict are not refused
  no_refusal_of : (bytes : List ℕ) (fs : List Frame) → NotRefused role limits bytes fs → IsUnrefused role limits bytes
  no_refusal_of bytes fs not gs offset reason refused =
      let one = one_verdict role limits bytes fs gs not.verdict (Refused (record { offset = offset; reason = reason })) not.is refused in
      let reported : refusal_judged not.verdict ≡ Some (record { offset = offset; reason = reason }) = ap (λ (v : Verdict). refusal_judged v) one.1 in
      let both : Some (record { offset = offset; reason = reason }) ≡ None = sym reported ∙ not.other in
      cc

  -- a scan that has not refused
  pub unrefused : (scan : Scan) (bytes : List ℕ) (heads : List HeadInfo) → HasScannedBytes role limits scan bytes heads → refusal_in scan ≡ None → IsUnrefused role limits bytes
  unrefused scan bytes heads taken none = no_refusal_of bytes taken.frames (not_refused_at scan bytes taken.since taken.frames taken.position scan.stage taken.has_scanned none)

  refused_at_stage : (scan : Scan) (bytes rest : List ℕ) (fs : List Frame) (at : Position) (stage : Stage) (refusal : Refusal) → HasScannedAt role limits scan stage bytes fs rest at → refusal_at stage ≡ Some refusal
      → IsRefusedThere role limits refusal bytes fs at
  refused_at_stage scan bytes rest fs at stages.Between refusal has_scanned is = absurd cc
  refused_at_stage scan bytes rest fs at (stages.Head part) refusal has_scanned is = absurd cc
  refused_at_stage scan bytes rest fs at (stages.Payload inside) refusal has_scanned is = absurd cc
  refused_at_stage scan bytes rest fs at (stages.Closed code) refusal has_scanned is = absurd cc
  refused_at_stage scan bytes rest fs at (stages.Refused held) refusal has_scanned is =
      let same : held ≡ refusal = cc in
      subst (λ (r : Refusal). IsRefusedThere role limits r bytes fs at) same has_scanned.is_at

  -- a scan that has refused
  pub refused : (scan : Scan) (bytes : List ℕ) (heads : List HeadInfo) (refusal : Refusal) → (taken : HasScannedBytes role limits scan bytes heads) → refusal_in scan ≡ Some refusal
      → IsRefusedThere role limits refusal bytes taken.frames taken.position
  refused scan bytes heads refusal taken is = refused_at_stage scan bytes taken.since taken.frames taken.position scan.stage refusal taken.has_scanned is

  -- an empty list of bytes is not refused
  pub unrefused_first : (scan : Scan) (heads : List HeadInfo) → HasScannedBytes role limits scan [] heads → refusal_in scan ≡ None
  unrefused_first scan heads taken = by_refusal (refusal_in scan) refl
    where
      by_refusal : (reported : Option Refusal) → refusal_in scan ≡ reported → refusal_in scan ≡ None
      by_refusal None is = is
      by_refusal (Some refusal) is =
          let is_evident = ((refused scan [] heads refusal taken is).refused []).is_evident in
          absurd (omega (arith, place_within role limits taken.frames [] refusal.offset refusal.reason is_evident))

  -- ---- the heads

  -- a scan that has not refused has a verdict and has taken all heads
  pub reported_so_far : (scan : Scan) (bytes : List ℕ) (heads : List HeadInfo) → HasScannedBytes role limits scan bytes heads → refusal_in scan ≡ None → (verdict : Verdict) × HasVerdictAndHeads role limits bytes heads verdict
  reported_so_far scan bytes heads taken none =
      let not = not_refused_at scan bytes taken.since taken.frames taken.position scan.stage taken.has_scanned none in
      let are_heads = heads_reported role limits scan bytes taken.since taken.frames taken.position taken.has_scanned in
      (not.verdict, record { frames = taken.frames; is_verdict = not.is; are_heads = subst (λ (hs : List HeadInfo). AreHeads role limits bytes taken.frames hs) (sym taken.heads_are) are_heads })

  -- a scan that has refused has taken all heads, whatever follows
  pub reported_refused : (scan : Scan) (bytes later : List ℕ) (heads : List HeadInfo) (refusal : Refusal) → HasScannedBytes role limits scan bytes heads → refusal_in scan ≡ Some refusal
      → HasVerdictAndHeads role limits (bytes ++ later) heads (Refused refusal)
  reported_refused scan bytes later heads refusal taken is =
      let there = refused scan bytes heads refusal taken is in
      record { frames = taken.frames; is_verdict = there.refused later; are_heads = subst (λ (hs : List HeadInfo). AreHeads role limits (bytes ++ later) taken.frames hs) (sym taken.heads_are) (there.heads later) }

  -- bytes that are not refused end before the offset of a later refusal
  pub place_after : (before more : List ℕ) (fs : List Frame) (offset : ℕ) (reason : Reason) → IsUnrefused role limits before → IsRefused role limits (before ++ more) fs offset reason → length before ≤ offset
  place_after before more fs offset reason none is_evident =
      elim (cases_lt offset (length before)) [
        | inl less ↦
            absurd (none fs offset reason (refused_alike role limits fs (before ++ more) before offset reason (sym (take-append-le (offset + 1) before more (omega arith))) is_evident))
        | inr within ↦ within
      ]
