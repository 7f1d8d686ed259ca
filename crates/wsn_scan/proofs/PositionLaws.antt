-- Where a scan is in the bytes that it has consumed.
use Rattle.std.proofs.Common.{◌≡◌, ℕ, Option, None, Some, List, [], ◌++◌, length, refl, sym, ap, ◌∙◌, subst, append-nil, arith}
use Rattle.wsn_wire.specs.declared.endpoint.Role.{Role}
use Rattle.wsn_wire.specs.Frame.{Frame, head_bytes, stream}
use Rattle.wsn_rules.specs.declared.head_info.HeadInfo.{HeadInfo}
use Rattle.wsn_rules.specs.declared.verdict.Refusal.{Refusal}
use Rattle.wsn_rules.specs.declared.verdict.Verdict.{Verdict}
use Rattle.wsn_rules.specs.declared.verdict.Verdict.TheVariants.{Refused}
use Rattle.wsn_rules.specs.Limits.{Limits}
use Rattle.wsn_rules.specs.Group.{unfinished}
use Rattle.wsn_rules.specs.Evidence.{HasNoEvidence}
use Rattle.wsn_rules.specs.Heads.{heads_of}
use Rattle.wsn_rules.specs.Verdict.{IsRefused, IsVerdict}
use Rattle.wsn_frame.specs.PartialHeads.{info_at}
use Rattle.wsn_scan.specs.declared.scan.Scan.{Scan}
use Rattle.wsn_scan.specs.declared.stage.Inside.{Inside}
use Rattle.wsn_scan.specs.declared.stage.Stage.{Stage}
use Rattle.wsn_scan.specs.declared.stage.Stage.TheVariants as stages
use Rattle.wsn_scan.specs.Feeding.{HasScannedBytes}
use Rattle.wsn_scan.specs.Positions.{Position, BetweenFrames, InFrame, begun_at, IsPayloadPrefix, IsPayloadSoFar, IsPositionIn}
use Rattle.wsn_scan.specs.Scans.{IsAt, IsInPayload, HasScanned, refusal_at, refusal_in}
use Rattle.wsn_scan.proofs.HeadsReported.{head_encoded, front_without_evidence}
use Rattle.wsn_scan.proofs.HeadsSoFar.{heads_reported}
use Rattle.wsn_scan.proofs.PayloadPrefixes.{none_taken}
use Rattle.wsn_scan.proofs.Unrefused.{not_refused, refused}

module _ (role : Role) (limits : Limits) (bytes : List ℕ) (fs : List Frame) (rest : List ℕ) (whole : bytes ≡ stream fs ++ rest) where
  -- all of the payload that came
  so_far : (inside : Inside) (payload : List ℕ) → IsInPayload role limits (unfinished fs) inside rest payload → IsPayloadSoFar fs bytes (info_at (length (stream fs)) inside.head) payload
  so_far inside payload came =
      let h = came.holds in
      let has_no_evidence = front_without_evidence role limits (unfinished fs) h.head_bytes came.wire (subst (HasNoEvidence role limits (unfinished fs)) h.whole h.has_no_evidence) in
      let encoded = head_encoded role limits fs inside.head h.head_bytes h.is_head has_no_evidence in
      let info = info_at (length (stream fs)) inside.head in
      let all = whole ∙ ap (λ (bs : List ℕ). stream fs ++ bs) (h.whole ∙ ap (λ (bs : List ℕ). bs ++ came.wire) encoded) in (
        record {
          wire = came.wire;
          later = [];
          whole = subst (λ (w : List ℕ). bytes ≡ stream fs ++ (head_bytes info.fin info.op info.key info.form info.len ++ w)) (sym (append-nil came.wire)) all;
          within = omega (arith, came.short);
          unmasked = came.unmasked;
        },
        refl,
      )

  none_so_far : (at : Position) → at ≡ BetweenFrames → (head : HeadInfo) (payload : List ℕ) → at ≡ InFrame head payload → IsPayloadSoFar fs bytes head payload
  none_so_far at between head payload is = let both : BetweenFrames ≡ InFrame head payload = sym between ∙ is in cc

  own_so_far : (at : Position) (own : HeadInfo) (taken : List ℕ) → at ≡ InFrame own taken → IsPayloadSoFar fs bytes own taken → (head : HeadInfo) (payload : List ℕ) → at ≡ InFrame head payload → IsPayloadSoFar fs bytes head payload
  own_so_far at own taken is all head payload also =
      let same : InFrame own taken ≡ InFrame head payload = sym is ∙ also in
      let head_is : own ≡ head = cc in
      let payload_is : taken ≡ payload = cc in
      subst (λ (i : HeadInfo). IsPayloadSoFar fs bytes i payload) head_is (subst (λ (bs : List ℕ). IsPayloadSoFar fs bytes own bs) payload_is all)

  so_far_at : (stage : Stage) (at : Position) → IsAt role limits stage bytes fs rest at → refusal_at stage ≡ None → (head : HeadInfo) (payload : List ℕ) → at ≡ InFrame head payload → IsPayloadSoFar fs bytes head payload
  so_far_at stages.Between at is unrefused = none_so_far at is.2
  so_far_at (stages.Head part) at is unrefused = none_so_far at is.2
  so_far_at (stages.Payload inside) at is unrefused = own_so_far at (info_at (length (stream fs)) inside.head) is.1.0 is.1.2 (so_far inside is.1.0 is.1.1)
  so_far_at (stages.Closed code) at is unrefused = none_so_far at is.2
  so_far_at (stages.Refused refusal) at is unrefused = absurd cc

  prefix_at : (stage : Stage) (at : Position) → IsAt role limits stage bytes fs rest at → (head : HeadInfo) (payload : List ℕ) → at ≡ InFrame head payload → IsPayloadPrefix fs bytes head payload
  prefix_at stages.Between at is = none_taken fs bytes at is.2
  prefix_at (stages.Head part) at is = none_taken fs bytes at is.2
  prefix_at (stages.Payload inside) at is = λ head payload also. (so_far_at (stages.Payload inside) at is refl head payload also).0
  prefix_at (stages.Closed code) at is = none_taken fs bytes at is.2
  prefix_at (stages.Refused refusal) at is = is.payload

-- The bytes have a verdict with these frames.
judged_as : (role : Role) (limits : Limits) (scan : Scan) (bytes : List ℕ) (fs : List Frame) (rest : List ℕ) (at : Position) → HasScanned role limits scan bytes fs rest at → (verdict : Verdict) × IsVerdict role limits bytes fs verdict
judged_as role limits scan bytes fs rest at has_scanned = of (refusal_in scan) refl
  where
    taken : HasScannedBytes role limits scan bytes (heads_of fs ++ begun_at at)
    taken = record { frames = fs; since = rest; position = at; has_scanned = has_scanned; heads_are = refl }

    of : (refusal : Option Refusal) → refusal_in scan ≡ refusal → (verdict : Verdict) × IsVerdict role limits bytes fs verdict
    of None none = not_refused role limits scan bytes rest fs at has_scanned none
    of (Some refusal) is =
        (Refused refusal, subst (λ (bs : List ℕ). IsRefused role limits bs fs refusal.offset refusal.reason) (append-nil bytes) ((refused role limits scan bytes (heads_of fs ++ begun_at at) refusal taken is).refused []))

pub position_in : (role : Role) (limits : Limits) (scan : Scan) (bytes : List ℕ) (fs : List Frame) (rest : List ℕ) (at : Position) → HasScanned role limits scan bytes fs rest at → IsPositionIn role limits bytes fs rest at
position_in role limits scan bytes fs rest at has_scanned = record {
  lawful = has_scanned.has_consumed.lawful;
  whole = has_scanned.has_consumed.whole;
  judged = judged_as role limits scan bytes fs rest at has_scanned;
  heads = heads_reported role limits scan bytes rest fs at has_scanned;
  payload = prefix_at role limits bytes fs rest has_scanned.has_consumed.whole scan.stage at has_scanned.is_at;
}

pub all_so_far : (role : Role) (limits : Limits) (scan : Scan) (bytes : List ℕ) (fs : List Frame) (rest : List ℕ) (at : Position) (head : HeadInfo) (payload : List ℕ) → HasScanned role limits scan bytes fs rest at
    → refusal_in scan ≡ None → at ≡ InFrame head payload → IsPayloadSoFar fs bytes head payload
all_so_far role limits scan bytes fs rest at head payload has_scanned unrefused is =
    so_far_at role limits bytes fs rest has_scanned.has_consumed.whole scan.stage at has_scanned.is_at unrefused head payload is
