-- The heads that a scan has taken are those of the bytes that it has consumed.
use Rattle.std.proofs.Common.{◌≡◌, ℕ, List, [], ◌∷◌, ◌++◌, length, inl, inr, refl, ap, subst, arith, append-nil}
use Rattle.wsn_wire.specs.declared.endpoint.Role.{Role}
use Rattle.wsn_wire.specs.Frame.{Frame, stream}
use Rattle.wsn_rules.specs.declared.head_info.HeadInfo.{HeadInfo}
use Rattle.wsn_scan.specs.declared.stage.Stage.{Stage}
use Rattle.wsn_scan.specs.declared.stage.Stage.TheVariants as stages
use Rattle.wsn_scan.specs.declared.scan.Scan.{Scan}
use Rattle.wsn_rules.specs.Limits.{Limits}
use Rattle.wsn_rules.specs.Group.{unfinished}
use Rattle.wsn_rules.specs.Evidence.{HasNoEvidence}
use Rattle.wsn_frame.specs.PartialHeads.{info_at}
use Rattle.wsn_rules.specs.Lawful.{IsLawful}
use Rattle.wsn_rules.specs.AfterClose.{HasNoClose}
use Rattle.wsn_rules.specs.Heads.{heads_of, BeginsWithHead, AreHeads}
use Rattle.wsn_scan.specs.Scans.{IsAt, HasScanned}
use Rattle.wsn_scan.specs.Positions.{Position, BetweenFrames, begun_at}
use Rattle.wsn_scan.proofs.HeadsReported.{head_begins, front_without_evidence, nothing_begun, short_begins_none}

nothing_since : (role : Role) (limits : Limits) (fs : List Frame) (rest : List ℕ) → rest ≡ [] → (info : HeadInfo) → BeginsWithHead role limits fs rest info → ⊥
nothing_since role limits fs rest is = let size : length rest ≡ 0 = ap length is in nothing_begun role limits fs rest (omega (arith, size))

module _ (role : Role) (limits : Limits) (bytes : List ℕ) (fs : List Frame) (rest : List ℕ) (lawful : IsLawful role limits fs) (whole : bytes ≡ stream fs ++ rest) where
  -- no frame has begun
  none_begun : (at : Position) → HasNoClose fs → ((info : HeadInfo) → BeginsWithHead role limits fs rest info → ⊥) → at ≡ BetweenFrames → AreHeads role limits bytes fs (heads_of fs ++ begun_at at)
  none_begun at none nothing between =
      record { rest = rest; begun = []; lawful = lawful; whole = whole; is_begun = inr (inl (refl, none, nothing)); all = ap (λ (p : Position). heads_of fs ++ begun_at p) between }

  -- the heads at each stage
  heads_at : (stage : Stage) (at : Position) → IsAt role limits stage bytes fs rest at → AreHeads role limits bytes fs (heads_of fs ++ begun_at at)
  heads_at stages.Between at is = none_begun at is.0 (nothing_since role limits fs rest is.1) is.2
  heads_at (stages.Head begun) at is = none_begun at is.0 (short_begins_none role limits fs rest is.1.2.short) is.2
  heads_at (stages.Payload inside) at is =
      let came = is.1.1 in
      let h = came.holds in
      let info = info_at (length (stream fs)) inside.head in
      let has_no_evidence = front_without_evidence role limits (unfinished fs) h.head_bytes came.wire (subst (HasNoEvidence role limits (unfinished fs)) h.whole h.has_no_evidence) in
      let begins = head_begins role limits fs inside.head h.head_bytes came.wire rest h.is_head has_no_evidence h.whole in
      record { rest = rest; begun = info ∷ []; lawful = lawful; whole = whole; is_begun = inr (inr (is.0, (info, refl, begins))); all = ap (λ (p : Position). heads_of fs ++ begun_at p) is.1.2 }
  heads_at (stages.Closed code) at is =
      record { rest = rest; begun = []; lawful = lawful; whole = whole; is_begun = inl (refl, is.0); all = ap (λ (p : Position). heads_of fs ++ begun_at p) is.2 }
  heads_at (stages.Refused refusal) at is = subst (λ (bs : List ℕ). AreHeads role limits bs fs (heads_of fs ++ begun_at at)) (append-nil bytes) (is.heads [])

pub heads_reported : (role : Role) (limits : Limits) (scan : Scan) (bytes rest : List ℕ) (fs : List Frame) (at : Position) → HasScanned role limits scan bytes fs rest at → AreHeads role limits bytes fs (heads_of fs ++ begun_at at)
heads_reported role limits scan bytes rest fs at has_scanned = heads_at role limits bytes fs rest has_scanned.has_consumed.lawful has_scanned.has_consumed.whole scan.stage at has_scanned.is_at
