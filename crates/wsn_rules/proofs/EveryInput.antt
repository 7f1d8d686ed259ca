-- Every input has a verdict.
use Rattle.std.proofs.Common.{◌≡◌, ◌≢◌, ℕ, zero, suc, ◌+◌, ◌-◌, ◌<◌, List, [], ◌∷◌, ◌++◌, ◌⊎◌, length, refl, sym, ap, ◌∙◌, subst, inl, inr, append_assoc, append-nil, arith}
use Rattle.std.proofs.lemmas.List.{length-append}
use Rattle.wsn_wire.specs.declared.endpoint.Role.{Role}
use Rattle.wsn_wire.specs.declared.refusal.Reason.{Reason}
use Rattle.wsn_wire.specs.Frame.{Frame, frame_bytes, stream, IsBytes}
use Rattle.wsn_wire.specs.ReceivedHead.{HasLayout}
use Rattle.wsn_wire.proofs.FrameLemmas.{IsBytes-right}
use Rattle.wsn_rules.specs.Limits.{Limits, InRange}
use Rattle.wsn_rules.specs.Group.{unfinished}
use Rattle.wsn_rules.specs.Lawful.{IsLawful}
use Rattle.wsn_rules.specs.AfterClose.{HasNoClose}
use Rattle.wsn_rules.specs.Accepted.{IsAccepted}
use Rattle.wsn_rules.specs.Verdict.{IsEvidentAt, EndsWithinFrame, IsVerdict}
use Rattle.wsn_rules.specs.Summary.{counted}
use Rattle.wsn_rules.specs.declared.verdict.Verdict.{Verdict}
use Rattle.wsn_rules.specs.declared.verdict.Verdict.TheVariants.{Accepted, Cut, Refused}
use Rattle.wsn_rules.proofs.Prefixes.{nil-cons}
use Rattle.wsn_rules.proofs.LawfulLists.{close_or_not, no_close_nil, no_close_push, lawful_nil, lawful_push}
use Rattle.wsn_rules.proofs.Groups.{group_of_lawful}
use Rattle.wsn_rules.proofs.Walk.{stream_push}
use Rattle.wsn_rules.proofs.RowsOfLayout.{RowAt, row_has_evidence}
use Rattle.wsn_rules.proofs.LayoutsWithoutEvidence.{without_evidence_is_lawful, IsLawfulFrame}
use Rattle.wsn_rules.proofs.LeastEvident.{least_evident, LeastEvident, evidence_is_some}
use Rattle.wsn_rules.proofs.LayoutPrefixes.{layout_or_within}

module _ (role : Role) (limits : Limits) (range : InRange limits) (bytes : List ℕ) where
  -- The bytes have a verdict, with some list of frames.
  pub record HasVerdict : Type 0 where
    pub frames : List Frame
    pub verdict : Verdict
    pub is : IsVerdict role limits bytes frames verdict

  unfoldable pub refused : (fs : List Frame) (rest : List ℕ) (whole : bytes ≡ stream fs ++ rest) → IsLawful role limits fs → HasNoClose fs → LeastEvident role limits bytes fs rest whole → HasVerdict
  refused fs rest whole lawful none p = record {
    frames = fs;
    verdict = Refused (record { offset = p.offset; reason = p.reason });
    is = record { lawful = lawful; no_close = none; is_evident = p.is_evident; least = p.least };
  }

  unfoldable pub cut : (fs : List Frame) (rest : List ℕ) (whole : bytes ≡ stream fs ++ rest) → IsLawful role limits fs → HasNoClose fs → ((p : ℕ) (r : Reason) → IsEvidentAt role limits bytes fs p r → ⊥) → EndsWithinFrame rest → (rest ≢ []) ⊎ (unfinished fs ≢ []) → HasVerdict
  cut fs rest whole lawful none has_no_evidence within more = record {
    frames = fs;
    verdict = Cut (counted fs (length bytes) 0);
    is = (record { lawful = lawful; no_close = none; rest = rest; whole = whole; within = within; has_no_evidence = has_no_evidence; more = more }, refl);
  }

  unfoldable pub accepted : (fs : List Frame) → IsAccepted role limits bytes fs → HasVerdict
  accepted fs is = record {
    frames = fs;
    verdict = Accepted (counted fs (length (stream fs)) (length bytes - length (stream fs)));
    is = (is, refl);
  }

  -- There is no evidence for a refusal, and the rest ends inside a frame.
  unfoldable pub ended : (fs : List Frame) (rest : List ℕ) (whole : bytes ≡ stream fs ++ rest) → IsLawful role limits fs → HasNoClose fs → ((p : ℕ) (r : Reason) → IsEvidentAt role limits bytes fs p r → ⊥) → EndsWithinFrame rest → HasVerdict
  ended fs (b ∷ rest) whole lawful none has_no_evidence within = cut fs (b ∷ rest) whole lawful none has_no_evidence within (inl (λ e. nil-cons b rest (sym e)))
  ended fs [] whole lawful none has_no_evidence within = by_group (unfinished fs) refl
    where
      by_group : (group : List Frame) → unfinished fs ≡ group → HasVerdict
      by_group [] is = accepted fs (record { lawful = lawful; ends = inl (none, is, whole ∙ append-nil (stream fs)) })
      by_group (f ∷ group) is = cut fs [] whole lawful none has_no_evidence within (inr (λ e. nil-cons f group (sym e ∙ is)))

  -- A row of a complete layout at the start of the rest is evident.
  pub row_evident : (fs : List Frame) (xs following : List ℕ) → bytes ≡ stream fs ++ (xs ++ following) → (l : HasLayout xs) (reason : Reason) → RowAt role limits (unfinished fs) reason l → (p : ℕ) × IsEvidentAt role limits bytes fs p reason
  row_evident fs xs following whole l reason row =
      let front = row_has_evidence role limits (unfinished fs) reason xs l row in
      let some = evidence_is_some role limits (unfinished fs) reason front.seen front.evidence in (
        length (stream fs) + length front.seen - 1,
        record {
          seen = front.seen;
          later = front.later ++ following;
          whole = whole ∙ ap (λ (bs : List ℕ). stream fs ++ bs) (ap (λ (bs : List ℕ). bs ++ following) front.whole ∙ append_assoc front.seen front.later following);
          at_offset = placed (length (stream fs)) (length front.seen) some;
          evidence = front.evidence;
        },
      )
    where
      placed : (h n : ℕ) → 0 < n → h + n - 1 + 1 ≡ h + n
      placed h n some = omega arith

  -- A complete layout after lawful frames that is evidence for no refusal.
  unfoldable pub without_evidence_frame : (fs : List Frame) (xs following : List ℕ) → bytes ≡ stream fs ++ (xs ++ following) → IsLawful role limits fs → (l : HasLayout xs) → ((p : ℕ) (r : Reason) → IsEvidentAt role limits bytes fs p r → ⊥) → IsLawfulFrame role limits fs xs
  without_evidence_frame fs xs following whole lawful l has_no_evidence =
      without_evidence_is_lawful role limits range fs (group_of_lawful role limits fs lawful) l
      (λ reason row. let is_evident = row_evident fs xs following whole l reason row in has_no_evidence is_evident.0 reason is_evident.1)

  unfoldable pub from : (steps : ℕ) (fs : List Frame) (rest : List ℕ) → length rest < steps → bytes ≡ stream fs ++ rest → IsBytes rest → IsLawful role limits fs → HasNoClose fs → HasVerdict
  from zero fs rest within whole in_bytes lawful none = absurd (omega arith)
  from (suc steps) fs rest within whole in_bytes lawful none =
      elim (least_evident role limits bytes fs rest whole) [
        | inl p ↦ refused fs rest whole lawful none p
        | inr has_no_evidence ↦ elim (layout_or_within rest in_bytes) [
          | inr partial ↦ ended fs rest whole lawful none has_no_evidence partial
          | inl p ↦
              let split : bytes ≡ stream fs ++ (p.bytes ++ p.following) = whole ∙ ap (λ (bs : List ℕ). stream fs ++ bs) p.whole in
              let frame = without_evidence_frame fs p.bytes p.following split lawful p.layout has_no_evidence in
              let with_f = lawful_push role limits fs frame.frame lawful none frame.law in
              let moved : bytes ≡ stream (fs ++ frame.frame ∷ []) ++ p.following =
              split ∙ ap (λ (bs : List ℕ). stream fs ++ (bs ++ p.following)) (sym frame.bytes_are) ∙ sym (append_assoc (stream fs) (frame_bytes frame.frame) p.following)
              ∙ ap (λ (bs : List ℕ). bs ++ p.following) (sym (stream_push fs frame.frame)) in
              let counts : length rest ≡ length p.bytes + length p.following = ap (λ (bs : List ℕ). length bs) p.whole ∙ length-append p.bytes p.following in
              let some : 0 < length p.bytes = p.some in
              elim (close_or_not frame.frame.op) [
                | inl close ↦ accepted (fs ++ frame.frame ∷ []) (record { lawful = with_f; ends = inr ((fs, frame.frame, close, refl), (p.following, moved)) })
                | inr other ↦ from steps (fs ++ frame.frame ∷ []) p.following (omega arith) moved (IsBytes-right p.bytes p.following (subst IsBytes p.whole in_bytes)) with_f (no_close_push fs frame.frame none other)
              ]
        ]
      ]

  unfoldable pub has_verdict : IsBytes bytes → HasVerdict
  has_verdict in_bytes = from (suc (length bytes)) [] bytes (omega arith) refl in_bytes (lawful_nil role limits) no_close_nil
