-- The number of bytes after a Close, by the verdict.
use Rattle.std.proofs.Common.{◌≡◌, ℕ, ◌-◌, List, [], length, inl, inr, refl, sym, ap, ◌∙◌, subst, arith, length-append}
use Rattle.wsn_wire.specs.declared.endpoint.Role.{Role}
use Rattle.wsn_wire.specs.declared.endpoint.Role.TheVariants.{Client, Server}
use Rattle.wsn_wire.specs.Frame.{Frame, stream}
use Rattle.wsn_rules.specs.declared.verdict.Summary.{Summary}
use Rattle.wsn_rules.specs.declared.verdict.Verdict.{Verdict}
use Rattle.wsn_rules.specs.declared.verdict.Verdict.TheVariants.{Accepted, Cut, Refused}
use Rattle.wsn_rules.specs.Limits.{Limits, InRange}
use Rattle.wsn_rules.specs.AfterClose.{HasNoClose, EndsWithClose}
use Rattle.wsn_rules.specs.Accepted.{IsAccepted}
use Rattle.wsn_rules.specs.Summary.{counted}
use Rattle.wsn_rules.specs.Verdict.{IsVerdict}
use Rattle.wsn_rules.specs.Entries.{Entry, AreEntries}
use Rattle.wsn_rules.specs.Sides.{sent}
use Rattle.wsn_rules.proofs.OneVerdict.{one_verdict}
use Rattle.wsn_rules.proofs.EveryInput.{has_verdict}
use Rattle.wsn_capture.specs.declared.tail_counts.Tails.{Tails}
use Rattle.wsn_capture.specs.TailCounts.{HasTail, AreTails}
use Rattle.wsn_capture.proofs.ClosingLines.{cut_unclosed}
use Rattle.wsn_capture.proofs.EveryReport.{sent_bytes}

module _ (role : Role) (limits : Limits) where
  -- two lists of accepted frames are the same
  same_frames : (bytes : List ℕ) (fs gs : List Frame) → IsAccepted role limits bytes fs → IsAccepted role limits bytes gs → fs ≡ gs
  same_frames bytes fs gs is also =
      (one_verdict role limits bytes fs gs (Accepted (counted fs (length (stream fs)) (length bytes - length (stream fs))))
      (Accepted (counted gs (length (stream gs)) (length bytes - length (stream gs)))) (is, refl) (also, refl)).0

  no_close_in : (fs : List Frame) → HasNoClose fs → EndsWithClose fs → ⊥
  no_close_in fs none closes = none closes.0 [] closes.1 closes.3 closes.2

  pub accepted_tail : (bytes : List ℕ) (fs : List Frame) (summary : Summary) → IsVerdict role limits bytes fs (Accepted summary) → HasTail role limits bytes summary.tail
  accepted_tail bytes fs summary is =
      let count : summary.tail ≡ length bytes - length (stream fs) = ap (λ (s : Summary). s.tail) is.1 in
      elim is.0.ends [
        | inl whole ↦
            let size = ap (λ (bs : List ℕ). length bs) whole.2 in
            inr ((λ gs also closes. no_close_in gs (subst HasNoClose (same_frames bytes fs gs is.0 also) whole.0) closes), omega (arith, count, size))
        | inr tail ↦
            inl (fs, is.0, tail.0, omega (arith, count, ap (λ (bs : List ℕ). length bs) tail.1.1 ∙ length-append (stream fs) tail.1.0))
      ]

  pub one_tail : (bytes : List ℕ) (count other : ℕ) → HasTail role limits bytes count → HasTail role limits bytes other → count ≡ other
  one_tail bytes count other (inl closed) (inl also) =
      omega (arith, ap (λ (fs : List Frame). length (stream fs)) (same_frames bytes closed.0 also.0 closed.1 also.1), closed.3, also.3)
  one_tail bytes count other (inl closed) (inr none) = absurd (none.0 closed.0 closed.1 closed.2)
  one_tail bytes count other (inr none) (inl closed) = absurd (none.0 closed.0 closed.1 closed.2)
  one_tail bytes count other (inr none) (inr also) = none.1 ∙ sym also.1

  pub tail_by : (bytes : List ℕ) (fs : List Frame) (verdict : Verdict) → IsVerdict role limits bytes fs verdict → (count : ℕ) × HasTail role limits bytes count
  tail_by bytes fs (Accepted summary) is = (summary.tail, accepted_tail bytes fs summary is)
  tail_by bytes fs (Cut summary) is = (0, inr (cut_unclosed role limits bytes fs (Cut summary) is (inl (summary, refl)), refl))
  tail_by bytes fs (Refused refusal) is = (0, inr (cut_unclosed role limits bytes fs (Refused refusal) is (inr (refusal, refl)), refl))

-- ---- both endpoints

pub one_tails : (limits : Limits) (entries : List Entry) (tails others : Tails) → AreTails limits entries tails → AreTails limits entries others → tails ≡ others
one_tails limits entries tails others are also =
    let client = one_tail Client limits (sent Client entries) tails.client others.client are.0 also.0 in
    let server = one_tail Server limits (sent Server entries) tails.server others.server are.1 also.1 in
    ap (λ (n : ℕ). record { client = n; server = tails.server }) client ∙ ap (λ (n : ℕ). record { client = others.client; server = n }) server

pub has_tails : (limits : Limits) (lines : List (List ℕ)) (entries : List Entry) → InRange limits → AreEntries lines entries → (tails : Tails) × AreTails limits entries tails
has_tails limits lines entries range are =
    let client = of_side Client in
    let server = of_side Server in
    (record { client = client.0; server = server.0 }, (client.1, server.1))
  where
    of_side : (role : Role) → (count : ℕ) × HasTail role limits (sent role entries) count
    of_side role =
        let found = has_verdict role limits range (sent role entries) (sent_bytes role lines entries are) in
        tail_by role limits (sent role entries) found.frames found.verdict found.is
