-- What an answer says of all bytes of an input whose bytes are known, in whatever chunks they come.
use Rattle.std.proofs.Common.{◌≡◌, ℕ, ◌+◌, ◌<◌, ◌≤◌, Some, List, [], ◌++◌, length, take, sym, ap, ◌∙◌, subst, append-nil, arith}
use Rattle.std.proofs.lemmas.List.{take-take}
use Rattle.std.specs.Io.KnownBytes.{IsAtEnd}
use Rattle.wsn_wire.specs.declared.endpoint.Role.{Role}
use Rattle.wsn_wire.specs.Frame.{Frame}
use Rattle.wsn_io.specs.Transfer.{Incoming}
use Rattle.wsn_rules.specs.declared.verdict.Verdict.{Verdict}
use Rattle.wsn_rules.specs.declared.verdict.Verdict.TheVariants.{Accepted, Cut, Refused}
use Rattle.wsn_rules.specs.Limits.{Limits}
use Rattle.wsn_rules.specs.Verdict.{IsVerdict, IsUnrefused}
use Rattle.wsn_rules.proofs.StaysRefused.{stays_refused, refused_alike}
use Rattle.wsn_scan.specs.Judging.{IsReached, IsWithinLimit}

module _ (role : Role) (limits : Limits) where
  -- the verdict on what came is that on all of the input
  pub of_all : (new : Incoming) (came rest : List ℕ) (fs : List Frame) (verdict : Verdict) → IsReached role limits new came verdict → new.remaining ≡ Some rest
      → IsVerdict role limits came fs verdict → IsVerdict role limits (came ++ rest) fs verdict × IsWithinLimit limits (came ++ rest) verdict
  of_all new came rest fs (Refused refusal) reached left is = (stays_refused role limits fs came rest refusal.offset refusal.reason is, reached.3)
  of_all new came rest fs (Accepted s) reached left is =
      let nothing : rest ≡ [] = subst IsAtEnd left reached.2 in
      let all : came ≡ came ++ rest = sym (append-nil came) ∙ ap (λ (bs : List ℕ). came ++ bs) (sym nothing) in
      (subst (λ (bs : List ℕ). IsVerdict role limits bs fs (Accepted s)) all is, subst (λ (bs : List ℕ). length bs ≤ limits.input) all reached.3)
  of_all new came rest fs (Cut s) reached left is =
      let nothing : rest ≡ [] = subst IsAtEnd left reached.2 in
      let all : came ≡ came ++ rest = sym (append-nil came) ∙ ap (λ (bs : List ℕ). came ++ bs) (sym nothing) in
      (subst (λ (bs : List ℕ). IsVerdict role limits bs fs (Cut s)) all is, subst (λ (bs : List ℕ). length bs ≤ limits.input) all reached.3)

  -- a verdict within the limit, or more bytes than the limit and those within it not refused
  pub not_past : (all : List ℕ) (fs : List Frame) (verdict : Verdict) → IsVerdict role limits all fs verdict → IsWithinLimit limits all verdict → limits.input < length all → IsUnrefused role limits (take limits.input all) → ⊥
  not_past all fs (Accepted s) is within more none = omega (arith, within, more)
  not_past all fs (Cut s) is within more none = omega (arith, within, more)
  not_past all fs (Refused r) is within more none =
      none fs r.offset r.reason (refused_alike role limits fs all (take limits.input all) r.offset r.reason (take-take (r.offset + 1) limits.input all (omega (arith, within))) is)
