-- What the verdict on the first two bytes says of all.
use Rattle.std.proofs.Common.{◌≡◌, ℕ, ◌+◌, ◌<◌, List, ◌++◌, length, take, drop, sym, ap, ◌∙◌, subst, append_assoc, length-append, take-append-drop, arith, ◌≤◌, ◌∷◌}
use Rattle.std.specs.Prelude.{get_or}
use Rattle.std.proofs.lemmas.List.{length-take}
use Rattle.wsn_wire.specs.declared.endpoint.Role.{Role}
use Rattle.wsn_wire.specs.declared.refusal.Reason.{Reason}
use Rattle.wsn_wire.specs.Frame.{Frame}
use Rattle.wsn_rules.specs.declared.verdict.Verdict.TheVariants.{Accepted, Cut, Refused}
use Rattle.wsn_rules.specs.declared.verdict.Summary.{Summary}
use Rattle.wsn_rules.specs.declared.verdict.Refusal.{Refusal}
use Rattle.wsn_rules.specs.Limits.{Limits}
use Rattle.wsn_rules.specs.Verdict.{IsRefused, IsUnrefused}
use Rattle.wsn_rules.proofs.OneVerdict.{one_verdict}
use Rattle.wsn_rules.proofs.StaysRefused.{stays_refused}
use Rattle.wsn_hint.specs.Hints.{IsVerdictOnBytes, IsRefusedEarly}

pub accepted_unrefused : (role : Role) (limits : Limits) (bytes : List ℕ) (summary : Summary) → IsVerdictOnBytes role limits bytes (Accepted summary) → IsUnrefused role limits bytes
accepted_unrefused role limits bytes summary has fs offset reason refused =
    let same : Accepted summary ≡ Refused (record { offset = offset; reason = reason }) = (one_verdict role limits bytes has.0 fs (Accepted summary) (Refused (record { offset = offset; reason = reason })) has.1 refused).1 in
    absurd (cc same)

pub cut_unrefused : (role : Role) (limits : Limits) (bytes : List ℕ) (summary : Summary) → IsVerdictOnBytes role limits bytes (Cut summary) → IsUnrefused role limits bytes
cut_unrefused role limits bytes summary has fs offset reason refused =
    let same : Cut summary ≡ Refused (record { offset = offset; reason = reason }) = (one_verdict role limits bytes has.0 fs (Cut summary) (Refused (record { offset = offset; reason = reason })) has.1 refused).1 in
    absurd (cc same)

-- a refusal's offset is within the bytes
within : (role : Role) (limits : Limits) (bytes : List ℕ) (fs : List Frame) (offset : ℕ) (reason : Reason) → IsRefused role limits bytes fs offset reason → offset < length bytes
within role limits bytes fs offset reason refused = grind (arith, length-append)

-- What the first two bytes are refused for, every input is refused for that begins with them.
pub refused_early : (role : Role) (limits : Limits) (first later : List ℕ) (refusal : Refusal) → IsVerdictOnBytes role limits (take 2 first) (Refused refusal) → IsRefusedEarly role limits (first ++ later)
refused_early role limits first later refusal has =
    let split : take 2 first ++ (drop 2 first ++ later) ≡ first ++ later = sym (append_assoc (take 2 first) (drop 2 first) later) ∙ ap (λ (bs : List ℕ). bs ++ later) (take-append-drop 2 first) in
    record {
      frames = has.0;
      offset = refusal.offset;
      reason = refusal.reason;
      early = omega (arith, within role limits (take 2 first) has.0 refusal.offset refusal.reason has.1, length-take 2 first);
      refused = subst (λ (bs : List ℕ). IsRefused role limits bs has.0 refusal.offset refusal.reason) split (stays_refused role limits has.0 (take 2 first) (drop 2 first ++ later) refusal.offset refusal.reason has.1);
    }

-- the first two of some bytes
pub two_at_front : (bytes : List ℕ) → 2 ≤ length bytes → bytes ≡ get_or bytes 0 0 ∷ get_or bytes 1 0 ∷ drop 2 bytes
two_at_front bytes fact = grind arith

-- The bytes are refused in one way.
pub one_refusal : (role : Role) (limits : Limits) (bytes : List ℕ) (one other : Refusal) → IsVerdictOnBytes role limits bytes (Refused one) → IsVerdictOnBytes role limits bytes (Refused other) → one ≡ other
one_refusal role limits bytes one other of_one of_other =
    let same : Refused one ≡ Refused other = (one_verdict role limits bytes of_one.0 of_other.0 (Refused one) (Refused other) of_one.1 of_other.1).1 in
    cc
