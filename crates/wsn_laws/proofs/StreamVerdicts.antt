-- The verdict on a stream is printed whole.
use Rattle.std.proofs.Common.{◌≡◌, ℕ, Bool, false, if◌then◌else◌, None, Some, List, [], ◌∷◌, refl, ap, ◌∙◌}
use Rattle.wsn_wire.specs.declared.endpoint.Role.{Role}
use Rattle.wsn_wire.specs.declared.opcode.Op.{Op}
use Rattle.wsn_wire.specs.declared.opcode.Op.TheVariants.{Continue, Text, Binary, Close, Ping, Pong}
use Rattle.wsn_wire.specs.Frame.{Frame}
use Rattle.wsn_rules.specs.declared.verdict.Verdict.{Verdict}
use Rattle.wsn_rules.specs.declared.verdict.Summary.{Summary}
use Rattle.wsn_rules.specs.declared.verdict.Verdict.TheVariants.{Accepted, Cut, Refused}
use Rattle.wsn_rules.specs.Limits.{Limits}
use Rattle.wsn_rules.specs.AfterClose.{HasNoClose}
use Rattle.wsn_rules.specs.Summary.{close_of, close_code, is_close}
use Rattle.wsn_rules.specs.Verdict.{IsVerdict}
use Rattle.wsn_laws.specs.Answers.{IsPrintedWhole}

other_op : (op : Op) → (op ≡ Close → ⊥) → is_close op ≡ false
other_op Continue other = refl
other_op Text other = refl
other_op Binary other = refl
other_op Close other = absurd (other refl)
other_op Ping other = refl
other_op Pong other = refl

-- Frames without a Close have none.
no_close : (fs : List Frame) → HasNoClose fs → close_of fs ≡ None
no_close [] none = refl
no_close (f ∷ fs) none =
    ap (λ (b : Bool). if b then Some (close_code f.payload) else close_of fs) (other_op f.op (none [] fs f refl))
    ∙ no_close fs (λ before after g is. none (f ∷ before) after g (ap (λ (gs : List Frame). f ∷ gs) is))

pub stream_verdict : (role : Role) (limits : Limits) (bytes : List ℕ) (fs : List Frame) (verdict : Verdict) → IsVerdict role limits bytes fs verdict → IsPrintedWhole verdict
stream_verdict role limits bytes fs (Accepted s) is = tt
stream_verdict role limits bytes fs (Cut s) is = (ap (λ (s : Summary). s.tail) is.1, ap (λ (s : Summary). s.close) is.1 ∙ no_close fs is.0.no_close)
stream_verdict role limits bytes fs (Refused refusal) is = tt
