use Rattle.std.proofs.Common.{◌≡◌, ℕ, Option, Some, List, [], ◌∷◌, sym, ap, ◌∙◌, rules}
use Rattle.wsn_frame.specs.Payloads.{unmasked_by}
use Rattle.wsn_wire.proofs.MaskLemmas.{masked-zero}
use Rattle.wsn_plan.proofs.framing.changing.Goals as goal

pub returns-in_default : goal.returns-in_default
returns-in_default c payload =
    let zeros : c.in-Some.key ≡ 0 ∷ 0 ∷ 0 ∷ 0 ∷ [] = search rules in
    sym (ap (λ (key : Option (List ℕ)). unmasked_by key 0 payload) (c.in-Some.is ∙ ap Some zeros) ∙ masked-zero 0 payload)
