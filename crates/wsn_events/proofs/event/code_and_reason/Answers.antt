use Rattle.std.proofs.Common.{◌≡◌, ◌++◌, List, ℕ, drop, ap, ◌∙◌, arith, rules}
use Rattle.std.specs.Int.{to_be_bytes, from_be_bytes, w16}
use Rattle.wsn_events.proofs.CloseBodies.{code_and_rest}
use Rattle.wsn_events.proofs.event.code_and_reason.Goals as goal

pub returns : goal.returns
returns c =
    let body = c.args.body.now in
    let parts = c.in_ok-code.ensures.cases in
    let reason : c.try_extend_from_slice-fits.new.self.items ≡ drop 2 body = search rules in
    let reported = c.from_be_bytes.ensures ∙ ap (λ (front : List ℕ). from_be_bytes w16 front) parts.0 in
    ap (λ (rest : List ℕ). to_be_bytes w16 c.from_be_bytes.result ++ rest) reason ∙ code_and_rest body c.from_be_bytes.result (omega arith) (λ i. omega (arith, c.type_inv.body i)) reported
