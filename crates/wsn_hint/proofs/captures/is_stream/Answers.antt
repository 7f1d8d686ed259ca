use Rattle.std.proofs.Common.{◌≡◌, ℕ, ◌≤◌, true≢false, Bool, true, false, List, take, sym, ap, ◌∙◌, subst, arith}
use Rattle.wsn_wire.specs.declared.endpoint.Role.{Role}
use Rattle.wsn_wire.specs.declared.endpoint.Role.TheVariants.{Client, Server}
use Rattle.wsn_rules.specs.Limits.{Limits}
use Rattle.wsn_rules.specs.Examples.{greatest}
use Rattle.wsn_rules.specs.Verdict.{IsUnrefused}
use Rattle.wsn_hint.proofs.captures.is_stream.Goals as goal

-- What an endpoint may send and the client may not, the server may.
servers : (limits : Limits) (bytes : List ℕ) (client server : Bool) → (IsUnrefused Client limits bytes → client ≡ true) → (IsUnrefused Server limits bytes → server ≡ true) → client ≡ false → (role : Role) → IsUnrefused role limits bytes → server ≡ true
servers limits bytes client server by_client by_server not_client Client unrefused = absurd (true≢false (sym (by_client unrefused) ∙ not_client))
servers limits bytes client server by_client by_server not_client Server unrefused = by_server unrefused

pub returns-then-is_lawful_start : goal.returns-then-is_lawful_start
returns-then-is_lawful_start c =
    let bytes = take 2 c.args.first.now in
    let value : c.in-Some.limits ≡ greatest = c.in-Some.ensures.value in
    (λ is. (omega arith, (Client, subst (λ (limits : Limits). IsUnrefused Client limits bytes) value (c.is_lawful_start.ensures.unrefused is))), λ stream. c.if-is_lawful_start.true)

pub returns-else-is_lawful_start : goal.returns-else-is_lawful_start
returns-else-is_lawful_start c =
    let bytes = take 2 c.args.first.now in
    let limits = c.in-Some.limits in
    let value : limits ≡ greatest = c.in-Some.ensures.value in
    let input : limits.input ≡ 1099511627776 = ap (λ (l : Limits). l.input) value in
    let some : 2 ≤ limits.input = omega (arith, input) in
    let client = c.is_lawful_start in
    let server = c.is_lawful_start-else-is_lawful_start in (
      λ is. (omega arith, (Server, subst (λ (l : Limits). IsUnrefused Server l bytes) value (server.ensures.unrefused is))),
      λ stream. servers limits bytes client.result server.result (client.ensures.given some) (server.ensures.given some) c.if-is_lawful_start.false stream.1.0 (subst (λ (l : Limits). IsUnrefused stream.1.0 l bytes) (sym value) stream.1.1),
    )
