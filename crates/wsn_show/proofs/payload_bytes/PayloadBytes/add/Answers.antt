use Rattle.std.proofs.Common.{◌≡◌, ◌+◌, ◌-◌, ◌++◌, ℕ, List, length, take, min, refl, sym, ap, subst, ◌∙◌, arith, length-take-le}
use Rattle.wsn_show.specs.PayloadsSoFar.{PayloadSoFar, HasPayload}
use Rattle.wsn_show.proofs.MoreBytesHeld.{counted, first_more_in}
use Rattle.wsn_show.proofs.payload_bytes.PayloadBytes.add.Goals as goal

pub returns : goal.returns
returns c n came small has =
    let inside = c.self.inside in
    let memory : List ℕ = inside.memory.now in
    let bytes = c.args.bytes.now in
    let here = subst (λ (p : PayloadSoFar). HasPayload n p came) (sym c.self.view_is) has in
    let size : length (take inside.len memory) ≡ inside.len = length-take-le inside.len memory c.self.invariant in
    let room : (length memory - inside.len) + length (take inside.len memory) ≡ length memory = omega (arith, size, c.self.invariant) in
    let number : c.min-number.result ≡ min (length memory - inside.len) (length bytes) = let is = c.min-number.ensures in omega (arith, is) in
    let after : length c.put_after-self-inside.new.memory ≡ length memory = c.put_after-self-inside.auto.memory in
    record {
      count = counted inside.count (length bytes) c.saturating_add-self-inside.result came bytes here.count refl small c.saturating_add-self-inside.ensures;
      held =
          c.put_after-self-inside.ensures.written ∙ first_more_in (length memory) (take inside.len memory) came bytes (length memory - inside.len) c.min-number.result here.held room number
          ∙ ap (λ (k : ℕ). take k (came ++ bytes)) (sym after);
      enough = let wide = here.enough in omega (arith, wide, after);
    }
