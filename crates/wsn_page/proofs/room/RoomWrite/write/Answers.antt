use Rattle.std.proofs.Common.{◌≡◌, ◌++◌, ◌+◌, ◌-◌, ◌≤◌, ◌∙◌, ℕ, List, length, take, min, ap, subst, sym, rules, arith, length-take-le}
use Rattle.wsn_page.specs.Rooms.{Writing}
use Rattle.wsn_page.proofs.Rooms.{longest}
use Rattle.wsn_page.proofs.room.RoomWrite.write.Goals as goal

pub returns-clause-longest : goal.returns-clause-longest
returns-clause-longest c =
    let memory : List ℕ = c.self.inside.memory.now in
    let len : ℕ = c.self.inside.len in
    let size : length (take len memory) ≡ len = length-take-le len memory c.self.invariant in
    subst (λ (before : Writing). take c.put_after-self-inside.result c.put_after-self-inside.new.memory ≡ take before.size (before.text ++ c.args.bytes.now)) c.self.view_is
    (c.put_after-self-inside.ensures.written ∙ longest (length memory) (take len memory) c.args.bytes.now c.min-count.result (omega (arith, size, c.self.invariant))
    (c.min-count.ensures ∙ ap (λ (k : ℕ). min (length c.args.bytes.now) (length memory - k)) (sym size)))
