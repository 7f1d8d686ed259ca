use Rattle.std.proofs.Common.{◌≡◌, ◌+◌, List, ℕ, ◌++◌, take, drop, length, sym, ap, ◌∙◌, rules, take-append-drop}
use Rattle.std.proofs.KnownBytes.{Keeps-trans, append_known-moved}
use Rattle.std.proofs.lemmas.List.{drop-drop}
use Rattle.std.proofs.lemmas.Slice.{between_to_end}
use Rattle.wsn_color.proofs.queue.Queue.write_to.Goals as goal

-- The writer took the beginning of what was left.
pub loop-self-preserved : goal.loop-self-preserved
loop-self-preserved g c =
    let items = c.loop-self.self.bytes.items in
    let sent = c.loop-self.self.sent in
    let left = drop sent items in
    let wrote = rw (c.as_slice.ensures.value, between_to_end items sent (length items) (search rules)) at c.in-Ok.ensures.bytes in
    let parts : left ≡ take c.in-Ok.count left ++ drop (sent + c.in-Ok.count) items =
    sym (take-append-drop c.in-Ok.count left) ∙ ap (λ (rest : List ℕ). take c.in-Ok.count left ++ rest) (drop-drop c.in-Ok.count sent items) in
    Keeps-trans _ _ _ c.loop-self.invariant (append_known-moved _ _ (take c.in-Ok.count left) _ left wrote parts)
