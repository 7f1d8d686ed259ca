use Rattle.std.proofs.Common.{ℕ, ◌↔◌, List, ◌∷◌, get_or, Option, refl, subst, arith}
use Rattle.wsn_text.specs.Utf8.{Range}
use Rattle.wsn_text.specs.Validated.{Follows}
use Rattle.wsn_text.specs.Expected.{awaited}
use Rattle.wsn_text.proofs.Taking.{takes_next, breaks_at}
use Rattle.wsn_text.proofs.utf8_check.Utf8.take_each.Goals as goal

pub returns-then-is_bad-clause-steps : goal.returns-then-is_bad-clause-steps
returns-then-is_bad-clause-steps c =
    let bytes = c.args.bytes.now in
    let i = c.loop-i.i in
    let new = awaited c.after-self-inside.result in
    let same = subst (λ (before : Option (List Range)). (more : List ℕ) → Follows before (get_or bytes i 0 ∷ more) ↔ Follows new more) c.self.view_is c.after-self-inside.ensures in
    breaks_at c.args.self.now c.loop-i.self new bytes i (omega arith) c.loop-i.invariant.consumes c.loop-i.invariant.live same (c.if-is_bad.ensures.bad refl)

pub loop-i-preserved : goal.loop-i-preserved
loop-i-preserved c =
    let bytes = c.args.bytes.now in
    let i = c.loop-i.i in
    let new = awaited c.after-self-inside.result in
    let same = subst (λ (before : Option (List Range)). (more : List ℕ) → Follows before (get_or bytes i 0 ∷ more) ↔ Follows new more) c.self.view_is c.after-self-inside.ensures in
    record {
      consumes = takes_next c.args.self.now c.loop-i.self new bytes i (omega arith) c.loop-i.invariant.consumes same;
      live = c.if-is_bad.ensures.good refl;
    }
