use Rattle.std.proofs.Common.{ℕ, false, Option, None, Some, sym, subst, rules}
use Rattle.std.proofs.lemmas.Bool.{iff_false}
use Rattle.wsn_wire.specs.declared.refusal.Reason.TheVariants.{ReservedBits}
use Rattle.wsn_hint.specs.Hints.{IsFirstFit}
use Rattle.wsn_hint.specs.SideHints.{FitsSide, side_hints}
use Rattle.wsn_hint.proofs.SideFits.{head_known, other_head}
use Rattle.wsn_hint.proofs.sides.bits_hint.Goals as goal

pub returns-in-Some : goal.returns-in-Some
returns-in-Some c =
    let text = c.args.first.now in
    subst (λ (o : Option ℕ). IsFirstFit (FitsSide text ReservedBits o false) side_hints (Some c.compressed_hint.result)) (sym c.in-Some.is)
    (head_known text c.in-Some.byte c.compressed_hint.result (c.is_compressed_head.ensures.0 c.if-is_compressed_head.true) c.compressed_hint.ensures)

pub returns-in-Some-2 : goal.returns-in-Some-2
returns-in-Some-2 c =
    subst (λ (o : Option ℕ). IsFirstFit (FitsSide c.args.first.now ReservedBits o false) side_hints None) (sym c.in-Some.is)
    (other_head c.args.first.now c.in-Some.byte (iff_false c.is_compressed_head.ensures c.if-is_compressed_head.false))

pub returns-in-None-2 : goal.returns-in-None-2
returns-in-None-2 c = search rules
