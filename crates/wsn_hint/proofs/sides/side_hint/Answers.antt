use Rattle.std.proofs.Common.{true, false, Option, None, Some, sym, subst, rules}
use Rattle.wsn_wire.specs.declared.refusal.Reason.{Reason}
use Rattle.wsn_rules.specs.declared.verdict.Refusal.{Refusal}
use Rattle.wsn_hint.specs.Hints.{IsFirstFit}
use Rattle.wsn_hint.specs.SideHints.{FitsSide, IsSideHint, side_hints}
use Rattle.wsn_hint.specs.declared.hint.Hint.TheVariants.{NeverMasked, NotUtf8}
use Rattle.wsn_hint.proofs.SideFits.{some_byte, unmasked_fits, no_utf8_fits}
use Rattle.wsn_hint.proofs.sides.side_hint.Goals as goal

pub returns-in-ReservedBits : goal.returns-in-ReservedBits
returns-in-ReservedBits c =
    let text = c.args.first.now in
    let byte = c.offending_byte.result in
    let result = c.bits_hint.result in
    subst (λ (o : Option Refusal). IsSideHint c.args.role c.args.limits text c.args.line o result) (sym c.in-Some.is) (
      byte,
      false,
      c.offending_byte.ensures,
      λ known. cc known,
      subst (λ (reason : Reason). IsFirstFit (FitsSide text reason byte false) side_hints result) (sym c.in-ReservedBits.is) c.bits_hint.ensures,
    )

pub returns-in-TextBad : goal.returns-in-TextBad
returns-in-TextBad c =
    let text = c.args.first.now in
    let byte = some_byte c.args.role text c.args.line c.in-Some.refusal.offset in
    subst (λ (o : Option Refusal). IsSideHint c.args.role c.args.limits text c.args.line o (Some NeverMasked)) (sym c.in-Some.is) (
      byte.0,
      true,
      byte.1,
      λ known. c.is_text_as_sent.ensures c.if-is_text_as_sent.true,
      subst (λ (reason : Reason). IsFirstFit (FitsSide text reason byte.0 true) side_hints (Some NeverMasked)) (sym c.in-TextBad.is) (unmasked_fits text byte.0),
    )

pub returns-in-TextBad-2 : goal.returns-in-TextBad-2
returns-in-TextBad-2 c =
    let text = c.args.first.now in
    let byte = some_byte c.args.role text c.args.line c.in-Some.refusal.offset in
    subst (λ (o : Option Refusal). IsSideHint c.args.role c.args.limits text c.args.line o (Some NotUtf8)) (sym c.in-Some.is) (
      byte.0,
      false,
      byte.1,
      λ known. cc known,
      subst (λ (reason : Reason). IsFirstFit (FitsSide text reason byte.0 false) side_hints (Some NotUtf8)) (sym c.in-TextBad.is) (no_utf8_fits text byte.0),
    )

pub returns-in_default-reason : goal.returns-in_default-reason
returns-in_default-reason c =
    let text = c.args.first.now in
    let byte = some_byte c.args.role text c.args.line c.in-Some.refusal.offset in
    let none : IsFirstFit (FitsSide text c.in-Some.refusal.reason byte.0 false) side_hints None = search rules in
    subst (λ (o : Option Refusal). IsSideHint c.args.role c.args.limits text c.args.line o None) (sym c.in-Some.is)
    (byte.0, false, byte.1, (λ known. cc known), none)
