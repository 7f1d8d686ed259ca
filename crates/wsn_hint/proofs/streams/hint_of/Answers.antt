use Rattle.std.proofs.Common.{◌≡◌, Option, Some, ◌++◌, take, inr, subst, arith, rules}
use Rattle.std.proofs.lemmas.Grind.{common_steps}
use Rattle.std.specs.Prelude.{IfSome}
use Rattle.wsn_rules.specs.declared.verdict.Refusal.{Refusal}
use Rattle.wsn_rules.specs.declared.verdict.Verdict.TheVariants.{Refused}
use Rattle.wsn_hint.specs.declared.hint.Hint.{Hint}
use Rattle.wsn_hint.specs.declared.hint.Hint.TheVariants.{Capture}
use Rattle.wsn_hint.specs.Hints.{HintFits, FitsRefused, IsVerdictOnBytes, IsFirstFit, format_hints, frame_hints}
use Rattle.wsn_hint.proofs.EarlyVerdicts.{one_refusal, refused_early}
use Rattle.wsn_hint.proofs.FirstFits.{fits_of_first, first_of_more, first_after, first_at, first_past}
use Rattle.wsn_hint.proofs.streams.hint_of.Goals as goal

pub returns-in_default-clause-first : goal.returns-in_default-clause-first
returns-in_default-clause-first c = λ some refusal has.
    absurd (c.early_refusal.ensures.none c.in_default.is some has.0 refusal.offset refusal.reason has.1)

pub returns-then-is_capture_text-clause-refused : goal.returns-then-is_capture_text-clause-refused
returns-then-is_capture_text-clause-refused c = λ given.
    let own = subst (λ (o : Option Refusal). IfSome o (λ refusal. IsVerdictOnBytes c.args.role c.args.limits (take 2 c.args.first.now) (Refused refusal))) c.in-Some.is c.early_refusal.ensures.refused in
    inr (λ later. refused_early c.args.role c.args.limits c.args.first.now later c.in-Some.refusal own)

pub returns-in-Some-format_of : goal.returns-in-Some-format_of
returns-in-Some-format_of c = record {
  refused = λ given.
      let own = subst (λ (o : Option Refusal). IfSome o (λ refusal. IsVerdictOnBytes c.args.role c.args.limits (take 2 c.args.first.now) (Refused refusal))) c.in-Some.is c.early_refusal.ensures.refused in
      inr (λ later. refused_early c.args.role c.args.limits c.args.first.now later c.in-Some.refusal own);
  fits = let fits = HintFits c.args.limits c.args.first.now in
      fits_of_first fits format_hints (Some c.in-Some-format_of.hint)
      (subst (λ (o : Option Hint). IsFirstFit fits format_hints o) c.in-Some-format_of.is (c.format_of.ensures c.args.limits));
  first = λ some refusal has.
      let limits = c.args.limits in
      let fits = FitsRefused c.args.role limits refusal.reason c.args.first.now in
      let result : Option Hint = Some c.in-Some-format_of.hint in
      first_past fits Capture (format_hints ++ frame_hints) result c.is_capture_text.result c.is_capture_text.ensures c.if-is_capture_text.false
      (first_of_more fits format_hints frame_hints c.in-Some-format_of.hint
      (subst (λ (o : Option Hint). IsFirstFit (HintFits limits c.args.first.now) format_hints o) c.in-Some-format_of.is (c.format_of.ensures limits)));
  empty = search rules;
}

pub returns-in-None-clause-refused : goal.returns-in-None-clause-refused
returns-in-None-clause-refused c = λ given.
    let own = subst (λ (o : Option Refusal). IfSome o (λ refusal. IsVerdictOnBytes c.args.role c.args.limits (take 2 c.args.first.now) (Refused refusal))) c.in-Some.is c.early_refusal.ensures.refused in
    inr (λ later. refused_early c.args.role c.args.limits c.args.first.now later c.in-Some.refusal own)

pub returns-in-None-clause-first : goal.returns-in-None-clause-first
returns-in-None-clause-first c = λ some refusal has.
    let first = c.args.first.now in
    let role = c.args.role in
    let limits = c.args.limits in
    let result = c.frame_hint.result in
    let own = subst (λ (o : Option Refusal). IfSome o (λ r. IsVerdictOnBytes role limits (take 2 first) (Refused r))) c.in-Some.is c.early_refusal.ensures.refused in
    let same : c.in-Some.refusal ≡ refusal = one_refusal role limits (take 2 first) c.in-Some.refusal refusal own has in
    let fits = FitsRefused role limits refusal.reason first in
    first_past fits Capture (format_hints ++ frame_hints) result c.is_capture_text.result c.is_capture_text.ensures c.if-is_capture_text.false
    (first_after fits format_hints frame_hints result
    (subst (λ (o : Option Hint). IsFirstFit (HintFits limits first) format_hints o) c.in-None.is (c.format_of.ensures limits))
    (subst (λ (r : Refusal). IsFirstFit (FitsRefused role limits r.reason first) frame_hints result) same (c.frame_hint.ensures.first some)))

pub returns-then-is_empty-clause-empty : goal.returns-then-is_empty-clause-empty
returns-then-is_empty-clause-empty c = search rules

pub returns-in_default-clause-refused : goal.returns-in_default-clause-refused
returns-in_default-clause-refused c = search rules

pub returns-then-is_capture_text-clause-fits : goal.returns-then-is_capture_text-clause-fits
returns-then-is_capture_text-clause-fits c = c.is_capture_text.ensures.0 c.if-is_capture_text.true

pub returns-then-is_capture_text-clause-first : goal.returns-then-is_capture_text-clause-first
returns-then-is_capture_text-clause-first c = λ some refusal has.
    first_at (FitsRefused c.args.role c.args.limits refusal.reason c.args.first.now) Capture (format_hints ++ frame_hints) c.is_capture_text.result c.is_capture_text.ensures c.if-is_capture_text.true

pub returns-then-is_empty-clause-refused : goal.returns-then-is_empty-clause-refused
returns-then-is_empty-clause-refused c = grind (arith, common_steps)

pub returns-then-is_empty-clause-fits : goal.returns-then-is_empty-clause-fits
returns-then-is_empty-clause-fits c = grind (arith, common_steps)

pub returns-then-is_empty-clause-first : goal.returns-then-is_empty-clause-first
returns-then-is_empty-clause-first c = grind (arith, common_steps)
