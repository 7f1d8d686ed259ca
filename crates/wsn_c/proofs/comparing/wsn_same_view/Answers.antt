use Rattle.std.proofs.Common.{ℕ, Some, refl, subst, arith}
use Rattle.wsn_c.specs.Calls.{GivesComparison, call}
use Rattle.wsn_c.proofs.comparing.wsn_same_view.Goals as goal

pub compare-requires : goal.compare-requires
compare-requires c = let is = c.short-view.ensures in omega (arith, is)

pub returns-in-Some : goal.returns-in-Some
returns-in-Some c = record {
  run = λ _. (
    c.in-Some.asked,
    c.in-Some.ensures.value,
    subst (λ (n : ℕ). GivesComparison c.in-Some.asked (Some n) c.args.first.now c.args.second.now
        (call c.args.output.now c.compare.new.output c.args.message.now c.compare.new.message c.compare.result)) c.short-view.ensures c.compare.ensures,
  );
  usage = λ out. absurd (out (c.in-Some.ensures.in_range.0 refl));
}
