use Rattle.std.proofs.Common.{ℕ, ◌≤◌, Option, IfSome, subst, rules}
use Rattle.wsn_job.proofs.AnswerTexts.{never_nothing, puts_seen}
use Rattle.wsn_job.proofs.comparisons.put_seen.Goals as goal

pub put_difference_as-requires : goal.put_difference_as-requires
put_difference_as-requires g c = search rules

pub put_compared_as-requires : goal.put_compared_as-requires
put_compared_as-requires g c = search rules

pub returns-in-Some : goal.returns-in-Some
returns-in-Some g c bytes others k is has =
    puts_seen c.args.comparison bytes others c.args.output.now c.put_difference_as.new.to c.put_difference_as.result c.args.compared k c.args.view c.args.difference.now c.in-Some.difference c.shown.result is c.requires.seen
    (subst (λ (v : Option ℕ). IfSome v (λ (n : ℕ). n ≤ 4096)) c.requires.seen c.args.comparison.in_range) c.in-Some.is has c.shown.ensures.index c.shown.ensures.first c.shown.ensures.second c.shown.ensures.payloads c.put_difference_as.ensures

pub returns-in-None : goal.returns-in-None
returns-in-None g c bytes others k is has =
    absurd (never_nothing c.args.comparison bytes others c.args.output.now c.put_compared_as.new.to c.put_compared_as.result c.args.compared k c.args.difference.now is c.in-None.is has)
