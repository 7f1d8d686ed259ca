use Rattle.std.proofs.Common.{rules}
use Rattle.wsn_job.proofs.AnswerTexts.{puts_other, puts_unseen}
use Rattle.wsn_job.proofs.comparisons.put_answer.Goals as goal

pub put_compared_as-requires : goal.put_compared_as-requires
put_compared_as-requires g c = search rules

pub returns-in_default : goal.returns-in_default
returns-in_default g c bytes others has =
    puts_other c.args.comparison bytes others c.args.output.now c.put_compared_as.new.to c.put_compared_as.result c.args.compared c.in_default.not-Different c.put_compared_as.ensures

pub put_compared_as-requires-in-None : goal.put_compared_as-requires-in-None
put_compared_as-requires-in-None g c = search rules

pub returns-in-None : goal.returns-in-None
returns-in-None g c bytes others has =
    puts_unseen c.args.comparison bytes others c.args.output.now c.put_compared_as-in-None.new.to c.put_compared_as-in-None.result c.args.compared c.in-Different.field-0 c.in-Different.is c.in-None.is c.put_compared_as-in-None.ensures

pub put_seen-requires : goal.put_seen-requires
put_seen-requires g c = record { writable = search rules; seen = search rules }

pub returns-in-Some : goal.returns-in-Some
returns-in-Some g c bytes others has = c.put_seen.ensures bytes others c.in-Different.field-0 c.in-Different.is has
