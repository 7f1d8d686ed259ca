use Rattle.std.proofs.Common.{ap, ◌∙◌, rules}
use Rattle.wsn_frame.specs.Payloads.{unmasked_by}
use Rattle.wsn_frame.proofs.PayloadMore.{unmasked_by-twice}
use Rattle.wsn_plan.proofs.MaskedPayloads.{masked_is}
use Rattle.wsn_plan.proofs.framing.put_masked.Goals as goal

pub returns-clause-put : goal.returns-clause-put
returns-clause-put g c = c.put_frame-done.ensures c.args.payload.now (c.unmask.ensures ∙ c.changing-mask.ensures c.args.payload.now ∙ masked_is c.args.head.key c.args.payload.now)

pub returns-clause-same : goal.returns-clause-same
returns-clause-same g c = c.unmask-2.ensures ∙ ap (unmasked_by c.changing-mask.result 0) c.unmask.ensures ∙ unmasked_by-twice c.changing-mask.result 0 c.args.payload.now

pub unmask-requires : goal.unmask-requires
unmask-requires g c = search rules

pub unmask-requires-2 : goal.unmask-requires-2
unmask-requires-2 g c = search rules

pub put_frame-done-requires : goal.put_frame-done-requires
put_frame-done-requires g c = record { unfailed = search rules; size = search rules; control = search rules; fits = search rules }
