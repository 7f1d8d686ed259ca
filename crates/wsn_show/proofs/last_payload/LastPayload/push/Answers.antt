use Rattle.std.proofs.Common.{arith, List, ◌∷◌, [], ◌++◌, ap, ◌∙◌}
use Rattle.std.proofs.lemmas.Grind.{common_steps}
use Rattle.wsn_show.specs.declared.last_payload.StreamByte.{StreamByte}
use Rattle.wsn_show.proofs.LastPayloads.{pushed}
use Rattle.wsn_show.proofs.last_payload.LastPayload.push.Goals as goal

pub returns : goal.returns
returns c came has =
    pushed c.args.self.now.held.items came c.args.byte c.push.new.self.items has (c.push.ensures.items ∙ ap (λ (bs : List StreamByte). bs ++ c.args.byte ∷ []) c.make_room.ensures)

pub push-requires : goal.push-requires
push-requires c = grind (arith, common_steps)
