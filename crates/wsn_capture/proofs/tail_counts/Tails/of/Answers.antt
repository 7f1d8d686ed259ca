use Rattle.wsn_wire.specs.declared.endpoint.Role.TheVariants.{Client, Server}
use Rattle.wsn_rules.specs.Sides.{sent}
use Rattle.wsn_capture.proofs.tail_counts.Tails.of.Goals as goal

pub returns : goal.returns
returns c = λ limits given client server.
    (c.tail_of.ensures Client limits (sent Client given) client, c.tail_of-2.ensures Server limits (sent Server given) server)
