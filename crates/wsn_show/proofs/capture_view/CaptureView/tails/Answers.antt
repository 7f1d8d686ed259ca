use Rattle.wsn_wire.specs.declared.endpoint.Role.TheVariants.{Client, Server}
use Rattle.wsn_rules.specs.Sides.{sent}
use Rattle.wsn_show.proofs.capture_view.CaptureView.tails.Goals as goal

pub returns : goal.returns
returns c limits style lines entries has =
    c.of.ensures limits entries
    (c.verdict.ensures Client limits style (sent Client entries) has.viewed.client)
    (c.verdict-2.ensures Server limits style (sent Server entries) has.viewed.server)
