use Rattle.std.proofs.Common.{sym, subst}
use Rattle.wsn_wire.specs.declared.endpoint.Role.TheVariants.{Client, Server}
use Rattle.wsn_rules.specs.Sides.{sent}
use Rattle.wsn_capture.specs.Captures.{Captured, HasStreamed}
use Rattle.wsn_capture.proofs.StreamSteps.{judged}
use Rattle.wsn_capture.proofs.capture.Capture.tails.Goals as goal

pub returns : goal.returns
returns c = λ limits lines has.
    let inside = c.self.inside in
    let client = subst (λ (s : Captured). HasStreamed Client limits s.client (sent Client has.entries)) (sym c.self.view_is) has.client in
    let server = subst (λ (s : Captured). HasStreamed Server limits s.server (sent Server has.entries)) (sym c.self.view_is) has.server in
    c.of.ensures limits has.entries
    (judged Client limits inside.client (sent Client has.entries) c.finish.result client c.finish.ensures.verdict c.finish.ensures.reported)
    (judged Server limits inside.server (sent Server has.entries) c.finish-2.result server c.finish-2.ensures.verdict c.finish-2.ensures.reported)
