use Rattle.std.proofs.Common.{[], sym, subst}
use Rattle.wsn_wire.specs.declared.endpoint.Role.TheVariants.{Client, Server}
use Rattle.wsn_rules.specs.Sides.{sent}
use Rattle.wsn_capture.specs.Captures.{Captured, HasAcceptedLines}
use Rattle.wsn_capture.proofs.AcceptedTexts.{taken_given}
use Rattle.wsn_capture.proofs.StreamSteps.{judged}
use Rattle.wsn_capture.proofs.capture.Capture.report.Goals as goal

pub returns : goal.returns
returns c = λ limits lines seen.
    let inside = c.self.inside in
    let has = subst (λ (s : Captured). HasAcceptedLines limits s lines) (sym c.self.view_is) seen in
    record {
      entries = has.entries;
      given = taken_given limits [] lines has.entries has.accepted.taken;
      is = c.report.ensures limits lines has.entries has.accepted has.noted
          (judged Client limits inside.client (sent Client has.entries) c.finish-client.result has.client c.finish-client.ensures.verdict c.finish-client.ensures.reported)
          (judged Server limits inside.server (sent Server has.entries) c.finish-server.result has.server c.finish-server.ensures.verdict c.finish-server.ensures.reported);
    }
