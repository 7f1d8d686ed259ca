use Rattle.std.proofs.Common.{Option, subst}
use Rattle.wsn_events.specs.declared.payload_difference.PayloadDifference.{PayloadDifference}
use Rattle.wsn_events.specs.PayloadExcerpts.{ArePartsKept}
use Rattle.wsn_events.proofs.PayloadParts.{no_parts}
use Rattle.wsn_events.proofs.first_difference.shown_payloads.Goals as goal

pub returns-in-Some : goal.returns-in-Some
returns-in-Some c n place one other few are = c.shown.ensures n place one other few (subst (λ (p : Option PayloadDifference). ArePartsKept p place one other) c.in-Some.is are)

pub returns-in-None : goal.returns-in-None
returns-in-None c n place one other few are = no_parts n place one other (subst (λ (p : Option PayloadDifference). ArePartsKept p place one other) c.in-None.is are)
