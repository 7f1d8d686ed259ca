use Rattle.std.proofs.Common.{refl, true, false}
use Rattle.wsn_rules.specs.declared.closing_handshake.Side.TheVariants.{Closed}
use Rattle.wsn_rules.specs.declared.closing_handshake.Outcome.TheVariants.{Clean, Complete}
use Rattle.wsn_rules.proofs.Outcomes.{has_outcome, is_outcome}
use Rattle.wsn_laws.proofs.capture_examples.both_closed.Goals as goal

pub returns : goal.returns
unfolding has_outcome
returns c = record {
  clean = λ code other. is_outcome (Closed code) (Closed other) true true Clean refl;
  server_open = λ code other. is_outcome (Closed code) (Closed other) true false Complete refl;
  client_open = λ code other. is_outcome (Closed code) (Closed other) false true Complete refl;
  both_open = λ code other. is_outcome (Closed code) (Closed other) false false Complete refl;
}
