use Rattle.std.proofs.Common.{refl}
use Rattle.wsn_rules.specs.declared.closing_handshake.Side.TheVariants.{Closed, Running}
use Rattle.wsn_rules.specs.declared.closing_handshake.Outcome.TheVariants.{Half, Live}
use Rattle.wsn_rules.proofs.Outcomes.{has_outcome, is_outcome}
use Rattle.wsn_laws.proofs.capture_examples.half_and_open.Goals as goal

pub returns : goal.returns
unfolding has_outcome
returns c = record {
  client = λ code c_ended s_ended. is_outcome (Closed code) Running c_ended s_ended Half refl;
  server = λ code c_ended s_ended. is_outcome Running (Closed code) c_ended s_ended Half refl;
  open_streams = λ c_ended s_ended. is_outcome Running Running c_ended s_ended Live refl;
}
