use Rattle.std.proofs.Common.{refl}
use Rattle.wsn_rules.specs.declared.closing_handshake.Side.TheVariants.{Closed, Ended, Cut, Running}
use Rattle.wsn_rules.specs.declared.closing_handshake.Outcome.TheVariants.{Abnormal}
use Rattle.wsn_rules.proofs.Outcomes.{has_outcome, is_outcome}
use Rattle.wsn_laws.proofs.capture_examples.abnormal.Goals as goal

pub returns : goal.returns
unfolding has_outcome
returns c = record {
  client_ended = λ c_ended s_ended. is_outcome Ended Running c_ended s_ended Abnormal refl;
  server_ended = λ c_ended s_ended. is_outcome Running Ended c_ended s_ended Abnormal refl;
  client_cut = λ c_ended s_ended. is_outcome Cut Running c_ended s_ended Abnormal refl;
  server_cut = λ c_ended s_ended. is_outcome Running Cut c_ended s_ended Abnormal refl;
  both_ended = λ c_ended s_ended. is_outcome Ended Ended c_ended s_ended Abnormal refl;
  both_cut = λ c_ended s_ended. is_outcome Cut Cut c_ended s_ended Abnormal refl;
  ended_and_cut = λ c_ended s_ended. is_outcome Ended Cut c_ended s_ended Abnormal refl;
  cut_and_ended = λ c_ended s_ended. is_outcome Cut Ended c_ended s_ended Abnormal refl;
  client_closed = λ code c_ended s_ended. is_outcome (Closed code) Ended c_ended s_ended Abnormal refl;
  server_closed = λ code c_ended s_ended. is_outcome Ended (Closed code) c_ended s_ended Abnormal refl;
  closed_and_cut = λ code c_ended s_ended. is_outcome (Closed code) Cut c_ended s_ended Abnormal refl;
  cut_and_closed = λ code c_ended s_ended. is_outcome Cut (Closed code) c_ended s_ended Abnormal refl;
}
