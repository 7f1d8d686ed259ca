use Rattle.std.proofs.Common.{inl, inr, arith}
use Rattle.wsn_laws.proofs.capture_examples.failed.Goals as goal

pub returns-clause-client : goal.returns-clause-client
returns-clause-client c refusal side c_ended s_ended = record { fits = inl tt; first = λ other fits. omega arith }

pub returns-clause-server : goal.returns-clause-server
returns-clause-server c refusal side c_ended s_ended = record { fits = inr tt; first = λ other fits. omega arith }
