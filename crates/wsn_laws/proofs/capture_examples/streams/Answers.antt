use Rattle.std.proofs.Common.{refl}
use Rattle.wsn_laws.proofs.capture_examples.streams.Goals as goal

pub returns : goal.returns
returns c = record {
  of_client = refl;
  of_server = refl;
  client_ended = refl;
  server_not = refl;
  server_ended = refl;
  client_not = refl;
}
