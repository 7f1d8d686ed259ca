use Rattle.std.proofs.Common.{refl}
use Rattle.hex.specs.Hex.{decode_pairs}
use Rattle.wsn_laws.proofs.side_examples.accepted_sides.Goals as goal

pub returns-clause-nothing : goal.returns-clause-nothing
unfolding decode_pairs
returns-clause-nothing c = refl

pub returns-clause-client : goal.returns-clause-client
unfolding decode_pairs
returns-clause-client c = refl

pub returns-clause-server : goal.returns-clause-server
unfolding decode_pairs
returns-clause-server c = refl

pub returns-clause-cr : goal.returns-clause-cr
unfolding decode_pairs
returns-clause-cr c = refl
