use Rattle.std.proofs.Common.{refl}
use Rattle.hex.specs.Hex.{decode_pairs}
use Rattle.wsn_laws.proofs.side_examples.faulty_sides.Goals as goal

pub returns-clause-form : goal.returns-clause-form
unfolding decode_pairs
returns-clause-form c = refl

pub returns-clause-hex : goal.returns-clause-hex
unfolding decode_pairs
returns-clause-hex c = refl

pub returns-clause-bytes_after_end : goal.returns-clause-bytes_after_end
unfolding decode_pairs
returns-clause-bytes_after_end c = refl

pub returns-clause-second_mark : goal.returns-clause-second_mark
unfolding decode_pairs
returns-clause-second_mark c = refl

pub returns-clause-hex_after_end : goal.returns-clause-hex_after_end
unfolding decode_pairs
returns-clause-hex_after_end c = refl

pub returns-clause-number : goal.returns-clause-number
unfolding decode_pairs
returns-clause-number c = refl
