use Rattle.std.proofs.Common.{refl}
use Rattle.wsn_laws.proofs.line_fault_examples.words.Goals as goal

pub returns : goal.returns
returns c = record { too_many_lines = refl; too_long = refl; bad_form = refl; bad_hex = refl; after_end = refl; input_limit = refl }
