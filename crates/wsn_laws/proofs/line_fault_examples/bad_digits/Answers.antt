use Rattle.std.proofs.Common.{[], codes, refl, arith}
use Rattle.hex.specs.Hex.{decode_pairs}
use Rattle.wsn_wire.specs.declared.endpoint.Role.TheVariants.{Client, Server}
use Rattle.wsn_rules.specs.Examples.{greatest}
use Rattle.wsn_laws.proofs.ComputedLineFaults.{first_of_hex, no_hex}
use Rattle.wsn_laws.proofs.line_fault_examples.bad_digits.Goals as goal

pub returns-clause-none : goal.returns-clause-none
returns-clause-none c = first_of_hex greatest [] (codes "C ") (omega arith) (omega arith) Client [] refl (λ bytes hex. hex.0 refl)

pub returns-clause-one : goal.returns-clause-one
unfolding decode_pairs
returns-clause-one c = first_of_hex greatest [] (codes "C 8") (omega arith) (omega arith) Client (codes "8") refl (no_hex (codes "8") tt)

pub returns-clause-three : goal.returns-clause-three
unfolding decode_pairs
returns-clause-three c = first_of_hex greatest [] (codes "S 810") (omega arith) (omega arith) Server (codes "810") refl (no_hex (codes "810") tt)

pub returns-clause-no_digit : goal.returns-clause-no_digit
unfolding decode_pairs
returns-clause-no_digit c = first_of_hex greatest [] (codes "C zz") (omega arith) (omega arith) Client (codes "zz") refl (no_hex (codes "zz") tt)

pub returns-clause-space_after : goal.returns-clause-space_after
unfolding decode_pairs
returns-clause-space_after c = first_of_hex greatest [] (codes "S 81 ") (omega arith) (omega arith) Server (codes "81 ") refl (no_hex (codes "81 ") tt)

pub returns-clause-two_spaces : goal.returns-clause-two_spaces
unfolding decode_pairs
returns-clause-two_spaces c = first_of_hex greatest [] (codes "S  81") (omega arith) (omega arith) Server (codes " 81") refl (no_hex (codes " 81") tt)
