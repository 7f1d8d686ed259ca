use Rattle.std.proofs.Common.{[], ◌∷◌, codes, refl, arith}
use Rattle.hex.specs.Hex.{decode_pairs}
use Rattle.wsn_wire.specs.declared.endpoint.Role.TheVariants.{Client, Server}
use Rattle.wsn_rules.specs.Entries.Entry.{Bytes}
use Rattle.wsn_laws.proofs.ComputedLineFaults.{first_of_limit, takes_bytes}
use Rattle.wsn_laws.proofs.line_fault_examples.over_the_input_limit.Goals as goal

pub returns-clause-two : goal.returns-clause-two
unfolding decode_pairs
returns-clause-two c limits one =
    first_of_limit limits [] (codes "S 8100") (omega arith) (omega arith) Server (codes "8100") (0x81 ∷ 0x00 ∷ []) refl (λ none. cc none, refl) refl (omega (arith, one))

pub returns-clause-one_more : goal.returns-clause-one_more
unfolding decode_pairs
returns-clause-one_more c limits one =
    first_of_limit limits (Bytes Client (0x81 ∷ []) ∷ []) (codes "C 00") (omega arith) (omega arith) Client (codes "00") (0x00 ∷ []) refl (λ none. cc none, refl) refl (omega (arith, one))

pub returns-clause-one : goal.returns-clause-one
unfolding decode_pairs
returns-clause-one c limits one =
    takes_bytes limits [] (codes "S 81") (omega arith) (omega arith) Server (codes "81") (0x81 ∷ []) refl (λ none. cc none, refl) refl (omega (arith, one))

pub returns-clause-of_each : goal.returns-clause-of_each
unfolding decode_pairs
returns-clause-of_each c limits one =
    takes_bytes limits (Bytes Client (0x81 ∷ []) ∷ []) (codes "S 81") (omega arith) (omega arith) Server (codes "81") (0x81 ∷ []) refl (λ none. cc none, refl) refl (omega (arith, one))
