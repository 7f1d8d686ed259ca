use Rattle.std.proofs.Common.{[], ◌∷◌, codes, inr, refl, arith}
use Rattle.hex.specs.Hex.{decode_pairs}
use Rattle.wsn_wire.specs.declared.endpoint.Role.TheVariants.{Client, Server}
use Rattle.wsn_rules.specs.Entries.Entry.{Mark}
use Rattle.wsn_rules.specs.Examples.{greatest}
use Rattle.wsn_laws.proofs.ComputedLineFaults.{first_of_bytes, first_of_mark, takes_mark, takes_nothing}
use Rattle.wsn_laws.proofs.line_fault_examples.after_the_end.Goals as goal

pub returns-clause-bytes : goal.returns-clause-bytes
unfolding decode_pairs
returns-clause-bytes c =
    first_of_bytes greatest (Mark Client ∷ []) (codes "C 81") (omega arith) (omega arith) Client (codes "81") (0x81 ∷ []) refl (λ none. cc none, refl) refl

pub returns-clause-mark : goal.returns-clause-mark
returns-clause-mark c = first_of_mark greatest (Mark Server ∷ []) (codes "S.") (omega arith) (omega arith) Server refl refl

pub returns-clause-other_endpoint : goal.returns-clause-other_endpoint
returns-clause-other_endpoint c = takes_mark greatest (Mark Client ∷ []) (codes "S.") (omega arith) (omega arith) Server refl refl

pub returns-clause-comment : goal.returns-clause-comment
returns-clause-comment c = takes_nothing greatest (Mark Client ∷ []) (codes "# C") (omega arith) (omega arith) (inr (codes " C", refl))
