use Rattle.std.proofs.Common.{[], ◌∷◌, codes, refl, arith}
use Rattle.hex.specs.Hex.{decode_pairs}
use Rattle.wsn_wire.specs.declared.endpoint.Role.TheVariants.{Client}
use Rattle.wsn_rules.specs.Entries.Entry.{Mark}
use Rattle.wsn_rules.specs.Examples.{greatest}
use Rattle.wsn_capture.proofs.OneFault.{second_byte}
use Rattle.wsn_laws.proofs.ComputedLineFaults.{first_of_many, first_of_long, first_of_form, first_of_hex, first_of_bytes, no_hex}
use Rattle.wsn_laws.proofs.line_fault_examples.order_of_faults.Goals as goal

pub returns-clause-many_before_long : goal.returns-clause-many_before_long
returns-clause-many_before_long c given line many long = first_of_many greatest given line (omega (arith, many))

pub returns-clause-long_before_form : goal.returns-clause-long_before_form
returns-clause-long_before_form c rest long = first_of_long greatest [] (88 ∷ rest) (omega arith) (omega (arith, long))

pub returns-clause-digits_before_end : goal.returns-clause-digits_before_end
unfolding decode_pairs
returns-clause-digits_before_end c =
    first_of_hex greatest (Mark Client ∷ []) (codes "C zz") (omega arith) (omega arith) Client (codes "zz") refl (no_hex (codes "zz") tt)

pub returns-clause-form_before_end : goal.returns-clause-form_before_end
returns-clause-form_before_end c = first_of_form greatest (Mark Client ∷ []) (codes "C. ") (omega arith) (omega arith)
    (second_byte Client (codes ". ") (λ digits is. cc is) (λ is. cc is))

pub returns-clause-end_before_limit : goal.returns-clause-end_before_limit
unfolding decode_pairs
returns-clause-end_before_limit c limits one =
    first_of_bytes limits (Mark Client ∷ []) (codes "C 8100") (omega arith) (omega arith) Client (codes "8100") (0x81 ∷ 0x00 ∷ []) refl (λ none. cc none, refl) refl
