use Rattle.std.proofs.Common.{[], codes, arith}
use Rattle.wsn_wire.specs.declared.endpoint.Role.TheVariants.{Client, Server}
use Rattle.wsn_rules.specs.Examples.{greatest}
use Rattle.wsn_capture.proofs.OneFault.{second_byte}
use Rattle.wsn_laws.proofs.ComputedLineFaults.{first_of_form, no_form}
use Rattle.wsn_laws.proofs.line_fault_examples.bad_forms.Goals as goal

pub returns : goal.returns
returns c = record {
  other_letter = first_of_form greatest [] (codes "X") (omega arith) (omega arith)
      (no_form 88 [] (λ is. omega (arith, is)) (λ is. omega (arith, is)) (λ is. omega (arith, is)));
  letter_alone = first_of_form greatest [] (codes "C") (omega arith) (omega arith)
      (second_byte Client [] (λ digits is. cc is) (λ is. cc is));
  small_letter = first_of_form greatest [] (codes "c 81") (omega arith) (omega arith)
      (no_form 99 (codes " 81") (λ is. omega (arith, is)) (λ is. omega (arith, is)) (λ is. omega (arith, is)));
  mark_and_space = first_of_form greatest [] (codes "C. ") (omega arith) (omega arith)
      (second_byte Client (codes ". ") (λ digits is. cc is) (λ is. cc is));
  mark_and_cr_twice = first_of_form greatest [] (codes "S.\r\r") (omega arith) (omega arith)
      (second_byte Server (codes ".\r") (λ digits is. cc is) (λ is. cc is));
  no_space = first_of_form greatest [] (codes "S81") (omega arith) (omega arith)
      (second_byte Server (codes "81") (λ digits is. cc is) (λ is. cc is));
  space_first = first_of_form greatest [] (codes " S 81") (omega arith) (omega arith)
      (no_form 32 (codes "S 81") (λ is. omega (arith, is)) (λ is. omega (arith, is)) (λ is. omega (arith, is)));
  tab = first_of_form greatest [] (codes "S\t81") (omega arith) (omega arith)
      (second_byte Server (codes "\t81") (λ digits is. cc is) (λ is. cc is));
}
