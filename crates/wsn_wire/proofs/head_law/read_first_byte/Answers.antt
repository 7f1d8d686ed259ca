use Rattle.std.proofs.lemmas.Grind.{common_steps}
use Rattle.std.proofs.Common.{rules, ℕ, ◌≤◌, not, nat_eq, bit_and, arith, sym, ◌∙◌, ap, subst, inl, inr}
use Rattle.std.proofs.lemmas.Bool.{ne_eqb, false≢true}
use Rattle.wsn_wire.specs.declared.refusal.Reason.{Reason}
use Rattle.wsn_wire.specs.declared.refusal.Reason.TheVariants.{ReservedBits, ReservedOpcode, ControlNotFinal}
use Rattle.wsn_wire.specs.Refusal.{number_of}
use Rattle.wsn_wire.specs.EvidenceInHeads.{IsReserved, EvidentInFirst}
use Rattle.wsn_wire.proofs.ByteLemmas.{opcode_mask, top_mask, reserved_clear, reserved_set}
use Rattle.wsn_wire.proofs.FrameLemmas.{IsFirstByteOf}
use Rattle.wsn_wire.proofs.HeadLemmas.{first_byte-parts, first_shows_nothing}
use Rattle.wsn_wire.proofs.head_law.read_first_byte.Goals as goal

-- Every reason that the byte is evidence for has a number of at least n, by cases.
least_evident : (byte n : ℕ) → (EvidentInFirst ReservedBits byte → n ≤ 1) → (EvidentInFirst ReservedOpcode byte → n ≤ 2) →
    n ≤ 3 → (r : Reason) → EvidentInFirst r byte → n ≤ number_of r
least_evident byte n bits opcode final ReservedBits is_evident = bits is_evident
least_evident byte n bits opcode final ReservedOpcode is_evident = opcode is_evident
least_evident byte n bits opcode final ControlNotFinal is_evident = final
least_evident byte n bits opcode final _ is_evident = absurd is_evident

pub returns-then-b-ne0-clause-refused : goal.returns-then-b-ne0-clause-refused
returns-then-b-ne0-clause-refused c = record {
  is_evident = reserved_set c.args.b (omega arith) c.if-b-ne0.true;
  least = least_evident c.args.b 1 (λ _. omega arith) (λ _. omega arith) (omega arith);
}

pub returns-in_default-clause-refused : goal.returns-in_default-clause-refused
returns-in_default-clause-refused c =
    let clear = reserved_clear c.args.b (omega arith) c.if-b-ne0.false in
    record {
      is_evident = subst IsReserved (opcode_mask c.args.b) c.in_default.ensures.reserved;
      least = least_evident c.args.b 2 (λ is_evident. omega (arith, is_evident, clear)) (λ _. omega arith) (omega arith);
    }

fields : (c : goal.After-result-1) → IsFirstByteOf (not (nat_eq (bit_and c.args.b 128) 0)) c.in-Some.op c.args.b
fields c = record {
  fin_is = sym (top_mask c.args.b (omega arith));
  unreserved = reserved_clear c.args.b (omega arith) c.if-b-ne0.false;
  opcode_is = sym (opcode_mask c.args.b) ∙ sym c.in-Some.ensures.known;
  below = omega arith;
}

pub returns-clause-read : goal.returns-clause-read
returns-clause-read c = first_byte-parts (not (nat_eq (bit_and c.args.b 128) 0)) c.in-Some.op c.args.b (fields c)

pub returns-clause-nothing_evident : goal.returns-clause-nothing_evident
returns-clause-nothing_evident c =
    first_shows_nothing (not (nat_eq (bit_and c.args.b 128) 0)) c.in-Some.op c.args.b (fields c)
    (λ control. elim c.else-is_control.either [
      | inl final ↦ ap not (ne_eqb (bit_and c.args.b 128) 0 final.1)
      | inr data_frame ↦ absurd (false≢true (sym data_frame ∙ (c.is_control.ensures ∙ control)))
    ])

pub from_opcode-requires : goal.from_opcode-requires
from_opcode-requires c = search rules

pub returns-then-not-fin-clause-refused : goal.returns-then-not-fin-clause-refused
returns-then-not-fin-clause-refused c = grind (arith, common_steps)

pub invariant_of-result : goal.invariant_of-result
invariant_of-result c = search rules
