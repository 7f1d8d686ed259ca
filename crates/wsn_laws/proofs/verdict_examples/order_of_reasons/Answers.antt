use Rattle.std.proofs.Common.{refl}
use Rattle.wsn_rules.proofs.Computed.{found, judged}
use Rattle.wsn_laws.proofs.verdict_examples.order_of_reasons.Goals as goal

pub returns : goal.returns
unfolding found
returns c = record {
  opcode_after_bits = judged _ _ _ _ refl refl refl;
  control_after_bits = judged _ _ _ _ refl refl refl;
  continue_after_bits = judged _ _ _ _ refl refl refl;
  open_after_bits = judged _ _ _ _ refl refl refl;
  long_after_mask = judged _ _ _ _ refl refl refl;
  big_after_mask = judged _ _ _ _ refl refl refl;
  long_after_no_mask = judged _ _ _ _ refl refl refl;
  one_byte_after_no_mask = judged _ _ _ _ refl refl refl;
  big_after_no_mask = judged _ _ _ _ refl refl refl;
  big_after_not_minimal = judged _ _ _ _ refl refl refl;
  mask_at_a_later_offset = judged _ _ _ _ refl refl refl;
  code_before_reason = judged _ _ _ _ refl refl refl;
  bad_before_cut = judged _ _ _ _ refl refl refl;
}
