use Rattle.std.proofs.Common.{refl}
use Rattle.std.specs.Fmt.{digits}
use Rattle.wsn_laws.proofs.printed_lines.of_refusals.Goals as goal

pub returns-clause-reserved_bits : goal.returns-clause-reserved_bits
unfolding digits
returns-clause-reserved_bits c = refl

pub returns-clause-reserved_opcode : goal.returns-clause-reserved_opcode
unfolding digits
returns-clause-reserved_opcode c = refl

pub returns-clause-control_not_final : goal.returns-clause-control_not_final
unfolding digits
returns-clause-control_not_final c = refl

pub returns-clause-nothing_to_continue : goal.returns-clause-nothing_to_continue
unfolding digits
returns-clause-nothing_to_continue c = refl

pub returns-clause-message_open : goal.returns-clause-message_open
unfolding digits
returns-clause-message_open c = refl

pub returns-clause-mask_missing : goal.returns-clause-mask_missing
unfolding digits
returns-clause-mask_missing c = refl

pub returns-clause-mask_present : goal.returns-clause-mask_present
unfolding digits
returns-clause-mask_present c = refl

pub returns-clause-control_too_long : goal.returns-clause-control_too_long
unfolding digits
returns-clause-control_too_long c = refl

pub returns-clause-close_one_byte : goal.returns-clause-close_one_byte
unfolding digits
returns-clause-close_one_byte c = refl

pub returns-clause-length_top_bit : goal.returns-clause-length_top_bit
unfolding digits
returns-clause-length_top_bit c = refl

pub returns-clause-length_not_minimal : goal.returns-clause-length_not_minimal
unfolding digits
returns-clause-length_not_minimal c = refl

pub returns-clause-message_too_big : goal.returns-clause-message_too_big
unfolding digits
returns-clause-message_too_big c = refl

pub returns-clause-close_code : goal.returns-clause-close_code
unfolding digits
returns-clause-close_code c = refl

pub returns-clause-close_reason : goal.returns-clause-close_reason
unfolding digits
returns-clause-close_reason c = refl

pub returns-clause-text_bad : goal.returns-clause-text_bad
unfolding digits
returns-clause-text_bad c = refl

pub returns-clause-text_cut : goal.returns-clause-text_cut
unfolding digits
returns-clause-text_cut c = refl

pub returns-clause-too_many_frames : goal.returns-clause-too_many_frames
unfolding digits
returns-clause-too_many_frames c = refl
