use Rattle.std.proofs.Common.{refl}
use Rattle.std.specs.Char.{encode_utf8}
use Rattle.std.specs.Fmt.{digits}
use Rattle.std.specs.Str.{chars, is_utf8}
use Rattle.std.specs.Str.Lossy.{utf8_valid_len}
use Rattle.hex.specs.Hex.{encode_with}
use Rattle.wsn_laws.proofs.printed_entries.of_bad_characters.Goals as goal

pub returns-clause-whole : goal.returns-clause-whole
unfolding digits encode_with utf8_valid_len is_utf8 chars encode_utf8
returns-clause-whole c = refl

pub returns-clause-at_28 : goal.returns-clause-at_28
unfolding digits encode_with utf8_valid_len is_utf8 chars encode_utf8
returns-clause-at_28 c = refl

pub returns-clause-at_27 : goal.returns-clause-at_27
unfolding digits encode_with utf8_valid_len is_utf8 chars encode_utf8
returns-clause-at_27 c = refl

pub returns-clause-at_10 : goal.returns-clause-at_10
unfolding digits encode_with utf8_valid_len is_utf8 chars encode_utf8
returns-clause-at_10 c = refl

pub returns-clause-at_2 : goal.returns-clause-at_2
unfolding digits encode_with utf8_valid_len is_utf8 chars encode_utf8
returns-clause-at_2 c = refl

pub returns-clause-at_1 : goal.returns-clause-at_1
unfolding digits encode_with utf8_valid_len is_utf8 chars encode_utf8
returns-clause-at_1 c = refl

pub returns-clause-at_0 : goal.returns-clause-at_0
unfolding digits encode_with utf8_valid_len is_utf8 chars encode_utf8
returns-clause-at_0 c = refl

pub returns-clause-with_a_time : goal.returns-clause-with_a_time
unfolding digits encode_with utf8_valid_len is_utf8 chars encode_utf8
returns-clause-with_a_time c = refl

pub returns-clause-cut_within_a_character : goal.returns-clause-cut_within_a_character
unfolding digits encode_with utf8_valid_len is_utf8 chars encode_utf8
returns-clause-cut_within_a_character c = refl

pub returns-clause-cut_before_a_character : goal.returns-clause-cut_before_a_character
unfolding digits encode_with utf8_valid_len is_utf8 chars encode_utf8
returns-clause-cut_before_a_character c = refl

pub returns-clause-of_two_frames : goal.returns-clause-of_two_frames
unfolding digits encode_with utf8_valid_len is_utf8 chars encode_utf8
returns-clause-of_two_frames c = refl

pub returns-clause-after_a_character_of_two_frames : goal.returns-clause-after_a_character_of_two_frames
unfolding digits encode_with utf8_valid_len is_utf8 chars encode_utf8
returns-clause-after_a_character_of_two_frames c = refl

pub returns-clause-after_a_hidden_character : goal.returns-clause-after_a_hidden_character
unfolding digits encode_with utf8_valid_len is_utf8 chars encode_utf8
returns-clause-after_a_hidden_character c = refl

pub returns-clause-after_its_refusal : goal.returns-clause-after_its_refusal
unfolding digits encode_with utf8_valid_len is_utf8 chars encode_utf8
returns-clause-after_its_refusal c = refl

pub returns-clause-without_one : goal.returns-clause-without_one
unfolding digits encode_with utf8_valid_len is_utf8 chars encode_utf8
returns-clause-without_one c = refl

pub returns-clause-after_earlier_frames : goal.returns-clause-after_earlier_frames
unfolding digits encode_with utf8_valid_len is_utf8 chars encode_utf8
returns-clause-after_earlier_frames c = refl

pub returns-clause-after_earlier_frames_at_8 : goal.returns-clause-after_earlier_frames_at_8
unfolding digits encode_with utf8_valid_len is_utf8 chars encode_utf8
returns-clause-after_earlier_frames_at_8 c = refl

pub returns-clause-after_the_end_of_a_long_frame : goal.returns-clause-after_the_end_of_a_long_frame
unfolding digits encode_with utf8_valid_len is_utf8 chars encode_utf8
returns-clause-after_the_end_of_a_long_frame c = refl
