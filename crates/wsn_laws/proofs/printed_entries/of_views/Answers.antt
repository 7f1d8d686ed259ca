use Rattle.std.proofs.Common.{refl}
use Rattle.std.specs.Char.{encode_utf8}
use Rattle.std.specs.Fmt.{digits}
use Rattle.std.specs.Str.{chars, is_utf8}
use Rattle.std.specs.Str.Lossy.{utf8_valid_len}
use Rattle.hex.specs.Hex.{encode_with}
use Rattle.wsn_laws.proofs.printed_entries.of_views.Goals as goal

pub returns-clause-text_at_0 : goal.returns-clause-text_at_0
unfolding digits encode_with utf8_valid_len is_utf8 chars encode_utf8
returns-clause-text_at_0 c = refl

pub returns-clause-text_at_1 : goal.returns-clause-text_at_1
unfolding digits encode_with utf8_valid_len is_utf8 chars encode_utf8
returns-clause-text_at_1 c = refl

pub returns-clause-text_at_2 : goal.returns-clause-text_at_2
unfolding digits encode_with utf8_valid_len is_utf8 chars encode_utf8
returns-clause-text_at_2 c = refl

pub returns-clause-text_at_3 : goal.returns-clause-text_at_3
unfolding digits encode_with utf8_valid_len is_utf8 chars encode_utf8
returns-clause-text_at_3 c = refl

pub returns-clause-text_at_4 : goal.returns-clause-text_at_4
unfolding digits encode_with utf8_valid_len is_utf8 chars encode_utf8
returns-clause-text_at_4 c = refl

pub returns-clause-text_at_5 : goal.returns-clause-text_at_5
unfolding digits encode_with utf8_valid_len is_utf8 chars encode_utf8
returns-clause-text_at_5 c = refl

pub returns-clause-no_text_at_0 : goal.returns-clause-no_text_at_0
unfolding digits encode_with utf8_valid_len is_utf8 chars encode_utf8
returns-clause-no_text_at_0 c = refl

pub returns-clause-bytes_at_0 : goal.returns-clause-bytes_at_0
unfolding digits encode_with utf8_valid_len is_utf8 chars encode_utf8
returns-clause-bytes_at_0 c = refl

pub returns-clause-bytes_at_1 : goal.returns-clause-bytes_at_1
unfolding digits encode_with utf8_valid_len is_utf8 chars encode_utf8
returns-clause-bytes_at_1 c = refl

pub returns-clause-bytes_at_2 : goal.returns-clause-bytes_at_2
unfolding digits encode_with utf8_valid_len is_utf8 chars encode_utf8
returns-clause-bytes_at_2 c = refl

pub returns-clause-bytes_at_3 : goal.returns-clause-bytes_at_3
unfolding digits encode_with utf8_valid_len is_utf8 chars encode_utf8
returns-clause-bytes_at_3 c = refl

pub returns-clause-bytes_at_4 : goal.returns-clause-bytes_at_4
unfolding digits encode_with utf8_valid_len is_utf8 chars encode_utf8
returns-clause-bytes_at_4 c = refl

pub returns-clause-bytes_at_6 : goal.returns-clause-bytes_at_6
unfolding digits encode_with utf8_valid_len is_utf8 chars encode_utf8
returns-clause-bytes_at_6 c = refl

pub returns-clause-no_bytes_at_0 : goal.returns-clause-no_bytes_at_0
unfolding digits encode_with utf8_valid_len is_utf8 chars encode_utf8
returns-clause-no_bytes_at_0 c = refl

pub returns-clause-exactly_48 : goal.returns-clause-exactly_48
unfolding digits encode_with utf8_valid_len is_utf8 chars encode_utf8
returns-clause-exactly_48 c = refl

pub returns-clause-over_48 : goal.returns-clause-over_48
unfolding digits encode_with utf8_valid_len is_utf8 chars encode_utf8
returns-clause-over_48 c = refl

pub returns-clause-character_of_two_bytes_at_1 : goal.returns-clause-character_of_two_bytes_at_1
unfolding digits encode_with utf8_valid_len is_utf8 chars encode_utf8
returns-clause-character_of_two_bytes_at_1 c = refl

pub returns-clause-character_of_two_bytes_at_2 : goal.returns-clause-character_of_two_bytes_at_2
unfolding digits encode_with utf8_valid_len is_utf8 chars encode_utf8
returns-clause-character_of_two_bytes_at_2 c = refl

pub returns-clause-character_of_three_bytes_at_1 : goal.returns-clause-character_of_three_bytes_at_1
unfolding digits encode_with utf8_valid_len is_utf8 chars encode_utf8
returns-clause-character_of_three_bytes_at_1 c = refl

pub returns-clause-character_of_three_bytes_at_2 : goal.returns-clause-character_of_three_bytes_at_2
unfolding digits encode_with utf8_valid_len is_utf8 chars encode_utf8
returns-clause-character_of_three_bytes_at_2 c = refl

pub returns-clause-character_of_three_bytes_at_3 : goal.returns-clause-character_of_three_bytes_at_3
unfolding digits encode_with utf8_valid_len is_utf8 chars encode_utf8
returns-clause-character_of_three_bytes_at_3 c = refl

pub returns-clause-character_of_four_bytes_at_1 : goal.returns-clause-character_of_four_bytes_at_1
unfolding digits encode_with utf8_valid_len is_utf8 chars encode_utf8
returns-clause-character_of_four_bytes_at_1 c = refl

pub returns-clause-character_of_four_bytes_at_2 : goal.returns-clause-character_of_four_bytes_at_2
unfolding digits encode_with utf8_valid_len is_utf8 chars encode_utf8
returns-clause-character_of_four_bytes_at_2 c = refl

pub returns-clause-character_of_four_bytes_at_3 : goal.returns-clause-character_of_four_bytes_at_3
unfolding digits encode_with utf8_valid_len is_utf8 chars encode_utf8
returns-clause-character_of_four_bytes_at_3 c = refl

pub returns-clause-character_of_four_bytes_at_4 : goal.returns-clause-character_of_four_bytes_at_4
unfolding digits encode_with utf8_valid_len is_utf8 chars encode_utf8
returns-clause-character_of_four_bytes_at_4 c = refl

pub returns-clause-after_a_character : goal.returns-clause-after_a_character
unfolding digits encode_with utf8_valid_len is_utf8 chars encode_utf8
returns-clause-after_a_character c = refl
