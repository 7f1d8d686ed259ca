use Rattle.std.proofs.Common.{refl}
use Rattle.std.specs.Char.{encode_utf8}
use Rattle.std.specs.Fmt.{digits}
use Rattle.std.specs.Str.{chars, is_utf8}
use Rattle.std.specs.Str.Lossy.{utf8_valid_len}
use Rattle.hex.specs.Hex.{encode_with}
use Rattle.wsn_laws.proofs.printed_entries.of_quoted_texts.Goals as goal

pub returns-clause-quotation_mark : goal.returns-clause-quotation_mark
unfolding digits encode_with utf8_valid_len is_utf8 chars encode_utf8
returns-clause-quotation_mark c = refl

pub returns-clause-backslash_last : goal.returns-clause-backslash_last
unfolding digits encode_with utf8_valid_len is_utf8 chars encode_utf8
returns-clause-backslash_last c = refl

pub returns-clause-line_feed : goal.returns-clause-line_feed
unfolding digits encode_with utf8_valid_len is_utf8 chars encode_utf8
returns-clause-line_feed c = refl

pub returns-clause-escape_character : goal.returns-clause-escape_character
unfolding digits encode_with utf8_valid_len is_utf8 chars encode_utf8
returns-clause-escape_character c = refl

pub returns-clause-delete : goal.returns-clause-delete
unfolding digits encode_with utf8_valid_len is_utf8 chars encode_utf8
returns-clause-delete c = refl

pub returns-clause-u_009b : goal.returns-clause-u_009b
unfolding digits encode_with utf8_valid_len is_utf8 chars encode_utf8
returns-clause-u_009b c = refl

pub returns-clause-u_061c : goal.returns-clause-u_061c
unfolding digits encode_with utf8_valid_len is_utf8 chars encode_utf8
returns-clause-u_061c c = refl

pub returns-clause-u_200e : goal.returns-clause-u_200e
unfolding digits encode_with utf8_valid_len is_utf8 chars encode_utf8
returns-clause-u_200e c = refl

pub returns-clause-u_200f : goal.returns-clause-u_200f
unfolding digits encode_with utf8_valid_len is_utf8 chars encode_utf8
returns-clause-u_200f c = refl

pub returns-clause-u_2028 : goal.returns-clause-u_2028
unfolding digits encode_with utf8_valid_len is_utf8 chars encode_utf8
returns-clause-u_2028 c = refl

pub returns-clause-u_202e : goal.returns-clause-u_202e
unfolding digits encode_with utf8_valid_len is_utf8 chars encode_utf8
returns-clause-u_202e c = refl

pub returns-clause-u_2066 : goal.returns-clause-u_2066
unfolding digits encode_with utf8_valid_len is_utf8 chars encode_utf8
returns-clause-u_2066 c = refl

pub returns-clause-u_2069 : goal.returns-clause-u_2069
unfolding digits encode_with utf8_valid_len is_utf8 chars encode_utf8
returns-clause-u_2069 c = refl

pub returns-clause-u_feff : goal.returns-clause-u_feff
unfolding digits encode_with utf8_valid_len is_utf8 chars encode_utf8
returns-clause-u_feff c = refl

pub returns-clause-u_00a0_as_it_is : goal.returns-clause-u_00a0_as_it_is
unfolding digits encode_with utf8_valid_len is_utf8 chars encode_utf8
returns-clause-u_00a0_as_it_is c = refl

pub returns-clause-u_200d_as_it_is : goal.returns-clause-u_200d_as_it_is
unfolding digits encode_with utf8_valid_len is_utf8 chars encode_utf8
returns-clause-u_200d_as_it_is c = refl

pub returns-clause-u_2010_as_it_is : goal.returns-clause-u_2010_as_it_is
unfolding digits encode_with utf8_valid_len is_utf8 chars encode_utf8
returns-clause-u_2010_as_it_is c = refl

pub returns-clause-u_2027_as_it_is : goal.returns-clause-u_2027_as_it_is
unfolding digits encode_with utf8_valid_len is_utf8 chars encode_utf8
returns-clause-u_2027_as_it_is c = refl

pub returns-clause-u_202f_as_it_is : goal.returns-clause-u_202f_as_it_is
unfolding digits encode_with utf8_valid_len is_utf8 chars encode_utf8
returns-clause-u_202f_as_it_is c = refl

pub returns-clause-u_1f600_as_it_is : goal.returns-clause-u_1f600_as_it_is
unfolding digits encode_with utf8_valid_len is_utf8 chars encode_utf8
returns-clause-u_1f600_as_it_is c = refl

pub returns-clause-u_00ad : goal.returns-clause-u_00ad
unfolding digits encode_with utf8_valid_len is_utf8 chars encode_utf8
returns-clause-u_00ad c = refl

pub returns-clause-u_034f : goal.returns-clause-u_034f
unfolding digits encode_with utf8_valid_len is_utf8 chars encode_utf8
returns-clause-u_034f c = refl

pub returns-clause-u_115f : goal.returns-clause-u_115f
unfolding digits encode_with utf8_valid_len is_utf8 chars encode_utf8
returns-clause-u_115f c = refl

pub returns-clause-u_17b5 : goal.returns-clause-u_17b5
unfolding digits encode_with utf8_valid_len is_utf8 chars encode_utf8
returns-clause-u_17b5 c = refl

pub returns-clause-u_180e : goal.returns-clause-u_180e
unfolding digits encode_with utf8_valid_len is_utf8 chars encode_utf8
returns-clause-u_180e c = refl

pub returns-clause-u_200b : goal.returns-clause-u_200b
unfolding digits encode_with utf8_valid_len is_utf8 chars encode_utf8
returns-clause-u_200b c = refl

pub returns-clause-u_2060 : goal.returns-clause-u_2060
unfolding digits encode_with utf8_valid_len is_utf8 chars encode_utf8
returns-clause-u_2060 c = refl

pub returns-clause-u_206f : goal.returns-clause-u_206f
unfolding digits encode_with utf8_valid_len is_utf8 chars encode_utf8
returns-clause-u_206f c = refl

pub returns-clause-u_3164 : goal.returns-clause-u_3164
unfolding digits encode_with utf8_valid_len is_utf8 chars encode_utf8
returns-clause-u_3164 c = refl

pub returns-clause-u_ffa0 : goal.returns-clause-u_ffa0
unfolding digits encode_with utf8_valid_len is_utf8 chars encode_utf8
returns-clause-u_ffa0 c = refl

pub returns-clause-u_fff0 : goal.returns-clause-u_fff0
unfolding digits encode_with utf8_valid_len is_utf8 chars encode_utf8
returns-clause-u_fff0 c = refl

pub returns-clause-u_fff8 : goal.returns-clause-u_fff8
unfolding digits encode_with utf8_valid_len is_utf8 chars encode_utf8
returns-clause-u_fff8 c = refl

pub returns-clause-u_1bca3 : goal.returns-clause-u_1bca3
unfolding digits encode_with utf8_valid_len is_utf8 chars encode_utf8
returns-clause-u_1bca3 c = refl

pub returns-clause-u_1d173 : goal.returns-clause-u_1d173
unfolding digits encode_with utf8_valid_len is_utf8 chars encode_utf8
returns-clause-u_1d173 c = refl

pub returns-clause-u_e0001 : goal.returns-clause-u_e0001
unfolding digits encode_with utf8_valid_len is_utf8 chars encode_utf8
returns-clause-u_e0001 c = refl

pub returns-clause-u_e01f0 : goal.returns-clause-u_e01f0
unfolding digits encode_with utf8_valid_len is_utf8 chars encode_utf8
returns-clause-u_e01f0 c = refl

pub returns-clause-u_e0fff : goal.returns-clause-u_e0fff
unfolding digits encode_with utf8_valid_len is_utf8 chars encode_utf8
returns-clause-u_e0fff c = refl

pub returns-clause-u_180b_as_it_is : goal.returns-clause-u_180b_as_it_is
unfolding digits encode_with utf8_valid_len is_utf8 chars encode_utf8
returns-clause-u_180b_as_it_is c = refl

pub returns-clause-u_200c_as_it_is : goal.returns-clause-u_200c_as_it_is
unfolding digits encode_with utf8_valid_len is_utf8 chars encode_utf8
returns-clause-u_200c_as_it_is c = refl

pub returns-clause-u_3163_as_it_is : goal.returns-clause-u_3163_as_it_is
unfolding digits encode_with utf8_valid_len is_utf8 chars encode_utf8
returns-clause-u_3163_as_it_is c = refl

pub returns-clause-u_fe0f_as_it_is : goal.returns-clause-u_fe0f_as_it_is
unfolding digits encode_with utf8_valid_len is_utf8 chars encode_utf8
returns-clause-u_fe0f_as_it_is c = refl

pub returns-clause-u_fff9_as_it_is : goal.returns-clause-u_fff9_as_it_is
unfolding digits encode_with utf8_valid_len is_utf8 chars encode_utf8
returns-clause-u_fff9_as_it_is c = refl

pub returns-clause-u_e0100_as_it_is : goal.returns-clause-u_e0100_as_it_is
unfolding digits encode_with utf8_valid_len is_utf8 chars encode_utf8
returns-clause-u_e0100_as_it_is c = refl

pub returns-clause-u_e01ef_as_it_is : goal.returns-clause-u_e01ef_as_it_is
unfolding digits encode_with utf8_valid_len is_utf8 chars encode_utf8
returns-clause-u_e01ef_as_it_is c = refl
