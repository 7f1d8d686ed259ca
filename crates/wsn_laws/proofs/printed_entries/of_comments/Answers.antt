use Rattle.std.proofs.Common.{refl}
use Rattle.std.specs.Char.{encode_utf8}
use Rattle.std.specs.Fmt.{digits}
use Rattle.std.specs.Str.{chars, is_utf8}
use Rattle.std.specs.Str.Lossy.{utf8_valid_len}
use Rattle.hex.specs.Hex.{encode_with}
use Rattle.wsn_laws.proofs.printed_entries.of_comments.Goals as goal

pub returns-clause-as_it_is : goal.returns-clause-as_it_is
unfolding digits encode_with utf8_valid_len is_utf8 chars encode_utf8
returns-clause-as_it_is c = refl

pub returns-clause-not_ascii : goal.returns-clause-not_ascii
unfolding digits encode_with utf8_valid_len is_utf8 chars encode_utf8
returns-clause-not_ascii c = refl

pub returns-clause-tab : goal.returns-clause-tab
unfolding digits encode_with utf8_valid_len is_utf8 chars encode_utf8
returns-clause-tab c = refl

pub returns-clause-u_009b : goal.returns-clause-u_009b
unfolding digits encode_with utf8_valid_len is_utf8 chars encode_utf8
returns-clause-u_009b c = refl

pub returns-clause-u_202e : goal.returns-clause-u_202e
unfolding digits encode_with utf8_valid_len is_utf8 chars encode_utf8
returns-clause-u_202e c = refl

pub returns-clause-not_utf_8 : goal.returns-clause-not_utf_8
unfolding digits encode_with utf8_valid_len is_utf8 chars encode_utf8
returns-clause-not_utf_8 c = refl

pub returns-clause-partly_utf_8 : goal.returns-clause-partly_utf_8
unfolding digits encode_with utf8_valid_len is_utf8 chars encode_utf8
returns-clause-partly_utf_8 c = refl

pub returns-clause-backslash : goal.returns-clause-backslash
unfolding digits encode_with utf8_valid_len is_utf8 chars encode_utf8
returns-clause-backslash c = refl

pub returns-clause-written_out : goal.returns-clause-written_out
unfolding digits encode_with utf8_valid_len is_utf8 chars encode_utf8
returns-clause-written_out c = refl

pub returns-clause-backslash_not_utf_8 : goal.returns-clause-backslash_not_utf_8
unfolding digits encode_with utf8_valid_len is_utf8 chars encode_utf8
returns-clause-backslash_not_utf_8 c = refl
