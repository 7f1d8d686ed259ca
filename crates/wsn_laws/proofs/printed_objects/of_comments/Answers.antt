use Rattle.std.proofs.Common.{refl}
use Rattle.std.specs.Char.{encode_utf8}
use Rattle.std.specs.Fmt.{digits}
use Rattle.std.specs.Str.{chars, is_utf8}
use Rattle.std.specs.Str.Lossy.{utf8_valid_len}
use Rattle.hex.specs.Hex.{encode_with}
use Rattle.wsn_laws.proofs.printed_objects.of_comments.Goals as goal

pub returns-clause-as_it_is : goal.returns-clause-as_it_is
unfolding digits encode_with utf8_valid_len is_utf8 chars encode_utf8
returns-clause-as_it_is c = refl

pub returns-clause-escaped : goal.returns-clause-escaped
unfolding digits encode_with utf8_valid_len is_utf8 chars encode_utf8
returns-clause-escaped c = refl

pub returns-clause-not_utf_8 : goal.returns-clause-not_utf_8
unfolding digits encode_with utf8_valid_len is_utf8 chars encode_utf8
returns-clause-not_utf_8 c = refl

pub returns-clause-partly_utf_8 : goal.returns-clause-partly_utf_8
unfolding digits encode_with utf8_valid_len is_utf8 chars encode_utf8
returns-clause-partly_utf_8 c = refl

pub returns-clause-written_out : goal.returns-clause-written_out
unfolding digits encode_with utf8_valid_len is_utf8 chars encode_utf8
returns-clause-written_out c = refl
