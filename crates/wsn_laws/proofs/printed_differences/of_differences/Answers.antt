use Rattle.std.proofs.Common.{refl}
use Rattle.std.specs.Char.{encode_utf8}
use Rattle.std.specs.Fmt.{digits}
use Rattle.std.specs.Str.{chars, is_utf8}
use Rattle.std.specs.Str.Lossy.{utf8_valid_len}
use Rattle.hex.specs.Hex.{encode_with}
use Rattle.wsn_laws.proofs.printed_differences.of_differences.Goals as goal

pub returns-clause-lines : goal.returns-clause-lines
unfolding digits encode_with utf8_valid_len is_utf8 chars encode_utf8
returns-clause-lines c = refl

pub returns-clause-lines_of_one : goal.returns-clause-lines_of_one
unfolding digits encode_with utf8_valid_len is_utf8 chars encode_utf8
returns-clause-lines_of_one c = refl

pub returns-clause-object_of_one : goal.returns-clause-object_of_one
unfolding digits encode_with utf8_valid_len is_utf8 chars encode_utf8
returns-clause-object_of_one c = refl

pub returns-clause-object : goal.returns-clause-object
unfolding digits encode_with utf8_valid_len is_utf8 chars encode_utf8
returns-clause-object c = refl
