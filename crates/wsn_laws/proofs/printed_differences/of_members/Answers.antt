use Rattle.std.proofs.Common.{refl}
use Rattle.std.specs.Char.{encode_utf8}
use Rattle.std.specs.Fmt.{digits}
use Rattle.std.specs.Str.{chars, is_utf8}
use Rattle.std.specs.Str.Lossy.{utf8_valid_len}
use Rattle.hex.specs.Hex.{encode_with}
use Rattle.wsn_laws.proofs.printed_differences.of_members.Goals as goal

pub returns-clause-character : goal.returns-clause-character
unfolding digits encode_with utf8_valid_len is_utf8 chars encode_utf8
returns-clause-character c = refl

pub returns-clause-later : goal.returns-clause-later
unfolding digits encode_with utf8_valid_len is_utf8 chars encode_utf8
returns-clause-later c = refl

pub returns-clause-binary : goal.returns-clause-binary
unfolding digits encode_with utf8_valid_len is_utf8 chars encode_utf8
returns-clause-binary c = refl

pub returns-clause-no_bytes : goal.returns-clause-no_bytes
unfolding digits encode_with utf8_valid_len is_utf8 chars encode_utf8
returns-clause-no_bytes c = refl

pub returns-clause-view_of_0 : goal.returns-clause-view_of_0
unfolding digits encode_with utf8_valid_len is_utf8 chars encode_utf8
returns-clause-view_of_0 c = refl

pub returns-clause-same_payload : goal.returns-clause-same_payload
unfolding digits encode_with utf8_valid_len is_utf8 chars encode_utf8
returns-clause-same_payload c = refl

pub returns-clause-one_event : goal.returns-clause-one_event
unfolding digits encode_with utf8_valid_len is_utf8 chars encode_utf8
returns-clause-one_event c = refl
