use Rattle.std.proofs.Common.{refl}
use Rattle.std.specs.Char.{encode_utf8}
use Rattle.std.specs.Fmt.{digits}
use Rattle.std.specs.Str.{chars, is_utf8}
use Rattle.std.specs.Str.Lossy.{utf8_valid_len}
use Rattle.hex.specs.Hex.{encode_with}
use Rattle.wsn_laws.proofs.printed_objects.of_bad_characters.Goals as goal

pub returns-clause-whole : goal.returns-clause-whole
unfolding digits encode_with utf8_valid_len is_utf8 chars encode_utf8
returns-clause-whole c = refl

pub returns-clause-at_10 : goal.returns-clause-at_10
unfolding digits encode_with utf8_valid_len is_utf8 chars encode_utf8
returns-clause-at_10 c = refl

pub returns-clause-at_0 : goal.returns-clause-at_0
unfolding digits encode_with utf8_valid_len is_utf8 chars encode_utf8
returns-clause-at_0 c = refl

pub returns-clause-of_two_frames : goal.returns-clause-of_two_frames
unfolding digits encode_with utf8_valid_len is_utf8 chars encode_utf8
returns-clause-of_two_frames c = refl
