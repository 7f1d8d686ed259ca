use Rattle.std.proofs.Common.{refl}
use Rattle.std.specs.Char.{encode_utf8}
use Rattle.std.specs.Fmt.{digits}
use Rattle.std.specs.Str.{chars, is_utf8}
use Rattle.std.specs.Str.Lossy.{utf8_valid_len}
use Rattle.hex.specs.Hex.{encode_with}
use Rattle.wsn_laws.proofs.printed_differences.of_places.Goals as goal

pub returns-clause-character : goal.returns-clause-character
unfolding digits encode_with utf8_valid_len is_utf8 chars encode_utf8
returns-clause-character c = refl

pub returns-clause-later : goal.returns-clause-later
unfolding digits encode_with utf8_valid_len is_utf8 chars encode_utf8
returns-clause-later c = refl

pub returns-clause-after_8 : goal.returns-clause-after_8
unfolding digits encode_with utf8_valid_len is_utf8 chars encode_utf8
returns-clause-after_8 c = refl

pub returns-clause-whole_characters : goal.returns-clause-whole_characters
unfolding digits encode_with utf8_valid_len is_utf8 chars encode_utf8
returns-clause-whole_characters c = refl

pub returns-clause-beginning : goal.returns-clause-beginning
unfolding digits encode_with utf8_valid_len is_utf8 chars encode_utf8
returns-clause-beginning c = refl

pub returns-clause-no_text : goal.returns-clause-no_text
unfolding digits encode_with utf8_valid_len is_utf8 chars encode_utf8
returns-clause-no_text c = refl

pub returns-clause-more : goal.returns-clause-more
unfolding digits encode_with utf8_valid_len is_utf8 chars encode_utf8
returns-clause-more c = refl

pub returns-clause-surrogates : goal.returns-clause-surrogates
unfolding digits encode_with utf8_valid_len is_utf8 chars encode_utf8
returns-clause-surrogates c = refl

pub returns-clause-last_surrogates : goal.returns-clause-last_surrogates
unfolding digits encode_with utf8_valid_len is_utf8 chars encode_utf8
returns-clause-last_surrogates c = refl

pub returns-clause-marks : goal.returns-clause-marks
unfolding digits encode_with utf8_valid_len is_utf8 chars encode_utf8
returns-clause-marks c = refl

pub returns-clause-controls : goal.returns-clause-controls
unfolding digits encode_with utf8_valid_len is_utf8 chars encode_utf8
returns-clause-controls c = refl

pub returns-clause-printable : goal.returns-clause-printable
unfolding digits encode_with utf8_valid_len is_utf8 chars encode_utf8
returns-clause-printable c = refl

pub returns-clause-binary : goal.returns-clause-binary
unfolding digits encode_with utf8_valid_len is_utf8 chars encode_utf8
returns-clause-binary c = refl

pub returns-clause-binary_later : goal.returns-clause-binary_later
unfolding digits encode_with utf8_valid_len is_utf8 chars encode_utf8
returns-clause-binary_later c = refl

pub returns-clause-no_bytes : goal.returns-clause-no_bytes
unfolding digits encode_with utf8_valid_len is_utf8 chars encode_utf8
returns-clause-no_bytes c = refl

pub returns-clause-other_kind : goal.returns-clause-other_kind
unfolding digits encode_with utf8_valid_len is_utf8 chars encode_utf8
returns-clause-other_kind c = refl

pub returns-clause-view_of_0 : goal.returns-clause-view_of_0
unfolding digits encode_with utf8_valid_len is_utf8 chars encode_utf8
returns-clause-view_of_0 c = refl

pub returns-clause-view_of_1 : goal.returns-clause-view_of_1
unfolding digits encode_with utf8_valid_len is_utf8 chars encode_utf8
returns-clause-view_of_1 c = refl

pub returns-clause-same_payload : goal.returns-clause-same_payload
unfolding digits encode_with utf8_valid_len is_utf8 chars encode_utf8
returns-clause-same_payload c = refl

pub returns-clause-one_event : goal.returns-clause-one_event
unfolding digits encode_with utf8_valid_len is_utf8 chars encode_utf8
returns-clause-one_event c = refl

pub returns-clause-no_event : goal.returns-clause-no_event
unfolding digits encode_with utf8_valid_len is_utf8 chars encode_utf8
returns-clause-no_event c = refl
