use Rattle.std.proofs.Common.{refl}
use Rattle.std.specs.Char.{encode_utf8}
use Rattle.std.specs.Fmt.{digits}
use Rattle.std.specs.Str.{chars, is_utf8}
use Rattle.std.specs.Str.Lossy.{utf8_valid_len}
use Rattle.hex.specs.Hex.{encode_with}
use Rattle.wsn_laws.proofs.printed_people.of_people.Goals as goal

pub returns-clause-text : goal.returns-clause-text
unfolding digits encode_with utf8_valid_len is_utf8 chars encode_utf8
returns-clause-text c = refl

pub returns-clause-several_frames : goal.returns-clause-several_frames
unfolding digits encode_with utf8_valid_len is_utf8 chars encode_utf8
returns-clause-several_frames c = refl

pub returns-clause-in_a_stream : goal.returns-clause-in_a_stream
unfolding digits encode_with utf8_valid_len is_utf8 chars encode_utf8
returns-clause-in_a_stream c = refl

pub returns-clause-close : goal.returns-clause-close
unfolding digits encode_with utf8_valid_len is_utf8 chars encode_utf8
returns-clause-close c = refl

pub returns-clause-large : goal.returns-clause-large
unfolding digits encode_with utf8_valid_len is_utf8 chars encode_utf8
returns-clause-large c = refl

pub returns-clause-unfinished : goal.returns-clause-unfinished
unfolding digits encode_with utf8_valid_len is_utf8 chars encode_utf8
returns-clause-unfinished c = refl

pub returns-clause-between_frames : goal.returns-clause-between_frames
unfolding digits encode_with utf8_valid_len is_utf8 chars encode_utf8
returns-clause-between_frames c = refl

pub returns-clause-head : goal.returns-clause-head
unfolding digits encode_with utf8_valid_len is_utf8 chars encode_utf8
returns-clause-head c = refl

pub returns-clause-frame : goal.returns-clause-frame
unfolding digits encode_with utf8_valid_len is_utf8 chars encode_utf8
returns-clause-frame c = refl

pub returns-clause-long_form : goal.returns-clause-long_form
unfolding digits encode_with utf8_valid_len is_utf8 chars encode_utf8
returns-clause-long_form c = refl

pub returns-clause-refused : goal.returns-clause-refused
unfolding digits encode_with utf8_valid_len is_utf8 chars encode_utf8
returns-clause-refused c = refl

pub returns-clause-unseen : goal.returns-clause-unseen
unfolding digits encode_with utf8_valid_len is_utf8 chars encode_utf8
returns-clause-unseen c = refl

pub returns-clause-tail : goal.returns-clause-tail
unfolding digits encode_with utf8_valid_len is_utf8 chars encode_utf8
returns-clause-tail c = refl

pub returns-clause-end_mark : goal.returns-clause-end_mark
unfolding digits encode_with utf8_valid_len is_utf8 chars encode_utf8
returns-clause-end_mark c = refl
