use Rattle.std.proofs.Common.{refl}
use Rattle.std.specs.Char.{encode_utf8}
use Rattle.std.specs.Fmt.{digits}
use Rattle.std.specs.Str.{chars, is_utf8}
use Rattle.std.specs.Str.Lossy.{utf8_valid_len}
use Rattle.hex.specs.Hex.{encode_with}
use Rattle.wsn_laws.proofs.printed_entries.of_events.Goals as goal

pub returns-clause-text : goal.returns-clause-text
unfolding digits encode_with utf8_valid_len is_utf8 chars encode_utf8
returns-clause-text c = refl

pub returns-clause-with_a_time : goal.returns-clause-with_a_time
unfolding digits encode_with utf8_valid_len is_utf8 chars encode_utf8
returns-clause-with_a_time c = refl

pub returns-clause-no_text : goal.returns-clause-no_text
unfolding digits encode_with utf8_valid_len is_utf8 chars encode_utf8
returns-clause-no_text c = refl

pub returns-clause-binary : goal.returns-clause-binary
unfolding digits encode_with utf8_valid_len is_utf8 chars encode_utf8
returns-clause-binary c = refl

pub returns-clause-no_bytes : goal.returns-clause-no_bytes
unfolding digits encode_with utf8_valid_len is_utf8 chars encode_utf8
returns-clause-no_bytes c = refl

pub returns-clause-ping : goal.returns-clause-ping
unfolding digits encode_with utf8_valid_len is_utf8 chars encode_utf8
returns-clause-ping c = refl

pub returns-clause-pong_in_hexadecimal : goal.returns-clause-pong_in_hexadecimal
unfolding digits encode_with utf8_valid_len is_utf8 chars encode_utf8
returns-clause-pong_in_hexadecimal c = refl

pub returns-clause-empty_ping : goal.returns-clause-empty_ping
unfolding digits encode_with utf8_valid_len is_utf8 chars encode_utf8
returns-clause-empty_ping c = refl

pub returns-clause-close : goal.returns-clause-close
unfolding digits encode_with utf8_valid_len is_utf8 chars encode_utf8
returns-clause-close c = refl

pub returns-clause-close_without_reason : goal.returns-clause-close_without_reason
unfolding digits encode_with utf8_valid_len is_utf8 chars encode_utf8
returns-clause-close_without_reason c = refl

pub returns-clause-empty_close : goal.returns-clause-empty_close
unfolding digits encode_with utf8_valid_len is_utf8 chars encode_utf8
returns-clause-empty_close c = refl

pub returns-clause-reason_is_whole : goal.returns-clause-reason_is_whole
unfolding digits encode_with utf8_valid_len is_utf8 chars encode_utf8
returns-clause-reason_is_whole c = refl

pub returns-clause-closed_unseen : goal.returns-clause-closed_unseen
unfolding digits encode_with utf8_valid_len is_utf8 chars encode_utf8
returns-clause-closed_unseen c = refl
