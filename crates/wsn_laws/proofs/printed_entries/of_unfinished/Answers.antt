use Rattle.std.proofs.Common.{refl}
use Rattle.std.specs.Char.{encode_utf8}
use Rattle.std.specs.Fmt.{digits}
use Rattle.std.specs.Str.{chars, is_utf8}
use Rattle.std.specs.Str.Lossy.{utf8_valid_len}
use Rattle.hex.specs.Hex.{encode_with}
use Rattle.wsn_laws.proofs.printed_entries.of_unfinished.Goals as goal

pub returns-clause-binary : goal.returns-clause-binary
unfolding digits encode_with utf8_valid_len is_utf8 chars encode_utf8
returns-clause-binary c = refl

pub returns-clause-text : goal.returns-clause-text
unfolding digits encode_with utf8_valid_len is_utf8 chars encode_utf8
returns-clause-text c = refl

pub returns-clause-part_of_next_head : goal.returns-clause-part_of_next_head
unfolding digits encode_with utf8_valid_len is_utf8 chars encode_utf8
returns-clause-part_of_next_head c = refl

pub returns-clause-ping : goal.returns-clause-ping
unfolding digits encode_with utf8_valid_len is_utf8 chars encode_utf8
returns-clause-ping c = refl

pub returns-clause-close : goal.returns-clause-close
unfolding digits encode_with utf8_valid_len is_utf8 chars encode_utf8
returns-clause-close c = refl

pub returns-clause-nothing_yet : goal.returns-clause-nothing_yet
unfolding digits encode_with utf8_valid_len is_utf8 chars encode_utf8
returns-clause-nothing_yet c = refl

pub returns-clause-head : goal.returns-clause-head
unfolding digits encode_with utf8_valid_len is_utf8 chars encode_utf8
returns-clause-head c = refl

pub returns-clause-at_the_end : goal.returns-clause-at_the_end
unfolding digits encode_with utf8_valid_len is_utf8 chars encode_utf8
returns-clause-at_the_end c = refl

pub returns-clause-at_the_end_without_a_time : goal.returns-clause-at_the_end_without_a_time
unfolding digits encode_with utf8_valid_len is_utf8 chars encode_utf8
returns-clause-at_the_end_without_a_time c = refl
