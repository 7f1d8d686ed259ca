use Rattle.std.proofs.Common.{refl}
use Rattle.std.specs.Char.{encode_utf8}
use Rattle.std.specs.Fmt.{digits}
use Rattle.std.specs.Str.{chars, is_utf8}
use Rattle.std.specs.Str.Lossy.{utf8_valid_len}
use Rattle.hex.specs.Hex.{encode_with}
use Rattle.wsn_laws.proofs.printed_objects.of_other_entries.Goals as goal

pub returns-clause-refused : goal.returns-clause-refused
unfolding digits encode_with utf8_valid_len is_utf8 chars encode_utf8
returns-clause-refused c = refl

pub returns-clause-refused_at_2 : goal.returns-clause-refused_at_2
unfolding digits encode_with utf8_valid_len is_utf8 chars encode_utf8
returns-clause-refused_at_2 c = refl

pub returns-clause-unfinished : goal.returns-clause-unfinished
unfolding digits encode_with utf8_valid_len is_utf8 chars encode_utf8
returns-clause-unfinished c = refl

pub returns-clause-unfinished_text : goal.returns-clause-unfinished_text
unfolding digits encode_with utf8_valid_len is_utf8 chars encode_utf8
returns-clause-unfinished_text c = refl

pub returns-clause-unfinished_ping : goal.returns-clause-unfinished_ping
unfolding digits encode_with utf8_valid_len is_utf8 chars encode_utf8
returns-clause-unfinished_ping c = refl

pub returns-clause-unfinished_head : goal.returns-clause-unfinished_head
unfolding digits encode_with utf8_valid_len is_utf8 chars encode_utf8
returns-clause-unfinished_head c = refl

pub returns-clause-unread : goal.returns-clause-unread
unfolding digits encode_with utf8_valid_len is_utf8 chars encode_utf8
returns-clause-unread c = refl

pub returns-clause-tail : goal.returns-clause-tail
unfolding digits encode_with utf8_valid_len is_utf8 chars encode_utf8
returns-clause-tail c = refl

pub returns-clause-end_mark : goal.returns-clause-end_mark
unfolding digits encode_with utf8_valid_len is_utf8 chars encode_utf8
returns-clause-end_mark c = refl

pub returns-clause-frame : goal.returns-clause-frame
unfolding digits encode_with utf8_valid_len is_utf8 chars encode_utf8
returns-clause-frame c = refl

pub returns-clause-unread_with_a_time : goal.returns-clause-unread_with_a_time
unfolding digits encode_with utf8_valid_len is_utf8 chars encode_utf8
returns-clause-unread_with_a_time c = refl
