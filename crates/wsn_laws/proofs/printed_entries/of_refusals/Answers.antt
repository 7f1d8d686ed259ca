use Rattle.std.proofs.Common.{refl}
use Rattle.std.specs.Char.{encode_utf8}
use Rattle.std.specs.Fmt.{digits}
use Rattle.std.specs.Str.{chars, is_utf8}
use Rattle.std.specs.Str.Lossy.{utf8_valid_len}
use Rattle.hex.specs.Hex.{encode_with}
use Rattle.wsn_laws.proofs.printed_entries.of_refusals.Goals as goal

pub returns-clause-refused : goal.returns-clause-refused
unfolding digits encode_with utf8_valid_len is_utf8 chars encode_utf8
returns-clause-refused c = refl

pub returns-clause-refused_at_6 : goal.returns-clause-refused_at_6
unfolding digits encode_with utf8_valid_len is_utf8 chars encode_utf8
returns-clause-refused_at_6 c = refl

pub returns-clause-refused_at_5 : goal.returns-clause-refused_at_5
unfolding digits encode_with utf8_valid_len is_utf8 chars encode_utf8
returns-clause-refused_at_5 c = refl

pub returns-clause-refused_at_2 : goal.returns-clause-refused_at_2
unfolding digits encode_with utf8_valid_len is_utf8 chars encode_utf8
returns-clause-refused_at_2 c = refl

pub returns-clause-refused_at_1 : goal.returns-clause-refused_at_1
unfolding digits encode_with utf8_valid_len is_utf8 chars encode_utf8
returns-clause-refused_at_1 c = refl

pub returns-clause-refused_at_0 : goal.returns-clause-refused_at_0
unfolding digits encode_with utf8_valid_len is_utf8 chars encode_utf8
returns-clause-refused_at_0 c = refl

pub returns-clause-unread : goal.returns-clause-unread
unfolding digits encode_with utf8_valid_len is_utf8 chars encode_utf8
returns-clause-unread c = refl

pub returns-clause-unread_at_4 : goal.returns-clause-unread_at_4
unfolding digits encode_with utf8_valid_len is_utf8 chars encode_utf8
returns-clause-unread_at_4 c = refl

pub returns-clause-tail : goal.returns-clause-tail
unfolding digits encode_with utf8_valid_len is_utf8 chars encode_utf8
returns-clause-tail c = refl

pub returns-clause-end : goal.returns-clause-end
unfolding digits encode_with utf8_valid_len is_utf8 chars encode_utf8
returns-clause-end c = refl
