use Rattle.std.proofs.Common.{refl}
use Rattle.std.specs.Char.{encode_utf8}
use Rattle.std.specs.Fmt.{digits}
use Rattle.std.specs.Str.{chars, is_utf8}
use Rattle.std.specs.Str.Lossy.{utf8_valid_len}
use Rattle.hex.specs.Hex.{encode_with}
use Rattle.wsn_laws.proofs.printed_entries.of_pings.Goals as goal

pub returns-clause-tilde : goal.returns-clause-tilde
unfolding digits encode_with utf8_valid_len is_utf8 chars encode_utf8
returns-clause-tilde c = refl

pub returns-clause-byte_0x7f : goal.returns-clause-byte_0x7f
unfolding digits encode_with utf8_valid_len is_utf8 chars encode_utf8
returns-clause-byte_0x7f c = refl

pub returns-clause-space : goal.returns-clause-space
unfolding digits encode_with utf8_valid_len is_utf8 chars encode_utf8
returns-clause-space c = refl

pub returns-clause-byte_0x1f : goal.returns-clause-byte_0x1f
unfolding digits encode_with utf8_valid_len is_utf8 chars encode_utf8
returns-clause-byte_0x1f c = refl

pub returns-clause-not_ascii : goal.returns-clause-not_ascii
unfolding digits encode_with utf8_valid_len is_utf8 chars encode_utf8
returns-clause-not_ascii c = refl

pub returns-clause-later_byte : goal.returns-clause-later_byte
unfolding digits encode_with utf8_valid_len is_utf8 chars encode_utf8
returns-clause-later_byte c = refl
