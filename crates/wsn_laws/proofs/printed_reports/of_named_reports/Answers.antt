use Rattle.std.proofs.Common.{refl}
use Rattle.std.specs.Char.{encode_utf8}
use Rattle.std.specs.Fmt.{digits}
use Rattle.std.specs.Str.{chars, is_utf8}
use Rattle.std.specs.Str.Lossy.{utf8_valid_len}
use Rattle.hex.specs.Hex.{encode_with}
use Rattle.wsn_laws.proofs.printed_reports.of_named_reports.Goals as goal

pub returns-clause-line : goal.returns-clause-line
unfolding digits encode_with utf8_valid_len is_utf8 chars encode_utf8
returns-clause-line c = refl

pub returns-clause-running : goal.returns-clause-running
unfolding digits encode_with utf8_valid_len is_utf8 chars encode_utf8
returns-clause-running c = refl

pub returns-clause-object : goal.returns-clause-object
unfolding digits encode_with utf8_valid_len is_utf8 chars encode_utf8
returns-clause-object c = refl
