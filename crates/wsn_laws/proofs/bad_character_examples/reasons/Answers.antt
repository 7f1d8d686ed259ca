use Rattle.std.proofs.Common.{refl}
use Rattle.std.specs.Char.{encode_utf8}
use Rattle.std.specs.Str.{is_utf8, chars}
use Rattle.std.specs.Str.Lossy.{utf8_valid_len}
use Rattle.wsn_laws.proofs.bad_character_examples.reasons.Goals as goal

pub returns-clause-text_bad : goal.returns-clause-text_bad
unfolding utf8_valid_len is_utf8 chars encode_utf8
returns-clause-text_bad c = refl
