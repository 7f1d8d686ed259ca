use Rattle.std.proofs.Common.{refl}
use Rattle.std.specs.Char.{encode_utf8}
use Rattle.std.specs.Str.{is_utf8, chars}
use Rattle.std.specs.Str.Lossy.{utf8_valid_len}
use Rattle.wsn_laws.proofs.bad_character_examples.characters.Goals as goal

pub returns : goal.returns
unfolding utf8_valid_len is_utf8 chars encode_utf8
returns c = record {
  latin = refl;
  alone = refl;
  first = refl;
  in_two_frames = refl;
  four_bytes = refl;
  surrogate = refl;
}
