use Rattle.std.proofs.Common.{refl}
use Rattle.std.specs.Fmt.{digits}
use Rattle.std.specs.Str.{chars, is_utf8}
use Rattle.std.specs.Str.Lossy.{utf8_valid_len}
use Rattle.hex.specs.Hex.{encode_with}
use Rattle.wsn_laws.proofs.ShownReader.{one_shown}
use Rattle.wsn_laws.proofs.object_laws.law_item_objects.Goals as goal

pub returns-clause-shown : goal.returns-clause-shown
returns-clause-shown c = one_shown

pub returns-clause-unseen : goal.returns-clause-unseen
unfolding digits encode_with utf8_valid_len is_utf8 chars
returns-clause-unseen c role position = refl
