use Rattle.std.proofs.Common.{rules}
use Rattle.wsn_capture.proofs.hex_pairs.decode_pairs.Goals as goal

pub decode_blocks-requires : goal.decode_blocks-requires
decode_blocks-requires c = record { pairs = c.requires; last = search rules }

pub decode_each-requires : goal.decode_each-requires
decode_each-requires c = c.requires

pub returns-in-Some : goal.returns-in-Some
returns-in-Some c = c.decode_blocks.ensures

pub returns-in-None : goal.returns-in-None
returns-in-None c = c.decode_each.ensures
