use Rattle.std.proofs.Common.{[], length, refl, sym, arith}
use Rattle.std.proofs.lemmas.List.{take_all}
use Rattle.wsn_show.proofs.payload_bytes.PayloadBytes.new.Goals as goal

pub returns : goal.returns
returns c n enough = record { count = refl; held = sym (take_all (length c.args.memory.now) [] (omega arith)); enough = enough }
