use Rattle.std.proofs.Common.{◌≡◌, [], length, refl, sym, ap, arith}
use Rattle.std.proofs.lemmas.List.{take_all}
use Rattle.wsn_show.specs.PayloadsSoFar.{PayloadSoFar}
use Rattle.wsn_show.proofs.payload_bytes.PayloadBytes.clear.Goals as goal

pub returns : goal.returns
returns c n enough =
    let memory = c.self.inside.memory.now in
    let size : length memory ≡ c.args.self.now.size = ap (λ (p : PayloadSoFar). p.size) c.self.view_is in
    record { count = refl; held = sym (take_all (length memory) [] (omega arith)); enough = omega (arith, size, enough) }
