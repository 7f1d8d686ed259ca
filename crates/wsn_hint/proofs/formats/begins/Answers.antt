use Rattle.std.proofs.Common.{length, drop}
use Rattle.std.proofs.lemmas.Slice.Eq.{starts_is}
use Rattle.std.proofs.lemmas.Bool.Decides.{Decides-eqb}
use Rattle.wsn_hint.proofs.formats.begins.Goals as goal

pub returns : goal.returns
returns c =
    let starts = starts_is Decides-eqb c.args.first.now c.args.mark.now c.starts_with.result c.starts_with.ensures.value in
    (λ is. (drop (length c.args.mark.now) c.args.first.now, starts.0 is), λ begins. starts.1 begins.0 begins.1)
