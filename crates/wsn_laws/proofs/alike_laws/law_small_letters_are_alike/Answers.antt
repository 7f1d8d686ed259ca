use Rattle.wsn_laws.proofs.ComputedAlike.{letters_alike}
use Rattle.wsn_laws.proofs.alike_laws.law_small_letters_are_alike.Goals as goal

pub returns : goal.returns
returns c = letters_alike
