use Rattle.wsn_rules.proofs.LawfulMeaning.{lawful_meaning}
use Rattle.wsn_rules.proofs.laws.law_meaning_is_lawful.Goals as goal

pub returns : goal.returns
returns c = lawful_meaning
