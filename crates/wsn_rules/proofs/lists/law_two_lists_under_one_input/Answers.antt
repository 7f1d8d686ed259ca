use Rattle.wsn_rules.proofs.Walk.{walk, spellable_of_lawful}
use Rattle.wsn_rules.proofs.lists.law_two_lists_under_one_input.Goals as goal

pub returns : goal.returns
returns c = λ role limits fs gs r s lawful_fs lawful_gs e. walk fs gs r s (spellable_of_lawful role limits fs lawful_fs) (spellable_of_lawful role limits gs lawful_gs) e
