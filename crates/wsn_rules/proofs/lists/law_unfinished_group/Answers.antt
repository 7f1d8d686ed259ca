use Rattle.wsn_rules.proofs.Groups.{group_of_lawful}
use Rattle.wsn_rules.proofs.lists.law_unfinished_group.Goals as goal

pub returns : goal.returns
returns c = record {
  size = λ role limits fs lawful. (group_of_lawful role limits fs lawful).size;
  count = λ role limits fs lawful. (group_of_lawful role limits fs lawful).count;
  begins = λ role limits fs lawful. (group_of_lawful role limits fs lawful).begins;
  kind = λ role limits fs lawful. (group_of_lawful role limits fs lawful).kind;
}
