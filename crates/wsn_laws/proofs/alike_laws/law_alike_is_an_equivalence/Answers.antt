use Rattle.wsn_laws.proofs.ComputedAlike.{same_alike, back_alike, onward_alike}
use Rattle.wsn_laws.proofs.alike_laws.law_alike_is_an_equivalence.Goals as goal

pub returns : goal.returns
returns c = record {
  same = λ role limits bytes range all. same_alike role limits range bytes all;
  back = λ role limits bytes other range all also a. back_alike role limits range bytes other all also a;
  onward = λ role limits bytes other third range all also and_third a b. onward_alike role limits range bytes other third all also and_third a b;
}
