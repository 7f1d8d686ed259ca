use Rattle.wsn_rules.proofs.EveryInput.{has_verdict}
use Rattle.wsn_rules.proofs.OneVerdict.{one_verdict}
use Rattle.wsn_rules.proofs.NormalLaws.{accepted_meaning}
use Rattle.wsn_rules.proofs.laws.law_unique.Goals as goal

pub returns : goal.returns
returns c = record {
  some = λ role limits bytes range in_bytes. let found = has_verdict role limits range bytes in_bytes in (found.frames, found.verdict, found.is);
  one = one_verdict;
  meaning = accepted_meaning;
}
