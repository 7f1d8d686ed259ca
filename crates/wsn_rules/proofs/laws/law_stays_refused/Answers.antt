use Rattle.wsn_rules.proofs.StaysRefused.{stays_refused, refused_alike, refused_whatever_follows}
use Rattle.wsn_rules.proofs.laws.law_stays_refused.Goals as goal

pub returns : goal.returns
returns c = record {
  longer = λ role limits bytes more fs offset reason. stays_refused role limits fs bytes more offset reason;
  alike = λ role limits bytes other fs offset reason refused same. refused_alike role limits fs bytes other offset reason same refused;
  nothing_else = λ role limits bytes more fs gs offset reason verdict refused is. refused_whatever_follows role limits fs bytes more offset reason refused gs verdict is;
}
