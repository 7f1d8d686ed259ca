use Rattle.wsn_rules.proofs.Groups.{meaning-append, events-append, meaning_push}
use Rattle.wsn_rules.proofs.lists.law_meaning_goes_on.Goals as goal

pub returns : goal.returns
returns c = record {
  joined = meaning-append;
  following = events-append;
  one_more = meaning_push;
}
