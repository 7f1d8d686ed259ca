use Rattle.std.proofs.Common.{ℕ, List, subst, Option}
use Rattle.wsn_text.specs.Validated.{Follows}
use Rattle.wsn_text.specs.Utf8.{Range}
use Rattle.wsn_text.proofs.States.{follows_good}
use Rattle.wsn_text.proofs.utf8_check.Utf8.is_bad.Goals as goal

pub returns-in_default : goal.returns-in_default
returns-in_default c = record {
  bad = λ yes. cc;
  good = λ no. subst (λ (ranges : Option (List Range)). (more : List ℕ) × Follows ranges more) c.self.view_is (follows_good c.self.inside.expected c.in_default.not-Nothing);
}
