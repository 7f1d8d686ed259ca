use Rattle.std.proofs.Common.{refl}
use Rattle.wsn_text.proofs.States.{text_between, no_text_inside}
use Rattle.wsn_text.proofs.utf8_check.Utf8.is_whole.Goals as goal

pub returns-in-Character : goal.returns-in-Character
returns-in-Character c taken has = (λ yes. text_between c.self.inside.expected c.args.self.now taken c.self.view_is c.in-Character.is has, λ text. refl)

pub returns-in_default : goal.returns-in_default
returns-in_default c taken has = (λ no. cc, λ text. absurd (no_text_inside c.self.inside.expected c.args.self.now taken c.self.view_is c.in_default.not-Character has text))
