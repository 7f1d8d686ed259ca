use Rattle.std.proofs.Common.{refl}
use Rattle.wsn_c.proofs.sides.wsn_sent.Goals as goal

pub returns-in-Some : goal.returns-in-Some
returns-in-Some c = record {
  sent = λ _. (c.in-Some.asked, c.in-Some.ensures.value, c.give_sent.ensures);
  usage = λ out. absurd (out (c.in-Some.ensures.in_range.0 refl));
}
