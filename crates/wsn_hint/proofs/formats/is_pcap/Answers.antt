use Rattle.std.proofs.Common.{inl, inr, refl}
use Rattle.std.proofs.lemmas.Bool.{iff_false}
use Rattle.wsn_hint.proofs.Alternatives.{second}
use Rattle.wsn_hint.proofs.formats.is_pcap.Goals as goal

pub returns-then-begins : goal.returns-then-begins
returns-then-begins c = (λ is. inl (c.begins.ensures.0 c.if-begins.true), λ mark. refl)

pub returns-then-begins-2 : goal.returns-then-begins-2
returns-then-begins-2 c = (λ is. inr (inl (c.begins-2.ensures.0 c.if-begins-2.true)), λ mark. refl)

pub returns-then-begins-3 : goal.returns-then-begins-3
returns-then-begins-3 c = (λ is. inr (inr (inl (c.begins-3.ensures.0 c.if-begins-3.true))), λ mark. refl)

pub returns-else-begins-3 : goal.returns-else-begins-3
returns-else-begins-3 c = (
  λ is. inr (inr (inr (c.begins-4.ensures.0 is))),
  λ mark. c.begins-4.ensures.1
      (second (iff_false c.begins-3.ensures c.if-begins-3.false) (second (iff_false c.begins-2.ensures c.if-begins-2.false)
      (second (iff_false c.begins.ensures c.if-begins.false) mark))),
)
