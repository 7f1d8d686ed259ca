use Rattle.std.proofs.Common.{inl, inr, refl}
use Rattle.std.proofs.lemmas.Bool.{iff_false}
use Rattle.wsn_hint.proofs.Alternatives.{second}
use Rattle.wsn_hint.proofs.formats.is_http_head.Goals as goal

pub returns-then-begins : goal.returns-then-begins
returns-then-begins c = (λ is. inl (c.begins.ensures.0 c.if-begins.true), λ head. refl)

pub returns-then-begins-2 : goal.returns-then-begins-2
returns-then-begins-2 c = (λ is. inr (inl (c.begins-2.ensures.0 c.if-begins-2.true)), λ head. refl)

pub returns-then-begins-3 : goal.returns-then-begins-3
returns-then-begins-3 c = (λ is. inr (inr (inl (c.begins-3.ensures.0 c.if-begins-3.true))), λ head. refl)

pub returns-then-begins-4 : goal.returns-then-begins-4
returns-then-begins-4 c = (λ is. inr (inr (inr (inl (c.begins-4.ensures.0 c.if-begins-4.true)))), λ head. refl)

pub returns-then-begins-5 : goal.returns-then-begins-5
returns-then-begins-5 c = (λ is. inr (inr (inr (inr (inl (c.begins-5.ensures.0 c.if-begins-5.true))))), λ head. refl)

pub returns-then-begins-6 : goal.returns-then-begins-6
returns-then-begins-6 c = (λ is. inr (inr (inr (inr (inr (inl (c.begins-6.ensures.0 c.if-begins-6.true)))))), λ head. refl)

pub returns-then-begins-7 : goal.returns-then-begins-7
returns-then-begins-7 c = (λ is. inr (inr (inr (inr (inr (inr (inl (c.begins-7.ensures.0 c.if-begins-7.true))))))), λ head. refl)

pub returns-then-begins-8 : goal.returns-then-begins-8
returns-then-begins-8 c = (λ is. inr (inr (inr (inr (inr (inr (inr (inl (c.begins-8.ensures.0 c.if-begins-8.true)))))))), λ head. refl)

pub returns-then-begins-9 : goal.returns-then-begins-9
returns-then-begins-9 c = (λ is. inr (inr (inr (inr (inr (inr (inr (inr (inl (c.begins-9.ensures.0 c.if-begins-9.true))))))))), λ head. refl)

pub returns-else-begins-9 : goal.returns-else-begins-9
returns-else-begins-9 c = (
  λ is. inr (inr (inr (inr (inr (inr (inr (inr (inr (c.begins-10.ensures.0 is))))))))),
  λ head. c.begins-10.ensures.1
      (second (iff_false c.begins-9.ensures c.if-begins-9.false) (second (iff_false c.begins-8.ensures c.if-begins-8.false)
      (second (iff_false c.begins-7.ensures c.if-begins-7.false) (second (iff_false c.begins-6.ensures c.if-begins-6.false)
      (second (iff_false c.begins-5.ensures c.if-begins-5.false) (second (iff_false c.begins-4.ensures c.if-begins-4.false)
      (second (iff_false c.begins-3.ensures c.if-begins-3.false) (second (iff_false c.begins-2.ensures c.if-begins-2.false)
      (second (iff_false c.begins.ensures c.if-begins.false) head))))))))),
)
