use Rattle.std.proofs.Common.{◌≡◌, true, false, sym, ◌∙◌, inl, inr, arith}
use Rattle.wsn_show.proofs.stream_parts.StreamParts.is_event.Goals as goal

pub returns-then-is_control : goal.returns-then-is_control
returns-then-is_control c is = inl (sym c.is_control.ensures ∙ is)

pub returns-then-head : goal.returns-then-head
returns-then-head c is = inr (c.if-head.true, grind (arith, is))

pub returns-else-head : goal.returns-else-head
returns-else-head c is = let both : true ≡ false = sym is ∙ c.if-head.false in absurd cc
