use Rattle.std.proofs.Common.{inl, inr, refl, drop}
use Rattle.std.proofs.lemmas.Bool.{iff_false}
use Rattle.std.proofs.lemmas.Bool.Decides.{Decides-eqb}
use Rattle.std.proofs.lemmas.Slice.Eq.{starts_is}
use Rattle.std.specs.Prelude.{codes}
use Rattle.wsn_hint.proofs.Alternatives.{second}
use Rattle.wsn_hint.proofs.streams.is_capture_text.Goals as goal

pub returns-then-begins_line : goal.returns-then-begins_line
returns-then-begins_line c = (λ is. inl (c.begins_line.ensures.0 c.if-begins_line.true), λ has. refl)

pub returns-then-begins_end_mark : goal.returns-then-begins_end_mark
returns-then-begins_end_mark c = (λ is. inr (inl (c.begins_end_mark.ensures.0 c.if-begins_end_mark.true)), λ has. refl)

pub returns-else-begins_end_mark : goal.returns-else-begins_end_mark
returns-else-begins_end_mark c =
    let starts = starts_is Decides-eqb c.args.first.now (codes "# ") c.starts_with.result c.starts_with.ensures.value in (
      λ is. inr (inr (drop 2 c.args.first.now, starts.0 is)),
      λ has. let comment = second (iff_false c.begins_end_mark.ensures c.if-begins_end_mark.false) (second (iff_false c.begins_line.ensures c.if-begins_line.false) has) in
          starts.1 comment.0 comment.1,
    )
