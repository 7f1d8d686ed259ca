use Rattle.std.proofs.Common.{Some, refl, subst}
use Rattle.wsn_rules.specs.Limits.{Limits}
use Rattle.wsn_capture.specs.declared.refused_line.RefusedLines.{RefusedLines}
use Rattle.wsn_hint.specs.declared.refused_sides.RefusedSides.{RefusedSides}
use Rattle.wsn_hint.specs.SideHints.{IsSidesHint}
use Rattle.wsn_cli.specs.RunHints.{refused_lines, refused_sides}
use Rattle.wsn_cli.proofs.hints.hint_on_lines.Goals as goal

pub returns-in-Some : goal.returns-in-Some
returns-in-Some g c =
    let text = c.args.first.now in
    let hint = Some c.in-Some.hint in (
      hint,
      subst (λ (limits : Limits). IsSidesHint limits text (refused_sides c.args.side c.args.answer) (refused_lines c.args.answer) hint) c.limits_of.ensures
          (subst (λ (refused : RefusedSides). IsSidesHint c.limits_of.result text refused (refused_lines c.args.answer) hint) c.refused_sides-refused.ensures
          (subst (λ (lines : RefusedLines). IsSidesHint c.limits_of.result text c.refused_sides-refused.result lines hint) c.refused_lines.ensures c.in-Some.ensures)),
      refl,
    )
