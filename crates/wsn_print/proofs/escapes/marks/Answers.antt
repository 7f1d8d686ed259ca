use Rattle.std.proofs.Common.{refl, ap, sym, ◌∙◌, map}
use Rattle.std.specs.Prelude.{◌==◌}
use Rattle.std.specs.Simd.Lanes.{mask_l}
use Rattle.wsn_print.specs.Runs.{takes_backslash}
use Rattle.wsn_print.specs.declared.escapes.Escapes.{Escapes}
use Rattle.wsn_print.specs.declared.escapes.Escapes.TheVariants.{Comment, Quoted}
use Rattle.wsn_print.proofs.MaskedLanes.{bits_of, compared, either}
use Rattle.wsn_print.proofs.escapes.marks.Goals as goal

pub returns-in-Quoted : goal.returns-in-Quoted
returns-in-Quoted c =
    let v = c.args.block in
    let long = c.fits-block.0 in
    bits_of _ (takes_backslash Quoted) _ v long (λ x. refl) (either _ refl refl refl refl _ _ _ _ v (compared _ (λ x. x == 34) v 16 34 long (λ x. refl)) (compared _ (λ x. x == 92) v 16 92 long (λ x. refl)))
    ∙ ap (λ (escapes : Escapes). mask_l (map (takes_backslash escapes) v)) (sym c.in-Quoted.is)

pub returns-in-Comment : goal.returns-in-Comment
returns-in-Comment c =
    let v = c.args.block in
    bits_of _ (takes_backslash Comment) _ v c.fits-block.0 (λ x. refl) (compared _ (λ x. x == 92) v 16 92 c.fits-block.0 (λ x. refl))
    ∙ ap (λ (escapes : Escapes). mask_l (map (takes_backslash escapes) v)) (sym c.in-Comment.is)
