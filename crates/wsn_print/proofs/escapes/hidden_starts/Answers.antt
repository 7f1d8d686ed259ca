use Rattle.std.proofs.Common.{◌≡◌, ℕ, not, ◌==◌, List, map, length, bit_and, refl, sym, ap, ap₂, ◌∙◌}
use Rattle.std.proofs.lemmas.Simd.{length-zip2}
use lib.Lanes.{zip2, mask_l}
use Rattle.wsn_print.specs.Runs.{class_of, may_hide}
use Rattle.wsn_print.proofs.MaskedLanes.{bits_of, compared}
use Rattle.wsn_print.proofs.PlainStarts.{classes_joined}
use Rattle.wsn_print.proofs.escapes.hidden_starts.Goals as goal

pub returns : goal.returns
returns c =
    let v : List ℕ = c.args.block in
    let w : List ℕ = c.args.next in
    let classes : List ℕ = zip2 bit_and (zip2 bit_and c.by_first_high.result c.by_first_low.result) c.by_second_low.result in
    let is : classes ≡ zip2 class_of v w =
    ap₂ (λ (first second : List ℕ). zip2 bit_and first second) (ap₂ (λ (first second : List ℕ). zip2 bit_and first second) c.by_first_high.ensures c.by_first_low.ensures) c.by_second_low.ensures
    ∙ classes_joined v w in
    let long : length classes ≡ 16 = ap length is ∙ length-zip2 class_of v w (c.fits-block.0 ∙ sym c.fits-next.0) ∙ c.fits-block.0 in
    bits_of (λ x. not (x == 0)) may_hide _ classes long (λ x. refl) (compared _ (λ x. not (x == 0)) classes 16 0 long (λ x. refl))
    ∙ ap (λ (xs : List ℕ). mask_l (map may_hide xs)) is
