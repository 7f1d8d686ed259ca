use Rattle.std.proofs.Common.{◌≡◌, ℕ, List, [], length, refl, ap, ◌∙◌, arith}
use Rattle.std.proofs.lemmas.List.{length-take}
use Rattle.wsn_events.proofs.ExcerptViews.{appended, first_bytes}
use Rattle.wsn_events.proofs.excerpt.Excerpt.of_payload.Goals as goal

pub returns-clause-payload : goal.returns-clause-payload
returns-clause-payload c =
    let few = c.min.ensures in
    let none : c.new-held.result.items ≡ [] = c.new-held.ensures in
    record {
      op_is = refl;
      size = refl;
      first =
          appended c.try_extend_from_slice-fits.result c.try_extend_from_slice-fits.ensures.variant (omega (arith, few, ap (λ (bs : List ℕ). length bs) none, length-take c.min.result c.args.payload.now)) c.try_extend_from_slice-fits.ensures.ok
          ∙ first_bytes c.new-held.result.items c.args.payload.now c.min.result none few;
    }
