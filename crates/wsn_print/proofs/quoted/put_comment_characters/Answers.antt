use Rattle.std.proofs.Common.{List, ℕ, subst, ap, ◌∙◌}
use Rattle.wsn_io.specs.Stops.{IsWrittenOrStops}
use Rattle.wsn_print.specs.declared.escapes.Escapes.TheVariants.{Comment}
use Rattle.wsn_print.specs.Runs.{escaped}
use Rattle.wsn_print.proofs.RunTexts.{text_written}
use Rattle.wsn_print.proofs.quoted.put_comment_characters.Goals as goal

pub returns : goal.returns
returns g c =
    subst (λ (t : List ℕ). IsWrittenOrStops c.args.to.now c.put_escaped.new.to t c.put_escaped.result)
    (ap (escaped Comment) c.as_bytes.ensures.value ∙ text_written Comment c.args.text.now c.utf8.text) c.put_escaped.ensures
