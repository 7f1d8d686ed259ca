use Rattle.std.proofs.Common.{◌∙◌, sym, rules}
use Rattle.wsn_io.proofs.PutTexts.{prints_on, prints_no_more, went_out}
use Rattle.wsn_parts.proofs.listing.print_text.Goals as goal

pub returns-then-not-failed : goal.returns-then-not-failed
returns-then-not-failed g c before printed written =
    let text = c.args.text.now in
    prints_on before c.args.output.now c.put_line-stop.new.to printed text (sym c.failed.ensures ∙ c.if-not-failed.true) written
    (went_out c.args.output.now c.put_line-stop.new.to text c.put_line-stop.result c.put_line-stop.ensures)

pub returns-else-not-failed : goal.returns-else-not-failed
returns-else-not-failed g c before printed written = prints_no_more before c.args.output.now printed c.args.text.now (sym c.failed.ensures ∙ c.if-not-failed.false) written

pub put_line-stop-requires : goal.put_line-stop-requires
put_line-stop-requires g c = search rules
