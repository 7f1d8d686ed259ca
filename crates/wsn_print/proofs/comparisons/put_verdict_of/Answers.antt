use Rattle.std.proofs.Common.{◌≡◌, ℕ, Err, List, ◌++◌, ap, ◌∙◌, subst}
use Rattle.std.proofs.lemmas.Result.{err_from_is_err_and}
use Rattle.wsn_io.specs.Stops.{IsWrittenOrStops}
use Rattle.wsn_io.proofs.PutTexts.{put_more, put_no_more}
use Rattle.wsn_print.specs.VerdictText.{verdict_line}
use Rattle.wsn_print.proofs.comparisons.put_verdict_of.Goals as goal

pub returns-in_err-put_line : goal.returns-in_err-put_line
returns-in_err-put_line g c =
    let out = err_from_is_err_and c.from_residual.result c.from_residual.ensures.1 in
    let is : c.from_residual.result ≡ Err c.in_err-put_line.field-0.0 = out.1 ∙ ap Err out.2 in
    rw is rw (← c.as_bytes.ensures.value)
    (c.in_err-put_line.ensures.0, put_no_more c.args.output.now c.put_line.new.to c.as_bytes.result.now (verdict_line c.args.verdict) c.in_err-put_line.ensures.1)

pub returns : goal.returns
returns g c =
    subst (λ (bs : List ℕ). IsWrittenOrStops c.args.output.now c.put_verdict.new.to (bs ++ verdict_line c.args.verdict) c.put_verdict.result) c.as_bytes.ensures.value
    (put_more c.args.output.now c.put_line.new.to c.put_verdict.new.to c.as_bytes.result.now (verdict_line c.args.verdict) c.put_verdict.result c.in_ok-put_line.ensures c.put_verdict.ensures)
