use Rattle.std.proofs.Common.{◌+◌, ℕ, List, take, inr, refl, ap, ◌∙◌, subst}
use Rattle.wsn_io.specs.Transfer.{IsPartlyWritten}
use Rattle.wsn_capture.proofs.AcceptedLines.{accepted_count}
use Rattle.wsn_redact.proofs.capture_redacting.put_redacted.Goals as goal

pub returns-in-Err-clause-stop : goal.returns-in-Err-clause-stop
returns-in-Err-clause-stop g c limits lines entries others redacted has =
    (ap (λ (m : ℕ). m + 1) (c.count-number.ensures ∙ accepted_count limits c.args.redactor.now.lines lines entries has.accepted), c.in-Err.ensures.fault limits lines entries others redacted has, refl)

pub returns-in-Err-put_line-clause-stop : goal.returns-in-Err-put_line-clause-stop
returns-in-Err-put_line-clause-stop g c limits lines entries others redacted has = (
  record {
    became = take c.in-Ok.count c.line.new.into;
    redacts = c.in-Ok.ensures.redacted limits lines entries others redacted has;
    written = inr (subst (λ (bs : List ℕ). IsPartlyWritten c.args.output.now c.put_line.new.to bs) c.end_line-end.ensures.text c.in-Err-put_line.ensures.1);
  },
  c.in-Err-put_line.ensures.1.0,
)
