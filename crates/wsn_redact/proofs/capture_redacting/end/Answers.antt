use Rattle.std.proofs.Common.{sym, ◌∙◌}
use Rattle.wsn_capture.proofs.SplitLines.{empty_is, not_empty}
use Rattle.wsn_redact.proofs.PassedRedactions.{ends_with_lf, last_of_text}
use Rattle.wsn_redact.proofs.capture_redacting.end.Goals as goal

pub returns-then-is_empty : goal.returns-then-is_empty
returns-then-is_empty g c limits first came has =
    ends_with_lf limits first c.args.redactor.now c.args.last.now c.args.output.now came has (empty_is c.args.last.now (sym c.is_empty.ensures ∙ c.if-is_empty.true))

pub returns : goal.returns
returns g c limits first came has =
    last_of_text limits first c.args.redactor.now c.args.last.now c.args.output.now came has (not_empty c.args.last.now (sym c.is_empty.ensures ∙ c.if-is_empty.false)) c.put_redacted.new.redactor c.put_redacted.new.output
    c.put_redacted.result
    (c.put_redacted.ensures.put) (c.put_redacted.ensures.writable) (c.put_redacted.ensures.stop)
