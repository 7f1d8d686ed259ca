use Rattle.std.proofs.Common.{rules, subst}
use Rattle.wsn_rules.specs.Limits.{Limits}
use Rattle.wsn_redact.specs.RedactingCaptures.{IsRedactedCaptureInput}
use Rattle.wsn_page.proofs.MemoryRuns.{redacts_over}
use Rattle.wsn_page.proofs.calls.wsn_page_redact.Goals as goal

pub returns : goal.returns
returns c =
    let redacted = subst (λ (limits : Limits). IsRedactedCaptureInput limits c.lent.result c.redact_capture-done.new.input
    c.new-written.result c.redact_capture-done.new.output c.redact_capture-done.result) c.limits.ensures
    c.redact_capture-done.ensures in (
      c.text.result.now,
      _,
      _,
      redacts_over _ c.args.capture.now c.text.result.now c.redact_capture-done.new.input c.lent.result
          c.new-written.result c.redact_capture-done.new.output c.redact_capture-done.result (search rules) (search rules)
          (search rules) redacted,
      c.give_redacted.ensures,
    )
