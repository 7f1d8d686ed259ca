use Rattle.std.proofs.Common.{rules, subst}
use Rattle.wsn_wire.specs.declared.endpoint.Role.{Role}
use Rattle.wsn_rules.specs.Limits.{Limits}
use Rattle.wsn_redact.specs.Redacting.{IsRedactedInput}
use Rattle.wsn_page.specs.Asking.{limits_asked}
use Rattle.wsn_page.proofs.MemoryRuns.{redacts_stream_over}
use Rattle.wsn_page.proofs.calls.wsn_page_redact_stream.Goals as goal

pub returns : goal.returns
returns c =
    let limits : Limits = limits_asked c.args.settings.now in
    let limited = subst (λ (limits : Limits). IsRedactedInput c.role.result limits c.lent.result c.redact-done.new.input
    c.new-written.result c.redact-done.new.output c.redact-done.result) c.limits.ensures c.redact-done.ensures.redacted in
    let redacted = subst (λ (role : Role). IsRedactedInput role limits c.lent.result c.redact-done.new.input
    c.new-written.result c.redact-done.new.output c.redact-done.result) c.role.ensures limited in (
      c.text.result.now,
      _,
      _,
      redacts_stream_over _ _ c.args.stream.now c.text.result.now c.redact-done.new.input c.lent.result
          c.new-written.result c.redact-done.new.output c.redact-done.result (search rules) (search rules) (search rules)
          redacted,
      c.give_redacted_stream.ensures,
    )
