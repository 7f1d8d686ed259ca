use Rattle.std.proofs.Common.{◌≡◌, ◌≢◌, ◌++◌, ℕ, List, length, take, sym, ap, ◌∙◌, subst, arith}
use Rattle.std.proofs.lemmas.List.{take_more_set}
use Rattle.wsn_rules.specs.Entries.{without_cr}
use Rattle.wsn_capture.specs.LineEntries.{held_entry}
use Rattle.wsn_redact.specs.RedactedCaptures.{IsRedactedLineText}
use Rattle.wsn_redact.proofs.LineParts.{ends_cr}
use Rattle.wsn_redact.proofs.redacted_line.redact_line.Goals as goal

pub returns-clause-redacted : goal.returns-clause-redacted
returns-clause-redacted c held size =
    let into = c.redact_text-count.new.into in
    let count = c.redact_text-count.result in
    let text = c.strip_cr-text.ensures in
    let shorter : length (without_cr c.args.line.now) ≢ length c.args.line.now = λ is. c.if-text-line.false (ap (λ (l : List ℕ). length l) text ∙ is) in
    let long : length into ≡ 8196 = c.redact_text-count.array_long in
    let within = c.redact_text-count.ensures.within in (
      take count into,
      subst (λ (t : List ℕ). IsRedactedLineText t (held_entry c.args.entry held) (held_entry c.args.entry c.args.bytes.now) (take count into)) text (c.redact_text-count.ensures.redacted held size),
      take_more_set into count 13 (omega (arith, within, long)) ∙ ap (λ (l : List ℕ). take count into ++ l) (sym (ends_cr c.args.line.now shorter)),
    )
