use Rattle.std.proofs.Common.{◌≡◌, ◌++◌, inl, inr, rules}
use Rattle.wsn_redact.specs.RedactedCaptures.{extensions_prefix}
use Rattle.wsn_redact.proofs.redacted_line.redact_nothing.Goals as goal

pub returns-clause-redacted : goal.returns-clause-redacted
returns-clause-redacted c =
    let whole : c.args.text.now ≡ extensions_prefix ++ c.in-Some.list.now = search rules in
    inr (inl (c.in-Some.list.now, whole, c.put_extensions.ensures.text))

pub returns-in_default-clause-redacted : goal.returns-in_default-clause-redacted
returns-in_default-clause-redacted c = search rules
