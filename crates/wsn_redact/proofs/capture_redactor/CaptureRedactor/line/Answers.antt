use Rattle.std.proofs.Common.{[], ◌∷◌, ◌++◌, take, sym, subst}
use Rattle.wsn_capture.specs.declared.capture_lines.CaptureLines.{CaptureLines}
use Rattle.wsn_capture.specs.CaptureLines.{HasAccepted}
use Rattle.wsn_capture.specs.LineEntries.{held_entry}
use Rattle.wsn_redact.proofs.RedactedLines.{with_lines, line_short, room_for, one_more}
use Rattle.wsn_redact.proofs.capture_redactor.CaptureRedactor.line.Goals as goal

pub redact_entry-requires-clause-room : goal.redact_entry-requires-clause-room
redact_entry-requires-clause-room c =
    let some = c.requires in
    room_for some.limits c.args.self.now c.accept.new.self some.lines some.entries some.others c.args.line.now c.accept.new.bytes c.in_ok-entry.entry c.accept.array_long
    c.in_ok-entry.ensures.fits some.has_redacted.streams
    (c.in_ok-entry.ensures.accepted some.limits some.lines some.entries some.has_redacted.accepted)

pub redact_line-requires-clause-short : goal.redact_line-requires-clause-short
redact_line-requires-clause-short c =
    let some = c.requires in
    line_short some.limits c.args.self.now.lines c.accept.new.self some.lines some.entries c.args.line.now (held_entry c.in_ok-entry.entry c.accept.new.bytes) some.has_redacted.accepted
    (c.in_ok-entry.ensures.accepted some.limits some.lines some.entries some.has_redacted.accepted)

pub returns-clause-redacted : goal.returns-clause-redacted
returns-clause-redacted c limits lines entries others redacted has =
    let entry = c.in_ok-entry.entry in
    let held = c.accept.new.bytes in
    one_more limits c.redact_entry.new.self lines entries others redacted c.args.line.now (held_entry entry held) (held_entry entry c.redact_entry.new.bytes) (take c.redact_line.result c.redact_line.new.into)
    (subst (λ (ls : CaptureLines). HasAccepted limits ls (lines ++ c.args.line.now ∷ []) (entries ++ held_entry entry held ∷ [])) (sym c.redact_entry.ensures.lines)
    (c.in_ok-entry.ensures.accepted limits lines entries has.accepted))
    (c.redact_entry.ensures.streams limits entries others (with_lines c.args.self.now c.accept.new.self limits entries others has.streams))
    has.each
    (c.redact_line.ensures.redacted held c.accept.array_long)
