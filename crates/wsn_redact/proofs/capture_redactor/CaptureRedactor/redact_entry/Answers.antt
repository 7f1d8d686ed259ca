use Rattle.std.proofs.Common.{◌≡◌, length, rules}
use Rattle.wsn_redact.proofs.RedactedLines.{entry_bytes, entry_nothing, entry_mark}
use Rattle.wsn_redact.proofs.capture_redactor.CaptureRedactor.redact_entry.Goals as goal

pub returns-in-Bytes-clause-streams : goal.returns-in-Bytes-clause-streams
returns-in-Bytes-clause-streams c limits entries others are =
    let held = c.args.bytes.now in
    let size : length c.redact_bytes.new.bytes ≡ c.in-Bytes.count = search rules in
    entry_bytes c.redact_bytes.new.self limits entries others c.args.entry c.in-Bytes.role c.in-Bytes.count held c.redact_bytes.new.bytes _ c.in-Bytes.is size
    (c.redact_bytes.ensures.streams limits entries others are)

pub returns-in-Nothing-clause-streams : goal.returns-in-Nothing-clause-streams
returns-in-Nothing-clause-streams c limits entries others are = entry_nothing c.args.self.now limits entries others c.args.entry c.args.bytes.now c.in-Nothing.is are

pub returns-in-Mark-clause-streams : goal.returns-in-Mark-clause-streams
returns-in-Mark-clause-streams c limits entries others are = entry_mark c.args.self.now limits entries others c.args.entry _ c.args.bytes.now c.in-Mark.is are
