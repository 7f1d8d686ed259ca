use Rattle.std.proofs.Common.{◌∷◌, [], ◌++◌, sym, subst}
use Rattle.wsn_wire.specs.declared.endpoint.Role.{Role}
use Rattle.wsn_rules.specs.Entries.Entry.{Bytes}
use Rattle.wsn_redact.specs.PassedRedactions.{AreStreams}
use Rattle.wsn_redact.proofs.RedactedLines.{client_bytes, server_bytes}
use Rattle.wsn_redact.proofs.capture_redactor.CaptureRedactor.redact_bytes.Goals as goal

pub returns-in-Client-clause-streams : goal.returns-in-Client-clause-streams
returns-in-Client-clause-streams c limits entries others are =
    let next = record c.args.self.now { client = record { scan = c.redact_chunk.new.scan; redactor = c.redact_chunk.new.redactor } } in
    subst (λ (role : Role). AreStreams limits next (entries ++ Bytes role c.args.bytes.now ∷ []) (others ++ Bytes role c.redact_chunk.new.chunk ∷ [])) (sym c.in-Client.is)
    (client_bytes c.args.self.now c.redact_chunk.new.scan c.redact_chunk.new.redactor c.args.bytes.now c.redact_chunk.new.chunk c.redact_chunk.auto.chunk limits entries others are c.redact_chunk.ensures)

pub returns-in-Server-clause-streams : goal.returns-in-Server-clause-streams
returns-in-Server-clause-streams c limits entries others are =
    let next = record c.args.self.now { server = record { scan = c.redact_chunk-in-Server.new.scan; redactor = c.redact_chunk-in-Server.new.redactor } } in
    subst (λ (role : Role). AreStreams limits next (entries ++ Bytes role c.args.bytes.now ∷ []) (others ++ Bytes role c.redact_chunk-in-Server.new.chunk ∷ [])) (sym c.in-Server.is)
    (server_bytes c.args.self.now c.redact_chunk-in-Server.new.scan c.redact_chunk-in-Server.new.redactor c.args.bytes.now c.redact_chunk-in-Server.new.chunk c.redact_chunk-in-Server.auto.chunk limits entries others are c.redact_chunk-in-Server.ensures)
