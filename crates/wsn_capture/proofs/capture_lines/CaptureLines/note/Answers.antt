use Rattle.std.proofs.Common.{◌-◌, ◌++◌, ◌∷◌, [], ℕ, ap, ◌∙◌, rules}
use Rattle.wsn_rules.specs.Entries.Entry.{Bytes}
use Rattle.wsn_rules.specs.Sides.{sent}
use Rattle.wsn_capture.proofs.AcceptedLines.{client_kept, server_kept, client_noted, server_noted}
use Rattle.wsn_capture.proofs.capture_lines.CaptureLines.note.Goals as goal

pub returns-in-Client : goal.returns-in-Client
returns-in-Client c = record {
  noted = λ limits lines given bytes has noted judged.
      client_noted limits c.args.self.now lines given bytes c.args.line.now c.saturating_sub-number.result c.args.verdict.now c.args.role c.note.new.self c.in-Client.is
      (c.note.ensures.close c.args.role limits (sent c.args.role (given ++ Bytes c.args.role bytes ∷ [])) judged) c.note.ensures.refused
      (c.saturating_sub-number.ensures ∙ ap (λ (n : ℕ). n - 1) c.count.ensures) has noted judged;
  accepted = λ limits lines given has.
      client_kept limits c.args.self.now c.note.new.self lines given c.note.ensures.same.0 c.note.ensures.same.1 has;
  count = search rules;
}

pub returns-in-Server : goal.returns-in-Server
returns-in-Server c = record {
  noted = λ limits lines given bytes has noted judged.
      server_noted limits c.args.self.now lines given bytes c.args.line.now c.saturating_sub-number.result c.args.verdict.now c.args.role c.note-in-Server.new.self c.in-Server.is
      (c.note-in-Server.ensures.close c.args.role limits (sent c.args.role (given ++ Bytes c.args.role bytes ∷ [])) judged) c.note-in-Server.ensures.refused
      (c.saturating_sub-number.ensures ∙ ap (λ (n : ℕ). n - 1) c.count.ensures) has noted judged;
  accepted = λ limits lines given has.
      server_kept limits c.args.self.now c.note-in-Server.new.self lines given c.note-in-Server.ensures.same.0 c.note-in-Server.ensures.same.1 has;
  count = search rules;
}
