use Rattle.std.proofs.Common.{◌≡◌, ◌≤◌, [], ◌∷◌, ◌++◌, Err, refl, sym, ap, ◌∙◌, subst, arith, length-take-le, rules}
use Rattle.std.proofs.lemmas.Result.{err_from_is_err_and}
use Rattle.wsn_wire.specs.declared.endpoint.Role.{Role}
use Rattle.wsn_wire.specs.declared.endpoint.Role.TheVariants.{Client, Server}
use Rattle.wsn_rules.specs.Sides.{sent}
use Rattle.wsn_capture.specs.declared.capture_lines.CaptureLines.{CaptureLines}
use Rattle.wsn_capture.specs.declared.line_form.LineEntry.TheVariants as entries
use Rattle.wsn_capture.specs.LineEntries.{FitsInLine}
use Rattle.wsn_capture.specs.CaptureLines.{HasAccepted}
use Rattle.wsn_capture.specs.Captures.{Captured, HasAcceptedLines, IsCapturing}
use Rattle.wsn_capture.proofs.AcceptedTexts.{if_this}
use Rattle.wsn_capture.proofs.StreamSteps.{running_of, fits_scan, client_done, server_done, nothing_done, counted}
use Rattle.wsn_capture.proofs.capture.Capture.line.Goals as goal

pub invariant_of-self : goal.invariant_of-self
invariant_of-self c =
    subst (λ (l : CaptureLines). IsCapturing (record { lines = l; client = c.self.inside.client; server = c.self.inside.server })) (sym c.in_err-entry.ensures.unchanged) c.self.invariant

pub returns-in_err-entry : goal.returns-in_err-entry
returns-in_err-entry c = record {
  taken = search rules;
  fault = let out = err_from_is_err_and c.from_residual.result c.from_residual.ensures.1 in
      if_this _ (out.1 ∙ ap Err out.2) (λ limits lines has. c.in_err-entry.ensures.fault limits lines has.entries (subst (λ (s : Captured). HasAccepted limits s.lines lines has.entries) (sym c.self.view_is) has.accepted));
  unchanged = let out = err_from_is_err_and c.from_residual.result c.from_residual.ensures.1 in
      let same : record { lines = c.accept.new.self; client = c.self.inside.client; server = c.self.inside.server } ≡ c.args.self.now =
      ap (λ (l : CaptureLines). record { lines = l; client = c.self.inside.client; server = c.self.inside.server }) c.in_err-entry.ensures.unchanged ∙ c.self.view_is in
      if_this _ (out.1 ∙ ap Err out.2) same;
  count = search rules;
}

pub slice_bounds-scan_on-end : goal.slice_bounds-scan_on-end
slice_bounds-scan_on-end c =
    let few : c.in-Bytes.count ≤ 4096 = subst FitsInLine (c.in-Bytes.is ∙ ap (λ (r : Role). entries.Bytes r c.in-Bytes.count) c.in-Client.is) c.in_ok-entry.ensures.fits in
    sym (length-take-le c.in-Bytes.count c.accept.new.bytes (omega (arith, few)))

pub scan_on-requires-clause-begun : goal.scan_on-requires-clause-begun
scan_on-requires-clause-begun c = running_of Client c.self.invariant.limits c.self.inside.client (sent Client c.self.invariant.has.entries) c.self.invariant.has.client

pub scan_on-requires-clause-fits : goal.scan_on-requires-clause-fits
scan_on-requires-clause-fits c = fits_scan (record { lines = c.self.inside.lines; client = c.self.inside.client; server = c.self.inside.server }) c.args.text.now c.accept.new.self c.in_ok-entry.entry c.accept.new.bytes c.in_ok-entry.ensures.accepted c.in_ok-entry.ensures.noted c.self.invariant.limits c.self.invariant.lines c.self.invariant.has Client c.in-Bytes.count (c.in-Bytes.is ∙ ap (λ (r : Role). entries.Bytes r c.in-Bytes.count) c.in-Client.is) c.self.inside.client c.self.invariant.has.client

pub invariant_of-self-in-Client : goal.invariant_of-self-in-Client
invariant_of-self-in-Client c = record {
  limits = c.self.invariant.limits;
  lines = c.self.invariant.lines ++ c.args.text.now ∷ [];
  has = client_done (record { lines = c.self.inside.lines; client = c.self.inside.client; server = c.self.inside.server }) c.args.text.now c.accept.new.self c.in_ok-entry.entry c.accept.new.bytes c.in_ok-entry.ensures.accepted c.in_ok-entry.ensures.noted c.self.invariant.limits c.self.invariant.lines c.self.invariant.has c.in-Bytes.count (c.in-Bytes.is ∙ ap (λ (r : Role). entries.Bytes r c.in-Bytes.count) c.in-Client.is) c.scan_on.new.scan c.note.new.self c.finish.result c.scan_on.ensures c.finish.ensures.verdict c.finish.ensures.reported c.note.ensures.noted c.note.ensures.accepted;
}

pub returns-in-Client-clause-taken : goal.returns-in-Client-clause-taken
returns-in-Client-clause-taken c = λ limits lines has.
    client_done (record { lines = c.self.inside.lines; client = c.self.inside.client; server = c.self.inside.server }) c.args.text.now c.accept.new.self c.in_ok-entry.entry c.accept.new.bytes c.in_ok-entry.ensures.accepted c.in_ok-entry.ensures.noted limits lines (subst (λ (s : Captured). HasAcceptedLines limits s lines) (sym c.self.view_is) has) c.in-Bytes.count (c.in-Bytes.is ∙ ap (λ (r : Role). entries.Bytes r c.in-Bytes.count) c.in-Client.is) c.scan_on.new.scan c.note.new.self c.finish.result c.scan_on.ensures c.finish.ensures.verdict c.finish.ensures.reported c.note.ensures.noted c.note.ensures.accepted

pub returns-in-Client-clause-count : goal.returns-in-Client-clause-count
returns-in-Client-clause-count c =
    counted c.args.self.now c.self.inside.lines c.accept.new.self c.note.new.self (ap (λ (s : Captured). s.lines) c.self.view_is) c.in_ok-entry.ensures.count c.note.ensures.count

pub slice_bounds-scan_on-end-in-Server : goal.slice_bounds-scan_on-end-in-Server
slice_bounds-scan_on-end-in-Server c =
    let few : c.in-Bytes.count ≤ 4096 = subst FitsInLine (c.in-Bytes.is ∙ ap (λ (r : Role). entries.Bytes r c.in-Bytes.count) c.in-Server.is) c.in_ok-entry.ensures.fits in
    sym (length-take-le c.in-Bytes.count c.accept.new.bytes (omega (arith, few)))

pub scan_on-requires-in-Server-clause-begun : goal.scan_on-requires-in-Server-clause-begun
scan_on-requires-in-Server-clause-begun c = running_of Server c.self.invariant.limits c.self.inside.server (sent Server c.self.invariant.has.entries) c.self.invariant.has.server

pub scan_on-requires-in-Server-clause-fits : goal.scan_on-requires-in-Server-clause-fits
scan_on-requires-in-Server-clause-fits c = fits_scan (record { lines = c.self.inside.lines; client = c.self.inside.client; server = c.self.inside.server }) c.args.text.now c.accept.new.self c.in_ok-entry.entry c.accept.new.bytes c.in_ok-entry.ensures.accepted c.in_ok-entry.ensures.noted c.self.invariant.limits c.self.invariant.lines c.self.invariant.has Server c.in-Bytes.count (c.in-Bytes.is ∙ ap (λ (r : Role). entries.Bytes r c.in-Bytes.count) c.in-Server.is) c.self.inside.server c.self.invariant.has.server

pub invariant_of-self-in-Server : goal.invariant_of-self-in-Server
invariant_of-self-in-Server c = record {
  limits = c.self.invariant.limits;
  lines = c.self.invariant.lines ++ c.args.text.now ∷ [];
  has = server_done (record { lines = c.self.inside.lines; client = c.self.inside.client; server = c.self.inside.server }) c.args.text.now c.accept.new.self c.in_ok-entry.entry c.accept.new.bytes c.in_ok-entry.ensures.accepted c.in_ok-entry.ensures.noted c.self.invariant.limits c.self.invariant.lines c.self.invariant.has c.in-Bytes.count (c.in-Bytes.is ∙ ap (λ (r : Role). entries.Bytes r c.in-Bytes.count) c.in-Server.is) c.scan_on-in-Server.new.scan c.note-in-Server.new.self c.finish-in-Server.result c.scan_on-in-Server.ensures c.finish-in-Server.ensures.verdict c.finish-in-Server.ensures.reported c.note-in-Server.ensures.noted c.note-in-Server.ensures.accepted;
}

pub returns-in-Server-clause-taken : goal.returns-in-Server-clause-taken
returns-in-Server-clause-taken c = λ limits lines has.
    server_done (record { lines = c.self.inside.lines; client = c.self.inside.client; server = c.self.inside.server }) c.args.text.now c.accept.new.self c.in_ok-entry.entry c.accept.new.bytes c.in_ok-entry.ensures.accepted c.in_ok-entry.ensures.noted limits lines (subst (λ (s : Captured). HasAcceptedLines limits s lines) (sym c.self.view_is) has) c.in-Bytes.count (c.in-Bytes.is ∙ ap (λ (r : Role). entries.Bytes r c.in-Bytes.count) c.in-Server.is) c.scan_on-in-Server.new.scan c.note-in-Server.new.self c.finish-in-Server.result c.scan_on-in-Server.ensures c.finish-in-Server.ensures.verdict c.finish-in-Server.ensures.reported c.note-in-Server.ensures.noted c.note-in-Server.ensures.accepted

pub returns-in-Server-clause-count : goal.returns-in-Server-clause-count
returns-in-Server-clause-count c =
    counted c.args.self.now c.self.inside.lines c.accept.new.self c.note-in-Server.new.self (ap (λ (s : Captured). s.lines) c.self.view_is) c.in_ok-entry.ensures.count c.note-in-Server.ensures.count

pub invariant_of-self-in-Nothing : goal.invariant_of-self-in-Nothing
invariant_of-self-in-Nothing c = record {
  limits = c.self.invariant.limits;
  lines = c.self.invariant.lines ++ c.args.text.now ∷ [];
  has = nothing_done (record { lines = c.self.inside.lines; client = c.self.inside.client; server = c.self.inside.server }) c.args.text.now c.accept.new.self c.in_ok-entry.entry c.accept.new.bytes c.in_ok-entry.ensures.accepted c.in_ok-entry.ensures.noted c.self.invariant.limits c.self.invariant.lines c.self.invariant.has c.in-Nothing.is;
}

pub returns-in-Nothing : goal.returns-in-Nothing
returns-in-Nothing c = record {
  fault = tt;
  unchanged = tt;
  taken = λ limits lines has. nothing_done (record { lines = c.self.inside.lines; client = c.self.inside.client; server = c.self.inside.server }) c.args.text.now c.accept.new.self c.in_ok-entry.entry c.accept.new.bytes c.in_ok-entry.ensures.accepted c.in_ok-entry.ensures.noted limits lines (subst (λ (s : Captured). HasAcceptedLines limits s lines) (sym c.self.view_is) has) c.in-Nothing.is;
  count = counted c.args.self.now c.self.inside.lines c.accept.new.self c.accept.new.self (ap (λ (s : Captured). s.lines) c.self.view_is) c.in_ok-entry.ensures.count refl;
}
