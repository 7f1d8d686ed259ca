use Rattle.std.proofs.Common.{◌≡◌, ◌+◌, length, Err, sym, ap, ◌∙◌, subst, arith, rules}
use Rattle.std.proofs.lemmas.Result.{err_from_is_err_and}
use Rattle.wsn_wire.specs.declared.endpoint.Role.{Role}
use Rattle.wsn_rules.specs.Sides.{bytes_in}
use Rattle.wsn_capture.specs.declared.lines_before.LinesBefore.{LinesBefore}
use Rattle.wsn_capture.specs.declared.capture_lines.CaptureLines.{CaptureLines}
use Rattle.wsn_capture.specs.LineFaults.{IsFaultAfter}
use Rattle.wsn_capture.specs.LineEntries.{held_entry}
use Rattle.wsn_capture.specs.SideTexts.{with_entry}
use Rattle.wsn_capture.specs.CaptureLines.{sent_by}
use Rattle.wsn_capture.proofs.AcceptedTexts.{if_this}
use Rattle.wsn_capture.proofs.AcceptedLines.{faulty_line, exceeds_given, accepted_push, fits_given, less_before, room_by, closes_by, inputs_by, refused_by, noted_same, noted_up_to}
use Rattle.wsn_capture.proofs.capture_lines.CaptureLines.accept.Goals as goal

pub returns-in_err-entry : goal.returns-in_err-entry
returns-in_err-entry c = record {
  accepted = search rules;
  fits = search rules;
  noted = search rules;
  fault = let out = err_from_is_err_and c.from_residual.result c.from_residual.ensures.1 in
      let is : c.from_residual.result ≡ Err c.in_err-entry.field-0.0 = out.1 ∙ ap Err out.2 in
      if_this _ is (λ limits lines given has. faulty_line limits c.args.self.now lines given has c.args.line.now c.in_err-entry.field-0.0 c.in_err-entry.ensures.entry);
  unchanged = search rules;
  count = search rules;
}

pub returns-in_err-take_room : goal.returns-in_err-take_room
returns-in_err-take_room c = record {
  accepted = search rules;
  fits = search rules;
  noted = search rules;
  fault = let out = err_from_is_err_and c.from_residual-in_err-take_room.result c.from_residual-in_err-take_room.ensures.1 in
      let over = c.in_err-take_room.ensures.over in
      if_this _ (out.1 ∙ ap Err out.2) (λ limits lines given has. subst (IsFaultAfter limits lines c.args.line.now) (sym over.0)
      (exceeds_given limits c.args.self.now lines given c.args.line.now c.in_ok-entry.entry c.entry.new.bytes has c.in_ok-entry.ensures.entry.0 (omega arith) c.in_ok-entry.ensures.entry.1 over.1));
  unchanged = search rules;
  count = search rules;
}

pub add-requires : goal.add-requires
add-requires c = search rules

pub returns : goal.returns
returns c = record {
  accepted = λ limits lines given has.
      let old = c.args.self.now in
      let entry = c.in_ok-entry.entry in
      let held = c.entry.new.bytes in
      let read = c.in_ok-entry.ensures.entry in
      let taken = c.in_ok-take_room.ensures.taken in
      let fits = c.in_ok-take_room.ensures.fits in
      let same = ap (λ (l : CaptureLines). l.before) taken ∙ less_before entry old in
      let room : (role : Role) → (sent_by role (record c.take_room.new.self { before = c.add.new.self })).room + length (bytes_in role (held_entry entry held)) ≡ (sent_by role old).room =
      λ role. room_by limits old entry c.take_room.new.self c.add.new.self held taken fits read.0 (omega arith) role in
      accepted_push limits old lines given has c.args.line.now (record c.take_room.new.self { before = c.add.new.self }) (held_entry entry held) read.1
      (c.add.ensures held ∙ ap (λ (b : LinesBefore). with_entry b (held_entry entry held)) same) (inputs_by old entry c.take_room.new.self c.add.new.self taken) room (fits_given limits old lines given c.args.line.now entry held has fits);
  fits = search rules;
  noted = λ limits given noted.
      noted_up_to limits (record c.take_room.new.self { before = c.add.new.self }) given c.in_ok-entry.entry c.entry.new.bytes
      (noted_same limits c.args.self.now (record c.take_room.new.self { before = c.add.new.self }) given
      (closes_by c.args.self.now c.in_ok-entry.entry c.take_room.new.self c.add.new.self c.in_ok-take_room.ensures.taken)
      (refused_by c.args.self.now c.in_ok-entry.entry c.take_room.new.self c.add.new.self c.in_ok-take_room.ensures.taken) noted);
  count = search rules;
  fault = search rules;
  unchanged = search rules;
}
