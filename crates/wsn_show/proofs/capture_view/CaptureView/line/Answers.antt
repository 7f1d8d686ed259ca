use Rattle.std.proofs.Common.{◌≤◌, ℕ, List, [], ◌∷◌, ◌++◌, length, take, Err, refl, sym, ap, ◌∙◌, subst, rules}
use Rattle.std.proofs.lemmas.Result.{err_from_is_err_and}
use Rattle.wsn_rules.specs.Entries.{GivesEntry}
use Rattle.wsn_rules.specs.Entries.Entry.{Nothing, Bytes, Mark}
use Rattle.wsn_capture.specs.declared.capture_lines.CaptureLines.{CaptureLines}
use Rattle.wsn_capture.specs.declared.line_form.LineEntry.{LineEntry}
use Rattle.wsn_capture.specs.LineEntries.{held_entry, FitsInLine}
use Rattle.wsn_capture.specs.CaptureLines.{HasAccepted, HasNotedCloses, HasNotedUpTo, count_of}
use Rattle.wsn_capture.proofs.AcceptedTexts.{taken_given, if_this}
use Rattle.wsn_show.specs.declared.end_notes.EndNotes.{EndNotes}
use Rattle.wsn_show.specs.EndNotes.{HasNotedEnd, HasNotedTimes}
use Rattle.wsn_show.specs.declared.last_times.LastTimes.{LastTimes}
use Rattle.wsn_show.specs.CaptureViews.{AreViewed, CanShow, IsAcceptedText, ShowsText}
use Rattle.wsn_show.proofs.AcceptedLines.{line_accepted, can_show, line_short, line_shown, counted}
use Rattle.wsn_show.proofs.capture_view.CaptureView.line.Goals as goal

pub returns-in_err-entry-clause-shown : goal.returns-in_err-entry-clause-shown
returns-in_err-entry-clause-shown g c = search rules

pub returns-in_err-entry-clause-fault : goal.returns-in_err-entry-clause-fault
returns-in_err-entry-clause-fault g c =
    let out = err_from_is_err_and c.from_residual.result c.from_residual.ensures.1 in
    if_this _ (out.1 ∙ ap Err out.2) (λ limits style lines entries has. c.in_err-entry.ensures.fault limits lines entries has.accepted)

pub returns-in_err-entry-clause-unchanged : goal.returns-in_err-entry-clause-unchanged
returns-in_err-entry-clause-unchanged g c =
    let out = err_from_is_err_and c.from_residual.result c.from_residual.ensures.1 in
    if_this _ (out.1 ∙ ap Err out.2) (ap (λ (l : CaptureLines). record c.args.self.now { lines = l }) c.in_err-entry.ensures.unchanged, refl)

pub returns-in_err-entry-clause-count : goal.returns-in_err-entry-clause-count
returns-in_err-entry-clause-count g c = search rules

pub show_nothing-requires-clause-writable : goal.show_nothing-requires-clause-writable
show_nothing-requires-clause-writable g c = c.requires.writable

pub show_nothing-requires-clause-nothing : goal.show_nothing-requires-clause-nothing
show_nothing-requires-clause-nothing g c =
    let some = c.requires.showing in
    let accepted = line_accepted some.limits some.style c.args.self.now some.lines some.entries some.has_shown c.accept.new.self c.note.new.self c.note-2.new.self c.args.line.now Nothing (subst (λ (e : LineEntry). HasAccepted some.limits c.accept.new.self (some.lines ++ c.args.line.now ∷ []) (some.entries ++ held_entry e c.accept.new.bytes ∷ [])) c.in-Nothing.is (c.in_ok-entry.ensures.accepted some.limits some.lines some.entries some.has_shown.accepted)) in
    subst (λ (text : List ℕ). GivesEntry text Nothing) (sym c.strip_cr-text.ensures) accepted.gives

pub show_nothing-requires-clause-short : goal.show_nothing-requires-clause-short
show_nothing-requires-clause-short g c =
    let some = c.requires.showing in
    subst (λ (text : List ℕ). length text ≤ 8194) (sym c.strip_cr-text.ensures) (line_short some.limits some.style c.args.self.now some.lines some.entries some.has_shown c.accept.new.self c.note.new.self c.note-2.new.self c.args.line.now Nothing (subst (λ (e : LineEntry). HasAccepted some.limits c.accept.new.self (some.lines ++ c.args.line.now ∷ []) (some.entries ++ held_entry e c.accept.new.bytes ∷ [])) c.in-Nothing.is (c.in_ok-entry.ensures.accepted some.limits some.lines some.entries some.has_shown.accepted)))

pub slice_bounds-show_bytes-end : goal.slice_bounds-show_bytes-end
slice_bounds-show_bytes-end g c =
    let few : c.in-Bytes.count ≤ 4096 = subst FitsInLine c.in-Bytes.is c.in_ok-entry.ensures.fits in
    search rules

pub show_bytes-requires-clause-writable : goal.show_bytes-requires-clause-writable
show_bytes-requires-clause-writable g c = c.requires.writable

pub show_bytes-requires-clause-can_show : goal.show_bytes-requires-clause-can_show
show_bytes-requires-clause-can_show g c =
    let some = c.requires.showing in
    let taken = (subst (λ (e : LineEntry). HasAccepted some.limits c.accept.new.self (some.lines ++ c.args.line.now ∷ []) (some.entries ++ held_entry e c.accept.new.bytes ∷ [])) c.in-Bytes.is (c.in_ok-entry.ensures.accepted some.limits some.lines some.entries some.has_shown.accepted)) in
    let accepted = line_accepted some.limits some.style c.args.self.now some.lines some.entries some.has_shown c.accept.new.self c.note.new.self c.note-2.new.self c.args.line.now (Bytes c.in-Bytes.role (take c.in-Bytes.count c.accept.new.bytes)) taken in
    (accepted.gives.0, accepted.gives.2, subst (CanShow (record c.args.self.now { lines = c.accept.new.self; ends = c.note.new.self; last_times = c.note-2.new.self })) accepted.gives.1 (can_show some.limits some.style c.args.self.now some.lines some.entries some.has_shown c.accept.new.self c.note.new.self c.note-2.new.self c.args.line.now (Bytes c.in-Bytes.role (take c.in-Bytes.count c.accept.new.bytes)) taken))

pub show_mark-requires : goal.show_mark-requires
show_mark-requires g c = search rules

pub returns-in-Nothing-clause-shown : goal.returns-in-Nothing-clause-shown
returns-in-Nothing-clause-shown g c limits style lines entries has =
    let taken = (subst (λ (e : LineEntry). HasAccepted limits c.accept.new.self (lines ++ c.args.line.now ∷ []) (entries ++ held_entry e c.accept.new.bytes ∷ [])) c.in-Nothing.is (c.in_ok-entry.ensures.accepted limits lines entries has.accepted)) in
    let viewed : AreViewed limits style (record c.args.self.now { lines = c.accept.new.self; ends = c.note.new.self; last_times = c.note-2.new.self }) entries = record { client = has.viewed.client; server = has.viewed.server } in
    let noted = subst (λ (e : LineEntry). HasNotedUpTo limits c.accept.new.self entries (held_entry e c.accept.new.bytes)) c.in-Nothing.is (c.in_ok-entry.ensures.noted limits entries has.noted) in
    let accepted = subst (λ (text : List ℕ). IsAcceptedText limits entries text Nothing) (sym c.strip_cr-text.ensures) (line_accepted limits style c.args.self.now lines entries has c.accept.new.self c.note.new.self c.note-2.new.self c.args.line.now Nothing taken) in
    let shows = subst (λ (text : List ℕ). ShowsText limits style (record c.args.self.now { lines = c.accept.new.self; ends = c.note.new.self; last_times = c.note-2.new.self }) c.show_nothing.new.self entries text Nothing c.args.output.now c.show_nothing.new.output) c.strip_cr-text.ensures
    (c.show_nothing.ensures.shows limits style entries Nothing viewed accepted) in
    let times = subst (λ (t : LastTimes). HasNotedTimes t (lines ++ c.args.line.now ∷ []) (entries ++ (Nothing) ∷ [])) (sym c.show_nothing.ensures.times)
    (subst (λ (e : LineEntry). HasNotedTimes c.note-2.new.self (lines ++ c.args.line.now ∷ []) (entries ++ held_entry e c.accept.new.bytes ∷ [])) c.in-Nothing.is
    (c.note-2.ensures lines entries c.args.line.now c.accept.new.bytes has.times (taken_given limits [] lines entries has.accepted.taken) has.time
    (line_accepted limits style c.args.self.now lines entries has c.accept.new.self c.note.new.self c.note-2.new.self c.args.line.now _ (c.in_ok-entry.ensures.accepted limits lines entries has.accepted)).gives)) in
    let ended = subst (λ (e : EndNotes). HasNotedEnd e (lines ++ c.args.line.now ∷ []) (entries ++ (Nothing) ∷ [])) (sym c.show_nothing.ensures.ends)
    (subst (λ (e : LineEntry). HasNotedEnd c.note.new.self (lines ++ c.args.line.now ∷ []) (entries ++ held_entry e c.accept.new.bytes ∷ [])) c.in-Nothing.is
    (c.note.ensures lines entries c.args.line.now c.accept.new.bytes has.ends c.strip_cr-text.ensures)) in
    line_shown limits style c.args.self.now lines entries has c.accept.new.self c.note.new.self c.note-2.new.self c.args.line.now Nothing taken c.show_nothing.new.self c.args.output.now c.show_nothing.new.output
    (subst (λ (l : CaptureLines). HasAccepted limits l (lines ++ c.args.line.now ∷ []) (entries ++ Nothing ∷ [])) (sym c.show_nothing.ensures.lines) taken)
    (subst (λ (l : CaptureLines). HasNotedCloses limits l (entries ++ Nothing ∷ [])) (sym c.show_nothing.ensures.lines) noted) ended times shows

pub returns-in-Nothing-clause-count : goal.returns-in-Nothing-clause-count
returns-in-Nothing-clause-count g c = counted c.args.self.now.lines c.accept.new.self c.show_nothing.new.self.lines c.in_ok-entry.ensures.count (ap count_of c.show_nothing.ensures.lines)

pub returns-in-Bytes-clause-shown : goal.returns-in-Bytes-clause-shown
returns-in-Bytes-clause-shown g c limits style lines entries has =
    let entry = (Bytes c.in-Bytes.role (take c.in-Bytes.count c.accept.new.bytes)) in
    let taken = (subst (λ (e : LineEntry). HasAccepted limits c.accept.new.self (lines ++ c.args.line.now ∷ []) (entries ++ held_entry e c.accept.new.bytes ∷ [])) c.in-Bytes.is (c.in_ok-entry.ensures.accepted limits lines entries has.accepted)) in
    let viewed : AreViewed limits style (record c.args.self.now { lines = c.accept.new.self; ends = c.note.new.self; last_times = c.note-2.new.self }) entries = record { client = has.viewed.client; server = has.viewed.server } in
    let noted = subst (λ (e : LineEntry). HasNotedUpTo limits c.accept.new.self entries (held_entry e c.accept.new.bytes)) c.in-Bytes.is (c.in_ok-entry.ensures.noted limits entries has.noted) in
    let accepted = line_accepted limits style c.args.self.now lines entries has c.accept.new.self c.note.new.self c.note-2.new.self c.args.line.now (Bytes c.in-Bytes.role (take c.in-Bytes.count c.accept.new.bytes)) taken in
    let here = subst (λ (text : List ℕ). IsAcceptedText limits entries text entry) accepted.gives.1 accepted in
    let shows = subst (λ (text : List ℕ). ShowsText limits style (record c.args.self.now { lines = c.accept.new.self; ends = c.note.new.self; last_times = c.note-2.new.self }) c.show_bytes.new.self entries text entry c.args.output.now c.show_bytes.new.output) (sym accepted.gives.1)
    (c.show_bytes.ensures.shows accepted.gives.0 accepted.gives.2 limits style entries entry viewed here) in
    let times = subst (λ (t : LastTimes). HasNotedTimes t (lines ++ c.args.line.now ∷ []) (entries ++ (entry) ∷ [])) (sym c.show_bytes.ensures.times)
    (subst (λ (e : LineEntry). HasNotedTimes c.note-2.new.self (lines ++ c.args.line.now ∷ []) (entries ++ held_entry e c.accept.new.bytes ∷ [])) c.in-Bytes.is
    (c.note-2.ensures lines entries c.args.line.now c.accept.new.bytes has.times (taken_given limits [] lines entries has.accepted.taken) has.time
    (line_accepted limits style c.args.self.now lines entries has c.accept.new.self c.note.new.self c.note-2.new.self c.args.line.now _ (c.in_ok-entry.ensures.accepted limits lines entries has.accepted)).gives)) in
    let ended = subst (λ (e : EndNotes). HasNotedEnd e (lines ++ c.args.line.now ∷ []) (entries ++ (entry) ∷ [])) (sym c.show_bytes.ensures.ends)
    (subst (λ (e : LineEntry). HasNotedEnd c.note.new.self (lines ++ c.args.line.now ∷ []) (entries ++ held_entry e c.accept.new.bytes ∷ [])) c.in-Bytes.is
    (c.note.ensures lines entries c.args.line.now c.accept.new.bytes has.ends c.strip_cr-text.ensures)) in
    line_shown limits style c.args.self.now lines entries has c.accept.new.self c.note.new.self c.note-2.new.self c.args.line.now (Bytes c.in-Bytes.role (take c.in-Bytes.count c.accept.new.bytes)) taken c.show_bytes.new.self c.args.output.now c.show_bytes.new.output
    (c.show_bytes.ensures.accepted limits (lines ++ c.args.line.now ∷ []) (entries ++ entry ∷ []) taken)
    (c.show_bytes.ensures.noted limits style lines entries taken noted viewed) ended times shows

pub returns-in-Bytes-clause-count : goal.returns-in-Bytes-clause-count
returns-in-Bytes-clause-count g c = counted c.args.self.now.lines c.accept.new.self c.show_bytes.new.self.lines c.in_ok-entry.ensures.count c.show_bytes.ensures.count

pub returns-in-Mark-clause-shown : goal.returns-in-Mark-clause-shown
returns-in-Mark-clause-shown g c limits style lines entries has =
    let taken = (subst (λ (e : LineEntry). HasAccepted limits c.accept.new.self (lines ++ c.args.line.now ∷ []) (entries ++ held_entry e c.accept.new.bytes ∷ [])) c.in-Mark.is (c.in_ok-entry.ensures.accepted limits lines entries has.accepted)) in
    let viewed : AreViewed limits style (record c.args.self.now { lines = c.accept.new.self; ends = c.note.new.self; last_times = c.note-2.new.self }) entries = record { client = has.viewed.client; server = has.viewed.server } in
    let noted = subst (λ (e : LineEntry). HasNotedUpTo limits c.accept.new.self entries (held_entry e c.accept.new.bytes)) c.in-Mark.is (c.in_ok-entry.ensures.noted limits entries has.noted) in
    let accepted = line_accepted limits style c.args.self.now lines entries has c.accept.new.self c.note.new.self c.note-2.new.self c.args.line.now (Mark c.in-Mark.role) taken in
    let here = subst (λ (text : List ℕ). IsAcceptedText limits entries text (Mark c.in-Mark.role)) accepted.gives accepted in
    let shows = subst (λ (text : List ℕ). ShowsText limits style (record c.args.self.now { lines = c.accept.new.self; ends = c.note.new.self; last_times = c.note-2.new.self }) c.show_mark.new.self entries text (Mark c.in-Mark.role) c.args.output.now c.show_mark.new.output) (sym accepted.gives)
    (c.show_mark.ensures.shows limits style entries (Mark c.in-Mark.role) viewed here) in
    let times = subst (λ (t : LastTimes). HasNotedTimes t (lines ++ c.args.line.now ∷ []) (entries ++ (Mark c.in-Mark.role) ∷ [])) (sym c.show_mark.ensures.times)
    (subst (λ (e : LineEntry). HasNotedTimes c.note-2.new.self (lines ++ c.args.line.now ∷ []) (entries ++ held_entry e c.accept.new.bytes ∷ [])) c.in-Mark.is
    (c.note-2.ensures lines entries c.args.line.now c.accept.new.bytes has.times (taken_given limits [] lines entries has.accepted.taken) has.time
    (line_accepted limits style c.args.self.now lines entries has c.accept.new.self c.note.new.self c.note-2.new.self c.args.line.now _ (c.in_ok-entry.ensures.accepted limits lines entries has.accepted)).gives)) in
    let ended = subst (λ (e : EndNotes). HasNotedEnd e (lines ++ c.args.line.now ∷ []) (entries ++ (Mark c.in-Mark.role) ∷ [])) (sym c.show_mark.ensures.ends)
    (subst (λ (e : LineEntry). HasNotedEnd c.note.new.self (lines ++ c.args.line.now ∷ []) (entries ++ held_entry e c.accept.new.bytes ∷ [])) c.in-Mark.is
    (c.note.ensures lines entries c.args.line.now c.accept.new.bytes has.ends c.strip_cr-text.ensures)) in
    line_shown limits style c.args.self.now lines entries has c.accept.new.self c.note.new.self c.note-2.new.self c.args.line.now (Mark c.in-Mark.role) taken c.show_mark.new.self c.args.output.now c.show_mark.new.output
    (subst (λ (l : CaptureLines). HasAccepted limits l (lines ++ c.args.line.now ∷ []) (entries ++ (Mark c.in-Mark.role) ∷ [])) (sym c.show_mark.ensures.lines) taken)
    (subst (λ (l : CaptureLines). HasNotedCloses limits l (entries ++ (Mark c.in-Mark.role) ∷ [])) (sym c.show_mark.ensures.lines) noted) ended times shows

pub returns-in-Mark-clause-count : goal.returns-in-Mark-clause-count
returns-in-Mark-clause-count g c = counted c.args.self.now.lines c.accept.new.self c.show_mark.new.self.lines c.in_ok-entry.ensures.count (ap count_of c.show_mark.ensures.lines)
