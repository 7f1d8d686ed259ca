use Rattle.std.proofs.Common.{ap, ◌∙◌}
use Rattle.std.specs.Option.{option_or}
use Rattle.wsn_capture.specs.LineEntries.{held_entry}
use Rattle.wsn_show.proofs.EndNotes.{noted_end}
use Rattle.wsn_show.proofs.end_notes.EndNotes.note.Goals as goal

pub returns : goal.returns
returns c lines entries line held has is =
    noted_end lines entries c.args.self.now has line (held_entry c.args.entry held) c.args.text.now _ is
    (c.or-self.ensures ∙ ap (option_or c.args.self.now.first) (c.mark_of.ensures held)) c.is_noted-self.ensures c.is_noted-self-2.ensures
