use Rattle.std.proofs.Common.{◌≡◌, sym, ap, ◌∙◌}
use Rattle.wsn_rules.specs.declared.verdict.Verdict.TheVariants.{Accepted, Cut, Refused}
use Rattle.wsn_capture.specs.declared.capture_lines.SentBytes.{SentBytes}
use Rattle.wsn_capture.proofs.AcceptedLines.{noted_from, none_noted}
use Rattle.wsn_capture.proofs.capture_lines.SentBytes.note.Goals as goal

pub returns-in-Refused : goal.returns-in-Refused
returns-in-Refused c = record {
  same = (
    ap (λ (s : SentBytes). s.input) c.note_refusal.ensures.same ∙ ap (λ (s : SentBytes). s.input) c.note_close.ensures,
    ap (λ (s : SentBytes). s.room) c.note_refusal.ensures.same ∙ ap (λ (s : SentBytes). s.room) c.note_close.ensures,
  );
  close = λ role limits came judged. (
    c.has_close.result,
    c.has_close.ensures role limits came judged,
    ap (λ (s : SentBytes). s.close_line) c.note_refusal.ensures.same ∙ ap (λ (s : SentBytes). s.close_line) c.note_close.ensures,
  );
  refused = noted_from c.args.self.now c.note_close.new.self c.args.line.now c.args.verdict.now c.in-Refused.refusal c.note_refusal.new.self.refused c.in-Refused.is
      (ap (λ (s : SentBytes). s.input) c.note_close.ensures) (ap (λ (s : SentBytes). s.room) c.note_close.ensures) (ap (λ (s : SentBytes). s.refused) c.note_close.ensures) c.note_refusal.ensures.noted;
}

pub returns-in-Accepted : goal.returns-in-Accepted
returns-in-Accepted c = record {
  same = (ap (λ (s : SentBytes). s.input) c.note_close.ensures, ap (λ (s : SentBytes). s.room) c.note_close.ensures);
  close = λ role limits came judged. (c.has_close.result, c.has_close.ensures role limits came judged, ap (λ (s : SentBytes). s.close_line) c.note_close.ensures);
  refused = none_noted c.args.self.now c.args.line.now c.args.verdict.now c.note_close.new.self.refused (ap (λ (s : SentBytes). s.refused) c.note_close.ensures)
      (λ refusal is. let both : Refused refusal ≡ Accepted c.in-Accepted.field-0 = sym is ∙ c.in-Accepted.is in cc both);
}

pub returns-in-Cut : goal.returns-in-Cut
returns-in-Cut c = record {
  same = (ap (λ (s : SentBytes). s.input) c.note_close.ensures, ap (λ (s : SentBytes). s.room) c.note_close.ensures);
  close = λ role limits came judged. (c.has_close.result, c.has_close.ensures role limits came judged, ap (λ (s : SentBytes). s.close_line) c.note_close.ensures);
  refused = none_noted c.args.self.now c.args.line.now c.args.verdict.now c.note_close.new.self.refused (ap (λ (s : SentBytes). s.refused) c.note_close.ensures)
      (λ refusal is. let both : Refused refusal ≡ Cut c.in-Cut.field-0 = sym is ∙ c.in-Cut.is in cc both);
}
