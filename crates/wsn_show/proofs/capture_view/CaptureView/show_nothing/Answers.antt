use Rattle.std.proofs.Common.{ℕ, Option, List, sym, ap, subst, ◌∙◌}
use Rattle.wsn_io.specs.Transfer.{IsWrittenUpToFailure}
use Rattle.wsn_print.specs.declared.format.Format.{Format}
use Rattle.wsn_shown_text.specs.EntryFormats.{comment_entry}
use Rattle.wsn_capture.specs.CaptureLines.{count_of}
use Rattle.wsn_print.specs.declared.style.Style.{Style}
use Rattle.wsn_io.proofs.PutTexts.{prints_nothing, went_out}
use Rattle.wsn_capture.proofs.SplitLines.{empty_is, not_empty}
use Rattle.wsn_show.specs.CaptureViews.{ShowsText}
use Rattle.wsn_show.proofs.ShownEntries.{shows_empty, shows_time, shows_comment}
use Rattle.wsn_show.proofs.capture_view.CaptureView.show_nothing.Goals as goal

pub returns-then-is_empty-clause-shows : goal.returns-then-is_empty-clause-shows
returns-then-is_empty-clause-shows g c limits style given entry viewed accepted =
    shows_empty limits style given c.args.self.now viewed entry c.args.output.now c.args.output.now c.args.text.now accepted (empty_is c.args.text.now (sym c.is_empty.ensures ∙ c.if-is_empty.true)) c.requires.nothing
    (prints_nothing c.args.output.now c.requires.writable)

pub returns-then-take-clause-shows : goal.returns-then-take-clause-shows
returns-then-take-clause-shows g c limits style given entry viewed accepted =
    let time = c.take.ensures.given c.if-take.true in
    shows_time limits style given c.args.self.now viewed entry c.args.output.now c.args.output.now c.args.text.now time.0 c.take.new.self accepted c.requires.nothing
    time.1 time.2 (prints_nothing c.args.output.now c.requires.writable)

pub returns-clause-shows : goal.returns-clause-shows
returns-clause-shows g c limits style given entry viewed accepted =
    let none = c.take.ensures.none c.if-take.false in
    let old = c.args.self.now in
    subst (λ (t : Option (List ℕ)). ShowsText limits style old (record old { time = t }) given c.args.text.now entry c.args.output.now c.put_comment_as-stop.new.to) (sym none.1)
    (shows_comment limits style given old viewed entry c.args.output.now c.put_comment_as-stop.new.to c.args.text.now accepted (not_empty c.args.text.now (sym c.is_empty.ensures ∙ c.if-is_empty.false)) c.requires.nothing none.0
    (subst (λ (f : Format). IsWrittenUpToFailure c.args.output.now c.put_comment_as-stop.new.to (comment_entry f (count_of old.lines) c.args.text.now))
    (ap (λ (s : Style). s.format) (c.style-format.ensures ∙ viewed.client.in_style))
    (subst (λ (n : ℕ). IsWrittenUpToFailure c.args.output.now c.put_comment_as-stop.new.to (comment_entry c.style-format.result.format n c.args.text.now)) c.count-number.ensures
    (went_out c.args.output.now c.put_comment_as-stop.new.to _ c.put_comment_as-stop.result c.put_comment_as-stop.ensures))))
