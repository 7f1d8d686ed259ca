use Rattle.std.proofs.Common.{ℕ, [], length, ap, ◌∙◌, subst, rules}
use Rattle.wsn_io.specs.Transfer.{IsWrittenUpToFailure}
use Rattle.wsn_io.proofs.PutTexts.{prints_nothing, prints_on, prints_no_more, went_out}
use Rattle.wsn_rules.specs.Sides.{sent}
use Rattle.wsn_print.specs.declared.format.Format.{Format}
use Rattle.wsn_shown_text.specs.EntryFormats.{end_entry}
use Rattle.wsn_print.specs.ShownParts.{position_of}
use Rattle.wsn_print.specs.declared.style.Style.{Style}
use Rattle.wsn_show.proofs.ShownEntries.{PutsLeft, marks}
use Rattle.wsn_show.proofs.capture_view.put_end_of.Goals as goal

pub returns-then-not-failed : goal.returns-then-not-failed
returns-then-not-failed g c limits style given viewed =
    let role = c.args.role in
    let position = position_of c.args.origin in
    let left : PutsLeft role limits style (sent role given) position c.args.output.now c.put_left_over.new.output =
    (let printed = c.put_left_over.ensures role limits style (sent role given) viewed in record { left = printed.0; is_left = printed.1; printed = printed.2 c.args.output.now [] (prints_nothing c.args.output.now c.requires.writable) }) in
    let line = subst (λ (f : Format). IsWrittenUpToFailure c.put_left_over.new.output c.put_end_as-stop.new.to (end_entry f role position c.sent-offset.result))
    (ap (λ (s : Style). s.format) (c.style.ensures ∙ viewed.in_style))
    (went_out c.put_left_over.new.output c.put_end_as-stop.new.to _ c.put_end_as-stop.result c.put_end_as-stop.ensures) in
    let end = subst (λ (offset : ℕ). IsWrittenUpToFailure c.put_left_over.new.output c.put_end_as-stop.new.to (end_entry style.format role position offset))
    (c.sent-offset.ensures role limits style (sent role given) viewed) line in
    marks role limits style given position c.args.output.now c.put_end_as-stop.new.to left.left left.is_left
    (prints_on c.args.output.now c.put_left_over.new.output c.put_end_as-stop.new.to _ _ (search rules) left.printed end)

pub returns-else-not-failed : goal.returns-else-not-failed
returns-else-not-failed g c limits style given viewed =
    let role = c.args.role in
    let position = position_of c.args.origin in
    let left : PutsLeft role limits style (sent role given) position c.args.output.now c.put_left_over.new.output =
    (let printed = c.put_left_over.ensures role limits style (sent role given) viewed in record { left = printed.0; is_left = printed.1; printed = printed.2 c.args.output.now [] (prints_nothing c.args.output.now c.requires.writable) }) in
    marks role limits style given position c.args.output.now c.put_left_over.new.output left.left left.is_left
    (prints_no_more c.args.output.now c.put_left_over.new.output _ (end_entry style.format role position (length (sent role given))) (search rules) left.printed)
