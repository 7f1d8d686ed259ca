use Rattle.std.proofs.Common.{refl, sym, subst}
use Rattle.wsn_wire.specs.declared.endpoint.Role.{Role}
use Rattle.wsn_wire.specs.declared.endpoint.Role.TheVariants.{Client, Server}
use Rattle.wsn_rules.specs.Sides.{sent}
use Rattle.wsn_print.specs.ShownParts.{EntryPosition}
use Rattle.wsn_show.specs.ShownSoFar.{HasViewed}
use Rattle.wsn_show.specs.CaptureViews.{IsAcceptedText, line_position, ShowsText, ShowsMark}
use Rattle.wsn_show.proofs.ShownEntries.{shows_mark}
use Rattle.wsn_rules.specs.Entries.{end_mark}
use Rattle.wsn_show.proofs.capture_view.CaptureView.show_mark.Goals as goal

pub returns-in-Client-clause-shows : goal.returns-in-Client-clause-shows
returns-in-Client-clause-shows g c limits style given entry viewed accepted =
    let old = c.args.self.now in
    let is = c.in-Client.is in
    let here = subst (λ (r : Role). IsAcceptedText limits given (end_mark r) entry) is accepted in
    let marks = subst (λ (r : Role). ShowsMark r limits style given (line_position old) c.args.output.now c.put_end_of.new.output) is
    (subst (λ (p : EntryPosition). ShowsMark c.args.role limits style given p c.args.output.now c.put_end_of.new.output) c.origin_of-origin.ensures
    (c.put_end_of.ensures limits style given (subst (λ (r : Role). HasViewed r limits style old.client (sent r given)) (sym is) viewed.client))) in
    subst (λ (r : Role). ShowsText limits style old old given (end_mark r) entry c.args.output.now c.put_end_of.new.output) (sym is)
    (shows_mark limits style given old viewed entry c.args.output.now c.put_end_of.new.output Client here refl refl marks)

pub returns-in-Server-clause-shows : goal.returns-in-Server-clause-shows
returns-in-Server-clause-shows g c limits style given entry viewed accepted =
    let old = c.args.self.now in
    let is = c.in-Server.is in
    let here = subst (λ (r : Role). IsAcceptedText limits given (end_mark r) entry) is accepted in
    let marks = subst (λ (r : Role). ShowsMark r limits style given (line_position old) c.args.output.now c.put_end_of-in-Server.new.output) is
    (subst (λ (p : EntryPosition). ShowsMark c.args.role limits style given p c.args.output.now c.put_end_of-in-Server.new.output) c.origin_of-origin.ensures
    (c.put_end_of-in-Server.ensures limits style given (subst (λ (r : Role). HasViewed r limits style old.server (sent r given)) (sym is) viewed.server))) in
    subst (λ (r : Role). ShowsText limits style old old given (end_mark r) entry c.args.output.now c.put_end_of-in-Server.new.output) (sym is)
    (shows_mark limits style given old viewed entry c.args.output.now c.put_end_of-in-Server.new.output Server here refl refl marks)
