use Rattle.std.proofs.Common.{[], ◌∷◌, ◌++◌, sym, subst}
use Rattle.wsn_wire.specs.declared.endpoint.Role.{Role}
use Rattle.wsn_wire.specs.declared.endpoint.Role.TheVariants.{Client, Server}
use Rattle.wsn_rules.specs.Entries.{bytes_prefix}
use Rattle.wsn_rules.specs.Entries.Entry.{Bytes}
use Rattle.wsn_rules.specs.Sides.{sent}
use Rattle.wsn_capture.specs.CaptureLines.{HasAccepted, HasNotedCloses}
use Rattle.wsn_print.specs.ShownParts.{EntryPosition}
use Rattle.wsn_capture.proofs.AcceptedLines.{judged_push}
use Rattle.wsn_show.specs.CaptureViews.{IsAcceptedText, CanShow, ShowsText}
use Rattle.wsn_show.proofs.ShownEntries.{Takes, shows_client, shows_server, room_for_client, room_for_server}
use Rattle.wsn_show.proofs.capture_view.CaptureView.show_bytes.Goals as goal

pub take-requires-clause-fits : goal.take-requires-clause-fits
take-requires-clause-fits g c =
    let digits = c.requires.can_show.0 in
    let can = subst (λ (r : Role). CanShow c.args.self.now (bytes_prefix r ++ digits)) c.in-Client.is c.requires.can_show.2 in
    room_for_client c.args.self.now digits c.args.bytes.now can c.requires.can_show.1

pub take-requires-in-Server-clause-fits : goal.take-requires-in-Server-clause-fits
take-requires-in-Server-clause-fits g c =
    let digits = c.requires.can_show.0 in
    let can = subst (λ (r : Role). CanShow c.args.self.now (bytes_prefix r ++ digits)) c.in-Server.is c.requires.can_show.2 in
    room_for_server c.args.self.now digits c.args.bytes.now can c.requires.can_show.1

pub returns-in-Client-clause-shows : goal.returns-in-Client-clause-shows
returns-in-Client-clause-shows g c digits hex limits style given entry viewed accepted =
    let old = c.args.self.now in
    let is = c.in-Client.is in
    let bytes = c.args.bytes.now in
    let here = subst (λ (r : Role). IsAcceptedText limits given (bytes_prefix r ++ digits) entry) is accepted in
    let takes = subst (λ (p : EntryPosition). Takes Client limits style c.take.new.self (sent Client given) bytes p c.args.output.now c.take.new.output) c.origin_of-origin.ensures
    (let printed = c.take.ensures.printed Client limits style (sent Client given) viewed.client in record {
      viewed = c.take.ensures.viewed Client limits style (sent Client given) viewed.client;
      shown = printed.0;
      is_shown = printed.1;
      printed = printed.2;
    }) in
    subst (λ (r : Role). ShowsText limits style old (record old { lines = c.note.new.self; client = c.take.new.self }) given (bytes_prefix r ++ digits) entry c.args.output.now c.take.new.output) (sym is)
    (shows_client limits style given old viewed entry c.args.output.now c.take.new.output c.note.new.self c.take.new.self digits bytes here hex takes)

pub returns-in-Server-clause-shows : goal.returns-in-Server-clause-shows
returns-in-Server-clause-shows g c digits hex limits style given entry viewed accepted =
    let old = c.args.self.now in
    let is = c.in-Server.is in
    let bytes = c.args.bytes.now in
    let here = subst (λ (r : Role). IsAcceptedText limits given (bytes_prefix r ++ digits) entry) is accepted in
    let takes = subst (λ (p : EntryPosition). Takes Server limits style c.take-in-Server.new.self (sent Server given) bytes p c.args.output.now c.take-in-Server.new.output) c.origin_of-origin.ensures
    (let printed = c.take-in-Server.ensures.printed Server limits style (sent Server given) viewed.server in record {
      viewed = c.take-in-Server.ensures.viewed Server limits style (sent Server given) viewed.server;
      shown = printed.0;
      is_shown = printed.1;
      printed = printed.2;
    }) in
    subst (λ (r : Role). ShowsText limits style old (record old { lines = c.note-in-Server.new.self; server = c.take-in-Server.new.self }) given (bytes_prefix r ++ digits) entry c.args.output.now c.take-in-Server.new.output) (sym is)
    (shows_server limits style given old viewed entry c.args.output.now c.take-in-Server.new.output c.note-in-Server.new.self c.take-in-Server.new.self digits bytes here hex takes)

pub returns-in-Client-clause-noted : goal.returns-in-Client-clause-noted
returns-in-Client-clause-noted g c limits style lines given has noted viewed =
    let old = c.args.self.now in
    let bytes = c.args.bytes.now in
    let came = c.take.ensures.viewed Client limits style (sent Client given) viewed.client in
    let judged = judged_push Client limits given bytes c.verdict.result (c.verdict.ensures Client limits style (sent Client given ++ bytes) came) in
    subst (λ (r : Role). HasAccepted limits old.lines (lines ++ c.args.line.now ∷ []) (given ++ Bytes r bytes ∷ []) → HasNotedCloses limits c.note.new.self (given ++ Bytes r bytes ∷ [])) (sym c.in-Client.is)
    (λ accepted. c.note.ensures.noted limits lines given bytes accepted noted judged) has

pub returns-in-Server-clause-noted : goal.returns-in-Server-clause-noted
returns-in-Server-clause-noted g c limits style lines given has noted viewed =
    let old = c.args.self.now in
    let bytes = c.args.bytes.now in
    let came = c.take-in-Server.ensures.viewed Server limits style (sent Server given) viewed.server in
    let judged = judged_push Server limits given bytes c.verdict-in-Server.result (c.verdict-in-Server.ensures Server limits style (sent Server given ++ bytes) came) in
    subst (λ (r : Role). HasAccepted limits old.lines (lines ++ c.args.line.now ∷ []) (given ++ Bytes r bytes ∷ []) → HasNotedCloses limits c.note-in-Server.new.self (given ++ Bytes r bytes ∷ [])) (sym c.in-Server.is)
    (λ accepted. c.note-in-Server.ensures.noted limits lines given bytes accepted noted judged) has
