use Rattle.std.proofs.Common.{sym, subst}
use Rattle.wsn_io.specs.Stops.{IsWrittenOrStops}
use Rattle.wsn_print.specs.declared.format.Format.{Format}
use Rattle.wsn_print.specs.ShownParts.{position_of}
use Rattle.wsn_shown_text.specs.EntryFormats.{end_entry}
use Rattle.wsn_shown_text.proofs.entry_formats.put_end_as.Goals as goal

pub returns-in-Text : goal.returns-in-Text
returns-in-Text g c =
    let front = c.args.front.now in
    subst (λ (f : Format). IsWrittenOrStops c.args.to.now c.put_end_in.new.to (end_entry f front.role (position_of front.origin) front.offset) c.put_end_in.result) (sym c.in-Text.is) c.put_end_in.ensures

pub returns-in-People : goal.returns-in-People
returns-in-People g c =
    let front = c.args.front.now in
    subst (λ (f : Format). IsWrittenOrStops c.args.to.now c.put_people_end_mark.new.to (end_entry f front.role (position_of front.origin) front.offset) c.put_people_end_mark.result) (sym c.in-People.is) c.put_people_end_mark.ensures

pub returns-in-Json : goal.returns-in-Json
returns-in-Json g c =
    let front = c.args.front.now in
    subst (λ (f : Format). IsWrittenOrStops c.args.to.now c.put_end_in-in-Json.new.to (end_entry f front.role (position_of front.origin) front.offset) c.put_end_in-in-Json.result) (sym c.in-Json.is) c.put_end_in-in-Json.ensures
