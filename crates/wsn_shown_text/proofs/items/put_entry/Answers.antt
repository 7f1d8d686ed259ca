use Rattle.std.proofs.Common.{sym, subst}
use Rattle.wsn_io.specs.Stops.{IsWrittenOrStops}
use Rattle.wsn_print.specs.declared.format.Format.{Format}
use Rattle.wsn_print.specs.ShownParts.{position_of}
use Rattle.wsn_shown_text.specs.EntryFormats.{item_entry}
use Rattle.wsn_shown_text.proofs.items.put_entry.Goals as goal

pub returns-in-Text : goal.returns-in-Text
returns-in-Text g c = λ shown is.
    let front = c.args.front.now in
    subst (λ (f : Format). IsWrittenOrStops c.args.to.now c.put_words.new.to (item_entry f c.args.view front.role (position_of front.origin) shown) c.put_words.result) (sym c.in-Text.is) (c.put_words.ensures shown is)

pub returns-in-People : goal.returns-in-People
returns-in-People g c = λ shown is.
    let front = c.args.front.now in
    subst (λ (f : Format). IsWrittenOrStops c.args.to.now c.put_people.new.to (item_entry f c.args.view front.role (position_of front.origin) shown) c.put_people.result) (sym c.in-People.is) (c.put_people.ensures shown is)

pub returns-in-Json : goal.returns-in-Json
returns-in-Json g c = λ shown is.
    let front = c.args.front.now in
    subst (λ (f : Format). IsWrittenOrStops c.args.to.now c.put_item_in.new.to (item_entry f c.args.view front.role (position_of front.origin) shown) c.put_item_in.result) (sym c.in-Json.is) (c.put_item_in.ensures shown is)
