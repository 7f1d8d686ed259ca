use Rattle.std.proofs.Common.{◌≡◌, ℕ, [], ◌∷◌, refl, sym, ◌∙◌, subst}
use Rattle.wsn_io.specs.Stops.{IsWrittenOrStops}
use Rattle.wsn_print.specs.declared.format.Format.{Format}
use Rattle.wsn_print.specs.ShownParts.{position_of}
use Rattle.wsn_shown_text.specs.EntryFormats.{item_entry}
use Rattle.wsn_shown_text.specs.ShownItems.{IsItem}
use Rattle.wsn_show.specs.Styles.{item_view}
use Rattle.wsn_show.proofs.ItemViews.{view_is}
use Rattle.wsn_show.proofs.PrintedItems.{prints_line, prints_none}
use Rattle.wsn_show.proofs.shown_item.put_item.Goals as goal

pub returns-then-failed : goal.returns-then-failed
returns-then-failed g c shown is = prints_none c.args.context.now c.args.output.now (shown ∷ []) (sym c.failed.ensures ∙ c.if-failed.true)

pub put_entry-stop-requires : goal.put_entry-stop-requires
put_entry-stop-requires g c = sym c.failed.ensures ∙ c.if-failed.false

pub put_entry-stop-requires-in-People : goal.put_entry-stop-requires-in-People
put_entry-stop-requires-in-People g c = sym c.failed.ensures ∙ c.if-failed.false

pub put_entry-stop-requires-in-Json : goal.put_entry-stop-requires-in-Json
put_entry-stop-requires-in-Json g c = sym c.failed.ensures ∙ c.if-failed.false

pub returns-in-Text : goal.returns-in-Text
returns-in-Text g c shown is =
    let context = c.args.context.now in
    let new = c.put_entry-stop.new.to in
    let result = c.put_entry-stop.result in
    let n = context.style.view in
    let view = c.view_of_item-view.result in
    let own : item_view n shown ≡ view = view_is n (item_view n shown) c.args.offset c.args.item.now shown is ∙ sym c.view_of_item-view.ensures in
    prints_line context c.args.output.now new shown shown result refl (sym c.failed.ensures ∙ c.if-failed.false)
    (subst (λ (m : ℕ). IsWrittenOrStops c.args.output.now new (item_entry context.style.format m context.role (position_of context.origin) shown) result) (sym own)
    (subst (λ (f : Format). IsWrittenOrStops c.args.output.now new (item_entry f view context.role (position_of context.origin) shown) result) (sym c.in-Text.is)
    (c.put_entry-stop.ensures shown (subst (λ (m : ℕ). IsItem m c.args.offset c.args.item.now shown) own is))))

pub returns-in-People : goal.returns-in-People
returns-in-People g c shown is =
    let context = c.args.context.now in
    let new = c.put_entry-stop-in-People.new.to in
    let result = c.put_entry-stop-in-People.result in
    let n = context.style.view in
    let view = c.view_of_item-view.result in
    let own : item_view n shown ≡ view = view_is n (item_view n shown) c.args.offset c.args.item.now shown is ∙ sym c.view_of_item-view.ensures in
    prints_line context c.args.output.now new shown shown result refl (sym c.failed.ensures ∙ c.if-failed.false)
    (subst (λ (m : ℕ). IsWrittenOrStops c.args.output.now new (item_entry context.style.format m context.role (position_of context.origin) shown) result) (sym own)
    (subst (λ (f : Format). IsWrittenOrStops c.args.output.now new (item_entry f view context.role (position_of context.origin) shown) result) (sym c.in-People.is)
    (c.put_entry-stop-in-People.ensures shown (subst (λ (m : ℕ). IsItem m c.args.offset c.args.item.now shown) own is))))

pub returns-in-Json : goal.returns-in-Json
returns-in-Json g c shown is =
    let context = c.args.context.now in
    let new = c.put_entry-stop-in-Json.new.to in
    let result = c.put_entry-stop-in-Json.result in
    let n = context.style.view in
    let view = c.view_of_item-view.result in
    let own : item_view n shown ≡ view = view_is n (item_view n shown) c.args.offset c.args.item.now shown is ∙ sym c.view_of_item-view.ensures in
    prints_line context c.args.output.now new shown shown result refl (sym c.failed.ensures ∙ c.if-failed.false)
    (subst (λ (m : ℕ). IsWrittenOrStops c.args.output.now new (item_entry context.style.format m context.role (position_of context.origin) shown) result) (sym own)
    (subst (λ (f : Format). IsWrittenOrStops c.args.output.now new (item_entry f view context.role (position_of context.origin) shown) result) (sym c.in-Json.is)
    (c.put_entry-stop-in-Json.ensures shown (subst (λ (m : ℕ). IsItem m c.args.offset c.args.item.now shown) own is))))
