-- The views of items that are held.
use Rattle.std.proofs.Common.{◌≡◌, ℕ, min, List, refl, ap, ◌∙◌}
use Rattle.wsn_rules.specs.ShownStream.{Item}
use Rattle.wsn_print.specs.declared.shown.Remainder.{Remainder}
use Rattle.wsn_print.specs.declared.shown.Remainder.TheVariants as remainders
use Rattle.wsn_print.specs.ShownParts.{item_of_remainder}
use Rattle.wsn_shown_text.specs.declared.items.ShownItem.{ShownItem}
use Rattle.wsn_shown_text.specs.declared.items.ShownItem.TheVariants as shown
use Rattle.wsn_shown_text.specs.ShownItems.{IsItem}
use Rattle.wsn_show.specs.Styles.{item_view}
use Rattle.wsn_show.specs.ShownItems.{held_view}

pub remainder_view : (m : ℕ) (which : Remainder) (offset : ℕ) (bytes : List ℕ) → item_view m (item_of_remainder which offset bytes) ≡ min m 4096
remainder_view m remainders.Unread offset bytes = refl
remainder_view m remainders.Tail offset bytes = refl

pub view_is : (m n offset : ℕ) (held : ShownItem) (item : Item) → IsItem n offset held item → item_view m item ≡ held_view m held
view_is m n offset (shown.Event event) item is = ap (item_view m) is.3
view_is m n offset (shown.Frame info) item is = ap (item_view m) is
view_is m n offset (shown.Unfinished event lacks) item is = ap (item_view m) is.3
view_is m n offset shown.UnfinishedHead item is = ap (item_view m) is
view_is m n offset (shown.Refused refusal evidence character) item is = ap (item_view m) is.2
view_is m n offset (shown.Remainder which bytes) item is = ap (item_view m) is.2 ∙ remainder_view m which offset is.0
