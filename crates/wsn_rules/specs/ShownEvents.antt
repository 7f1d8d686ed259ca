-- The events of a stream as they are shown, without controls of some kinds.
use Rattle.std.specs.Prelude.{◌≡◌, ℕ, if◌then◌else◌, Option, None, Some, List, [], ◌∷◌, flat_map, slice_get, ⊤}
use Rattle.wsn_wire.specs.declared.endpoint.Role.{Role}
use Rattle.wsn_rules.specs.declared.detail.Detail.TheVariants.{Events}
use Rattle.wsn_rules.specs.declared.without.Without.{Without}
use Rattle.wsn_rules.specs.Limits.{Limits}
use Rattle.wsn_rules.specs.LeftOut.{is_left_out}
use Rattle.wsn_rules.specs.Meaning.{MeantEvent}
use Rattle.wsn_rules.specs.ShownStream.{Item, Shown, IsShownStream}
use Rattle.wsn_rules.specs.ShownStream.Item.{Event}

-- The item, if it is an event that isn't left out.
abbrev pub event_item : Without → Item → List Item
event_item without (Event offset event frames) =
    if is_left_out without event then [] else Event offset event frames ∷ []
event_item without item = []

-- The events among the items that aren't left out, in order.
abbrev pub event_items : Without → List Shown → List Item
event_items without = flat_map (λ s. event_item without s.item)

-- The event with the index k, among those that aren't left out of a stream with these bytes, as it is shown; none if
-- there are fewer.
pub record IsShownAt (without : Without) (role : Role) (limits : Limits) (bytes : List ℕ) (k : ℕ) (item : Option Item)
    : Type 0 where
  pub shown : List Shown
  pub is_shown : IsShownStream Events role limits bytes shown
  pub is : item ≡ slice_get (event_items without shown) k

-- The item shows this event; or there is neither.
abbrev pub ShowsEvent : Option Item → Option MeantEvent → Type 0
ShowsEvent None None = ⊤
ShowsEvent (Some (Event offset event frames)) (Some other) = event ≡ other
ShowsEvent item event = ⊥
