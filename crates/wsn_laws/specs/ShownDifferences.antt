-- Which differences of two streams the laws are about, and what is alike in two of them.
use Rattle.std.specs.Prelude.{◌≡◌, ◌≢◌, ℕ, IfSome, Option, None, Some, ⊤}
use Rattle.wsn_rules.specs.Meaning.{MeantEvent}
use Rattle.wsn_rules.specs.ShownStream.{Item}
use Rattle.wsn_shown_text.specs.QuotedTexts.{ShowsTextReason}
use Rattle.wsn_print.specs.DifferingPayloads.{place_in, view_start, event_in}
use Rattle.wsn_shown_text.specs.DifferingText.{view_at}
use Rattle.wsn_laws.specs.Answers.{IsInU64}
use Rattle.wsn_laws.specs.ShownItems.{IsItemInRange, LookAlike}

-- The number of the event is in range, and so is each stream's item, if it has one. If that is a Close, its reason is
-- UTF-8.
pub record IsDifferenceInRange (k : ℕ) (one other : Option Item) : Type 0 where
  pub number : IsInU64 k
  pub first : IfSome one IsItemInRange
  pub first_reason : IfSome one ShowsTextReason
  pub second : IfSome other IsItemInRange
  pub second_reason : IfSome other ShowsTextReason

-- With views of at most n bytes, both items look alike, or there is neither.
abbrev pub BothLookAlike : ℕ → Option Item → Option Item → Type 0
BothLookAlike n None None = ⊤
BothLookAlike n (Some item) (Some other) = LookAlike n item other
BothLookAlike n item other = ⊥

-- With views of at most n bytes, both events' payloads have the same view around the place, if there is one. If n isn't
-- 0, it begins at the same byte.
abbrev pub HaveLikeViews : ℕ → Option ℕ → Option MeantEvent → Option MeantEvent → Type 0
HaveLikeViews n None event other = ⊤
HaveLikeViews n (Some place) (Some event) (Some other) =
    (n ≢ 0 → view_start place event ≡ view_start place other) × (view_at n place event ≡ view_at n place other)
HaveLikeViews n place event other = ⊥

-- With views of at most n bytes, the items of two differences look alike, and their payloads differ in the same place,
-- with the same views around it.
pub record DifferAlike (n : ℕ) (one two other_one other_two : Option Item) : Type 0 where
  pub first : BothLookAlike n one other_one
  pub second : BothLookAlike n two other_two
  pub place : place_in (event_in one) (event_in two) ≡ place_in (event_in other_one) (event_in other_two)
  pub first_view : HaveLikeViews n (place_in (event_in one) (event_in two)) (event_in one) (event_in other_one)
  pub second_view : HaveLikeViews n (place_in (event_in one) (event_in two)) (event_in two) (event_in other_two)
