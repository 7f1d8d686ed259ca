-- What the value of the object of two streams that differ determines.
use Rattle.std.proofs.Common.{◌≡◌, ◌≢◌, ℕ, ◌==◌, ◌⊎◌, inl, inr, Bool, true, false, if◌then◌else◌, Option, None, Some, List, [], ◌++◌, codes, refl, sym, ap, ◌∙◌, subst, arith, eqb-true}
use Rattle.std.specs.Prelude.{flat_map, nat_lt, IfSome}
use Rattle.std.specs.Str.{bytes_eq}
use Rattle.std.proofs.lemmas.Bool.{cases_Bool}
use Rattle.std.proofs.lemmas.Bool.Decides.{nat_tests}
use Rattle.hex.specs.Hex.{encode_lower}
use Rattle.wsn_wire.specs.declared.endpoint.Role.{Role}
use Rattle.wsn_wire.specs.declared.opcode.Kind.TheVariants as kinds
use Rattle.wsn_rules.specs.Meaning.{MeantEvent, Message, Control}
use Rattle.wsn_rules.specs.ShownStream.{Item}
use Rattle.wsn_rules.specs.ShownOffsets.{offset_of}
use Rattle.wsn_shown_text.specs.Members.{item_type}
use Rattle.wsn_shown_text.specs.ShownText.{hex_text, seen_text}
use Rattle.wsn_print.specs.ShownParts.EntryPosition.{InStream}
use Rattle.wsn_print.specs.DifferingPayloads.{place_in, view_start, part_at, event_in}
use Rattle.wsn_shown_text.specs.DifferingText.{view_at}
use Rattle.wsn_shown_text.specs.AsciiText.{ascii_character, ascii_quoted}
use Rattle.wsn_shown_text.specs.Views.{view_of_part}
use Rattle.wsn_shown_text.specs.Views.Shown.{Hex}
use Rattle.wsn_shown_text.specs.DifferenceText.{difference_object}
use Rattle.wsn_shown_text.proofs.DifferingParts.{no_view, view_is}
use Rattle.wsn_shown_text.proofs.HeldViews.{not_zero, as_view}
use Rattle.wsn_laws.specs.JsonText.{Null, String, Object, Members, Member, IsJsonLine}
use Rattle.wsn_laws.specs.Answers.{IsInU64}
use Rattle.wsn_laws.specs.ShownItems.{IsItemInRange}
use Rattle.wsn_laws.specs.ShownDifferences.{IsDifferenceInRange, BothLookAlike, HaveLikeViews, DifferAlike}
use Rattle.wsn_laws.proofs.Fields.{number, one_number, one_line}
use Rattle.wsn_laws.proofs.ShownJson.{view_json, item_json, offset_fits}
use Rattle.wsn_laws.proofs.ShownReader.{has_more, dots, dash_for_none, more_by, dash_is, after_first, one_place, look_alike}
use Rattle.wsn_laws.proofs.Differences.{stream_members, stream_json, view_members, around_json, start_fits, place_json, IsEventInRange, place_fits, event_fits, differ_json, difference_members, difference_json_line}

-- ---- an item of one of the streams

one_stream : (n : ℕ) (role other : Role) (one another : Option Item) → IfSome one IsItemInRange → IfSome another IsItemInRange
    → stream_json n role one ≡ stream_json n other another → BothLookAlike n one another × (one ≢ None → role ≡ other)
one_stream n role other None None fits also same = (tt, λ some. absurd (some refl))
one_stream n role other None (Some another) fits also same = absurd cc
one_stream n role other (Some item) None fits also same = absurd cc
one_stream n role other (Some item) (Some another) fits also same =
    let types : item_type item ≡ item_type another = cc in
    let members : stream_members n role item ≡ stream_members n other another = cc in
    let placed = one_place role other InStream InStream (offset_of item) (offset_of another) (item_json n item) (item_json n another) tt tt members in
    let offsets = one_number (offset_of item) (offset_of another) (offset_fits item fits) (offset_fits another also) placed.2 in
    (look_alike n item another fits also types offsets placed.3, λ some. placed.0)

-- ---- the view around a place

-- The view, read from the members after its start.
abbrev part_in : Members → List ℕ
part_in (Member name (String cs) others) =
    (if bytes_eq name (codes "text") then codes "\"" ++ flat_map ascii_character cs ++ codes "\"" else dash_for_none cs) ++ dots (has_more others)
part_in _ = codes "-"

bytes_are : (part : List ℕ) (t : Bool) → part_in (view_json (as_view (Hex part) t)) ≡ hex_text part ++ dots t
bytes_are part t = ap (λ (t : Bool). dash_for_none (encode_lower part) ++ dots t) (more_by t) ∙ ap (λ (bs : List ℕ). bs ++ dots t) (dash_is part)

part_is : (n place : ℕ) (event : MeantEvent) → part_in (view_json (view_of_part n place event)) ≡ seen_text (view_of_part n place event)
part_is n place (Message kinds.Text payload) =
    ap (λ (t : Bool). ascii_quoted (part_at n place (Message kinds.Text payload)) ++ dots t) (more_by (view_of_part n place (Message kinds.Text payload)).more)
part_is n place (Message kinds.Binary payload) = bytes_are (part_at n place (Message kinds.Binary payload)) (view_of_part n place (Message kinds.Binary payload)).more
part_is n place (Control op body) = bytes_are (part_at n place (Control op body)) (view_of_part n place (Control op body)).more

seen : (n place : ℕ) (event : MeantEvent) → (n == 0) ≡ false → around_json n place event ≡ Object (view_members n place event)
seen n place event some = ap (λ (none : Bool). if none then Null else Object (view_members n place event)) some

some_bytes : (n : ℕ) → (n == 0) ≡ false → n ≢ 0
some_bytes n test none = grind (arith, nat_tests)

one_view : (n place : ℕ) (event other : MeantEvent) → IsInU64 place → IsEventInRange event → IsEventInRange other → around_json n place event ≡ around_json n place other
    → (n ≢ 0 → view_start place event ≡ view_start place other) × (view_at n place event ≡ view_at n place other)
one_view n place event other fits are also same = elim (cases_Bool (n == 0)) [
  | inl none ↦ (
    λ some. absurd (apart (sym none ∙ not_zero n some)),
    sym (no_view n place event (eqb-true n 0 none)) ∙ no_view n place other (eqb-true n 0 none),
  )
  | inr some ↦ seen_parts some
]
  where
    apart : true ≡ false → ⊥
    apart both = cc

    members : (n == 0) ≡ false → view_members n place event ≡ view_members n place other
    members some =
        let values : Object (view_members n place event) ≡ Object (view_members n place other) = sym (seen n place event some) ∙ same ∙ seen n place other some in
        cc

    starts : (n == 0) ≡ false → view_start place event ≡ view_start place other
    starts some =
        let both : view_members n place event ≡ view_members n place other = members some in
        let numbers : number (view_start place event) ≡ number (view_start place other) = cc in
        one_number (view_start place event) (view_start place other) (start_fits place event fits are) (start_fits place other fits also) numbers

    parts : (n == 0) ≡ false → seen_text (view_of_part n place event) ≡ seen_text (view_of_part n place other)
    parts some = sym (part_is n place event) ∙ ap (λ (m : Members). part_in (after_first m)) (members some) ∙ part_is n place other

    seen_parts : (n == 0) ≡ false → (n ≢ 0 → view_start place event ≡ view_start place other) × (view_at n place event ≡ view_at n place other)
    seen_parts some = (
      λ is. starts some,
      sym (view_is n place event (some_bytes n some))
          ∙ ap (λ (start : ℕ). (if nat_lt 0 start then codes ".." else []) ++ seen_text (view_of_part n place event)) (starts some)
          ∙ ap (λ (bs : List ℕ). (if nat_lt 0 (view_start place other) then codes ".." else []) ++ bs) (parts some)
          ∙ view_is n place other (some_bytes n some),
    )

-- ---- where the payloads differ

no_place : (place : ℕ) → Some place ≡ None → ⊥
no_place place same = cc

one_place_in : (n : ℕ) (place other : Option ℕ) (one two another_one another_two : Option MeantEvent) → place ≡ place_in one two → other ≡ place_in another_one another_two
    → IfSome place IsInU64 → IfSome other IsInU64 → IfSome one IsEventInRange → IfSome two IsEventInRange → IfSome another_one IsEventInRange → IfSome another_two IsEventInRange
    → place_json n place one two ≡ place_json n other another_one another_two
    → (place ≡ other) × HaveLikeViews n place one another_one × HaveLikeViews n place two another_two
one_place_in n None None one two another_one another_two is too fits also a b c d same = (refl, tt, tt)
one_place_in n (Some place) (Some other) (Some one) (Some two) (Some another_one) (Some another_two) is too fits also a b c d same =
    let numbers : number place ≡ number other = cc in
    let firsts : around_json n place one ≡ around_json n other another_one = cc in
    let seconds : around_json n place two ≡ around_json n other another_two = cc in
    let places : place ≡ other = one_number place other fits also numbers in (
      ap Some places,
      one_view n place one another_one fits a c (firsts ∙ ap (λ (p : ℕ). around_json n p another_one) (sym places)),
      one_view n place two another_two fits b d (seconds ∙ ap (λ (p : ℕ). around_json n p another_two) (sym places)),
    )
one_place_in n (Some place) None (Some one) (Some two) another_one another_two is too fits also a b c d same = absurd cc
one_place_in n None (Some other) one two (Some another_one) (Some another_two) is too fits also a b c d same = absurd cc
one_place_in n (Some place) other None two another_one another_two is too fits also a b c d same = absurd (no_place place is)
one_place_in n (Some place) other (Some one) None another_one another_two is too fits also a b c d same = absurd (no_place place is)
one_place_in n place (Some other) one two None another_two is too fits also a b c d same = absurd (no_place other too)
one_place_in n place (Some other) one two (Some another_one) None is too fits also a b c d same = absurd (no_place other too)

-- ---- the whole

pub one_difference : (n : ℕ) (role other_role : Role) (k other_k : ℕ) (one two other_one other_two : Option Item) → IsDifferenceInRange k one two → IsDifferenceInRange other_k other_one other_two
    → difference_object n role k one two ≡ difference_object n other_role other_k other_one other_two
    → (k ≡ other_k) × DifferAlike n one two other_one other_two × ((one ≢ None) ⊎ (two ≢ None) → role ≡ other_role)
one_difference n role other_role k other_k one two other_one other_two fits also same =
    let values : Object (difference_members n role k one two) ≡ Object (difference_members n other_role other_k other_one other_two) =
    one_line (Object (difference_members n role k one two)) (Object (difference_members n other_role other_k other_one other_two)) (difference_object n other_role other_k other_one other_two)
    (subst (λ (line : List ℕ). IsJsonLine (Object (difference_members n role k one two)) line) same (difference_json_line n role k one two fits))
    (difference_json_line n other_role other_k other_one other_two also) in
    let numbers : number k ≡ number other_k = cc in
    let firsts : stream_json n role one ≡ stream_json n other_role other_one = cc in
    let seconds : stream_json n role two ≡ stream_json n other_role other_two = cc in
    let places : differ_json n one two ≡ differ_json n other_one other_two = cc in
    let first = one_stream n role other_role one other_one fits.first also.first firsts in
    let second = one_stream n role other_role two other_two fits.second also.second seconds in
    let place = one_place_in n (place_in (event_in one) (event_in two)) (place_in (event_in other_one) (event_in other_two)) (event_in one) (event_in two) (event_in other_one) (event_in other_two) refl refl
    (place_fits (event_in one) (event_in two) (event_fits one fits.first)) (place_fits (event_in other_one) (event_in other_two) (event_fits other_one also.first))
    (event_fits one fits.first) (event_fits two fits.second) (event_fits other_one also.first) (event_fits other_two also.second) places in (
      one_number k other_k fits.number also.number numbers,
      record { first = first.0; second = second.0; place = place.0; first_view = place.1; second_view = place.2 },
      λ some. of_one first.1 second.1 some,
    )
  where
    of_one : (one ≢ None → role ≡ other_role) → (two ≢ None → role ≡ other_role) → (one ≢ None) ⊎ (two ≢ None) → role ≡ other_role
    of_one first second (inl some) = first some
    of_one first second (inr some) = second some
