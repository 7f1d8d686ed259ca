-- Items as they are held to be printed.
use Rattle.std.specs.Prelude.{◌≡◌, ℕ, ◌/◌, Option, List, [], ◌++◌, codes}
use Rattle.wsn_wire.specs.declared.endpoint.Role.{Role}
use Rattle.wsn_rules.specs.BadCharacter.{BadCharacter}
use Rattle.wsn_rules.specs.Meaning.{MeantEvent}
use Rattle.wsn_rules.specs.ShownStream.{Item}
use Rattle.wsn_rules.specs.ShownStream.Item.{Event, Head, Unfinished, UnfinishedHead, RefusedFrame}
use Rattle.wsn_shown_text.specs.declared.fields.Shape.{Shape, TheVariants.{Line, Object}}
use Rattle.wsn_print.specs.ShownParts.{EntryPosition, time_at, Represents, HasText, HasTextPayload, IsFrontOf, IsEndOf, character_in, item_of_remainder}
use Rattle.wsn_shown_text.specs.declared.items.ShownItem.{ShownItem}
use Rattle.wsn_shown_text.specs.declared.items.ShownItem.TheVariants as shown
use Rattle.wsn_shown_text.specs.declared.items.Rest.{Rest}
use Rattle.wsn_shown_text.specs.declared.items.Rest.TheVariants as rest
use Rattle.wsn_shown_text.specs.Views.{view_of_end, shown_in, view_in, IsReadable}
use Rattle.wsn_shown_text.specs.ShownText.{end_view}
use Rattle.wsn_shown_text.specs.CharacterText.{character_lines, character_fields}
use Rattle.wsn_shown_text.specs.ShownObjects.{end_fields}
use Rattle.wsn_shown_text.specs.PeopleText.{people_view, people_end, people_bad}
use Rattle.wsn_shown_text.specs.EntryFormats.{seen_in, end_in}

-- For views of n bytes, this is held of the item, which has this offset.
abbrev pub IsItem : ℕ → ℕ → ShownItem → Item → Type 0
IsItem n offset (shown.Event held) item = (event : MeantEvent) × Represents n held event × HasText event
    × (item ≡ Event offset event held.frames)
IsItem n offset (shown.Frame info) item = item ≡ Head (record info { offset = offset })
IsItem n offset (shown.Unfinished held lacks) item = (event : MeantEvent) × Represents n held event × HasTextPayload event
    × (item ≡ Unfinished offset event held.frames lacks)
IsItem n offset shown.UnfinishedHead item = item ≡ UnfinishedHead offset
IsItem n offset (shown.Refused refusal evidence character) item = (all : List ℕ) × IsEndOf (n / 2) all evidence
    × (item ≡ RefusedFrame offset refusal all (character_in character))
IsItem n offset (shown.Remainder which bytes) item = (all : List ℕ) × IsFrontOf (n / 2) all bytes
    × (item ≡ item_of_remainder which offset all)

-- ---- what is written of an item after its fields

-- The evidence for a refusal, and the bad character if there is one: in lines it has its own.
abbrev pub evidence_in : Shape → ℕ → Role → EntryPosition → List ℕ → Option BadCharacter → List ℕ
evidence_in Line n role position evidence character =
    end_view n evidence ++ codes "\n" ++ character_lines n role (time_at position) evidence character
evidence_in Object n role position evidence character =
    end_fields (view_of_end n evidence) ++ character_fields n evidence character ++ codes "}\n"

-- For views of n bytes, this is held of what is written.
abbrev pub IsRest : Shape → ℕ → Role → EntryPosition → Rest → List ℕ → Type 0
IsRest shape n role position rest.Nothing text = text ≡ []
IsRest shape n role position (rest.Seen view) text =
    (text ≡ seen_in shape n (view_in view) ++ end_in shape) × IsReadable (shown_in view.shown)
IsRest shape n role position (rest.Evidence evidence character) text = (all : List ℕ) × IsEndOf (n / 2) all evidence
    × (text ≡ evidence_in shape n role position all (character_in character))

-- For views of n bytes, this is held of what is written in a line for people.
abbrev pub IsPeopleRest : ℕ → Rest → List ℕ → Type 0
IsPeopleRest n rest.Nothing text = text ≡ []
IsPeopleRest n (rest.Seen view) text = text ≡ people_view n (view_in view) ++ codes "\n"
IsPeopleRest n (rest.Evidence evidence character) text = (all : List ℕ) × IsEndOf (n / 2) all evidence
    × (text ≡ people_end n (view_of_end n all) ++ people_bad n all (character_in character) ++ codes "\n")
