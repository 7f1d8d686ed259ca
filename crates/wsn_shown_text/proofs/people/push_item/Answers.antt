use Rattle.std.proofs.Common.{◌≡◌, ℕ, false, None, List, [], ◌++◌, length, codes, refl, sym, ap, ◌∙◌, subst}
use Rattle.wsn_rules.specs.ShownStream.{Item}
use Rattle.wsn_rules.specs.ShownStream.Item.{Event, Head, Unfinished, UnfinishedHead, RefusedFrame}
use Rattle.wsn_print.specs.HeadText.{op_word}
use Rattle.wsn_print.specs.ShownParts.{remainder_word, character_in, item_of_remainder}
use Rattle.wsn_shown_text.specs.declared.items.Rest.{Rest}
use Rattle.wsn_shown_text.specs.declared.items.Rest.TheVariants as rest
use Rattle.wsn_shown_text.specs.declared.items.ShownItem.{ShownItem}
use Rattle.wsn_shown_text.specs.declared.views.View.{View}
use Rattle.wsn_shown_text.specs.Members.{event_word, event_size}
use Rattle.wsn_shown_text.specs.PeopleText.{left, offset_column, columns, people_view, people_head, frames_text, people_lacks, sentence, people_end, people_bad, people_rest}
use Rattle.wsn_shown_text.specs.ShownItems.{IsItem, IsPeopleRest}
use Rattle.wsn_shown_text.specs.Views.{PayloadView, view_of_bytes, view_of_end, view_of_event, view_of_unfinished, view_in}
use Rattle.wsn_shown_text.specs.Views.Shown.{Hex}
use Rattle.wsn_shown_text.proofs.HeldViews.{as_view}
use Rattle.wsn_shown_text.proofs.Entries.{represented}
use Rattle.wsn_shown_text.proofs.PeopleTexts.{event_rest, unfinished_rest, head_rest, remainder_rest, frame_rest, refused_rest}
use Rattle.wsn_shown_text.proofs.people.push_item.Goals as goal

-- This line, and then what is left, are what follows an item's time.
abbrev Splits : ℕ → List ℕ → Rest → Item → Type 0
Splits n line left item = (text : List ℕ) × IsPeopleRest n left text × (line ++ text ≡ people_rest n item)

-- The line began empty.
from_empty : (line old text : List ℕ) → line ≡ old ++ text → old ≡ [] → line ≡ text
from_empty line old text is none = is ∙ ap (λ (bs : List ℕ). bs ++ text) none

with_view : (n : ℕ) (line text : List ℕ) (item : Item) (view : PayloadView) (held : View) → line ≡ text → view_in held ≡ view
    → text ++ (people_view n view ++ codes "\n") ≡ people_rest n item → Splits n line (rest.Seen held) item
with_view n line text item view held is is_view whole = (
  people_view n (view_in held) ++ codes "\n",
  refl,
  ap (λ (bs : List ℕ). bs ++ (people_view n (view_in held) ++ codes "\n")) is
      ∙ ap (λ (v : PayloadView). text ++ (people_view n v ++ codes "\n")) is_view ∙ whole,
)

pub returns-in-Event : goal.returns-in-Event
returns-in-Event c = λ shown held.
    let n = c.args.view in
    let offset = c.args.offset in
    let event = c.in-Event.event in
    let line = c.push_event.new.line in
    let item = subst (λ (i : ShownItem). IsItem n offset i shown) c.in-Event.is held in
    let text = λ (word : List ℕ) (bytes : ℕ). columns offset word bytes ++ frames_text event.frames ++ codes "  " in
    let is = from_empty line c.args.line.now (text (op_word event.op) event.bytes) c.push_event.ensures c.requires ∙ represented n event item.0 text item.1 in
    subst (Splits n line (rest.Seen c.view_of_event.result)) (sym item.3)
    (with_view n line (text (event_word item.0) (event_size item.0)) (Event offset item.0 event.frames) (view_of_event n item.0) c.view_of_event.result is (c.view_of_event.ensures item.0 item.1 item.2) (event_rest n offset item.0 event.frames))

pub returns-in-Unfinished : goal.returns-in-Unfinished
returns-in-Unfinished c = λ shown held.
    let n = c.args.view in
    let offset = c.args.offset in
    let event = c.in-Unfinished.event in
    let lacks = c.in-Unfinished.lacks in
    let line = c.push_unfinished.new.line in
    let item = subst (λ (i : ShownItem). IsItem n offset i shown) c.in-Unfinished.is held in
    let text = λ (word : List ℕ) (bytes : ℕ). columns offset (codes "unfinished") bytes ++ (codes "  " ++ word) ++ frames_text event.frames ++ people_lacks lacks ++ codes "  " in
    let is = from_empty line c.args.line.now (text (op_word event.op) event.bytes) c.push_unfinished.ensures c.requires ∙ represented n event item.0 text item.1 in
    subst (Splits n line (rest.Seen c.view_of_unfinished.result)) (sym item.3)
    (with_view n line (text (event_word item.0) (event_size item.0)) (Unfinished offset item.0 event.frames lacks) (view_of_unfinished n item.0) c.view_of_unfinished.result is (c.view_of_unfinished.ensures item.0 item.1 item.2) (unfinished_rest n offset item.0 event.frames lacks))

pub returns-in-UnfinishedHead : goal.returns-in-UnfinishedHead
returns-in-UnfinishedHead c = λ shown held.
    let n = c.args.view in
    let offset = c.args.offset in
    let line = c.push_unfinished_head.new.line in
    let item = subst (λ (i : ShownItem). IsItem n offset i shown) c.in-UnfinishedHead.is held in
    let text = columns offset (codes "unfinished") 0 ++ codes "  head, next head incomplete  " in
    let is = from_empty line c.args.line.now text c.push_unfinished_head.ensures c.requires in
    subst (Splits n line (rest.Seen c.no_bytes.result)) (sym item)
    (with_view n line text (UnfinishedHead offset) (as_view (Hex []) false) c.no_bytes.result is c.no_bytes.ensures (head_rest n offset))

pub returns-in-Frame : goal.returns-in-Frame
returns-in-Frame c = λ shown held.
    let n = c.args.view in
    let offset = c.args.offset in
    let head = c.in-Frame.head in
    let line = c.push_frame.new.line in
    let item = subst (λ (i : ShownItem). IsItem n offset i shown) c.in-Frame.is held in
    let text = columns offset (op_word head.op) head.len ++ codes "  " ++ people_head head ++ codes "\n" in
    let is = from_empty line c.args.line.now text c.push_frame.ensures c.requires in
    subst (Splits n line rest.Nothing) (sym item) ([], refl, ap (λ (bs : List ℕ). bs ++ []) is ∙ frame_rest n offset head)

pub returns-in-Refused : goal.returns-in-Refused
returns-in-Refused c = λ shown held.
    let n = c.args.view in
    let offset = c.args.offset in
    let refusal = c.in-Refused.refusal in
    let character = character_in c.in-Refused.character in
    let line = c.push_refused.new.line in
    let item = subst (λ (i : ShownItem). IsItem n offset i shown) c.in-Refused.is held in
    let text = offset_column offset ++ codes "  " ++ left 10 (codes "refused") ++ sentence refusal in
    let is = from_empty line c.args.line.now text c.push_refused.ensures c.requires in
    let last = people_end n (view_of_end n item.0) ++ people_bad n item.0 character ++ codes "\n" in
    subst (Splits n line (rest.Evidence c.in-Refused.evidence c.in-Refused.character)) (sym item.2)
    (last, (item.0, item.1, refl), ap (λ (bs : List ℕ). bs ++ last) is ∙ refused_rest n offset refusal item.0 character)

pub returns-in-Remainder : goal.returns-in-Remainder
returns-in-Remainder c = λ shown held.
    let n = c.args.view in
    let offset = c.args.offset in
    let which = c.in-Remainder.which in
    let line = c.push_remainder.new.line in
    let item = subst (λ (i : ShownItem). IsItem n offset i shown) c.in-Remainder.is held in
    let all = item.0 in
    let text = λ (k : ℕ). columns offset (remainder_word which) k ++ codes "  " in
    let is = from_empty line c.args.line.now (text c.in-Remainder.bytes.bytes) c.push_remainder.ensures c.requires ∙ ap text item.1.0 in
    subst (Splits n line (rest.Seen c.view_of_bytes.result)) (sym item.2)
    (with_view n line (text (length all)) (item_of_remainder which offset all) (view_of_bytes n all) c.view_of_bytes.result is (c.view_of_bytes.ensures all item.1) (remainder_rest n offset which all))
