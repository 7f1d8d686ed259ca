-- The item that an event to be shown represents.
use Rattle.std.proofs.Common.{◌≡◌, ℕ, Option, None, Some, List, [], ◌++◌, codes, refl, ◌∙◌, append_assoc, append-nil}
use Rattle.wsn_wire.specs.declared.endpoint.Role.{Role}
use Rattle.wsn_rules.specs.Meaning.{MeantEvent}
use Rattle.wsn_rules.specs.ShownStream.{Item}
use Rattle.wsn_rules.specs.ShownStream.Item.{Event, Head, Unfinished, UnfinishedHead, RefusedFrame, Unread, Tail}
use Rattle.wsn_print.specs.declared.shown.PlacedEvent.{PlacedEvent}
use Rattle.wsn_shown_text.specs.DifferenceText.{event_line, event_value, answer_in, compared_event_in, difference_in}
use Rattle.wsn_shown_text.specs.DifferingText.{differ_line, differ_field, differ_in}
use Rattle.wsn_shown_text.specs.EntryFormats.{open_entry, piece_in}
use Rattle.wsn_shown_text.specs.declared.fields.Shape.{Shape, TheVariants.{Line, Object}}
use Rattle.wsn_print.specs.ShownParts.{IsPlaced, StandsFor}
use Rattle.wsn_print.specs.ShownParts.EntryPosition.{InStream}

-- It is an event.
pub of_placed : (n : ℕ) (placed : PlacedEvent) (item : Option Item) → StandsFor n (Some placed) item → (P : Option Item → Type 0)
    → ((offset : ℕ) (event : MeantEvent) (frames : ℕ) → IsPlaced n placed offset event frames → P (Some (Event offset event frames))) → P item
of_placed n placed (Some (Event offset event frames)) stands P holds = holds offset event frames stands
of_placed n placed (Some (Head info)) stands P holds = absurd stands
of_placed n placed (Some (Unfinished offset event frames lacks)) stands P holds = absurd stands
of_placed n placed (Some (UnfinishedHead offset)) stands P holds = absurd stands
of_placed n placed (Some (RefusedFrame offset refusal evidence character)) stands P holds = absurd stands
of_placed n placed (Some (Unread offset bytes)) stands P holds = absurd stands
of_placed n placed (Some (Tail offset bytes)) stands P holds = absurd stands
of_placed n placed None stands P holds = absurd stands

-- There is none.
pub of_none : (n : ℕ) (item : Option Item) → StandsFor n None item → (P : Option Item → Type 0) → P None → P item
of_none n None stands P holds = holds
of_none n (Some item) stands P holds = absurd stands

-- ---- the pieces of a difference

pub event_is : (shape : Shape) (n : ℕ) (role : Role) (offset : ℕ) (event : MeantEvent) (frames : ℕ)
    → open_entry shape n role InStream (Event offset event frames) ++ piece_in shape (codes "\n") (codes "}") ≡ compared_event_in shape n role (Some (Event offset event frames))
event_is Line n role offset event frames = refl
event_is Object n role offset event frames = refl

pub none_is : (shape : Shape) (n : ℕ) (role : Role) → piece_in shape (codes "-\n") (codes "null") ≡ compared_event_in shape n role None
none_is Line n role = refl
none_is Object n role = refl

pieces_of : (a b d e z : List ℕ) → a ++ (b ++ (d ++ (e ++ z))) ≡ a ++ b ++ d ++ e ++ z
pieces_of a b d e z = simp append_assoc

pub difference_is : (shape : Shape) (n : ℕ) (role : Role) (k : ℕ) (one other : Option Item)
    → answer_in shape k ++ ((piece_in shape (codes "first ") (codes ",\"first\":") ++ compared_event_in shape n role one)
    ++ ((piece_in shape (codes "second ") (codes ",\"second\":") ++ compared_event_in shape n role other)
    ++ (differ_in shape n one other ++ piece_in shape [] (codes "}\n")))) ≡ difference_in shape n role k one other
difference_is Line n role k one other = pieces_of (answer_in Line k) (codes "first " ++ event_line n role one) (codes "second " ++ event_line n role other) (differ_line n one other) [] ∙ append-nil (difference_in Line n role k one other)
difference_is Object n role k one other = pieces_of (answer_in Object k) (codes ",\"first\":" ++ event_value n role one) (codes ",\"second\":" ++ event_value n role other) (differ_field n one other) (codes "}\n")
