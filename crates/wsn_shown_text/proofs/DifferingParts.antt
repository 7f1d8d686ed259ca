-- What is held of two payloads is enough to show where they differ.
use Rattle.std.proofs.Common.{◌≡◌, ◌≢◌, ℕ, ◌+◌, ◌-◌, ◌/◌, ◌≤◌, inl, inr, Bool, true, false, ◌==◌, nat_lt, if◌then◌else◌, Option, None, Some, List, [], ◌++◌, length, take, refl, sym, ap, ◌∙◌, subst, codes, decimal, append_assoc, append-nil, arith, ◌&&◌}
use Rattle.std.proofs.lemmas.Bool.Decides.{nat_tests}
use Rattle.std.specs.Str.Lossy.{utf8_valid_len}
use Rattle.wsn_wire.specs.declared.opcode.Kind.TheVariants as kinds
use Rattle.wsn_rules.specs.Meaning.{MeantEvent, Message, Control}
use Rattle.wsn_print.specs.declared.shown.DifferingPayloads.{DifferingPayloads}
use Rattle.wsn_print.specs.DifferingPayloads.{view_start, payload_on, is_text, IsPartOf, StandsForPlace}
use Rattle.wsn_shown_text.specs.DifferingText.{view_at, view_value, start_in, part_in, parts_in}
use Rattle.wsn_shown_text.specs.EntryFormats.{seen_in, piece_in}
use Rattle.wsn_shown_text.specs.declared.fields.Shape.{Shape, TheVariants.{Line, Object}}
use Rattle.wsn_shown_text.specs.ShownObjects.{view_fields}
use Rattle.wsn_shown_text.specs.Views.{view_of_part}
use Rattle.wsn_shown_text.specs.Views.Shown.{Ascii, Hex}
use Rattle.wsn_print.specs.ShownParts.{HoldsFirst, text_part}
use Rattle.wsn_shown_text.specs.ShownText.{seen_text, view_text}
use Rattle.wsn_shown_text.proofs.HeldViews.{shown_part, not_zero, seen, as_view}

-- ---- the first bytes

-- The characters of a text that are shown, out of the bytes that are held.
pub characters_are : (most : ℕ) (all held front shown : List ℕ) → HoldsFirst most all held → front ≡ take most held → shown ≡ take (utf8_valid_len front) front → shown ≡ take (text_part most all) all
characters_are most all held front shown holds is valid =
    valid ∙ ap (λ (bytes : List ℕ). take (utf8_valid_len bytes) bytes) is ∙ shown_part most all held holds

-- ---- views

zero : (n : ℕ) → n ≡ 0 → (n == 0) ≡ true
zero n none = grind (arith, nat_tests)

pub no_view : (n place : ℕ) (event : MeantEvent) → n ≡ 0 → codes "-" ≡ view_at n place event
no_view n place event none =
    sym (ap (λ (b : Bool). if b then codes "-" else start_in Line (view_start place event) ++ seen_text (view_of_part n place event)) (zero n none))

pub view_is : (n place : ℕ) (event : MeantEvent) → n ≢ 0
    → start_in Line (view_start place event) ++ seen_text (view_of_part n place event) ≡ view_at n place event
view_is n place event some =
    sym (ap (λ (b : Bool). if b then codes "-" else start_in Line (view_start place event) ++ seen_text (view_of_part n place event)) (not_zero n some))

no_value : (n place : ℕ) (event : MeantEvent) → n ≡ 0 → codes "null" ≡ view_value n place event
no_value n place event none =
    sym (ap (λ (b : Bool). if b then codes "null" else start_in Object (view_start place event) ++ view_fields (view_of_part n place event) ++ codes "}") (zero n none))

value_is : (n place : ℕ) (event : MeantEvent) → n ≢ 0
    → start_in Object (view_start place event) ++ (view_fields (view_of_part n place event) ++ codes "}") ≡ view_value n place event
value_is n place event some =
    sym (append_assoc (start_in Object (view_start place event)) (view_fields (view_of_part n place event)) (codes "}"))
    ∙ sym (ap (λ (b : Bool). if b then codes "null" else start_in Object (view_start place event) ++ view_fields (view_of_part n place event) ++ codes "}") (not_zero n some))

pub no_part : (shape : Shape) (n place : ℕ) (event : MeantEvent) → n ≡ 0 → piece_in shape (codes "-") (codes "null") ≡ part_in shape n place event
no_part Line = no_view
no_part Object = no_value

pub part_is : (shape : Shape) (n place : ℕ) (event : MeantEvent) → n ≢ 0
    → start_in shape (view_start place event) ++ (seen_in shape n (view_of_part n place event) ++ piece_in shape [] (codes "}")) ≡ part_in shape n place event
part_is Line n place event some =
    let view = view_of_part n place event in
    let start : List ℕ = start_in Line (view_start place event) in
    ap (λ (text : List ℕ). start ++ text) (append-nil (view_text n view) ∙ sym (seen n view (ap (λ (b : Bool). b && view.more) (not_zero n some)))) ∙ view_is n place event some
part_is Object n place event some = value_is n place event some

-- The text or the bytes that are shown.
pub ascii_of_part : (n place : ℕ) (event : MeantEvent) → is_text event ≡ true
    → as_view (Ascii (take (text_part (place - view_start place event + n) (payload_on place event)) (payload_on place event)))
    (nat_lt (text_part (place - view_start place event + n) (payload_on place event)) (length (payload_on place event))) ≡ view_of_part n place event
ascii_of_part n place (Message kinds.Text text) is = refl
ascii_of_part n place (Message kinds.Binary payload) is = absurd cc
ascii_of_part n place (Control op body) is = absurd cc

pub bytes_of_part : (n place : ℕ) (event : MeantEvent) → is_text event ≡ false
    → as_view (Hex (take (place - view_start place event + n / 2) (payload_on place event)))
    (nat_lt (place - view_start place event + n / 2) (length (payload_on place event))) ≡ view_of_part n place event
bytes_of_part n place (Message kinds.Text text) is = absurd cc
bytes_of_part n place (Message kinds.Binary payload) is = refl
bytes_of_part n place (Control op body) is = refl

pub below : (m a n : ℕ) → m ≡ a + n / 2 → m ≤ a + n
below m a n is = omega (arith, is)

pub fewer : (k n : ℕ) (all held : List ℕ) → k ≤ n → HoldsFirst n all held → HoldsFirst k all held
fewer k n all held less (first, inl enough) = (first, inl (omega (arith, less, enough)))
fewer k n all held less (first, inr whole) = (first, inr whole)

-- ---- the place

line_parts : (a place b first d second e : List ℕ) → (a ++ place) ++ ((b ++ first) ++ ((d ++ second) ++ e)) ≡ a ++ place ++ b ++ first ++ d ++ second ++ e
line_parts a place b first d second e = simp append_assoc

pub place_is : (shape : Shape) (n place : ℕ) (event other : MeantEvent)
    → (piece_in shape (codes "differ-at ") (codes ",\"differ_at\":{\"in_payload\":") ++ decimal place)
    ++ ((piece_in shape (codes " ") (codes ",\"first\":") ++ part_in shape n place event)
    ++ ((piece_in shape (codes " ") (codes ",\"second\":") ++ part_in shape n place other) ++ piece_in shape (codes "\n") (codes "}"))) ≡ parts_in shape n (Some place) (Some event) (Some other)
place_is Line n place event other = line_parts (codes "differ-at ") (decimal place) (codes " ") (view_at n place event) (codes " ") (view_at n place other) (codes "\n")
place_is Object n place event other = line_parts (codes ",\"differ_at\":{\"in_payload\":") (decimal place) (codes ",\"first\":") (view_value n place event) (codes ",\"second\":") (view_value n place other) (codes "}")

pub key_short : (shape : Shape) → length (piece_in shape (codes "differ-at ") (codes ",\"differ_at\":{\"in_payload\":")) ≤ 28
key_short Line = omega arith
key_short Object = omega arith

pub no_place_is : (shape : Shape) (n : ℕ) (one two : Option MeantEvent) → piece_in shape [] (codes ",\"differ_at\":null") ≡ parts_in shape n None one two
no_place_is Line n one two = refl
no_place_is Object n one two = refl

-- There is a place.
pub of_place : (n : ℕ) (differing : DifferingPayloads) (place : Option ℕ) (one two : Option MeantEvent) → StandsForPlace n (Some differing) place one two → (P : Option ℕ → Option MeantEvent → Option MeantEvent → Type 0)
    → ((event other : MeantEvent) → IsPartOf n differing.place differing.first event → IsPartOf n differing.place differing.second other → P (Some differing.place) (Some event) (Some other)) → P place one two
of_place n differing (Some place) (Some event) (Some other) stands P holds =
    subst (λ (k : ℕ). P (Some k) (Some event) (Some other)) stands.0
    (holds event other (subst (λ (k : ℕ). IsPartOf n k differing.first event) (sym stands.0) stands.1) (subst (λ (k : ℕ). IsPartOf n k differing.second other) (sym stands.0) stands.2))
of_place n differing (Some place) (Some event) None stands P holds = absurd stands
of_place n differing (Some place) None two stands P holds = absurd stands
of_place n differing None one two stands P holds = absurd stands

-- There is none.
pub of_no_place : (n : ℕ) (place : Option ℕ) (one two : Option MeantEvent) → StandsForPlace n None place one two → (P : Option ℕ → Type 0) → P None → P place
of_no_place n None one two stands P holds = holds
of_no_place n (Some place) one two stands P holds = absurd stands
