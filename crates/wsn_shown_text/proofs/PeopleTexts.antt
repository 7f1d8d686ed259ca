-- The pieces of entries for people.
use Rattle.std.proofs.Common.{◌≡◌, ◌≢◌, ℕ, ◌≤◌, Bool, true, false, nat_lt, ◌==◌, ◌&&◌, if◌then◌else◌, Option, None, List, [], ◌∷◌, ◌++◌, length, take, replicate, codes, decimal, refl, sym, ap, ◌∙◌, append_assoc, append-nil, arith}
use Rattle.std.proofs.lemmas.Bool.Decides.{nat_tests}
use Rattle.std.proofs.lemmas.List.{take-replicate}
use Rattle.hex.specs.Hex.{encode_lower}
use Rattle.wsn_rules.specs.BadCharacter.{BadCharacter}
use Rattle.wsn_rules.specs.declared.head_info.HeadInfo.{HeadInfo}
use Rattle.wsn_rules.specs.declared.verdict.Refusal.{Refusal}
use Rattle.wsn_rules.specs.Meaning.{MeantEvent}
use Rattle.wsn_rules.specs.ShownStream.{Item}
use Rattle.wsn_rules.specs.ShownStream.Item.{Event, Head, Unfinished, UnfinishedHead, RefusedFrame}
use Rattle.wsn_print.specs.declared.shown.Remainder.{Remainder}
use Rattle.wsn_print.specs.declared.shown.Remainder.TheVariants as remainders
use Rattle.wsn_print.specs.HeadText.{op_word}
use Rattle.wsn_print.specs.EscapedText.{comment_text}
use Rattle.wsn_print.specs.ShownParts.{remainder_word, item_of_remainder}
use Rattle.wsn_shown_text.specs.Members.{event_word, event_size}
use Rattle.wsn_shown_text.specs.PeopleText.{left, offset_column, size_text, columns, people_reason, people_seen, people_view, people_head, frames_text, missing_text, people_lacks, sentence, people_end, place_text, place_after, people_character, people_bad, people_rest}
use Rattle.wsn_shown_text.specs.ShownText.{end_text}
use Rattle.wsn_shown_text.specs.CharacterText.{text_before, leaves_out}
use Rattle.wsn_shown_text.specs.Views.{PayloadView, EndView, view_of_bytes, view_of_end, view_of_event, view_of_unfinished}
use Rattle.wsn_shown_text.specs.Views.Shown.{Hex}
use Rattle.wsn_shown_text.proofs.HeldViews.{as_view, not_zero}
pub use Rattle.wsn_print.proofs.ReportTexts.{word_short}

-- ---- columns

pub blanks : (n : ℕ) → n ≤ 10 → take n (replicate {A = ℕ} 10 32) ≡ replicate {A = ℕ} n 32
blanks n fits = take-replicate n 10 32 fits

-- ---- views

pub hidden : (n : ℕ) (view : PayloadView) → (n == 0 && view.more) ≡ true → codes "-" ≡ people_view n view
hidden n view test = sym (ap (λ (b : Bool). if b then codes "-" else people_seen view) test)

pub seen : (n : ℕ) (view : PayloadView) → (n == 0 && view.more) ≡ false → people_seen view ≡ people_view n view
seen n view test = sym (ap (λ (b : Bool). if b then codes "-" else people_seen view) test)

pub reason_is : (reason : List ℕ) → (length reason == 0) ≡ false → codes " " ++ comment_text reason ≡ people_reason reason
reason_is [] some = cc
reason_is (b ∷ reason) some = refl

pub no_end : (n : ℕ) (end : EndView) → n ≡ 0 → [] ≡ people_end n end
no_end n end none = ap (λ (k : ℕ). people_end k end) (sym none)

pub end_is : (n : ℕ) (end : EndView) → n ≢ 0 → codes "  " ++ end_text n end ≡ people_end n end
end_is n end some = sym (ap (λ (b : Bool). if b then [] else codes "  " ++ end_text n end) (not_zero n some))

pub missing_is : (count : ℕ) → count ≢ 0 → count ≢ 1 → codes ", " ++ decimal count ++ codes " bytes missing" ≡ missing_text count
missing_is count some several =
    let one : (count == 1) ≡ false = grind (arith, nat_tests) in
    sym (ap (λ (b : Bool). if b then codes ", more to come" else if count == 1 then codes ", 1 byte missing" else codes ", " ++ decimal count ++ codes " bytes missing") (not_zero count some)
    ∙ ap (λ (b : Bool). if b then codes ", 1 byte missing" else codes ", " ++ decimal count ++ codes " bytes missing") one)

-- ---- bad characters

character_parts : (a b d t e : List ℕ) → a ++ (b ++ (d ++ (t ++ e))) ≡ a ++ b ++ d ++ t ++ e
character_parts a b d t e = simp append_assoc

pub character_unseen : (n : ℕ) (all : List ℕ) (character : BadCharacter) → n ≡ 0
    → codes "bad character" ++ place_text character.in_payload ≡ people_character n all character
character_unseen n all character none = ap (λ (k : ℕ). people_character k all character) (sym none)

pub character_is : (n : ℕ) (all before : List ℕ) (character : BadCharacter) → n ≢ 0 → before ≡ text_before n all character
    → codes "bad character " ++ (encode_lower character.bytes ++ (place_after character.in_payload (nat_lt (length before) character.in_payload) ++ (comment_text before ++ codes "\"")))
    ≡ people_character n all character
character_is n all before character some is =
    let text : List ℕ = text_before n all character in
    let first : List ℕ = codes "bad character " in
    let digits = encode_lower character.bytes in
    ap (λ (b : List ℕ). first ++ (digits ++ (place_after character.in_payload (nat_lt (length b) character.in_payload) ++ (comment_text b ++ codes "\"")))) is
    ∙ character_parts first digits (place_after character.in_payload (leaves_out n all character)) (comment_text text) (codes "\"")
    ∙ sym (ap (λ (b : Bool). if b then codes "bad character" ++ place_text character.in_payload
    else first ++ digits ++ place_after character.in_payload (leaves_out n all character) ++ comment_text text ++ codes "\"") (not_zero n some))

-- ---- entries

event_parts : (offset gap word size frames space view end : List ℕ)
    → (offset ++ gap ++ word ++ size ++ frames ++ space) ++ (view ++ end)
    ≡ offset ++ (gap ++ word ++ ([] ++ (size ++ ([] ++ ([] ++ [])))) ++ ([] ++ (frames ++ ((space ++ view) ++ [])))) ++ end
event_parts offset gap word size frames space view end = simp (append_assoc, append-nil)

pub event_rest : (n offset : ℕ) (event : MeantEvent) (frames : ℕ)
    → (columns offset (event_word event) (event_size event) ++ frames_text frames ++ codes "  ") ++ (people_view n (view_of_event n event) ++ codes "\n") ≡ people_rest n (Event offset event frames)
event_rest n offset event frames =
    event_parts (offset_column offset) (codes "  ") (left 10 (event_word event)) (size_text (event_size event)) (frames_text frames) (codes "  ") (people_view n (view_of_event n event)) (codes "\n")

unfinished_parts : (offset gap word size kind frames lacks space view end : List ℕ)
    → (offset ++ gap ++ word ++ size ++ kind ++ frames ++ lacks ++ space) ++ (view ++ end)
    ≡ offset ++ (gap ++ word ++ ([] ++ ([] ++ (size ++ ([] ++ ([] ++ ([] ++ [])))))) ++ (kind ++ ([] ++ (frames ++ (lacks ++ ((space ++ view) ++ [])))))) ++ end
unfinished_parts offset gap word size kind frames lacks space view end = simp (append_assoc, append-nil)

pub unfinished_rest : (n offset : ℕ) (event : MeantEvent) (frames : ℕ) (lacks : Option ℕ)
    → (columns offset (codes "unfinished") (event_size event) ++ (codes "  " ++ event_word event) ++ frames_text frames ++ people_lacks lacks ++ codes "  ") ++ (people_view n (view_of_unfinished n event) ++ codes "\n")
    ≡ people_rest n (Unfinished offset event frames lacks)
unfinished_rest n offset event frames lacks =
    unfinished_parts (offset_column offset) (codes "  ") (left 10 (codes "unfinished")) (size_text (event_size event)) (codes "  " ++ event_word event) (frames_text frames) (people_lacks lacks) (codes "  ") (people_view n (view_of_unfinished n event)) (codes "\n")

apart : (bs a b d e : List ℕ) → bs ++ (a ++ (b ++ (d ++ e))) ≡ bs ++ a ++ b ++ d ++ e
apart bs a b d e = simp append_assoc

pub head_rest : (n offset : ℕ)
    → (columns offset (codes "unfinished") 0 ++ codes "  head, next head incomplete  ") ++ (people_view n (as_view (Hex []) false) ++ codes "\n") ≡ people_rest n (UnfinishedHead offset)
head_rest n offset =
    ap (λ (bs : List ℕ). bs ++ (people_view n (as_view (Hex []) false) ++ codes "\n")) (spread (columns offset (codes "unfinished") 0))
    ∙ unfinished_parts (offset_column offset) (codes "  ") (left 10 (codes "unfinished")) (size_text 0) (codes "  head") (frames_text 0) (people_lacks None) (codes "  ") (people_view n (as_view (Hex []) false)) (codes "\n")
  where
    spread : (bs : List ℕ) → bs ++ codes "  head, next head incomplete  " ≡ bs ++ codes "  head" ++ frames_text 0 ++ people_lacks None ++ codes "  "
    spread bs = apart bs (codes "  head") (frames_text 0) (people_lacks None) (codes "  ")

remainder_parts : (offset gap word size space view end : List ℕ)
    → (offset ++ gap ++ word ++ size ++ space) ++ (view ++ end)
    ≡ offset ++ (gap ++ word ++ ([] ++ (size ++ ([] ++ []))) ++ ([] ++ ((space ++ view) ++ []))) ++ end
remainder_parts offset gap word size space view end = simp (append_assoc, append-nil)

pub remainder_rest : (n offset : ℕ) (which : Remainder) (all : List ℕ)
    → (columns offset (remainder_word which) (length all) ++ codes "  ") ++ (people_view n (view_of_bytes n all) ++ codes "\n") ≡ people_rest n (item_of_remainder which offset all)
remainder_rest n offset remainders.Unread all =
    remainder_parts (offset_column offset) (codes "  ") (left 10 (codes "unread")) (size_text (length all)) (codes "  ") (people_view n (view_of_bytes n all)) (codes "\n")
remainder_rest n offset remainders.Tail all =
    remainder_parts (offset_column offset) (codes "  ") (left 10 (codes "tail")) (size_text (length all)) (codes "  ") (people_view n (view_of_bytes n all)) (codes "\n")

frame_parts : (offset gap word size space head end : List ℕ)
    → (offset ++ gap ++ word ++ size ++ space ++ head ++ end) ++ []
    ≡ offset ++ (gap ++ word ++ (size ++ []) ++ ((space ++ head) ++ [])) ++ end
frame_parts offset gap word size space head end = simp (append_assoc, append-nil)

pub frame_rest : (n offset : ℕ) (head : HeadInfo)
    → (columns offset (op_word head.op) head.len ++ codes "  " ++ people_head head ++ codes "\n") ++ [] ≡ people_rest n (Head (record head { offset = offset }))
frame_rest n offset head =
    frame_parts (offset_column offset) (codes "  ") (left 10 (op_word head.op)) (size_text head.len) (codes "  ") (people_head head) (codes "\n")

refused_parts : (offset gap word verdict last bad end : List ℕ)
    → (offset ++ gap ++ word ++ verdict) ++ (last ++ bad ++ end)
    ≡ offset ++ (gap ++ word ++ ([] ++ ([] ++ ([] ++ []))) ++ (verdict ++ (last ++ (bad ++ [])))) ++ end
refused_parts offset gap word verdict last bad end = simp (append_assoc, append-nil)

pub refused_rest : (n offset : ℕ) (refusal : Refusal) (all : List ℕ) (character : Option BadCharacter)
    → (offset_column offset ++ codes "  " ++ left 10 (codes "refused") ++ sentence refusal) ++ (people_end n (view_of_end n all) ++ people_bad n all character ++ codes "\n")
    ≡ people_rest n (RefusedFrame offset refusal all character)
refused_rest n offset refusal all character =
    refused_parts (offset_column offset) (codes "  ") (left 10 (codes "refused")) (sentence refusal) (people_end n (view_of_end n all)) (people_bad n all character) (codes "\n")
