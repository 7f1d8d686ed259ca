-- A text in colours is the text without its codes, and its line ends aren't coloured.
use Rattle.std.proofs.Common.{◌≡◌, ℕ, ◌==◌, Bool, true, false, not, ◌&&◌, Option, None, Some, List, [], ◌∷◌, ◌++◌, if◌then◌else◌, refl, sym, ap, ◌∙◌, append_assoc, append-nil, subst}
use Rattle.std.proofs.lemmas.Bool.{eqb-false, true≢false}
use Rattle.wsn_color.specs.Codes.{HasNoEscape, IsComplete, IsInWords, colored_after, has_plain_ends, without_codes}
use Rattle.wsn_color.specs.PaintedText.{begun_tone, colored_by, decides, is_held, new_line, painted, painted_end, painted_from, painted_word, toned_word, with_byte, with_word}
use Rattle.wsn_color.specs.Painting.{IsPlainText, Paints}
use Rattle.wsn_color.specs.Tones.{code_of, end_code, is_of_line, separator}
use Rattle.wsn_color.specs.declared.layout.Layout.{Layout}
use Rattle.wsn_color.specs.declared.line.Line.{Line}
use Rattle.wsn_color.specs.declared.tone.Tone.{Tone}
use Rattle.wsn_color.specs.declared.tone.Tone.TheVariants.{Client, Server, Alarm, Warning, Minor, Label}
use Rattle.wsn_color.proofs.CodeLemmas.{in_words-more}
use Rattle.wsn_color.proofs.PaintingLemmas.{paints_byte, paints_code, paints_on, paints_same, paints_word}
use Rattle.wsn_color.proofs.TextLemmas.{at_end, at_held, at_other}

-- ---- codes

-- What a code of a tone does.
record IsToneCode (code : List ℕ) : Type 0 where
  complete : IsComplete code
  empty : without_codes code ≡ []
  ends : (colored : Bool) → has_plain_ends colored [] code ≡ true
  next : (colored : Bool) → colored_after colored [] code ≡ true

tone_code : (tone : Tone) → IsToneCode (code_of tone)
tone_code Client = record { complete = refl; empty = refl; ends = elim [ true ↦ refl | false ↦ refl ]; next = λ colored. refl }
tone_code Server = record { complete = refl; empty = refl; ends = elim [ true ↦ refl | false ↦ refl ]; next = λ colored. refl }
tone_code Alarm = record { complete = refl; empty = refl; ends = elim [ true ↦ refl | false ↦ refl ]; next = λ colored. refl }
tone_code Warning = record { complete = refl; empty = refl; ends = elim [ true ↦ refl | false ↦ refl ]; next = λ colored. refl }
tone_code Minor = record { complete = refl; empty = refl; ends = elim [ true ↦ refl | false ↦ refl ]; next = λ colored. refl }
tone_code Label = record { complete = refl; empty = refl; ends = elim [ true ↦ refl | false ↦ refl ]; next = λ colored. refl }

plain_ends : (colored : Bool) → has_plain_ends colored [] end_code ≡ true
plain_ends true = refl
plain_ends false = refl

-- ---- a word

-- What is queued after nothing is queued after anything.
after_queue : (c : Bool) (q w xs : List ℕ) (c' : Bool) (q' w' : List ℕ) → Paints c [] w xs c' q' w' → Paints c q w xs c' (q ++ q') w'
after_queue c q w xs c' q' w' paints = record {
  added = paints.added;
  grown = ap (λ (text : List ℕ). q ++ text) paints.grown;
  complete = paints.complete;
  same = paints.same;
  ends = paints.ends;
  next = paints.next;
}

same_queue : (c : Bool) (q w xs : List ℕ) (c' : Bool) (q' q'' w' : List ℕ) → q' ≡ q'' → Paints c q w xs c' q' w' → Paints c q w xs c' q'' w'
same_queue c q w xs c' q' q'' w' is paints = subst (λ (queued : List ℕ). Paints c q w xs c' queued w') is paints

begun_in : (c : Bool) (tone : Tone) (w : List ℕ) → IsInWords w → Paints c [] w [] true (code_of tone ++ w) []
begun_in c tone w plain =
    let code = tone_code tone in
    paints_on c [] w [] true (code_of tone) w [] true (code_of tone ++ w) []
    (paints_code c true [] (code_of tone) w (code_of tone) refl code.complete code.empty (code.ends c) (code.next c))
    (paints_word true (code_of tone) (code_of tone ++ w) w [] plain refl refl)

in_tone : (c of_line : Bool) (tone : Tone) (w : List ℕ) → IsInWords w → Paints c [] w [] of_line (code_of tone ++ w ++ (if of_line then [] else end_code)) []
in_tone c true tone w plain = same_queue c [] w [] true (code_of tone ++ w) ((code_of tone ++ w) ++ []) [] (sym (append-nil (code_of tone ++ w))) (begun_in c tone w plain)
in_tone c false tone w plain =
    paints_on c [] w [] true (code_of tone ++ w) [] [] false ((code_of tone ++ w) ++ end_code) [] (begun_in c tone w plain)
    (paints_code true false (code_of tone ++ w) ((code_of tone ++ w) ++ end_code) [] end_code refl refl refl (plain_ends true) refl)

toned : (layout : Layout) (c : Bool) (tone : Option Tone) (w : List ℕ) → IsInWords w → Paints c [] w [] (colored_by layout c tone) (toned_word layout tone w) []
toned layout c None w plain = paints_word c [] w w [] plain refl refl
toned layout c (Some tone) w plain = in_tone c (is_of_line layout) tone w plain

decided_at : (l : Line) (w : List ℕ) (it : Bool) → decides l w ≡ it → (with_word l w).is_toned ≡ colored_by l.layout l.is_toned (begun_tone l w)
decided_at l w true is = rw is refl
decided_at l w false is = rw is refl

decided : (l : Line) (w : List ℕ) → (with_word l w).is_toned ≡ colored_by l.layout l.is_toned (begun_tone l w)
decided l w = decided_at l w (decides l w) refl

layout_at : (l : Line) (w : List ℕ) (it : Bool) → decides l w ≡ it → (with_word l w).layout ≡ l.layout
layout_at l w true is = rw is refl
layout_at l w false is = rw is refl

passed_at : (l : Line) (b : ℕ) (it : Bool) → (b == separator l.layout) ≡ it → (with_byte l b).is_toned ≡ l.is_toned
passed_at l b true is = rw is refl
passed_at l b false is = rw is refl

passed_layout_at : (l : Line) (b : ℕ) (it : Bool) → (b == separator l.layout) ≡ it → (with_byte l b).layout ≡ l.layout
passed_layout_at l b true is = rw is refl
passed_layout_at l b false is = rw is refl

same_layout : (l : Line) (w : List ℕ) (b : ℕ) → (with_byte (with_word l w) b).layout ≡ l.layout
same_layout l w b = passed_layout_at (with_word l w) b (b == separator (with_word l w).layout) refl ∙ layout_at l w (decides l w) refl

to_color : (c : Bool) (q w xs : List ℕ) (c' c'' : Bool) (q' w' : List ℕ) → c' ≡ c'' → Paints c q w xs c' q' w' → Paints c q w xs c'' q' w'
to_color c q w xs c' c'' q' w' is paints = subst (λ (it : Bool). Paints c q w xs it q' w') is paints

word_paints : (l : Line) (w : List ℕ) → IsInWords w → Paints l.is_toned [] w [] (with_word l w).is_toned (painted_word l w) []
word_paints l w plain = to_color l.is_toned [] w [] _ _ (painted_word l w) [] (sym (decided l w)) (toned l.layout l.is_toned (begun_tone l w) w plain)

end_of : (c : Bool) (q : List ℕ) → Paints c q [] [] false (q ++ (if c then end_code else [])) []
end_of true q = paints_code true false q (q ++ end_code) [] end_code refl refl refl (plain_ends true) refl
end_of false q = paints_same false false q (q ++ []) [] [] refl (append-nil q) refl

end_paints : (l : Line) (w : List ℕ) → IsInWords w → Paints l.is_toned [] w [] false (painted_end l w) []
end_paints l w plain =
    paints_on l.is_toned [] w [] (with_word l w).is_toned (painted_word l w) [] [] false (painted_end l w) []
    (word_paints l w plain) (end_of (with_word l w).is_toned (painted_word l w))

-- ---- a text

-- A byte after what is queued, and then a text.
byte_paints : (c : Bool) (w q : List ℕ) (c' c'' : Bool) (b : ℕ) (text rest : List ℕ) → (b == 27) ≡ false → ((b == 10) ≡ true → c' ≡ false)
    → Paints c [] w [] c' q [] → Paints c' [] [] text c'' rest [] → Paints c [] w (b ∷ text) c'' (q ++ b ∷ rest) []
byte_paints c w q c' c'' b text rest escape only one two =
    same_queue c [] w (b ∷ text) c'' ((q ++ b ∷ []) ++ rest) (q ++ b ∷ rest) [] (append_assoc q (b ∷ []) rest)
    (paints_on c [] w (b ∷ []) c' (q ++ b ∷ []) [] text c'' ((q ++ b ∷ []) ++ rest) []
    (paints_on c [] w [] c' q [] (b ∷ []) c' (q ++ b ∷ []) [] one
    (paints_byte c' c' q (q ++ b ∷ []) [] [] b (eqb-false b 27 escape) only refl refl refl refl))
    (after_queue c' (q ++ b ∷ []) [] text c'' rest [] two))

-- The byte was held.
held_paints : (c : Bool) (w : List ℕ) (b : ℕ) (text : List ℕ) (c'' : Bool) (rest : List ℕ)
    → Paints c [] (w ++ b ∷ []) text c'' rest [] → Paints c [] w (b ∷ text) c'' rest []
held_paints c w b text c'' rest paints = record {
  added = paints.added;
  grown = paints.grown;
  complete = paints.complete;
  same = paints.same ∙ append_assoc w (b ∷ []) text;
  ends = paints.ends;
  next = paints.next;
}

first_of : (escape rest : Bool) → (not escape && rest) ≡ true → (escape ≡ false) × (rest ≡ true)
first_of true rest h = absurd cc
first_of false rest h = (refl, h)

-- A text whose bytes after the first are painted so, after any word.
step : (l : Line) (w : List ℕ) (b : ℕ) (text : List ℕ) → IsInWords w → (b == 27) ≡ false
    → ((l' : Line) (w' : List ℕ) → IsInWords w' → Paints l'.is_toned [] w' text false (painted_from l' w' text) [])
    → (lf held : Bool) → (b == 10) ≡ lf → is_held l w b ≡ held → Paints l.is_toned [] w (b ∷ text) false (painted_from l w (b ∷ text)) []
step l w b text plain escape after true held is how =
    same_queue l.is_toned [] w (b ∷ text) false _ _ [] (sym (at_end l w text b is))
    (byte_paints l.is_toned w (painted_end l w) false false b text (painted_from (new_line l.layout) [] text) escape (λ lf. refl)
    (end_paints l w plain) (after (new_line l.layout) [] refl))
step l w b text plain escape after false true is how =
    same_queue l.is_toned [] w (b ∷ text) false _ _ [] (sym (at_held l w text b is how))
    (held_paints l.is_toned w b text false (painted_from l (w ++ b ∷ []) text) (after l (w ++ b ∷ []) (in_words-more w b plain escape is)))
step l w b text plain escape after false false is how =
    let on = with_byte (with_word l w) b in
    let color : on.is_toned ≡ (with_word l w).is_toned = passed_at (with_word l w) b (b == separator (with_word l w).layout) refl in
    same_queue l.is_toned [] w (b ∷ text) false _ _ [] (sym (at_other l w text b is how))
    (byte_paints l.is_toned w (painted_word l w) (with_word l w).is_toned false b text (painted_from on [] text) escape
    (λ lf. absurd (true≢false (sym lf ∙ is)))
    (word_paints l w plain)
    (subst (λ (it : Bool). Paints it [] [] text false (painted_from on [] text) []) color (after on [] refl)))

paints : (l : Line) (w text : List ℕ) → IsInWords w → HasNoEscape text → Paints l.is_toned [] w text false (painted_from l w text) []
paints l w [] plain none = end_paints l w plain
paints l w (b ∷ text) plain none =
    let parts = first_of (b == 27) _ none in
    step l w b text plain parts.0 (λ l' w' plain'. paints l' w' text plain' parts.1) (b == 10) (is_held l w b) refl refl

pub painted_same : (layout : Layout) (text : List ℕ) → HasNoEscape text → without_codes (painted layout text) ≡ text
painted_same layout text none =
    let all = paints (new_line layout) [] text refl none in
    ap (λ (it : List ℕ). without_codes it) all.grown ∙ sym (append-nil (without_codes all.added)) ∙ all.same

pub painted_plain : (layout : Layout) (text : List ℕ) → HasNoEscape text → IsPlainText false (painted layout text)
painted_plain layout text none =
    let all = paints (new_line layout) [] text refl none in
    subst (λ (it : List ℕ). IsPlainText false it) (sym all.grown) (record { complete = all.complete; ends = all.ends; next = all.next })

-- ---- lines

line_step : (l : Line) (w : List ℕ) (b : ℕ) (line text : List ℕ)
    → ((l' : Line) (w' : List ℕ) → painted_from l' w' (line ++ 10 ∷ text) ≡ painted_from l' w' line ++ 10 ∷ painted l'.layout text)
    → (lf held : Bool) → (b == 10) ≡ lf → is_held l w b ≡ held
    → painted_from l w (b ∷ line ++ 10 ∷ text) ≡ painted_from l w (b ∷ line) ++ 10 ∷ painted l.layout text
line_step l w b line text after true held is how =
    let new = new_line l.layout in
    let rest = 10 ∷ painted l.layout text in
    at_end l w (line ++ 10 ∷ text) b is
    ∙ ap (λ (it : List ℕ). painted_end l w ++ b ∷ it) (after new [])
    ∙ sym (append_assoc (painted_end l w) (b ∷ painted_from new [] line) rest)
    ∙ ap (λ (it : List ℕ). it ++ rest) (sym (at_end l w line b is))
line_step l w b line text after false true is how =
    at_held l w (line ++ 10 ∷ text) b is how ∙ after l (w ++ b ∷ [])
    ∙ ap (λ (it : List ℕ). it ++ 10 ∷ painted l.layout text) (sym (at_held l w line b is how))
line_step l w b line text after false false is how =
    let on = with_byte (with_word l w) b in
    let rest = 10 ∷ painted l.layout text in
    at_other l w (line ++ 10 ∷ text) b is how
    ∙ ap (λ (it : List ℕ). painted_word l w ++ b ∷ it) (after on [])
    ∙ ap (λ (it : Layout). painted_word l w ++ ((b ∷ painted_from on [] line) ++ 10 ∷ painted it text)) (same_layout l w b)
    ∙ sym (append_assoc (painted_word l w) (b ∷ painted_from on [] line) rest)
    ∙ ap (λ (it : List ℕ). it ++ rest) (sym (at_other l w line b is how))

lines_from : (l : Line) (w line text : List ℕ) → painted_from l w (line ++ 10 ∷ text) ≡ painted_from l w line ++ 10 ∷ painted l.layout text
lines_from l w [] text = at_end l w text 10 refl
lines_from l w (b ∷ line) text = line_step l w b line text (λ l' w'. lines_from l' w' line text) (b == 10) (is_held l w b) refl refl

pub painted_lines : (layout : Layout) (line text : List ℕ) → painted layout (line ++ 10 ∷ text) ≡ painted layout line ++ 10 ∷ painted layout text
painted_lines layout line text = lines_from (new_line layout) [] line text
