-- A text in colours, as a brush queues it step by step, and as a painter writes it.
use Rattle.std.proofs.Common.{◌≡◌, ℕ, ◌==◌, true, false, Option, None, Some, Result, Ok, Err, OnOk, List, [], ◌∷◌, ◌++◌, refl, sym, ap, ◌∙◌, append_assoc, append-nil, drop, subst}
use Rattle.std.specs.Io.KnownBytes.{Keeps, append_known}
use Rattle.std.proofs.KnownBytes.{Keeps-trans, append_known-kept}
use Rattle.wsn_color.specs.PaintedText.{Continues, is_held, new_line, painted_end, painted_from, painted_word, with_byte, with_word, without_tone}
use Rattle.wsn_color.specs.Painting.{Painted, in_full}
use Rattle.wsn_color.specs.declared.line.Line.{Line}

-- ---- a brush

-- Nothing.
pub continues_same : (q q' w w' : List ℕ) (l l' : Line) → q' ≡ q → l' ≡ l → w' ≡ w → Continues q l w [] q' l' w'
continues_same q q' w w' l l' queued line word = λ rest. rw (queued, line, word) refl

-- One step, and then the next.
pub continues_on : (q : List ℕ) (l : Line) (w xs q' : List ℕ) (l' : Line) (w' ys q'' : List ℕ) (l'' : Line) (w'' : List ℕ)
    → Continues q l w xs q' l' w' → Continues q' l' w' ys q'' l'' w'' → Continues q l w (xs ++ ys) q'' l'' w''
continues_on q l w xs q' l' w' ys q'' l'' w'' one two = λ rest.
    ap (λ (text : List ℕ). q ++ painted_from l w text) (append_assoc xs ys rest) ∙ one (ys ++ rest) ∙ two rest

-- A text, a byte and another text after a queue.
joined : (q x rest : List ℕ) (b : ℕ) → q ++ (x ++ b ∷ rest) ≡ ((q ++ x) ++ b ∷ []) ++ rest
joined q x rest b = sym (append_assoc (q ++ x) (b ∷ []) rest ∙ append_assoc q x (b ∷ rest))

pub at_end : (l : Line) (w rest : List ℕ) (b : ℕ) → (b == 10) ≡ true →
    painted_from l w (b ∷ rest) ≡ painted_end l w ++ b ∷ painted_from (new_line l.layout) [] rest
at_end l w rest b lf = rw lf refl

pub at_held : (l : Line) (w rest : List ℕ) (b : ℕ) → (b == 10) ≡ false → is_held l w b ≡ true →
    painted_from l w (b ∷ rest) ≡ painted_from l (w ++ b ∷ []) rest
at_held l w rest b lf held = rw (lf, held) refl

pub at_other : (l : Line) (w rest : List ℕ) (b : ℕ) → (b == 10) ≡ false → is_held l w b ≡ false →
    painted_from l w (b ∷ rest) ≡ painted_word l w ++ b ∷ painted_from (with_byte (with_word l w) b) [] rest
at_other l w rest b lf held = rw (lf, held) refl

-- A line feed: the word and its tone end before it.
pub continues_end : (q q1 q' w w' : List ℕ) (l l' : Line) (b : ℕ) → (b == 10) ≡ true → q1 ≡ q ++ painted_end l w → q' ≡ q1 ++ b ∷ []
    → l' ≡ new_line l.layout → w' ≡ [] → Continues q l w (b ∷ []) q' l' w'
continues_end q q1 q' w w' l l' b lf ended queued line word = λ rest.
    ap (λ (text : List ℕ). q ++ text) (at_end l w rest b lf)
    ∙ joined q (painted_end l w) (painted_from (new_line l.layout) [] rest) b
    ∙ ap (λ (text : List ℕ). (text ++ b ∷ []) ++ painted_from (new_line l.layout) [] rest) (sym ended)
    ∙ ap (λ (text : List ℕ). text ++ painted_from (new_line l.layout) [] rest) (sym queued)
    ∙ ap (λ (it : Line). q' ++ painted_from it [] rest) (sym line)
    ∙ ap (λ (it : List ℕ). q' ++ painted_from l' it rest) (sym word)

-- A byte that is held.
pub continues_held : (q q' w w' : List ℕ) (l l' : Line) (b : ℕ) → (b == 10) ≡ false → is_held l w b ≡ true → q' ≡ q → l' ≡ l
    → w' ≡ w ++ b ∷ [] → Continues q l w (b ∷ []) q' l' w'
continues_held q q' w w' l l' b lf held queued line word = λ rest.
    ap (λ (text : List ℕ). q ++ text) (at_held l w rest b lf held)
    ∙ ap (λ (text : List ℕ). text ++ painted_from l (w ++ b ∷ []) rest) (sym queued)
    ∙ ap (λ (it : Line). q' ++ painted_from it (w ++ b ∷ []) rest) (sym line)
    ∙ ap (λ (it : List ℕ). q' ++ painted_from l' it rest) (sym word)

-- A byte that isn't: the word is queued before it.
pub continues_byte : (q q1 q' w w' : List ℕ) (l l1 l' : Line) (b : ℕ) → (b == 10) ≡ false → is_held l w b ≡ false → q1 ≡ q ++ painted_word l w
    → l1 ≡ with_word l w → q' ≡ q1 ++ b ∷ [] → l' ≡ with_byte l1 b → w' ≡ [] → Continues q l w (b ∷ []) q' l' w'
continues_byte q q1 q' w w' l l1 l' b lf held released decided queued passed word = λ rest.
    let on = with_byte (with_word l w) b in
    let line : l' ≡ on = passed ∙ ap (λ (it : Line). with_byte it b) decided in
    ap (λ (text : List ℕ). q ++ text) (at_other l w rest b lf held)
    ∙ joined q (painted_word l w) (painted_from on [] rest) b
    ∙ ap (λ (text : List ℕ). (text ++ b ∷ []) ++ painted_from on [] rest) (sym released)
    ∙ ap (λ (text : List ℕ). text ++ painted_from on [] rest) (sym queued)
    ∙ ap (λ (it : Line). q' ++ painted_from it [] rest) (sym line)
    ∙ ap (λ (it : List ℕ). q' ++ painted_from l' it rest) (sym word)

-- Where the word and its tone end, nothing is left to be written.
pub nothing_left : (l l' : Line) (w : List ℕ) → l' ≡ without_tone l → w ≡ [] → painted_from l' w [] ≡ []
nothing_left l l' w line word = ap (λ (it : Line). painted_from it w []) line ∙ ap (λ (it : List ℕ). painted_from (without_tone l) it []) word

pub ended : (q q' w w' : List ℕ) (l l1 l' : Line) → q' ≡ q ++ painted_end l w → l' ≡ without_tone l1 → w' ≡ [] →
    q ++ painted_from l w [] ≡ q' ++ painted_from l' w' []
ended q q' w w' l l1 l' queued line word =
    sym queued ∙ sym (append-nil q') ∙ ap (λ (text : List ℕ). q' ++ text) (sym (nothing_left l1 l' w' line word))

-- ---- a painter

full_mid : (a : Option (List ℕ)) (q before q' after : List ℕ) → q ++ before ≡ q' ++ after
    → Keeps (append_known (append_known a q) before) (append_known (append_known a q') after)
full_mid None q before q' after same = tt
full_mid (Some x) q before q' after same =
    append_assoc x q' after ∙ ap (λ (text : List ℕ). x ++ text) (sym same) ∙ sym (append_assoc x q before)

-- What was queued is written, the brush takes a step, and what is queued then is written.
pub full_step : (t a t' : Option (List ℕ)) (sent : ℕ) (q before q' after : List ℕ) → Keeps t (append_known a (drop sent q)) → sent ≡ 0
    → q ++ before ≡ q' ++ after → Keeps (append_known a (drop sent q')) t' → Keeps (append_known t before) (append_known t' after)
full_step t a t' sent q before q' after first none same last =
    Keeps-trans (append_known t before) (append_known (append_known a (drop sent q)) before) (append_known t' after)
    (append_known-kept t (append_known a (drop sent q)) before first)
    (Keeps-trans (append_known (append_known a (drop sent q)) before) (append_known (append_known a (drop sent q')) after) (append_known t' after)
    (subst (λ (n : ℕ). Keeps (append_known (append_known a (drop n q)) before) (append_known (append_known a (drop n q')) after)) (sym none)
    (full_mid a q before q' after same))
    (append_known-kept (append_known a (drop sent q')) t' after last))

pub full_from : (start p : Painted) (text : List ℕ) (after : Option (List ℕ)) → p ≡ start → Keeps (in_full p text) after → Keeps (in_full start text) after
full_from start p text after is kept = subst (λ (it : Painted). Keeps (in_full it text) after) is kept

-- Nothing is queued, and nothing is left.
pub all_written : (o a : Option (List ℕ)) (q left : List ℕ) → q ≡ [] → left ≡ [] → Keeps o (append_known (append_known a q) left) → Keeps o a
all_written None a q left none nothing kept = tt
all_written (Some x) None q left none nothing kept = absurd kept
all_written (Some x) (Some y) q left none nothing kept =
    sym (append-nil y) ∙ ap (λ (text : List ℕ). y ++ text) (sym none) ∙ sym (append-nil (y ++ q)) ∙ ap (λ (text : List ℕ). (y ++ q) ++ text) (sym nothing) ∙ kept

pub on_ok : {T E : Type 0} (r : Result T E) (P : Type 0) → P → OnOk r P
on_ok (Ok value) P holds = holds
on_ok (Err error) P holds = tt
