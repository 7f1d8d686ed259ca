-- What a brush adds to a queue, step by step, and what that makes of what a painter was given.
use Rattle.std.proofs.Common.{◌≡◌, ◌≢◌, ℕ, ◌==◌, Bool, true, false, not, ◌&&◌, Option, None, Some, List, [], ◌∷◌, ◌++◌, refl, sym, ap, ◌∙◌, append_assoc, append-nil, drop, subst}
use Rattle.std.proofs.lemmas.Bool.{ne_eqb}
use Rattle.std.specs.Io.KnownBytes.{Appends, Keeps, append_known}
use Rattle.std.proofs.KnownBytes.{Appends-kept, append_known-kept}
use Rattle.wsn_color.specs.Codes.{IsComplete, IsInWords, begun_after, colored_after, has_plain_ends, without_codes}
use Rattle.wsn_color.specs.Painting.{HasPlainEnds, IsKnownPlain, IsPlainText, Painted, Paints, all_given, given_by, if_complete}
use Rattle.wsn_color.specs.declared.line.Line.{Line}
use Rattle.wsn_color.proofs.CodeLemmas.{added-plain, colored_after-append, complete-append, has_plain_ends-append, is_word, without_codes-append}

-- Nothing.
pub paints_same : (c c' : Bool) (q q' w w' : List ℕ) → c' ≡ c → q' ≡ q → w' ≡ w → Paints c q w [] c' q' w'
paints_same c c' q q' w w' colored queued held = record {
  added = [];
  grown = queued ∙ sym (append-nil q);
  complete = refl;
  same = held ∙ sym (append-nil w);
  ends = refl;
  next = sym colored;
}

-- A code, which colours what follows or ends all colours.
pub paints_code : (c c' : Bool) (q q' w code : List ℕ) → q' ≡ q ++ code → IsComplete code → without_codes code ≡ []
    → has_plain_ends c [] code ≡ true → colored_after c [] code ≡ c' → Paints c q w [] c' q' w
paints_code c c' q q' w code queued complete empty ends next = record {
  added = code;
  grown = queued;
  complete = complete;
  same = ap (λ (text : List ℕ). text ++ w) empty ∙ sym (append-nil w);
  ends = ends;
  next = next;
}

-- The word that was held.
pub paints_word : (c : Bool) (q q' w w' : List ℕ) → IsInWords w → q' ≡ q ++ w → w' ≡ [] → Paints c q w [] c q' w'
paints_word c q q' w w' plain queued none =
    let word = is_word w plain in
    record {
      added = w;
      grown = queued;
      complete = word.complete;
      same = ap (λ (text : List ℕ). text ++ w') word.without ∙ ap (λ (text : List ℕ). w ++ text) none;
      ends = word.ends c;
      next = word.next c;
    }

pub paints_held_word : (c : Bool) (q w v : List ℕ) (c' : Bool) (q' w' : List ℕ) → v ≡ w → Paints c q v [] c' q' w' → Paints c q w [] c' q' w'
paints_held_word c q w v c' q' w' is paints = subst (λ (word : List ℕ). Paints c q word [] c' q' w') is paints

-- Whether a byte is an LF that isn't coloured, or another byte.
end_is_plain : (lf c : Bool) → (lf ≡ true → c ≡ false) → not (lf && c) ≡ true
end_is_plain true true only = let no : true ≡ false = only refl in absurd cc
end_is_plain true false only = refl
end_is_plain false c only = refl

-- A byte, where no word is held. An LF isn't coloured.
pub paints_byte : (c c' : Bool) (q q' w w' : List ℕ) (b : ℕ) → b ≢ 27 → ((b == 10) ≡ true → c ≡ false) → c' ≡ c → q' ≡ q ++ b ∷ [] → w ≡ [] → w' ≡ w
    → Paints c q w (b ∷ []) c' q' w'
paints_byte c c' q q' w w' b other only colored queued none held =
    let here = added-plain b (ne_eqb _ _ other) in
    record {
      added = b ∷ [];
      grown = queued;
      complete = here.1;
      same =
          ap (λ (text : List ℕ). (text ++ []) ++ w') here.0 ∙ ap (λ (text : List ℕ). b ∷ text) (held ∙ none)
          ∙ ap (λ (text : List ℕ). text ++ b ∷ []) (sym none);
      ends = ap (λ (it : Bool). it && true) (end_is_plain (b == 10) c only);
      next = sym colored;
    }

-- A byte that is held.
pub paints_held : (c c' : Bool) (q q' w w' : List ℕ) (b : ℕ) → c' ≡ c → q' ≡ q → w' ≡ w ++ b ∷ [] → Paints c q w (b ∷ []) c' q' w'
paints_held c c' q q' w w' b colored queued held = record {
  added = [];
  grown = queued ∙ sym (append-nil q);
  complete = refl;
  same = held;
  ends = refl;
  next = sym colored;
}

-- More text after a text.
more_plain : (c c' : Bool) (xs ys : List ℕ) → IsComplete xs → has_plain_ends c [] xs ≡ true → colored_after c [] xs ≡ c' → has_plain_ends c' [] ys ≡ true
    → has_plain_ends c [] (xs ++ ys) ≡ true
more_plain c c' xs ys complete ends next rest =
    has_plain_ends-append c [] xs ys ends
    (ap (λ (it : Bool). has_plain_ends it (begun_after [] xs) ys) next ∙ ap (λ (begun : List ℕ). has_plain_ends c' begun ys) complete ∙ rest)

more_colored : (c c' : Bool) (xs ys : List ℕ) → IsComplete xs → colored_after c [] xs ≡ c' → colored_after c [] (xs ++ ys) ≡ colored_after c' [] ys
more_colored c c' xs ys complete next =
    colored_after-append c [] xs ys
    ∙ ap (λ (it : Bool). colored_after it (begun_after [] xs) ys) next ∙ ap (λ (begun : List ℕ). colored_after c' begun ys) complete

-- One step, and then the next.
pub paints_on : (c : Bool) (q w xs : List ℕ) (c' : Bool) (q' w' ys : List ℕ) (c'' : Bool) (q'' w'' : List ℕ)
    → Paints c q w xs c' q' w' → Paints c' q' w' ys c'' q'' w'' → Paints c q w (xs ++ ys) c'' q'' w''
paints_on c q w xs c' q' w' ys c'' q'' w'' one two = record {
  added = one.added ++ two.added;
  grown = two.grown ∙ ap (λ (text : List ℕ). text ++ two.added) one.grown ∙ append_assoc q one.added two.added;
  complete = complete-append one.added two.added one.complete two.complete;
  same =
      ap (λ (text : List ℕ). text ++ w'') (without_codes-append one.added two.added one.complete)
      ∙ append_assoc (without_codes one.added) (without_codes two.added) w''
      ∙ ap (λ (text : List ℕ). without_codes one.added ++ text) two.same
      ∙ sym (append_assoc (without_codes one.added) w' ys)
      ∙ ap (λ (text : List ℕ). text ++ ys) one.same
      ∙ append_assoc w xs ys;
  ends = more_plain c c' one.added two.added one.complete one.ends one.next two.ends;
  next = more_colored c c' one.added two.added one.complete one.next ∙ two.next;
}

-- ---- a painter

if_complete-some : (begun text : List ℕ) → begun ≡ [] → if_complete begun text ≡ Some text
if_complete-some begun text none = ap (λ (bs : List ℕ). if_complete bs text) none

-- What was given has grown by the bytes that the brush took, where the text before it is complete.
grown : (c : Bool) (x q w bytes : List ℕ) (c' : Bool) (q' w' begun : List ℕ) → begun_after [] (x ++ q) ≡ begun → Paints c q w bytes c' q' w'
    → Appends (if_complete begun (without_codes (x ++ q) ++ w)) (if_complete (begun_after [] (x ++ q')) (without_codes (x ++ q') ++ w')) bytes
grown c x q w bytes c' q' w' (b ∷ begun) is paints = tt
grown c x q w bytes c' q' w' [] is paints =
    let longer : x ++ q' ≡ (x ++ q) ++ paints.added = ap (λ (text : List ℕ). x ++ text) paints.grown ∙ sym (append_assoc x q paints.added) in
    let complete = ap (λ (text : List ℕ). begun_after [] text) longer ∙ complete-append (x ++ q) paints.added is paints.complete in
    let text : without_codes (x ++ q') ++ w' ≡ (without_codes (x ++ q) ++ w) ++ bytes =
    ap (λ (text : List ℕ). without_codes text ++ w') longer
    ∙ ap (λ (text : List ℕ). text ++ w') (without_codes-append (x ++ q) paints.added is)
    ∙ append_assoc (without_codes (x ++ q)) (without_codes paints.added) w'
    ∙ ap (λ (text : List ℕ). without_codes (x ++ q) ++ text) paints.same
    ∙ sym (append_assoc (without_codes (x ++ q)) w bytes) in
    rw (if_complete-some (begun_after [] (x ++ q')) (without_codes (x ++ q') ++ w') complete) text

given_more : (c : Bool) (a : Option (List ℕ)) (q w bytes : List ℕ) (c' : Bool) (q' w' : List ℕ) → Paints c q w bytes c' q' w'
    → Appends (given_by (append_known a q) w) (given_by (append_known a q') w') bytes
given_more c None q w bytes c' q' w' paints = tt
given_more c (Some x) q w bytes c' q' w' paints = grown c x q w bytes c' q' w' (begun_after [] (x ++ q)) refl paints

keeps_same : (a b : Option (List ℕ)) → b ≡ a → Keeps a b
keeps_same None b same = tt
keeps_same (Some x) None same = absurd cc
keeps_same (Some x) (Some y) same = let inside : y ≡ x = cc in inside

-- The same text was given by the same.
given_same : (t t' : Option (List ℕ)) (w : List ℕ) → Keeps t t' → Keeps (given_by t w) (given_by t' w)
given_same None t' w kept = tt
given_same (Some x) None w kept = absurd kept
given_same (Some x) (Some y) w kept = keeps_same _ _ (ap (λ (text : List ℕ). if_complete (begun_after [] text) (without_codes text ++ w)) kept)

keeps_appends : (a b c : Option (List ℕ)) (bytes : List ℕ) → Keeps a b → Appends b c bytes → Appends a c bytes
keeps_appends None b c bytes kept more = tt
keeps_appends (Some x) None c bytes kept more = absurd kept
keeps_appends (Some x) (Some y) None bytes kept more = absurd more
keeps_appends (Some x) (Some y) (Some z) bytes kept more = more ∙ ap (λ (text : List ℕ). text ++ bytes) kept

pub appends_nothing : (a b : Option (List ℕ)) → Appends a b [] → Keeps a b
appends_nothing None b more = tt
appends_nothing (Some x) None more = absurd more
appends_nothing (Some x) (Some y) more = more ∙ append-nil x

-- The brush took bytes, where all that was queued before them is written.
painted_on : (c : Bool) (a : Option (List ℕ)) (sent : ℕ) (q w bytes : List ℕ) (c' : Bool) (q' w' : List ℕ) → sent ≡ 0 → Paints c q w bytes c' q' w'
    → Appends (given_by (append_known a (drop sent q)) w) (given_by (append_known a (drop sent q')) w') bytes
painted_on c a sent q w bytes c' q' w' none paints =
    subst (λ (n : ℕ). Appends (given_by (append_known a (drop n q)) w) (given_by (append_known a (drop n q')) w') bytes)
    (sym none) (given_more c a q w bytes c' q' w' paints)

-- The bytes were given to a painter: what was queued is written, the brush took them, and what is queued then is written.
pub given_bytes : (c : Bool) (t a t' : Option (List ℕ)) (sent : ℕ) (q w bytes : List ℕ) (c' : Bool) (q' w' : List ℕ)
    → Keeps t (append_known a (drop sent q)) → sent ≡ 0 → Paints c q w bytes c' q' w' → Keeps (append_known a (drop sent q')) t'
    → Appends (given_by t w) (given_by t' w') bytes
given_bytes c t a t' sent q w bytes c' q' w' first none paints last =
    Appends-kept (given_by t w) (given_by (append_known a (drop sent q')) w') (given_by t' w') bytes
    (keeps_appends (given_by t w) (given_by (append_known a (drop sent q)) w) (given_by (append_known a (drop sent q')) w') bytes
    (given_same t (append_known a (drop sent q)) w first) (painted_on c a sent q w bytes c' q' w' none paints))
    (given_same (append_known a (drop sent q')) t' w' last)

-- A painter as it is seen.
abbrev pub seen : Option (List ℕ) → List ℕ → ℕ → List ℕ → Line → Painted
seen written bytes sent word line = record { written = written; queued = drop sent bytes; word = word; line = line }

pub given_from : (start p : Painted) (after : Option (List ℕ)) (bytes : List ℕ) → p ≡ start → Appends (all_given p) after bytes → Appends (all_given start) after bytes
given_from start p after bytes is more = subst (λ (it : Painted). Appends (all_given it) after bytes) is more

pub plain_from : (start p : Painted) (after : Type 0) → p ≡ start → (HasPlainEnds p → after) → HasPlainEnds start → after
plain_from start p after is more = subst (λ (it : Painted). HasPlainEnds it → after) is more

-- What a writer keeps, with what is queued.
pub text_kept : (a b : Option (List ℕ)) (q : List ℕ) → Keeps a b → Keeps (append_known a q) (append_known b q)
text_kept a b q kept = append_known-kept a b q kept

-- ---- plain line ends

pub plain_same : (c : Bool) (t t' : Option (List ℕ)) → Keeps t t' → IsKnownPlain c t → IsKnownPlain c t'
plain_same c None t' kept plain = absurd plain
plain_same c (Some x) None kept plain = absurd kept
plain_same c (Some x) (Some y) kept plain = subst (λ (text : List ℕ). IsPlainText c text) (sym kept) plain

plain_more : (c : Bool) (a : Option (List ℕ)) (q w bytes : List ℕ) (c' : Bool) (q' w' : List ℕ) → Paints c q w bytes c' q' w'
    → IsKnownPlain c (append_known a q) → IsKnownPlain c' (append_known a q')
plain_more c None q w bytes c' q' w' paints plain = absurd plain
plain_more c (Some x) q w bytes c' q' w' paints plain =
    let longer : x ++ q' ≡ (x ++ q) ++ paints.added = ap (λ (text : List ℕ). x ++ text) paints.grown ∙ sym (append_assoc x q paints.added) in
    subst (λ (text : List ℕ). IsPlainText c' text) (sym longer) (record {
      complete = complete-append (x ++ q) paints.added plain.complete paints.complete;
      ends = more_plain false c (x ++ q) paints.added plain.complete plain.ends plain.next paints.ends;
      next = more_colored false c (x ++ q) paints.added plain.complete plain.next ∙ paints.next;
    })

-- The same steps leave a plain text plain.
pub plain_bytes : (c : Bool) (t a t' : Option (List ℕ)) (sent : ℕ) (q w bytes : List ℕ) (c' : Bool) (q' w' : List ℕ)
    → Keeps t (append_known a (drop sent q)) → sent ≡ 0 → Paints c q w bytes c' q' w' → Keeps (append_known a (drop sent q')) t'
    → IsKnownPlain c t → IsKnownPlain c' t'
plain_bytes c t a t' sent q w bytes c' q' w' first none paints last plain =
    plain_same c' (append_known a (drop sent q')) t' last
    (subst (λ (n : ℕ). IsKnownPlain c (append_known a (drop n q)) → IsKnownPlain c' (append_known a (drop n q'))) (sym none)
    (plain_more c a q w bytes c' q' w' paints) (plain_same c t (append_known a (drop sent q)) first plain))
