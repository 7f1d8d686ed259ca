-- A text splits into lines in exactly one way.
use Rattle.std.proofs.Common.{◌≡◌, ◌≢◌, ℕ, ◌==◌, Bool, false, cond, List, [], ◌∷◌, ◌++◌, ◌<◌, length, inl, inr, refl, sym, ap, ◌∙◌, subst, append_assoc, append-nil, arith}
use Rattle.std.specs.List.{AllByRecursion}
use Rattle.std.proofs.lemmas.Bool.{cases_eq}
use Rattle.std.proofs.lemmas.List.Concat.{flat_map-append}
use Rattle.wsn_rules.specs.TextLines.{IsLine, ended, AreLines, before_first, lines_of}

lf_first : (text : List ℕ) → lines_of (10 ∷ text) ≡ [] ∷ lines_of text
lf_first text = refl

no_lf : (b : ℕ) → b ≢ 10 → (b == 10) ≡ false
no_lf b other = grind (arith)

byte_first : (b : ℕ) (text : List ℕ) → b ≢ 10 → lines_of (b ∷ text) ≡ before_first b (lines_of text)
byte_first b text other = ap (λ (t : Bool). cond t ([] ∷ lines_of text) (before_first b (lines_of text))) (no_lf b other)

-- A line that ends with LF comes first.
pub line_first : (line text : List ℕ) → IsLine line → lines_of (line ++ 10 ∷ text) ≡ line ∷ lines_of text
line_first [] text is = lf_first text
line_first (b ∷ line) text is = byte_first b (line ++ 10 ∷ text) is.0 ∙ ap (before_first b) (line_first line text is.1)

-- A last line without LF.
only_line : (b : ℕ) (line : List ℕ) → IsLine (b ∷ line) → lines_of (b ∷ line) ≡ (b ∷ line) ∷ []
only_line b [] is = byte_first b [] is.0
only_line b (c ∷ line) is = byte_first b (c ∷ line) is.0 ∙ ap (before_first b) (only_line c line is.1)

ended_front : (line : List ℕ) (lines : List (List ℕ)) (rest : List ℕ) → ended (line ∷ lines) ++ rest ≡ line ++ 10 ∷ (ended lines ++ rest)
ended_front line lines rest = append_assoc (line ++ 10 ∷ []) (ended lines) rest ∙ append_assoc line (10 ∷ []) (ended lines ++ rest)

pub lines_first : (lines : List (List ℕ)) (rest : List ℕ) → AllByRecursion IsLine lines → lines_of (ended lines ++ rest) ≡ lines ++ lines_of rest
lines_first [] rest are = refl
lines_first (line ∷ lines) rest are =
    ap lines_of (ended_front line lines rest) ∙ line_first line (ended lines ++ rest) are.0 ∙ ap (λ (ls : List (List ℕ)). line ∷ ls) (lines_first lines rest are.1)

-- A property of all lines holds for each of two parts.
pub each_left : (xs ys : List (List ℕ)) → AllByRecursion IsLine (xs ++ ys) → AllByRecursion IsLine xs
each_left [] ys are = tt
each_left (x ∷ xs) ys are = (are.0, each_left xs ys are.1)

pub each_right : (xs ys : List (List ℕ)) → AllByRecursion IsLine (xs ++ ys) → AllByRecursion IsLine ys
each_right [] ys are = are
each_right (x ∷ xs) ys are = each_right xs ys are.1

pub one_line : (last : List ℕ) → IsLine last → last ≢ [] → lines_of last ≡ last ∷ []
one_line [] is some = absurd (some refl)
one_line (b ∷ line) is some = only_line b line is

pub lines_are : (text : List ℕ) (lines : List (List ℕ)) → AreLines text lines → lines_of text ≡ lines
lines_are text lines are =
    elim are.joined [
      | inl whole ↦ ap lines_of (whole ∙ sym (append-nil (ended lines))) ∙ lines_first lines [] are.each ∙ append-nil lines
      | inr open_end ↦
          let each = subst (AllByRecursion IsLine) open_end.2 are.each in
          ap lines_of open_end.4 ∙ lines_first open_end.0 open_end.1 (each_left open_end.0 (open_end.1 ∷ []) each)
          ∙ ap (λ (ls : List (List ℕ)). open_end.0 ++ ls) (one_line open_end.1 (each_right open_end.0 (open_end.1 ∷ []) each).0 open_end.3)
          ∙ sym open_end.2
    ]

pub same_lines : (text : List ℕ) (lines others : List (List ℕ)) → AreLines text lines → AreLines text others → lines ≡ others
same_lines text lines others are also = sym (lines_are text lines are) ∙ lines_are text others also

-- ---- each text has lines

-- One more byte at the start.
with_byte : (b : ℕ) (text : List ℕ) (lines : List (List ℕ)) → b ≢ 10 → AreLines text lines → AreLines (b ∷ text) (before_first b lines)
with_byte b text [] other are = record {
  each = ((other, tt), tt);
  joined = elim are.joined [
    | inl whole ↦ inr ([], b ∷ [], refl, (λ is. cc is), ap (λ (bs : List ℕ). b ∷ bs) whole)
    | inr open_end ↦ absurd (nil_push open_end.0 open_end.1 open_end.2)
  ];
}
  where
    nil_push : (before : List (List ℕ)) (last : List ℕ) → [] ≡ before ++ last ∷ [] → ⊥
    nil_push [] last is = cc
    nil_push (x ∷ before) last is = cc
with_byte b text (line ∷ lines) other are = record {
  each = ((other, are.each.0), are.each.1);
  joined = elim are.joined [
    | inl whole ↦ inl (ap (λ (bs : List ℕ). b ∷ bs) whole)
    | inr open_end ↦ inr (from open_end.0 open_end.1 open_end.2 open_end.3 open_end.4)
  ];
}
  where
    from : (before : List (List ℕ)) (last : List ℕ) → line ∷ lines ≡ before ++ last ∷ [] → last ≢ [] → text ≡ ended before ++ last
        → (fore : List (List ℕ)) × (rest : List ℕ) × ((b ∷ line) ∷ lines ≡ fore ++ rest ∷ []) × (rest ≢ []) × (b ∷ text ≡ ended fore ++ rest)
    from [] last is some whole =
        let first : line ≡ last = cc in
        let none : lines ≡ [] = cc in
        ([], b ∷ last, ap (λ (ls : List (List ℕ)). (b ∷ line) ∷ ls) none ∙ ap (λ (l : List ℕ). (b ∷ l) ∷ []) first, (λ empty. cc empty), ap (λ (bs : List ℕ). b ∷ bs) whole)
    from (x ∷ before) last is some whole =
        let first : line ≡ x = cc in
        let rest : lines ≡ before ++ last ∷ [] = cc in
        ((b ∷ x) ∷ before, last, ap (λ (l : List ℕ). (b ∷ l) ∷ lines) first ∙ ap (λ (ls : List (List ℕ)). (b ∷ x) ∷ ls) rest, some, ap (λ (bs : List ℕ). b ∷ bs) whole)

-- One more LF at the start.
with_lf : (text : List ℕ) (lines : List (List ℕ)) → AreLines text lines → AreLines (10 ∷ text) ([] ∷ lines)
with_lf text lines are = record {
  each = (tt, are.each);
  joined = elim are.joined [
    | inl whole ↦ inl (ap (λ (bs : List ℕ). 10 ∷ bs) whole)
    | inr open_end ↦ inr ([] ∷ open_end.0, open_end.1, ap (λ (ls : List (List ℕ)). [] ∷ ls) open_end.2, open_end.3, ap (λ (bs : List ℕ). 10 ∷ bs) open_end.4)
  ];
}

pub has_lines : (text : List ℕ) → (lines : List (List ℕ)) × AreLines text lines
has_lines [] = ([], record { each = tt; joined = inl refl })
has_lines (b ∷ text) =
    let rest = has_lines text in
    elim (cases_eq b 10) [
      | inl lf ↦ ([] ∷ rest.0, subst (λ (n : ℕ). AreLines (n ∷ text) ([] ∷ rest.0)) (sym lf) (with_lf text rest.0 rest.1))
      | inr other ↦ (before_first b rest.0, with_byte b text rest.0 other rest.1)
    ]

pub are_lines_of : (text : List ℕ) → AreLines text (lines_of text)
are_lines_of text = let found = has_lines text in subst (AreLines text) (sym (lines_are text found.0 found.1)) found.1

-- ---- a text from its start

pub no_lines : AreLines [] []
no_lines = record { each = tt; joined = inl refl }

-- One more line at the start.
pub line_in_front : (line rest : List ℕ) (lines : List (List ℕ)) → IsLine line → AreLines rest lines
    → AreLines (line ++ 10 ∷ rest) (line ∷ lines)
line_in_front line rest lines is are = record {
  each = (is, are.each);
  joined = elim are.joined [
    | inl whole ↦ inl (ap (λ (text : List ℕ). line ++ 10 ∷ text) whole ∙ sym (append_assoc line (10 ∷ []) (ended lines)))
    | inr part ↦ inr (
      line ∷ part.0,
      part.1,
      ap (λ (more : List (List ℕ)). line ∷ more) part.2,
      part.3,
      ap (λ (text : List ℕ). line ++ 10 ∷ text) part.4
          ∙ sym (append_assoc line (10 ∷ []) (ended part.0 ++ part.1))
          ∙ sym (append_assoc (line ++ 10 ∷ []) (ended part.0) part.1),
    )
  ];
}

pub last_line : (line : List ℕ) → IsLine line → line ≢ [] → AreLines line (line ∷ [])
last_line line is some = record { each = (is, tt); joined = inr ([], line, refl, some, refl) }

-- ---- texts that continue

pub ended-append : (lines others : List (List ℕ)) → ended (lines ++ others) ≡ ended lines ++ ended others
ended-append lines others = flat_map-append (λ line. line ++ 10 ∷ []) lines others

pub ended-push : (lines : List (List ℕ)) (line : List ℕ) → ended (lines ++ line ∷ []) ≡ ended lines ++ (line ++ 10 ∷ [])
ended-push lines line = ended-append lines (line ∷ []) ∙ ap (λ (bs : List ℕ). ended lines ++ bs) (append-nil (line ++ 10 ∷ []))

pub each_join : (xs ys : List (List ℕ)) → AllByRecursion IsLine xs → AllByRecursion IsLine ys → AllByRecursion IsLine (xs ++ ys)
each_join [] ys are also = also
each_join (x ∷ xs) ys are also = (are.0, each_join xs ys are.1 also)

-- Lines with LF before a text.
pub lines_in_front : (xs : List (List ℕ)) (text : List ℕ) (lines : List (List ℕ)) → AllByRecursion IsLine xs → AreLines text lines → AreLines (ended xs ++ text) (xs ++ lines)
lines_in_front xs text lines each are = record {
  each = each_join xs lines each are.each;
  joined = elim are.joined [
    | inl whole ↦ inl (ap (λ (bs : List ℕ). ended xs ++ bs) whole ∙ sym (ended-append xs lines))
    | inr part ↦ inr (
      xs ++ part.0,
      part.1,
      ap (λ (ls : List (List ℕ)). xs ++ ls) part.2 ∙ sym (append_assoc xs part.0 (part.1 ∷ [])),
      part.3,
      ap (λ (bs : List ℕ). ended xs ++ bs) part.4 ∙ sym (append_assoc (ended xs) (ended part.0) part.1) ∙ ap (λ (bs : List ℕ). bs ++ part.1) (sym (ended-append xs part.0)),
    )
  ];
}

-- A last line without LF.
pub lines_at_end : (xs : List (List ℕ)) (last : List ℕ) → AllByRecursion IsLine xs → IsLine last → last ≢ [] → AreLines (ended xs ++ last) (xs ++ last ∷ [])
lines_at_end xs last each is some = record { each = each_join xs (last ∷ []) each (is, tt); joined = inr (xs, last, refl, some, refl) }

-- The first line of a text that begins with a line's bytes.
abbrev pub FirstBeginsWith : List ℕ → List (List ℕ) → Type 0
FirstBeginsWith front lines = (more : List ℕ) × (rest : List (List ℕ)) × (lines ≡ (front ++ more) ∷ rest)

pub front_first : (b : ℕ) (line text : List ℕ) → IsLine (b ∷ line) → FirstBeginsWith (b ∷ line) (lines_of ((b ∷ line) ++ text))
front_first b [] text is = by_rest (lines_of text) refl
  where
    by_rest : (lines : List (List ℕ)) → lines_of text ≡ lines → FirstBeginsWith (b ∷ []) (lines_of (b ∷ text))
    by_rest [] none = ([], [], byte_first b text is.0 ∙ ap (before_first b) none)
    by_rest (line ∷ rest) more = (line, rest, byte_first b text is.0 ∙ ap (before_first b) more)
front_first b (c ∷ line) text is =
    let rest = front_first c line text is.1 in
    (rest.0, rest.1, byte_first b ((c ∷ line) ++ text) is.0 ∙ ap (before_first b) rest.2)

pub first_line : (front later : List ℕ) (lines : List (List ℕ)) → IsLine front → 0 < length front → AreLines (front ++ later) lines → (more : List ℕ) × (rest : List (List ℕ)) × (lines ≡ (front ++ more) ∷ rest)
first_line [] later lines is some are = absurd (omega (arith, some))
first_line (b ∷ front) later lines is some are =
    let first = front_first b front later is in
    (first.0, first.1, sym (lines_are ((b ∷ front) ++ later) lines are) ∙ first.2)
