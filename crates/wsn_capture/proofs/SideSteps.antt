-- The lines of a side as they are taken.
use Rattle.std.proofs.Common.{◌≡◌, ℕ, ◌+◌, ◌-◌, ◌*◌, ◌<◌, ◌≤◌, Option, None, List, [], ◌∷◌, ◌++◌, length, take, drop, slice_range, inl, inr, sym, ap, ◌∙◌, subst, append_assoc, append-nil, take-append-drop, drop-drop, arith}
use Rattle.std.proofs.lemmas.Bool.{cases_lt}
use Rattle.std.proofs.lemmas.List.{drop-take, take_at}
use Rattle.wsn_wire.specs.declared.endpoint.Role.{Role}
use Rattle.wsn_rules.specs.TextLines.{IsLine, lines_of}
use Rattle.wsn_rules.proofs.TextLines.{line_first, one_line, front_first}
use Rattle.wsn_rules.specs.Entries.{without_cr}
use Rattle.wsn_capture.specs.declared.line_fault.LineFault.TheVariants.{TooManyLines, TooLong}
use Rattle.wsn_capture.specs.declared.lines_before.LinesBefore.{LinesBefore}
use Rattle.wsn_capture.specs.LineFaults.{line_most, lines_most}
use Rattle.wsn_capture.specs.SideTexts.{sent_in_lines}
use Rattle.wsn_capture.specs.declared.side_bytes.FaultyLine.{FaultyLine}
use Rattle.wsn_capture.specs.declared.side_bytes.SideBytes.{SideBytes}
use Rattle.wsn_capture.specs.LineSplitters.{EndsLine}
use Rattle.wsn_capture.specs.SideStates.{unless_faulty, side_left, IsReady, lines_ahead}
use Rattle.wsn_capture.proofs.SideEntries.{too_many_lines, too_long_line}
use Rattle.wsn_capture.proofs.SideLaws.{side-fault}
use Rattle.wsn_capture.proofs.SplitLines.{too_long, line_join}

-- ---- bytes that are given out

-- the bytes held, in two parts
parts : (bytes : List ℕ) (start end count : ℕ) → start + count ≤ end → slice_range bytes start end ≡ take count (slice_range bytes start end) ++ slice_range bytes (start + count) end
parts bytes start end count within =
    let held = slice_range bytes start end in
    let rest : drop count held ≡ slice_range bytes (start + count) end =
    ap (λ n. drop count (take n (drop start bytes))) {y = count + (end - (start + count))} (omega arith)
    ∙ (drop-take count (end - (start + count)) (drop start bytes) ∙ ap (take (end - (start + count))) (drop-drop count start bytes)) in
    sym (take-append-drop count held) ∙ ap (λ bs. take count held ++ bs) rest

pub given_out : (fault : Option FaultyLine) (bytes copied into later : List ℕ) (start end count : ℕ) → fault ≡ None → start + count ≤ end → length copied ≡ count → copied ≡ take count (slice_range bytes start end)
    → unless_faulty fault (slice_range bytes start end ++ later) ≡ take count (copied ++ drop count into) ++ unless_faulty fault (slice_range bytes (start + count) end ++ later)
given_out fault bytes copied into later start end count none within size copy = grind (arith, parts, append_assoc, take_at)

-- ---- a line that is too long whatever follows

long_after : (role : Role) (before : LinesBefore) (line more : List ℕ) (lines others : List (List ℕ)) → 8196 ≤ length line → sent_in_lines role before (line ∷ lines) ≡ sent_in_lines role before ((line ++ more) ∷ others)
long_after role before line more lines others long =
    elim (cases_lt before.count lines_most) [
      | inl few ↦
          let here : line_most < length (without_cr line) = subst (λ (bs : List ℕ). line_most < length (without_cr bs)) (append-nil line) (too_long line [] long) in
          side-fault role before line lines TooLong (too_long_line before line few here)
          ∙ sym (side-fault role before (line ++ more) others TooLong (too_long_line before (line ++ more) few (too_long line more long)))
      | inr many ↦
          let enough : lines_most ≤ before.count = omega (arith, many) in
          side-fault role before line lines TooManyLines (too_many_lines before line enough)
          ∙ sym (side-fault role before (line ++ more) others TooManyLines (too_many_lines before (line ++ more) enough))
    ]

long_left : (side : SideBytes) (line more : List ℕ) (lines others : List (List ℕ)) → 8196 ≤ length line → side_left side (line ∷ lines) ≡ side_left side ((line ++ more) ∷ others)
long_left side line more lines others long = grind (arith, long_after)

-- the first line of a text begins with these bytes
first_of : (front later : List ℕ) → IsLine front → 0 < length front → (more : List ℕ) × (rest : List (List ℕ)) × (lines_of (front ++ later) ≡ (front ++ more) ∷ rest)
first_of [] later is some = absurd (omega (arith, some))
first_of (b ∷ front) later is some = front_first b front later is

pub long_text : (side : SideBytes) (line later : List ℕ) (lines : List (List ℕ)) → IsLine line → 8196 ≤ length line → side_left side (line ∷ lines) ≡ side_left side (lines_of (line ++ later))
long_text side line later lines is long =
    let first = first_of line later is (omega (arith, long)) in
    long_left side line first.0 lines first.1 long ∙ ap (side_left side) (sym first.2)

-- ---- lines in a text

-- a line, its LF, and what follows
pub line_text : (side : SideBytes) (begun bytes later : List ℕ) → IsLine (begun ++ bytes) → side_left side ((begun ++ bytes) ∷ lines_of later) ≡ side_left side (lines_of (begun ++ (bytes ++ 10 ∷ later)))
line_text side begun bytes later is = grind (arith, line_first, append_assoc)

-- the last line, without LF
pub last_text : (side : SideBytes) (begun : List ℕ) → IsLine begun → (begun ≡ [] → ⊥) → side_left side (begun ∷ []) ≡ side_left side (lines_of (begun ++ []))
last_text side begun is some = ap (side_left side) (sym (ap lines_of (append-nil begun) ∙ one_line begun is some))

-- a chunk up to the end of a line
pub ended_text : (side : SideBytes) (begun line chunk later : List ℕ) (count : ℕ) → IsLine begun → EndsLine begun line chunk count
    → side_left side (line ∷ lines_of (drop count chunk ++ later)) ≡ side_left side (lines_of (begun ++ (chunk ++ later)))
ended_text side begun line chunk later count is ends =
    let rest = drop count chunk ++ later in
    let whole : (front : List ℕ) → take count chunk ≡ front → front ++ rest ≡ chunk ++ later =
    λ front same. ap (λ (bs : List ℕ). bs ++ rest) (sym same) ∙ sym (append_assoc (take count chunk) (drop count chunk) later) ∙ ap (λ (bs : List ℕ). bs ++ later) (take-append-drop count chunk) in
    let joined : IsLine (begun ++ ends.bytes) = line_join begun ends.bytes is ends.in_line in
    elim ends.ends [
      | inl lf ↦
          ap (λ (l : List ℕ). side_left side (l ∷ lines_of rest)) ends.is ∙ line_text side begun ends.bytes rest joined
          ∙ ap (λ (bs : List ℕ). side_left side (lines_of (begun ++ bs))) (sym (append_assoc ends.bytes (10 ∷ []) rest) ∙ whole (ends.bytes ++ 10 ∷ []) lf.0)
      | inr long ↦
          long_text side line rest (lines_of rest) (subst IsLine (sym ends.is) joined) (omega (arith, long.1))
          ∙ ap (λ (bs : List ℕ). side_left side (lines_of bs)) (ap (λ (bs : List ℕ). bs ++ rest) ends.is ∙ append_assoc begun ends.bytes rest ∙ ap (λ (bs : List ℕ). begun ++ bs) (whole ends.bytes long.0))
    ]

-- A line that goes on leaves fewer bytes ahead.
pub fewer_ahead : (side : SideBytes) (begun after : List ℕ) → IsReady side → length after < 8196 → length begun < length after → lines_ahead side * 8197 - length after < lines_ahead side * 8197 - length begun
fewer_ahead side begun after ready short more = grind arith
