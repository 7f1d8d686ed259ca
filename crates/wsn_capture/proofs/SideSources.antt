-- What is left of a side, as its text is read.
use Rattle.std.proofs.Common.{◌≡◌, ℕ, ◌+◌, ◌-◌, ◌≤◌, Bool, true, false, cond, Option, None, Some, List, [], ◌++◌, take, drop, slice_range, sym, ap, ◌∙◌, arith}
use Rattle.std.specs.Prelude.{IsSome, is_some}
use Rattle.std.specs.Option.{option_map}
use Rattle.std.proofs.lemmas.List.{drop-take}
use Rattle.std.specs.Io.KnownBytes.{Keeps, Consumes, IsAtEnd}
use Rattle.wsn_rules.specs.TextLines.{lines_of}
use Rattle.wsn_capture.specs.declared.side_lines.SideLines.{SideLines}
use Rattle.wsn_capture.specs.declared.side_bytes.FaultyLine.{FaultyLine}
use Rattle.wsn_capture.specs.declared.side_bytes.SideBytes.{SideBytes}
use Rattle.wsn_capture.specs.SideStates.{side_left, IsReady, text_left, stop_of, IsLineStop}

keeps_mapped : (known : Option (List ℕ)) (f g : List ℕ → List ℕ) → ((text : List ℕ) → g text ≡ f text) → Keeps (option_map f known) (option_map g known)
keeps_mapped known f g same = grind arith

pub keeps_going : (ended : Bool) (known x y : Option (List ℕ)) (f g : List ℕ → List ℕ) → ended ≡ false → ((text : List ℕ) → g text ≡ f text) → Keeps (cond ended x (option_map f known)) (cond ended y (option_map g known))
keeps_going ended known x y f g going same = grind (arith, keeps_mapped)

range_is : (xs : List ℕ) (start end : ℕ) → start ≤ end → drop start (take end xs) ≡ slice_range xs start end
range_is xs start end within = ap (λ n. drop start (take n xs)) {y = start + (end - start)} (omega arith) ∙ drop-take start (end - start) xs

-- a prefix of a chunk's bytes is taken
pub taken_from : (old new : SideLines) (chunk : List ℕ) (start end count : ℕ) → start + count ≤ end → ((later : List ℕ) → text_left new (drop (start + count) (take end chunk) ++ later) ≡ text_left old (drop start (take end chunk) ++ later))
    → (later : List ℕ) → text_left new (slice_range chunk (start + count) end ++ later) ≡ text_left old (slice_range chunk start end ++ later)
taken_from old new chunk start end count within left later =
    ap (λ (bs : List ℕ). text_left new (bs ++ later)) (sym (range_is chunk (start + count) end within))
    ∙ left later
    ∙ ap (λ (bs : List ℕ). text_left old (bs ++ later)) (range_is chunk start end (omega (arith, within)))

-- ---- bytes that are given out

keeps_consumes : (a b c : Option (List ℕ)) (bs : List ℕ) → Keeps a b → Consumes b c bs → Consumes a c bs
keeps_consumes a b c bs keeps consumes = grind arith

mapped_consumes : (known : Option (List ℕ)) (f g : List ℕ → List ℕ) (bs : List ℕ) → ((text : List ℕ) → f text ≡ bs ++ g text) → Consumes (option_map f known) (option_map g known) bs
mapped_consumes known f g bs same = grind arith

module _ (ended : Bool) (known : Option (List ℕ)) (begun chunk : List ℕ) where
  abbrev left_of : SideBytes → Option (List ℕ)
  left_of side = cond ended (Some (side_left side [])) (option_map (λ text. side_left side (lines_of (begun ++ (chunk ++ text)))) known)

pub given_consumes : (ended : Bool) (known before : Option (List ℕ)) (begun chunk bs : List ℕ) (old new : SideBytes) → Keeps before (left_of ended known begun chunk old)
    → ((lines : List (List ℕ)) → side_left old lines ≡ bs ++ side_left new lines) → Consumes before (left_of ended known begun chunk new) bs
given_consumes true known before begun chunk bs old new keeps left = keeps_consumes before (left_of true known begun chunk old) (left_of true known begun chunk new) bs keeps (left [])
given_consumes false known before begun chunk bs old new keeps left =
    keeps_consumes before (left_of false known begun chunk old) (left_of false known begun chunk new) bs keeps
    (mapped_consumes known (λ text. side_left old (lines_of (begun ++ (chunk ++ text)))) (λ text. side_left new (lines_of (begun ++ (chunk ++ text)))) bs (λ text. left (lines_of (begun ++ (chunk ++ text)))))

nothing_left : (side : SideBytes) → IsReady side → side_left side [] ≡ []
nothing_left side ready = grind arith

-- no byte was given out at the end of the text
pub nothing_given : (ended : Bool) (known : Option (List ℕ)) (begun chunk into : List ℕ) (count : ℕ) (old new : SideBytes) → ended ≡ true → IsReady old → count ≡ 0
    → ((lines : List (List ℕ)) → side_left old lines ≡ take count into ++ side_left new lines) → IsAtEnd (left_of ended known begun chunk new)
nothing_given false known begun chunk into count old new over ready none left = absurd (cc over)
nothing_given true known begun chunk into count old new over ready none left =
    sym (left [] ∙ ap (λ (n : ℕ). take n into ++ side_left new []) none) ∙ nothing_left old ready

-- ---- stops

pub line_is_some : (fault : Option FaultyLine) (failed : Bool) → IsLineStop (stop_of fault failed) → IsSome fault
line_is_some fault failed is = grind arith

pub none_is : (fault : Option FaultyLine) → is_some fault ≡ false → fault ≡ None
none_is fault is = grind arith

pub unfaulted_before : (old new : Option FaultyLine) → (IsSome old → new ≡ old) → new ≡ None → old ≡ None
unfaulted_before old new kept none = grind arith

pub not_both : (fault : Option FaultyLine) → IsSome fault → fault ≡ None → ⊥
not_both fault fact none = grind arith
