use Rattle.std.proofs.Common.{arith, ◌≡◌, ℕ, ◌+◌, ◌<◌, ◌≤◌, Bool, true, false, cond, List, ◌∷◌, map, drop, get_or, length, ap, sym, ◌∙◌, codes, string_bytes, if◌then◌else◌}
use Rattle.std.proofs.lemmas.List.{drop-map, drop_more, length-map}
use Rattle.std.proofs.Math.ListN.{drop_of_length-le}
use Rattle.std.specs.Str.{bytes_eq}
use Rattle.wsn_cli.specs.Inputs.{dashes}
use Rattle.wsn_cli.proofs.closings.has_two_dashes.Goals as goal
use Rattle.wsn_cli.proofs.closings.has_two_dashes.Goals.{then-eq+else-has_one, else-eq}

-- the dashes among the names that are left, by the first of these
step : {S : Type 0} (bytes : S → List ℕ) (files : List S) (at : ℕ) (d : S) (name : List ℕ) (is_dash : Bool) → at < length files → d ≡ get_or files at d → name ≡ bytes d
    → is_dash ≡ bytes_eq name (codes "-") → dashes (drop at (map bytes files)) ≡ (if is_dash then 1 else 0) + dashes (drop (at + 1) (map bytes files))
step {S} bytes files at d name is_dash less is named dash =
    ap dashes (drop-map bytes at files ∙ ap (map bytes) (drop_more files at d less) ∙ ap (λ (later : List (List ℕ)). bytes (get_or files at d) ∷ later) (sym (drop-map bytes (at + 1) files)))
    ∙ ap (λ (file : S). (if bytes_eq (bytes file) (codes "-") then 1 else 0) + dashes (drop (at + 1) (map bytes files))) (sym is)
    ∙ ap (λ (word : List ℕ). (if bytes_eq word (codes "-") then 1 else 0) + dashes (drop (at + 1) (map bytes files))) (sym named)
    ∙ ap (λ (b : Bool). (if b then 1 else 0) + dashes (drop (at + 1) (map bytes files))) (sym dash)

-- a number for whether a name is a dash
abbrev of_dash : Bool → ℕ
of_dash is_dash = if is_dash then 1 else 0

abbrev of_has : Bool → ℕ
of_has has_one = cond has_one 1 0

-- a name that is no dash
passes : (all here rest : ℕ) (has_one is_dash after : Bool) → all ≡ cond has_one 1 0 + here → here ≡ (if is_dash then 1 else 0) + rest → is_dash ≡ false → after ≡ has_one
    → all ≡ cond after 1 0 + rest
passes all here rest has_one is_dash after so_far here_is other same =
    let dash : of_dash is_dash ≡ 0 = ap of_dash other in
    let has : of_has after ≡ of_has has_one = ap of_has same in
    omega (arith, so_far, here_is, dash, has)

-- the first dash
counts : (all here rest : ℕ) (has_one is_dash after : Bool) → all ≡ cond has_one 1 0 + here → here ≡ (if is_dash then 1 else 0) + rest → is_dash ≡ true → has_one ≡ false → after ≡ true
    → all ≡ cond after 1 0 + rest
counts all here rest has_one is_dash after so_far here_is one_more none one =
    let dash : of_dash is_dash ≡ 1 = ap of_dash one_more in
    let had : of_has has_one ≡ 0 = ap of_has none in
    let has : of_has after ≡ 1 = ap of_has one in
    omega (arith, so_far, here_is, dash, had, has)

at_most_one : (has_one : Bool) (all left : ℕ) → all ≡ cond has_one 1 0 + left → left ≡ 0 → all ≤ 1
at_most_one true all left is none = omega (arith, is, none)
at_most_one false all left is none = omega (arith, is, none)

pub loop-file-preserved : goal.loop-file-preserved
loop-file-preserved c =
    let names : List (List ℕ) = map string_bytes c.args.files.now in
    let here = step string_bytes c.args.files.now c.loop-file.file-index c.file-item.result c.as_str.result.now c.eq.result c.loop-file-test.true c.file-item.is c.as_str.ensures.value c.eq.ensures in
    elim c.if-eq.branch [
      | then-eq+else-has_one w ↦
          counts (dashes names) (dashes (drop c.loop-file.file-index names)) (dashes (drop (c.loop-file.file-index + 1) names)) c.loop-file.has_one c.eq.result c.if-eq.has_one c.loop-file.invariant here w.if-eq.true w.if-has_one.false w.has_one-is
      | else-eq w ↦
          passes (dashes names) (dashes (drop c.loop-file.file-index names)) (dashes (drop (c.loop-file.file-index + 1) names)) c.loop-file.has_one c.eq.result c.if-eq.has_one c.loop-file.invariant here w.if-eq.false w.has_one-is
    ]

pub returns : goal.returns
returns c =
    λ none.
    at_most_one c.loop-file.has_one (dashes (map string_bytes c.args.files.now)) (dashes (drop c.loop-file.file-index (map string_bytes c.args.files.now))) c.loop-file.invariant
    (ap dashes (drop_of_length-le (map string_bytes c.args.files.now) (omega (arith, c.loop-file-test.false, length-map c.args.files.now string_bytes))))
