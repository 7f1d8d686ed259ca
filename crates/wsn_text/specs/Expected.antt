-- The states of a `Utf8`, and the ranges of the bytes that each state expects.
use Rattle.std.specs.Prelude.{◌≡◌, ◌==◌, if◌then◌else◌, List, [], ◌∷◌, Option, Some, None, refl}
use Rattle.wsn_text.specs.Utf8.{Range, ◌–◌}
use Rattle.wsn_text.specs.declared.expected.Expected.{Expected, TheVariants.{Character, One, Two, TwoFromA0, TwoUpTo9F, Three, ThreeFrom90, ThreeUpTo8F, Nothing}}

-- The ranges of the bytes that the last character still needs; none at all after a bad byte.
abbrev pub awaited : Expected → Option (List Range)
awaited Character = Some []
awaited One = Some ((0x80 – 0xBF) ∷ [])
awaited Two = Some ((0x80 – 0xBF) ∷ (0x80 – 0xBF) ∷ [])
awaited TwoFromA0 = Some ((0xA0 – 0xBF) ∷ (0x80 – 0xBF) ∷ [])
awaited TwoUpTo9F = Some ((0x80 – 0x9F) ∷ (0x80 – 0xBF) ∷ [])
awaited Three = Some ((0x80 – 0xBF) ∷ (0x80 – 0xBF) ∷ (0x80 – 0xBF) ∷ [])
awaited ThreeFrom90 = Some ((0x90 – 0xBF) ∷ (0x80 – 0xBF) ∷ (0x80 – 0xBF) ∷ [])
awaited ThreeUpTo8F = Some ((0x80 – 0x8F) ∷ (0x80 – 0xBF) ∷ (0x80 – 0xBF) ∷ [])
awaited Nothing = None

-- The state that expects these ranges.
abbrev pub expecting : Option (List Range) → Expected
expecting None = Nothing
expecting (Some []) = Character
expecting (Some (r ∷ [])) = One
expecting (Some (r ∷ s ∷ [])) = if r.low == 0xA0 then TwoFromA0 else (if r.high == 0x9F then TwoUpTo9F else Two)
expecting (Some (r ∷ s ∷ t ∷ row)) =
    if r.low == 0x90 then ThreeFrom90 else (if r.high == 0x8F then ThreeUpTo8F else Three)

-- A state is the one that expects its ranges.
pub expecting-awaited : (expected : Expected) → expecting (awaited expected) ≡ expected
expecting-awaited Character = refl
expecting-awaited One = refl
expecting-awaited Two = refl
expecting-awaited TwoFromA0 = refl
expecting-awaited TwoUpTo9F = refl
expecting-awaited Three = refl
expecting-awaited ThreeFrom90 = refl
expecting-awaited ThreeUpTo8F = refl
expecting-awaited Nothing = refl
