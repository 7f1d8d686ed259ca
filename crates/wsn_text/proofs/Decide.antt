-- Whether bytes are text, and whether they begin text, is decided byte by byte.
use Rattle.std.proofs.Common.{ℕ, ◌<◌, ◌≤◌, ◌⊎◌, ◌↔◌, List, [], ◌∷◌, ◌++◌, Option, Some, None, inl, inr, sym, subst, append-nil, arith}
use Rattle.wsn_text.proofs.Numbers.{less_or_not, same_or_not}
use Rattle.std.specs.List.{AllByRecursion}
use Rattle.wsn_text.specs.Utf8.{Range, ◌–◌, IsText, BeginsText}
use Rattle.wsn_text.specs.Validated.{IsRest, Follows}
use Rattle.wsn_text.proofs.Rests.{text-nil, any, after_ascii, after_two, after_E0, after_E1_to_EC, after_ED, after_EE_to_EF, after_F0, after_F1_to_F3, after_F4, after_none}

-- No range is empty.
abbrev pub Fillable : Option (List Range) → Type 0
Fillable None = Unit {0}
Fillable (Some row) = AllByRecursion (λ r. r.low ≤ r.high) row

-- What may follow these bytes, if `before` may follow before them.
pub record Behind (before : Option (List Range)) (bytes : List ℕ) : Type 0 where
  pub after : Option (List Range)
  pub fillable : Fillable after
  pub same : (more : List ℕ) → Follows before (bytes ++ more) ↔ Follows after more

unfoldable pub nothing : (before : Option (List Range)) (bytes : List ℕ) → ((more : List ℕ) → ¬ (Follows before (bytes ++ more))) → Behind before bytes
nothing before bytes never = record { after = None; fillable = tt; same = λ more. (never more, λ none. absurd none) }

unfoldable pub begun : (b : ℕ) (row : List Range) → Fillable (Some row) → ((more : List ℕ) → IsText (b ∷ more) ↔ IsRest row more) → Behind (Some []) (b ∷ [])
begun b row fillable same = record { after = Some row; fillable = fillable; same = same }

unfoldable pub four_long : (b : ℕ) → 0xF0 ≤ b → Behind (Some []) (b ∷ [])
four_long b low =
    elim (same_or_not b 0xF0) [
      | inl e ↦ begun b ((0x90 – 0xBF) ∷ any ∷ any ∷ []) (omega arith, (omega arith, (omega arith, tt))) (after_F0 b e)
      | inr n ↦ elim (less_or_not b 0xF4) [
        | inl l ↦ begun b (any ∷ any ∷ any ∷ []) (omega arith, (omega arith, (omega arith, tt))) (after_F1_to_F3 b (omega arith))
        | inr l ↦ elim (same_or_not b 0xF4) [
          | inl e ↦ begun b ((0x80 – 0x8F) ∷ any ∷ any ∷ []) (omega arith, (omega arith, (omega arith, tt))) (after_F4 b e)
          | inr m ↦ nothing (Some []) (b ∷ []) (after_none b (inr (omega arith)))
        ]
      ]
    ]

unfoldable pub three_long : (b : ℕ) → 0xE0 ≤ b → b < 0xF0 → Behind (Some []) (b ∷ [])
three_long b low high =
    elim (same_or_not b 0xE0) [
      | inl e ↦ begun b ((0xA0 – 0xBF) ∷ any ∷ []) (omega arith, (omega arith, tt)) (after_E0 b e)
      | inr n ↦ elim (less_or_not b 0xED) [
        | inl l ↦ begun b (any ∷ any ∷ []) (omega arith, (omega arith, tt)) (after_E1_to_EC b (omega arith))
        | inr l ↦ elim (same_or_not b 0xED) [
          | inl e ↦ begun b ((0x80 – 0x9F) ∷ any ∷ []) (omega arith, (omega arith, tt)) (after_ED b e)
          | inr m ↦ begun b (any ∷ any ∷ []) (omega arith, (omega arith, tt)) (after_EE_to_EF b (omega arith))
        ]
      ]
    ]

unfoldable pub after_first : (b : ℕ) → Behind (Some []) (b ∷ [])
after_first b =
    elim (less_or_not b 0x80) [
      | inl a ↦ begun b [] tt (after_ascii b (omega arith))
      | inr a ↦ elim (less_or_not b 0xC2) [
        | inl c ↦ nothing (Some []) (b ∷ []) (after_none b (inl (omega arith)))
        | inr c ↦ elim (less_or_not b 0xE0) [
          | inl d ↦ begun b (any ∷ []) (omega arith, tt) (after_two b (omega arith))
          | inr d ↦ elim (less_or_not b 0xF0) [ inl e ↦ three_long b d e | inr e ↦ four_long b e ]
        ]
      ]
    ]

unfoldable pub after_byte : (before : Option (List Range)) → Fillable before → (b : ℕ) → Behind before (b ∷ [])
after_byte None fillable b = nothing None (b ∷ []) (λ more none. none)
after_byte (Some []) fillable b = after_first b
after_byte (Some (r ∷ row)) fillable b =
    elim (less_or_not b r.low) [
      | inl below ↦ nothing (Some (r ∷ row)) (b ∷ []) (λ more rest. absurd (omega (arith, rest.0)))
      | inr above ↦ elim (less_or_not r.high b) [
        | inl over ↦ nothing (Some (r ∷ row)) (b ∷ []) (λ more rest. absurd (omega (arith, rest.1)))
        | inr under ↦ record { after = Some row; fillable = fillable.1; same = λ more. (λ rest. rest.2, λ rest. (above, under, rest)) }
      ]
    ]

unfoldable pub following : (bytes : List ℕ) (before : Option (List Range)) → Fillable before → Behind before bytes
following [] before fillable = record { after = before; fillable = fillable; same = λ more. (λ f. f, λ f. f) }
following (b ∷ bytes) before fillable =
    let one : Behind before (b ∷ []) = after_byte before fillable b in
    let all : Behind one.after bytes = following bytes one.after one.fillable in
    record {
      after = all.after;
      fillable = all.fillable;
      same = λ more. (λ f. (all.same more).0 ((one.same (bytes ++ more)).0 f), λ f. (one.same (bytes ++ more)).1 ((all.same more).1 f));
    }

-- The least bytes that fit a row.
unfoldable pub fill : (row : List Range) → AllByRecursion (λ r. r.low ≤ r.high) row → (bytes : List ℕ) × IsRest row bytes
fill [] each = ([], text-nil)
fill (r ∷ row) each = let filled = fill row each.1 in (r.low ∷ filled.0, (omega arith, each.0, filled.1))

unfoldable pub begins_by : (bytes : List ℕ) (after : Option (List Range)) → Fillable after → ((more : List ℕ) → IsText (bytes ++ more) ↔ Follows after more) → BeginsText bytes ⊎ (BeginsText bytes → ⊥)
begins_by bytes None fillable same = inr (λ begins. (same begins.more).0 begins.text)
begins_by bytes (Some row) fillable same = let filled = fill row fillable in inl (record { more = filled.0; text = (same filled.0).1 filled.1 })

unfoldable pub begins_decided : (bytes : List ℕ) → BeginsText bytes ⊎ (BeginsText bytes → ⊥)
begins_decided bytes = let b : Behind (Some []) bytes = following bytes (Some []) tt in begins_by bytes b.after b.fillable b.same

unfoldable pub text_by : (bytes : List ℕ) (after : Option (List Range)) → IsText (bytes ++ []) ↔ Follows after [] → IsText bytes ⊎ (IsText bytes → ⊥)
text_by bytes None same = inr (λ text. same.0 (subst IsText (sym (append-nil bytes)) text))
text_by bytes (Some []) same = inl (subst IsText (append-nil bytes) (same.1 text-nil))
text_by bytes (Some (r ∷ row)) same = inr (λ text. same.0 (subst IsText (sym (append-nil bytes)) text))

unfoldable pub text_decided : (bytes : List ℕ) → IsText bytes ⊎ (IsText bytes → ⊥)
text_decided bytes = let b : Behind (Some []) bytes = following bytes (Some []) tt in text_by bytes b.after (b.same [])
