-- Text begins with a character: after its first byte come the other bytes of a row, and then text.
use Rattle.std.proofs.Common.{◌≡◌, ℕ, ◌≤◌, ◌⊎◌, ◌↔◌, List, [], ◌∷◌, ◌++◌, inl, inr, refl, sym, subst, ap, arith}
use Rattle.std.specs.List.{AllByRecursion, concat}
use Rattle.wsn_text.specs.Utf8.{Range, ◌–◌, table, FitsRow, FitsSome, IsCharacter, IsText}
use Rattle.wsn_text.specs.Validated.{IsRest}

pub text-nil : IsText []
text-nil = record { characters = []; each = tt; whole = refl }

pub text_push : (character bytes : List ℕ) → IsCharacter character → IsText bytes → IsText (character ++ bytes)
text_push character bytes fits text = record { characters = character ∷ text.characters; each = (fits, text.each); whole = ap (λ (rest : List ℕ). character ++ rest) text.whole }

rest_after : (row : List Range) (front bytes : List ℕ) → FitsRow row front → IsText bytes → IsRest row (front ++ bytes)
rest_after [] [] bytes fits text = text
rest_after [] (b ∷ front) bytes fits text = absurd fits
rest_after (r ∷ row) [] bytes fits text = absurd fits
rest_after (r ∷ row) (b ∷ front) bytes fits text = (fits.0, fits.1, rest_after row front bytes fits.2 text)

-- The rest of a character ends somewhere, and text follows.
record Parts (Fits : List ℕ → Type 0) (bytes : List ℕ) : Type 0 where
  front : List ℕ
  following : List ℕ
  fits : Fits front
  text : IsText following
  joined : bytes ≡ front ++ following

parts_of_rest : (row : List Range) (bytes : List ℕ) → IsRest row bytes → Parts (FitsRow row) bytes
parts_of_rest [] bytes text = record { front = []; following = bytes; fits = tt; text = text; joined = refl }
parts_of_rest (r ∷ row) [] rest = absurd rest
parts_of_rest (r ∷ row) (b ∷ bytes) rest =
    let p : Parts (FitsRow row) bytes = parts_of_rest row bytes rest.2 in
    record { front = b ∷ p.front; following = p.following; fits = (rest.0, rest.1, p.fits); text = p.text; joined = ap (λ (t : List ℕ). b ∷ t) p.joined }

abbrev SomeRest : List (List Range) → List ℕ → Type 0
SomeRest [] bytes = ⊥
SomeRest (row ∷ rows) bytes = IsRest row bytes ⊎ SomeRest rows bytes

some_rest : (rows : List (List Range)) (front bytes : List ℕ) → FitsSome rows front → IsText bytes → SomeRest rows (front ++ bytes)
some_rest [] front bytes fits text = absurd fits
some_rest (row ∷ rows) front bytes fits text =
    elim fits [ inl here ↦ inl (rest_after row front bytes here text) | inr later ↦ inr (some_rest rows front bytes later text) ]

parts_of_some : (rows : List (List Range)) (bytes : List ℕ) → SomeRest rows bytes → Parts (FitsSome rows) bytes
parts_of_some [] bytes rest = absurd rest
parts_of_some (row ∷ rows) bytes rest =
    elim rest [
      | inl here ↦
          let p : Parts (FitsRow row) bytes = parts_of_rest row bytes here in
          record { front = p.front; following = p.following; fits = inl p.fits; text = p.text; joined = p.joined }
      | inr later ↦
          let p : Parts (FitsSome rows) bytes = parts_of_some rows bytes later in
          record { front = p.front; following = p.following; fits = inr p.fits; text = p.text; joined = p.joined }
    ]

text_of_some : (bytes : List ℕ) → SomeRest table bytes → IsText bytes
text_of_some bytes rest =
    let p : Parts IsCharacter bytes = parts_of_some table bytes rest in
    subst IsText (sym p.joined) (text_push p.front p.following p.fits p.text)

some_of_characters : (characters : List (List ℕ)) (b : ℕ) (bytes : List ℕ) → AllByRecursion IsCharacter characters → b ∷ bytes ≡ concat characters → SomeRest table (b ∷ bytes)
some_of_characters [] b bytes each whole = cc
some_of_characters (character ∷ characters) b bytes each whole =
    subst (SomeRest table) (sym whole) (some_rest table character (concat characters) each.0 (record { characters = characters; each = each.1; whole = refl }))

some_of_text : (b : ℕ) (bytes : List ℕ) → IsText (b ∷ bytes) → SomeRest table (b ∷ bytes)
some_of_text b bytes text = some_of_characters text.characters b bytes text.each text.whole

abbrev pub any : Range
any = 0x80 – 0xBF

pub after_ascii : (b : ℕ) → b ≤ 0x7F → (bytes : List ℕ) → IsText (b ∷ bytes) ↔ IsText bytes
after_ascii b first bytes =
    (λ text. let some : SomeRest table (b ∷ bytes) = some_of_text b bytes text in grind arith, λ rest. text_of_some (b ∷ bytes) (inl (omega arith, omega arith, rest)))

pub after_two : (b : ℕ) → (0xC2 ≤ b) × (b ≤ 0xDF) → (bytes : List ℕ) → IsText (b ∷ bytes) ↔ IsRest (any ∷ []) bytes
after_two b first bytes =
    (λ text. let some : SomeRest table (b ∷ bytes) = some_of_text b bytes text in grind arith, λ rest. text_of_some (b ∷ bytes) (inr (inl (omega arith, omega arith, rest))))

pub after_E0 : (b : ℕ) → b ≡ 0xE0 → (bytes : List ℕ) → IsText (b ∷ bytes) ↔ IsRest ((0xA0 – 0xBF) ∷ any ∷ []) bytes
after_E0 b first bytes =
    (λ text. let some : SomeRest table (b ∷ bytes) = some_of_text b bytes text in grind arith, λ rest. text_of_some (b ∷ bytes) (inr (inr (inl (omega arith, omega arith, rest)))))

pub after_E1_to_EC : (b : ℕ) → (0xE1 ≤ b) × (b ≤ 0xEC) → (bytes : List ℕ) → IsText (b ∷ bytes) ↔ IsRest (any ∷ any ∷ []) bytes
after_E1_to_EC b first bytes =
    (λ text. let some : SomeRest table (b ∷ bytes) = some_of_text b bytes text in grind arith, λ rest. text_of_some (b ∷ bytes) (inr (inr (inr (inl (omega arith, omega arith, rest))))))

pub after_ED : (b : ℕ) → b ≡ 0xED → (bytes : List ℕ) → IsText (b ∷ bytes) ↔ IsRest ((0x80 – 0x9F) ∷ any ∷ []) bytes
after_ED b first bytes =
    (λ text. let some : SomeRest table (b ∷ bytes) = some_of_text b bytes text in grind arith, λ rest. text_of_some (b ∷ bytes) (inr (inr (inr (inr (inl (omega arith, omega arith, rest)))))))

pub after_EE_to_EF : (b : ℕ) → (0xEE ≤ b) × (b ≤ 0xEF) → (bytes : List ℕ) → IsText (b ∷ bytes) ↔ IsRest (any ∷ any ∷ []) bytes
after_EE_to_EF b first bytes =
    (λ text. let some : SomeRest table (b ∷ bytes) = some_of_text b bytes text in grind arith, λ rest. text_of_some (b ∷ bytes) (inr (inr (inr (inr (inr (inl (omega arith, omega arith, rest))))))))

pub after_F0 : (b : ℕ) → b ≡ 0xF0 → (bytes : List ℕ) → IsText (b ∷ bytes) ↔ IsRest ((0x90 – 0xBF) ∷ any ∷ any ∷ []) bytes
after_F0 b first bytes =
    (λ text. let some : SomeRest table (b ∷ bytes) = some_of_text b bytes text in grind arith, λ rest. text_of_some (b ∷ bytes) (inr (inr (inr (inr (inr (inr (inl (omega arith, omega arith, rest)))))))))

pub after_F1_to_F3 : (b : ℕ) → (0xF1 ≤ b) × (b ≤ 0xF3) → (bytes : List ℕ) → IsText (b ∷ bytes) ↔ IsRest (any ∷ any ∷ any ∷ []) bytes
after_F1_to_F3 b first bytes =
    (λ text. let some : SomeRest table (b ∷ bytes) = some_of_text b bytes text in grind arith, λ rest. text_of_some (b ∷ bytes) (inr (inr (inr (inr (inr (inr (inr (inl (omega arith, omega arith, rest))))))))))

pub after_F4 : (b : ℕ) → b ≡ 0xF4 → (bytes : List ℕ) → IsText (b ∷ bytes) ↔ IsRest ((0x80 – 0x8F) ∷ any ∷ any ∷ []) bytes
after_F4 b first bytes =
    (λ text. let some : SomeRest table (b ∷ bytes) = some_of_text b bytes text in grind arith, λ rest. text_of_some (b ∷ bytes) (inr (inr (inr (inr (inr (inr (inr (inr (inl (omega arith, omega arith, rest)))))))))))

pub after_none : (b : ℕ) → ((0x80 ≤ b) × (b ≤ 0xC1)) ⊎ (0xF5 ≤ b) → (bytes : List ℕ) → ¬ (IsText (b ∷ bytes))
after_none b first bytes text = let some : SomeRest table (b ∷ bytes) = some_of_text b bytes text in grind arith
