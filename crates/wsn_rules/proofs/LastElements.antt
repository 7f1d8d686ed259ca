-- The last elements of a list.
use Rattle.std.proofs.Common.{◌≡◌, ℕ, ◌+◌, ◌-◌, ◌≤◌, List, [], ◌∷◌, ◌++◌, length, drop, sym, ap, ◌∙◌, length-append, length-drop, inl, inr, arith}
use Rattle.std.proofs.lemmas.List.{drop-append-le, drop-drop, drop_all, drop-map, length-map}
use Rattle.std.proofs.Math.Seq.{drop-append-add}
use Rattle.wsn_rules.specs.BadCharacter.{last_of, bytes_of, PlacedByte}
use Rattle.wsn_text.proofs.Numbers.{less_or_not}

module _ {A : Type 0} where
  pub last_of_none : (xs : List A) → last_of 0 xs ≡ []
  last_of_none xs = drop_all (length xs - 0) xs (omega arith)

  -- Of long ones the elements before them don't matter.
  pub last_of_long : (n : ℕ) (xs ys : List A) → n ≤ length ys → last_of n (xs ++ ys) ≡ last_of n ys
  last_of_long n xs ys long =
      ap (λ (k : ℕ). drop k (xs ++ ys)) (omega (arith, length-append xs ys, long)) ∙ drop-append-add xs ys (length ys - n)

  -- Of short ones all of them are among the last, after the last of the elements before them.
  pub last_of_short : (n : ℕ) (xs ys : List A) → length ys ≤ n → last_of n (xs ++ ys) ≡ last_of (n - length ys) xs ++ ys
  last_of_short n xs ys short =
      ap (λ (k : ℕ). drop k (xs ++ ys)) (omega (arith, length-append xs ys, short)) ∙ drop-append-le (length xs - (n - length ys)) xs ys (omega arith)

  -- The last of the last.
  pub last_of_last : (m n : ℕ) (xs : List A) → m ≤ n → last_of m (last_of n xs) ≡ last_of m xs
  last_of_last m n xs fewer =
      let size : length (last_of n xs) ≡ length xs - (length xs - n) = length-drop (length xs - n) xs in
      drop-drop (length (last_of n xs) - m) (length xs - n) xs ∙ ap (λ (k : ℕ). drop k xs) (omega (arith, size, fewer))

  -- The elements before the last ones of each part don't matter.
  pub last_of_joined : (n : ℕ) (xs ys : List A) → last_of n (xs ++ ys) ≡ last_of (n - length (last_of n ys)) xs ++ last_of n ys
  last_of_joined n xs ys =
      let size : length (last_of n ys) ≡ length ys - (length ys - n) = length-drop (length ys - n) ys in
      elim (less_or_not n (length ys)) [
        | inl less ↦
            let none : n - length (last_of n ys) ≡ 0 = omega (arith, size, less) in
            last_of_long n xs ys (omega (arith, less)) ∙ sym (ap (λ (k : ℕ). last_of k xs ++ last_of n ys) none ∙ ap (λ (zs : List A). zs ++ last_of n ys) (last_of_none xs))
        | inr all ↦
            let same : last_of n ys ≡ ys = ap (λ (k : ℕ). drop k ys) (let none : length ys - n ≡ 0 = omega (arith, all) in none) in
            last_of_short n xs ys all ∙ ap (λ (zs : List A). last_of (n - length zs) xs ++ zs) (sym same)
      ]

  -- Of two pairs of parts with the same last elements.
  pub last_of_both : (n : ℕ) (xs ys zs ws : List A) → last_of n xs ≡ last_of n zs → last_of n ys ≡ last_of n ws → last_of n (xs ++ ys) ≡ last_of n (zs ++ ws)
  last_of_both n xs ys zs ws first second =
      let k : List A → ℕ = λ bs. n - length bs in
      let within : k (last_of n ys) ≤ n = omega arith in
      let front : last_of (k (last_of n ys)) xs ≡ last_of (k (last_of n ys)) zs =
      sym (last_of_last (k (last_of n ys)) n xs within) ∙ ap (λ (bs : List A). last_of (k (last_of n ys)) bs) first ∙ last_of_last (k (last_of n ys)) n zs within in
      last_of_joined n xs ys ∙ ap (λ (bs : List A). bs ++ last_of n ys) front ∙ ap (λ (bs : List A). last_of (k bs) zs ++ bs) second ∙ sym (last_of_joined n zs ws)

  -- After one more, of the last ones before it.
  pub last_of_push : (n : ℕ) (xs held : List A) (x : A) → held ≡ last_of (n + 1) xs → last_of (n + 1) (xs ++ x ∷ []) ≡ drop (length held - n) held ++ x ∷ []
  last_of_push n xs held x is =
      let k = length xs - (n + 1) in
      let size : length held ≡ length xs - k = ap (λ (ys : List A). length ys) is ∙ length-drop k xs in
      let longer : length (xs ++ x ∷ []) ≡ length xs + 1 = length-append xs (x ∷ []) in
      let first : length (xs ++ x ∷ []) - (n + 1) ≡ k + (length held - n) = omega (arith, size, longer) in
      ap (λ (m : ℕ). drop m (xs ++ x ∷ [])) first ∙ drop-append-le (k + (length held - n)) xs (x ∷ []) (omega (arith, size))
      ∙ ap (λ (ys : List A). ys ++ x ∷ []) (sym (drop-drop (length held - n) k xs) ∙ ap (λ (ys : List A). drop (length held - n) ys) (sym is))

pub bytes_of_last : (n : ℕ) (xs : List PlacedByte) → bytes_of (last_of n xs) ≡ last_of n (bytes_of xs)
bytes_of_last n xs = sym (drop-map (λ (b : PlacedByte). b.byte) (length xs - n) xs) ∙ ap (λ (k : ℕ). drop (k - n) (bytes_of xs)) (sym (length-map xs (λ (b : PlacedByte). b.byte)))
