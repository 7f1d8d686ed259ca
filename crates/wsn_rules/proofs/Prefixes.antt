-- Lists that begin the same list, and where a list is split.
use Rattle.std.proofs.Common.{◌≡◌, List, [], ◌∷◌, ◌++◌, ◌⊎◌, length, refl, sym, ap, inl, inr, arith, append_assoc}

module _ {A : Type 0} where
  pub head_same : (x y : A) (xs ys : List A) → x ∷ xs ≡ y ∷ ys → x ≡ y
  head_same x y xs ys e = cc

  pub tail_same : (x y : A) (xs ys : List A) → x ∷ xs ≡ y ∷ ys → xs ≡ ys
  tail_same x y xs ys e = cc

  pub nil-cons : (x : A) (xs : List A) → [] ≡ x ∷ xs → ⊥
  nil-cons x xs e = cc

  pub nil-push : (xs : List A) (x : A) (ys : List A) → [] ≡ xs ++ x ∷ ys → ⊥
  nil-push [] x ys e = nil-cons x ys e
  nil-push (y ∷ xs) x ys e = nil-cons y (xs ++ x ∷ ys) e

  pub nil-parts : (xs ys : List A) → [] ≡ xs ++ ys → (xs ≡ []) × (ys ≡ [])
  nil-parts [] ys e = (refl, sym e)
  nil-parts (x ∷ xs) ys e = absurd (nil-cons x (xs ++ ys) e)

  pub cons_same : (x y : A) (xs ys : List A) → x ≡ y → xs ≡ ys → x ∷ xs ≡ y ∷ ys
  cons_same x y xs ys e f = cc

  -- The list ys continues xs.
  abbrev pub GoesOn : List A → List A → List A → List A → Type 0
  GoesOn xs r ys s = (more : List A) × (ys ≡ xs ++ more) × (r ≡ more ++ s)

  pub two_fronts : (xs ys r s : List A) → xs ++ r ≡ ys ++ s → GoesOn xs r ys s ⊎ GoesOn ys s xs r
  two_fronts [] ys r s e = inl (ys, refl, e)
  two_fronts (x ∷ xs) [] r s e = inr (x ∷ xs, refl, sym e)
  two_fronts (x ∷ xs) (y ∷ ys) r s e =
      let heads = head_same x y (xs ++ r) (ys ++ s) e in
      let rests = two_fronts xs ys r s (tail_same x y (xs ++ r) (ys ++ s) e) in
      elim rests [
        | inl p ↦ inl (p.0, cons_same y x ys (xs ++ p.0) (sym heads) p.1, p.2)
        | inr p ↦ inr (p.0, cons_same x y xs (ys ++ p.0) heads p.1, p.2)
      ]

  pub same_front : (xs ys r s : List A) → length xs ≡ length ys → xs ++ r ≡ ys ++ s → (xs ≡ ys) × (r ≡ s)
  same_front [] [] r s l e = (refl, e)
  same_front [] (y ∷ ys) r s l e = absurd (omega arith)
  same_front (x ∷ xs) [] r s l e = absurd (omega arith)
  same_front (x ∷ xs) (y ∷ ys) r s l e =
      let rests = same_front xs ys r s (omega arith) (tail_same x y (xs ++ r) (ys ++ s) e) in
      (cons_same x y xs ys (head_same x y (xs ++ r) (ys ++ s) e) rests.0, rests.1)

  pub append_cancel : (xs r s : List A) → xs ++ r ≡ xs ++ s → r ≡ s
  append_cancel xs r s e = (same_front xs xs r s refl e).1

  -- A list with one more element, split at an element: it is the last, or comes before it.
  abbrev pub SplitPush : List A → A → List A → A → List A → Type 0
  SplitPush xs x before y after =
      ((before ≡ xs) × (y ≡ x) × (after ≡ [])) ⊎ ((between : List A) × (xs ≡ before ++ y ∷ between) × (after ≡ between ++ x ∷ []))

  pub split_push : (xs : List A) (x : A) (before : List A) (y : A) (after : List A) → xs ++ x ∷ [] ≡ before ++ y ∷ after → SplitPush xs x before y after
  split_push [] x [] y after e = inl (refl, sym (head_same x y [] after e), sym (tail_same x y [] after e))
  split_push [] x (b ∷ before) y after e = absurd (nil-push before y after (tail_same x b [] (before ++ y ∷ after) e))
  split_push (w ∷ xs) x [] y after e =
      inr (xs, cons_same w y xs xs (head_same w y (xs ++ x ∷ []) after e) refl, sym (tail_same w y (xs ++ x ∷ []) after e))
  split_push (w ∷ xs) x (b ∷ before) y after e =
      let heads = head_same w b (xs ++ x ∷ []) (before ++ y ∷ after) e in
      let rests = split_push xs x before y after (tail_same w b (xs ++ x ∷ []) (before ++ y ∷ after) e) in
      elim rests [
        | inl p ↦ inl (cons_same b w before xs (sym heads) p.0, p.1, p.2)
        | inr p ↦ inr (p.0, cons_same w b xs (before ++ y ∷ p.0) heads p.1, p.2)
      ]

  -- A list is empty or has a last element.
  abbrev pub HasLast : List A → Type 0
  HasLast xs = (front : List A) × (last : A) × (xs ≡ front ++ last ∷ [])

  pub nil_or_last : (xs : List A) → (xs ≡ []) ⊎ HasLast xs
  nil_or_last [] = inl refl
  nil_or_last (x ∷ xs) =
      elim (nil_or_last xs) [
        | inl none ↦ inr ([], x, ap (λ (ys : List A). x ∷ ys) none)
        | inr p ↦ inr (x ∷ p.0, p.1, ap (λ (ys : List A). x ∷ ys) p.2)
      ]

  pub push-append : (xs : List A) (x : A) (ys : List A) → (xs ++ x ∷ []) ++ ys ≡ xs ++ x ∷ ys
  push-append xs x ys = append_assoc xs (x ∷ []) ys
