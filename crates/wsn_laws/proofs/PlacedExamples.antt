-- Where items are, for bytes that are written out.
use Rattle.std.proofs.Common.{◌≡◌, ℕ, List, [], ◌∷◌, ◌++◌, map, sym, ap, ◌∙◌, subst}
use Rattle.wsn_rules.specs.ShownOffsets.{AreDealt}
use Rattle.wsn_rules.specs.BadCharacter.{PlacedByte, placed}
use Rattle.wsn_rules.specs.ShownOffsets.{IsPlaced, ArePlaced, AreInPlace}
use Rattle.wsn_rules.specs.ShownStream.{Shown}
use Rattle.wsn_rules.proofs.Prefixes.{nil-push, head_same, tail_same}
use Rattle.wsn_rules.proofs.PlacedBytes.{bytes_of_placed}

-- ---- dealing to one pile

module _ {A : Type 0} where
  pub dealt_to_one : (xs pile : List A) → AreDealt xs (pile ∷ []) → pile ≡ xs
  dealt_to_one [] pile d = d.0
  dealt_to_one (x ∷ xs) pile ([], p, after, is, rest) =
      let none : after ≡ [] = sym (tail_same pile (x ∷ p) [] after is) in
      head_same pile (x ∷ p) [] after is ∙ ap (λ (ys : List A). x ∷ ys) (dealt_to_one xs p (subst (λ (ps : List (List A)). AreDealt xs (p ∷ ps)) none rest))
  dealt_to_one (x ∷ xs) pile (b ∷ before, p, after, is, rest) = absurd (nil-push before (x ∷ p) after (tail_same pile b [] (before ++ (x ∷ p) ∷ after) is))

-- ---- one item

pub only_item : (bytes : List ℕ) (s : Shown) → AreInPlace bytes (s ∷ []) → IsPlaced s (placed 0 bytes)
only_item bytes s are = by are.piles are.dealt are.are_placed
  where
    by : (piles : List (List PlacedByte)) → AreDealt (placed 0 bytes) piles → ArePlaced (s ∷ []) piles → IsPlaced s (placed 0 bytes)
    by [] d p = absurd p
    by (pile ∷ []) d p = subst (IsPlaced s) (dealt_to_one (placed 0 bytes) pile d) p.0
    by (pile ∷ other ∷ piles) d p = absurd p.1

pub same_bytes : (m n : ℕ) (bytes others : List ℕ) → placed m bytes ≡ placed n others → bytes ≡ others
same_bytes m n bytes others same = sym (bytes_of_placed m bytes) ∙ ap (λ (ps : List PlacedByte). map (λ (b : PlacedByte). b.byte) ps) same ∙ bytes_of_placed n others
