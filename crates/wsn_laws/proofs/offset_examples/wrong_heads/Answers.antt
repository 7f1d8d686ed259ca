use Rattle.std.proofs.Common.{◌≡◌, ℕ, true, None, List, [], ◌∷◌, ◌++◌, sym, ap, ◌∙◌, inl, inr, true≢false, arith}
use Rattle.std.specs.List.{AllByRecursion}
use Rattle.wsn_wire.specs.declared.length_encoding.Form.TheVariants.{Shortest}
use Rattle.wsn_wire.specs.declared.opcode.Op.TheVariants.{Ping}
use Rattle.wsn_rules.specs.declared.head_info.HeadInfo.{HeadInfo}
use Rattle.wsn_rules.specs.BadCharacter.{PlacedByte, placed}
use Rattle.wsn_rules.specs.ShownOffsets.{end_of, ArePlaced, AreInOrder, IsPartOf}
use Rattle.wsn_rules.specs.ShownStream.{Shown}
use Rattle.wsn_rules.specs.ShownStream.Item.{Head}
use Rattle.wsn_rules.proofs.Prefixes.{head_same, tail_same, nil-push}
use Rattle.wsn_laws.proofs.offset_examples.wrong_heads.Goals as goal

abbrev ping_at : ℕ → HeadInfo
ping_at offset = record { offset = offset; fin = true; op = Ping; key = None; form = Shortest; len = 0 }

abbrev shown_ping : ℕ → ℕ → List Shown
shown_ping after offset = record { after = after; item = Head (ping_at offset) } ∷ []

-- The two bytes have no part that begins at offset 5.
no_part : (before : List PlacedByte) (pile after : List PlacedByte) → placed 0 (0x89 ∷ 0x00 ∷ []) ≡ before ++ (pile ++ after) → pile ≡ placed 5 (0x89 ∷ 0x00 ∷ []) → ⊥
no_part before pile after whole is = by before (whole ∙ ap (λ (ps : List PlacedByte). before ++ (ps ++ after)) is)
  where
    by : (before : List PlacedByte) → placed 0 (0x89 ∷ 0x00 ∷ []) ≡ before ++ (placed 5 (0x89 ∷ 0x00 ∷ []) ++ after) → ⊥
    by [] e = let offset = ap (λ (b : PlacedByte). b.offset) (head_same _ _ _ _ e) in omega (arith, offset)
    by (a ∷ []) e = let offset = ap (λ (b : PlacedByte). b.offset) (head_same _ _ _ _ (tail_same _ _ _ _ e)) in omega (arith, offset)
    by (a ∷ b ∷ before) e = nil-push before _ _ (tail_same _ _ _ _ (tail_same _ _ _ _ e))

pub returns-clause-offset : goal.returns-clause-offset
returns-clause-offset c after are = by are.piles are.parts are.are_placed
  where
    by : (piles : List (List PlacedByte)) → AllByRecursion (IsPartOf (placed 0 (0x89 ∷ 0x00 ∷ []))) piles → ArePlaced (shown_ping after 5) piles → ⊥
    by [] parts p = p
    by (pile ∷ piles) parts p = no_part parts.0.0 pile parts.0.1 parts.0.2 p.0.is_pile.1

pub returns-clause-after : goal.returns-clause-after
returns-clause-after c are = by are.piles are.are_placed are.in_order
  where
    by : (piles : List (List PlacedByte)) → ArePlaced (shown_ping 1 0) piles → AreInOrder 2 0 (shown_ping 1 0) piles → ⊥
    by [] p o = p
    by (pile ∷ piles) p (last, inl o) = true≢false (sym o.0)
    by (pile ∷ piles) p (last, inr o) = let end : end_of pile ≡ 2 = ap (λ (ps : List PlacedByte). end_of ps) p.0.is_pile.1 in let after = o.1 in omega (arith, end, after)
