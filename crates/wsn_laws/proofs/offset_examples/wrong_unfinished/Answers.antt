use Rattle.std.proofs.Common.{inl, inr, true≢false, ◌∙◌, ◌≡◌, ℕ, None, Some, List, [], ◌∷◌, length, refl, sym, ap, arith}
use Rattle.wsn_wire.specs.declared.opcode.Op.TheVariants.{Ping}
use Rattle.std.specs.List.{AllByRecursion}
use Rattle.wsn_wire.specs.declared.opcode.Kind.TheVariants as kind
use Rattle.wsn_wire.specs.ReceivedHead.{fin_bit}
use Rattle.wsn_wire.proofs.FrameLemmas.{first_byte_fields}
use Rattle.wsn_rules.specs.Meaning.{Message, Control}
use Rattle.wsn_rules.specs.ShownOffsets.{begun_bytes}
use Rattle.wsn_rules.specs.BadCharacter.{PlacedByte, placed}
use Rattle.wsn_rules.specs.ShownOffsets.{PlacedFrame, frames_in, IsFragment, IsOpenPile, AreInOrder}
use Rattle.wsn_rules.specs.ShownStream.Item.{Event, Unfinished, UnfinishedHead}
use Rattle.wsn_rules.proofs.BegunHeads.{same_parts}
use Rattle.wsn_laws.proofs.PlacedExamples.{only_item, same_bytes}
use Rattle.wsn_laws.proofs.offset_examples.wrong_unfinished.Goals as goal

pub returns-clause-lacks : goal.returns-clause-lacks
returns-clause-lacks c after are =
    let p = (only_item (0x89 ∷ 0x02 ∷ 0x41 ∷ []) (record { after = after; item = Unfinished 0 (Control Ping (0x41 ∷ [])) 1 (Some 5) }) are).is_pile in
    let info = p.0 in
    let following = p.1 in
    let missing = p.2 in
    let begun = p.3 in
    let lacks : ◌≡◌ {A = ℕ} 5 missing = let e = p.8 in cc in
    let parts = same_parts info following 0x89 0x02 [] [] (0x41 ∷ []) begun.head (sym (same_bytes 0 0 (0x89 ∷ 0x02 ∷ 0x41 ∷ []) _ p.9)) refl refl in
    let one : length following ≡ 1 = ap (λ (bs : List ℕ). length bs) parts.following_is in
    let len = parts.len_is in
    let exact = begun.exact in
    omega (arith, lacks, one, len, exact)

pub returns-clause-lacks_nothing : goal.returns-clause-lacks_nothing
returns-clause-lacks_nothing c after are =
    let p = (only_item (0x89 ∷ 0x02 ∷ 0x41 ∷ []) (record { after = after; item = Unfinished 0 (Control Ping (0x41 ∷ [])) 1 None }) are).is_pile in
    let lacks = p.8 in
    cc lacks

pub returns-clause-count : goal.returns-clause-count
returns-clause-count c after are =
    let p = (only_item (0x89 ∷ 0x02 ∷ 0x41 ∷ []) (record { after = after; item = Unfinished 0 (Control Ping (0x41 ∷ [])) 2 (Some 1) }) are).is_pile in
    let count = p.7 in
    omega (arith, count)

-- The first byte.
abbrev first_of : List PlacedByte → ℕ
first_of [] = 0
first_of (b ∷ pile) = b.byte

pub returns-clause-message_lacks : goal.returns-clause-message_lacks
returns-clause-message_lacks c after are =
    let p = (only_item (0x81 ∷ 0x02 ∷ 0x41 ∷ []) (record { after = after; item = Unfinished 0 (Message kind.Text (0x41 ∷ [])) 1 (Some 7) }) are).is_pile in
    by p.0 p.1 p.2
  where
    by : (fragments : List PlacedFrame) → AllByRecursion IsFragment (frames_in fragments) → IsOpenPile fragments kind.Text (0x41 ∷ []) 1 (Some 7) (placed 0 (0x81 ∷ 0x02 ∷ 0x41 ∷ [])) → ⊥
    by fragments all (inl p) = let none = p.0 in omega (arith, none)
    by [] all (inr p) =
        let parts = same_parts p.0 p.1 0x81 0x02 [] [] (0x41 ∷ []) p.2.head (sym (same_bytes 0 p.0.offset (0x81 ∷ 0x02 ∷ 0x41 ∷ []) (begun_bytes p.0 p.1) p.4)) refl refl in
        let one : length p.1 ≡ 1 = ap (λ (bs : List ℕ). length bs) parts.following_is in
        let len = parts.len_is in
        let exact = p.2.exact in
        omega (arith, one, len, exact)
    by (f ∷ fragments) all (inr p) =
        let bytes = ap (λ (ps : List PlacedByte). first_of ps) p.4 in
        let fin : fin_bit 0x81 ≡ f.frame.fin = ap fin_bit bytes ∙ (first_byte_fields f.frame.fin f.frame.op).fin_is in
        true≢false (fin ∙ all.0.not_final)

pub returns-clause-not_interrupted : goal.returns-clause-not_interrupted
returns-clause-not_interrupted c are = by are.piles are.in_order
  where
    by : (piles : List (List PlacedByte)) → AreInOrder 5 0 (record { after = 5; item = Unfinished 0 (Message kind.Text (0x41 ∷ [])) 1 (Some 0) } ∷ record { after = 5; item = Event 3 (Control Ping []) 1 } ∷ []) piles → ⊥
    by [] o = o
    by (pile ∷ piles) (last, inl o) = o.1.0
    by (pile ∷ piles) (last, inr o) = true≢false o.0

pub returns-clause-head_in_front : goal.returns-clause-head_in_front
returns-clause-head_in_front c are = by are.piles are.in_order
  where
    by : (piles : List (List PlacedByte)) → AreInOrder 3 0 (record { after = 1; item = UnfinishedHead 0 } ∷ record { after = 3; item = Event 1 (Control Ping []) 1 } ∷ []) piles → ⊥
    by [] o = o
    by (pile ∷ piles) o = let none = o.0 tt in cc
