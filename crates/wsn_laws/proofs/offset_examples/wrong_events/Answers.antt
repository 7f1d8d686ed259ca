use Rattle.std.proofs.Common.{◌≡◌, ℕ, List, [], ◌∷◌, ◌++◌, sym, ap, ◌∙◌, inl, inr, true≢false, arith, codes}
use Rattle.std.specs.List.{AllByRecursion}
use Rattle.wsn_wire.specs.declared.opcode.Kind.TheVariants as kind
use Rattle.wsn_wire.specs.declared.opcode.Op.TheVariants.{Ping, Pong}
use Rattle.wsn_wire.specs.Frame.{frame_bytes}
use Rattle.wsn_wire.specs.ReceivedHead.{fin_bit}
use Rattle.wsn_wire.proofs.FrameLemmas.{first_byte_fields}
use Rattle.wsn_rules.specs.Meaning.{Message, Control}
use Rattle.wsn_rules.specs.BadCharacter.{PlacedByte, placed}
use Rattle.wsn_rules.specs.ShownOffsets.{PlacedFrame, frames_in, placed_frames, IsFragment, IsMessageOf, AreInOrder}
use Rattle.wsn_rules.specs.ShownStream.Item.{Event}
use Rattle.wsn_laws.proofs.PlacedExamples.{only_item}
use Rattle.wsn_laws.proofs.offset_examples.wrong_events.Goals as goal

-- The first byte.
abbrev first_of : List PlacedByte → ℕ
first_of [] = 0
first_of (b ∷ pile) = b.byte

pub returns-clause-offset : goal.returns-clause-offset
returns-clause-offset c after are =
    let p = only_item (0x89 ∷ 0x00 ∷ []) (record { after = after; item = Event 77 (Control Ping []) 1 }) are in
    let begins = p.begins in
    omega (arith, begins)

pub returns-clause-count : goal.returns-clause-count
returns-clause-count c after are =
    let p = only_item (0x89 ∷ 0x00 ∷ []) (record { after = after; item = Event 0 (Control Ping []) 9 }) are in
    let count = p.is_pile.4 in
    omega (arith, count)

pub returns-clause-offset_and_count : goal.returns-clause-offset_and_count
returns-clause-offset_and_count c after are =
    let p = only_item (0x89 ∷ 0x00 ∷ []) (record { after = after; item = Event 77 (Control Ping []) 9 }) are in
    let begins = p.begins in
    omega (arith, begins)

pub returns-clause-after : goal.returns-clause-after
returns-clause-after c are =
    let p = only_item (0x89 ∷ 0x00 ∷ []) (record { after = 1; item = Event 0 (Control Ping []) 1 }) are in
    let within = p.within in
    omega (arith, within)

pub returns-clause-two_messages : goal.returns-clause-two_messages
returns-clause-two_messages c after are =
    let p = only_item (0x81 ∷ 0x01 ∷ 0x41 ∷ 0x81 ∷ 0x01 ∷ 0x42 ∷ []) (record { after = after; item = Event 0 (Message kind.Text (codes "AB")) 2 }) are in
    by p.is_pile.0 p.is_pile.1 p.is_pile.2 p.is_pile.4 p.is_pile.5
  where
    by : (fragments : List PlacedFrame) (last : PlacedFrame) → AllByRecursion IsFragment (frames_in fragments) → IsMessageOf (frames_in fragments ++ last.frame ∷ []) kind.Text (codes "AB") 2
        → placed 0 (0x81 ∷ 0x01 ∷ 0x41 ∷ 0x81 ∷ 0x01 ∷ 0x42 ∷ []) ≡ placed_frames fragments ++ placed last.offset (frame_bytes last.frame) → ⊥
    by [] last all message is = let counted = message.group.counted in omega (arith, counted)
    by (f ∷ fragments) last all message is =
        let bytes = ap (λ (ps : List PlacedByte). first_of ps) is in
        let fin : fin_bit 0x81 ≡ f.frame.fin = ap fin_bit bytes ∙ (first_byte_fields f.frame.fin f.frame.op).fin_is in
        true≢false (fin ∙ all.0.not_final)

pub returns-clause-order : goal.returns-clause-order
returns-clause-order c are = by are.piles are.in_order
  where
    second : (piles : List (List PlacedByte)) → AreInOrder 4 4 (record { after = 2; item = Event 0 (Control Ping []) 1 } ∷ []) piles → ⊥
    second [] o = o
    second (pile ∷ piles) (last, inl o) = true≢false (sym o.0)
    second (pile ∷ piles) (last, inr o) = let less = o.2 in omega (arith, less)

    by : (piles : List (List PlacedByte)) → AreInOrder 4 0 (record { after = 4; item = Event 2 (Control Pong []) 1 } ∷ record { after = 2; item = Event 0 (Control Ping []) 1 } ∷ []) piles → ⊥
    by [] o = o
    by (pile ∷ piles) (last, inl o) = true≢false (sym o.0)
    by (pile ∷ piles) (last, inr o) = second piles o.3
