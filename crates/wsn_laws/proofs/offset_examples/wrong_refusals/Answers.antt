use Rattle.std.proofs.Common.{◌≡◌, ℕ, true, None, List, [], ◌∷◌, length, sym, ap, ◌∙◌, inl, inr, arith}
use Rattle.wsn_wire.specs.declared.opcode.Op.TheVariants.{Ping}
use Rattle.wsn_wire.specs.declared.length_encoding.Form.TheVariants.{Shortest}
use Rattle.wsn_wire.specs.declared.refusal.Reason.TheVariants.{ReservedBits}
use Rattle.wsn_rules.specs.declared.head_info.HeadInfo.{HeadInfo}
use Rattle.wsn_rules.specs.ShownOffsets.{IsEncodableHead, IsEvidenceIn}
use Rattle.wsn_rules.specs.ShownStream.Item.{RefusedFrame}
use Rattle.wsn_laws.proofs.PlacedExamples.{only_item, same_bytes}
use Rattle.wsn_laws.proofs.offset_examples.wrong_refusals.Goals as goal

pub returns-clause-evidence : goal.returns-clause-evidence
returns-clause-evidence c after are =
    let p = (only_item (0xc1 ∷ []) (record { after = after; item = RefusedFrame 0 (record { offset = 0; reason = ReservedBits }) (0xde ∷ 0xad ∷ []) None }) are).is_pile in
    by p.0 (same_bytes 0 0 (0xc1 ∷ []) p.0 p.4) p.2
  where
    short : (a b d : ℕ) (bs : List ℕ) → d ∷ [] ≡ a ∷ b ∷ bs → ⊥
    short a b d bs e = cc

    by : (seen : List ℕ) → 0xc1 ∷ [] ≡ seen → IsEvidenceIn seen (0xde ∷ 0xad ∷ []) → ⊥
    by seen is (inl p) = short _ _ 0xc1 _ (is ∙ p.4)
    by seen is (inr p) = short 0xde 0xad 0xc1 [] (is ∙ sym p.1)

pub returns-clause-offset : goal.returns-clause-offset
returns-clause-offset c after are =
    let p = (only_item (0xc1 ∷ []) (record { after = after; item = RefusedFrame 0 (record { offset = 5; reason = ReservedBits }) (0xc1 ∷ []) None }) are).is_pile in
    let size : 1 ≡ length p.0 = ap (λ (bs : List ℕ). length bs) (same_bytes 0 0 (0xc1 ∷ []) p.0 p.4) in
    let end = p.3 in
    omega (arith, size, end)

pub returns-clause-two_frames : goal.returns-clause-two_frames
returns-clause-two_frames c after are =
    let p = (only_item (0x89 ∷ 0x00 ∷ 0xc1 ∷ []) (record { after = after; item = RefusedFrame 0 (record { offset = 2; reason = ReservedBits }) (0xc1 ∷ []) None }) are).is_pile in
    let head : HeadInfo = record { offset = 0; fin = true; op = Ping; key = None; form = Shortest; len = 0 } in
    let of : IsEncodableHead head = record { key = tt; form = tt; size = omega arith } in
    let fits = p.1 head (0xc1 ∷ []) of (sym (same_bytes 0 0 (0x89 ∷ 0x00 ∷ 0xc1 ∷ []) p.0 p.4)) in
    omega (arith, fits)
