-- After a complete head that fits the open message, the payload starts.
use Rattle.std.proofs.Common.{◌≡◌, ◌≢◌, ℕ, ◌⊎◌, List, [], ◌∷◌, ◌++◌, inl, inr, refl, sym, ap, ◌∙◌}
use Rattle.wsn_wire.specs.declared.endpoint.Role.{Role}
use Rattle.wsn_wire.specs.declared.opcode.Op.TheVariants.{Continue, Text, Binary}
use Rattle.wsn_wire.specs.declared.refusal.Reason.{Reason}
use Rattle.wsn_wire.specs.declared.refusal.Reason.TheVariants.{NothingToContinue, MessageOpen}
use Rattle.wsn_wire.specs.Frame.{Frame, opcode, first_byte, key_bytes}
use Rattle.wsn_wire.specs.ReceivedHead.{opcode_field}
use Rattle.wsn_wire.proofs.FrameLemmas.{first_byte_fields}
use Rattle.wsn_frame.specs.declared.heads.Head.{Head}
use Rattle.wsn_rules.specs.Limits.{Limits}
use Rattle.wsn_rules.specs.Evidence.{EvidentByFirst}
use Rattle.wsn_rules.specs.Evidence.Evidence.{ByFirst}
use Rattle.wsn_frame.specs.PartialHeads.{IsHead}

module _ (role : Role) (limits : Limits) (group : List Frame) (head : Head) (head_bytes : List ℕ) (h : IsHead role limits group head head_bytes) where
  -- The first byte is evidence for no refusal.
  no_first : (reason : Reason) → EvidentByFirst limits group reason (first_byte head.first.fin head.first.op) → ⊥
  no_first reason row =
      let first = first_byte head.first.fin head.first.op in
      let following = h.second ∷ (h.lengths ++ key_bytes head.key) in
      let none : following ≡ [] = (h.has_no_evidence (first ∷ []) following reason h.whole (ByFirst first refl row)).0 in
      cc

  field : opcode_field (first_byte head.first.fin head.first.op) ≡ opcode head.first.op
  field = (first_byte_fields head.first.fin head.first.op).opcode_is

  pub goes_on : head.first.op ≡ Continue → group ≢ []
  goes_on is none = no_first NothingToContinue (field ∙ ap opcode is, none)

  pub begins : (head.first.op ≡ Text) ⊎ (head.first.op ≡ Binary) → group ≡ []
  begins is = of group refl
    where
      opcode_is : (opcode_field (first_byte head.first.fin head.first.op) ≡ 1) ⊎ (opcode_field (first_byte head.first.fin head.first.op) ≡ 2)
      opcode_is = elim is [ inl text ↦ inl (field ∙ ap opcode text) | inr binary ↦ inr (field ∙ ap opcode binary) ]

      of : (gs : List Frame) → group ≡ gs → group ≡ []
      of [] same = same
      of (g ∷ gs) same = absurd (no_first MessageOpen (opcode_is, λ none. let both : g ∷ gs ≡ [] = sym same ∙ none in cc))
