-- The evidence in the first byte of a frame, after an open message or without one.
use Rattle.std.proofs.Common.{◌≡◌, ◌≢◌, ℕ, ◌≤◌, Some, List, [], ◌⊎◌, length, ap, inl, inr, arith}
use Rattle.wsn_wire.specs.declared.opcode.Op.{Op}
use Rattle.wsn_wire.specs.declared.opcode.Op.TheVariants.{Text, Binary, Close, Ping, Pong}
use Rattle.wsn_wire.specs.declared.refusal.Reason.{Reason}
use Rattle.wsn_wire.specs.declared.refusal.Reason.TheVariants.{NothingToContinue, MessageOpen, TooManyFrames}
use Rattle.wsn_wire.specs.Frame.{Frame, opcode}
use Rattle.wsn_wire.specs.ReceivedHead.{opcode_field}
use Rattle.wsn_wire.specs.Refusal.{number_of, IsFirstEvident}
use Rattle.wsn_wire.specs.EvidenceInHeads.{EvidentInFirst}
use Rattle.wsn_rules.specs.Limits.{Limits}
use Rattle.wsn_rules.specs.Evidence.{EvidentByFirst}
use Rattle.wsn_rules.proofs.HeadEvidence.{first_number, first_row}

-- Text and Binary begin a message.
abbrev pub Begins : Op → Type 0
Begins op = (op ≡ Text) ⊎ (op ≡ Binary)

pub opcode_of_begins : (op : Op) → Begins op → (opcode op ≡ 1) ⊎ (opcode op ≡ 2)
opcode_of_begins op (inl is) = inl (ap opcode is)
opcode_of_begins op (inr is) = inr (ap opcode is)

abbrev pub IsControl : Op → Type 0
IsControl op = (op ≡ Close) ⊎ (op ≡ Ping) ⊎ (op ≡ Pong)

pub control_not_data : (op : Op) → IsControl op → 3 ≤ opcode op
control_not_data op (inl is) = let number : opcode op ≡ 8 = ap opcode is in omega (arith, number)
control_not_data op (inr (inl is)) = let number : opcode op ≡ 9 = ap opcode is in omega (arith, number)
control_not_data op (inr (inr is)) = let number : opcode op ≡ 10 = ap opcode is in omega (arith, number)

-- Evidence in the first byte alone has a lower number than evidence that depends on the group.
pub first_of_byte : (limits : Limits) (group : List Frame) (first : ℕ) (reason : Reason) → IsFirstEvident (λ r. EvidentInFirst r first) reason → IsFirstEvident (λ r. EvidentByFirst limits group r first) reason
first_of_byte limits group first reason is = record { is_evident = first_row limits group reason first is.is_evident; least = least }
  where
    low : number_of reason ≤ 3
    low = first_number reason first is.is_evident

    least : (r : Reason) → EvidentByFirst limits group r first → number_of reason ≤ number_of r
    least NothingToContinue row = omega (arith, low)
    least MessageOpen row = omega (arith, low)
    least TooManyFrames row = omega (arith, low)
    least r row = is.least r row

-- ---- a first byte that alone is evidence for no refusal

module _ (limits : Limits) (group : List Frame) (first : ℕ) (alone : (reason : Reason) → EvidentInFirst reason first → ⊥) where
  pub nothing_to_continue : group ≡ [] → opcode_field first ≡ 0 → IsFirstEvident (λ r. EvidentByFirst limits group r first) NothingToContinue
  nothing_to_continue none continues = record { is_evident = (continues, none); least = least }
    where
      least : (r : Reason) → EvidentByFirst limits group r first → 4 ≤ number_of r
      least NothingToContinue row = omega arith
      least MessageOpen row = omega arith
      least TooManyFrames row = omega arith
      least r row = absurd (alone r row)

  pub begins_message : group ≡ [] → (opcode_field first ≡ 0 → ⊥) → (reason : Reason) → EvidentByFirst limits group reason first → ⊥
  begins_message none other NothingToContinue row = other row.0
  begins_message none other MessageOpen row = row.1 none
  begins_message none other TooManyFrames row = other row.0
  begins_message none other r row = alone r row

  pub message_is_open : group ≢ [] → (opcode_field first ≡ 1) ⊎ (opcode_field first ≡ 2) → IsFirstEvident (λ r. EvidentByFirst limits group r first) MessageOpen
  message_is_open some begins = record { is_evident = (begins, some); least = least }
    where
      least : (r : Reason) → EvidentByFirst limits group r first → 5 ≤ number_of r
      least NothingToContinue row = absurd (some row.1)
      least MessageOpen row = omega arith
      least TooManyFrames row = omega arith
      least r row = absurd (alone r row)

  pub too_many_frames : group ≢ [] → opcode_field first ≡ 0 → limits.frames ≡ Some (length group) → IsFirstEvident (λ r. EvidentByFirst limits group r first) TooManyFrames
  too_many_frames some continues all = record { is_evident = (continues, all); least = least }
    where
      least : (r : Reason) → EvidentByFirst limits group r first → 17 ≤ number_of r
      least NothingToContinue row = absurd (some row.1)
      least MessageOpen (inl is, open_is) = absurd (omega (arith, is, continues))
      least MessageOpen (inr is, open_is) = absurd (omega (arith, is, continues))
      least TooManyFrames row = omega arith
      least r row = absurd (alone r row)

  pub goes_on : group ≢ [] → opcode_field first ≡ 0 → (limits.frames ≡ Some (length group) → ⊥) → (reason : Reason) → EvidentByFirst limits group reason first → ⊥
  goes_on some continues room NothingToContinue row = some row.1
  goes_on some continues room MessageOpen (inl is, open_is) = omega (arith, is, continues)
  goes_on some continues room MessageOpen (inr is, open_is) = omega (arith, is, continues)
  goes_on some continues room TooManyFrames row = room row.1
  goes_on some continues room r row = alone r row

  pub control_between : 3 ≤ opcode_field first → (reason : Reason) → EvidentByFirst limits group reason first → ⊥
  control_between control NothingToContinue row = omega (arith, control, row.0)
  control_between control MessageOpen (inl is, open_is) = omega (arith, is, control)
  control_between control MessageOpen (inr is, open_is) = omega (arith, is, control)
  control_between control TooManyFrames row = omega (arith, control, row.0)
  control_between control r row = alone r row
