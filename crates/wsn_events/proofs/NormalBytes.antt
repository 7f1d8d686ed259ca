-- A frame's bytes, and how they are written: head and payload in two calls.
use Rattle.std.proofs.Common.{◌≡◌, ℕ, ◌<◌, Bool, Option, Result, List, ◌++◌, length, take, true, false, Ok, Err, inl, inr, ◌∙◌, subst, arith}
use Rattle.std.specs.Io.KnownBytes.{Appends}
use Rattle.wsn_wire.specs.declared.endpoint.Role.{Role}
use Rattle.wsn_wire.specs.declared.opcode.Op.{Op}
use Rattle.wsn_wire.specs.declared.length_encoding.Form.{Form}
use Rattle.wsn_wire.specs.declared.length_encoding.Form.TheVariants.{Shortest}
use Rattle.wsn_wire.specs.Frame.{frame_bytes, head_bytes, wire_payload}
use Rattle.wsn_wire.proofs.FrameLemmas.{length-wire_payload}
use Rattle.wsn_io.specs.Transfer.{Outgoing, IsWrittenUpToFailure}
use Rattle.wsn_io.specs.declared.stop.Stop.{Stop}
use Rattle.wsn_io.specs.declared.stop.Stop.TheVariants as stop
use Rattle.wsn_io.specs.Stops.{IsWrittenOrStops}
use Rattle.wsn_io.proofs.PutTexts.{prints_on, prints_no_more}
use Rattle.wsn_rules.specs.Meaning.{Control}
use Rattle.wsn_rules.specs.NormalForm.{normal_frame, normal_key}
use Rattle.wsn_scan.proofs.EventFrames.{normal_wire}

-- The bytes of one final frame; those of a message are encoded alike.
abbrev pub normal_bytes : Role → Op → List ℕ → List ℕ
normal_bytes role o payload = frame_bytes (normal_frame role (Control o payload))

-- the payload as it is sent, after its head
pub frame_is : (fin : Bool) (o : Op) (key : Option (List ℕ)) (form : Form) (head wire payload : List ℕ) → head ≡ head_bytes fin o key form (length wire) → wire ≡ wire_payload key payload
    → head ++ wire ≡ frame_bytes (record { fin = fin; op = o; key = key; form = form; payload = payload })
frame_is fin o key form head wire payload is same = grind (arith, length-wire_payload)

-- a frame that was written is a normal one
pub normal_written : (role : Role) (o op : Op) (key : Option (List ℕ)) (payload : List ℕ) (before after : Outgoing) (result : Result (Unit {0}) Stop) → op ≡ o → key ≡ normal_key role
    → ((text : List ℕ) → payload ≡ wire_payload key text → IsWrittenOrStops before after (frame_bytes (record { fin = true; op = op; key = key; form = Shortest; payload = text })) result)
    → IsWrittenOrStops before after (normal_bytes role o payload) result
normal_written role o op key payload before after result op_is key_is written = grind (arith, normal_wire)

-- ---- what a write did

abbrev pub FrontOf : Outgoing → Outgoing → List ℕ → Type 0
FrontOf before after bytes = (k : ℕ) × (k < length bytes) × Appends before.written after.written (take k bytes)

all_out : (before after : Outgoing) (bytes : List ℕ) → after.failed ≡ false → Appends before.written after.written bytes → IsWrittenUpToFailure before after bytes
all_out before after bytes unfailed out = inl (unfailed, out)

front_out : (before after : Outgoing) (bytes : List ℕ) → after.failed ≡ true → FrontOf before after bytes → IsWrittenUpToFailure before after bytes
front_out before after bytes failed (k, less, out) = inr (failed, (k, out))

puts_ok : (before after : Outgoing) (text : List ℕ) → after.failed ≡ false → IsWrittenUpToFailure before after text → IsWrittenOrStops {A = Unit {0}} before after text (Ok tt)
puts_ok before after text unfailed fact = grind arith

puts_err : (before after : Outgoing) (text : List ℕ) → after.failed ≡ true → IsWrittenUpToFailure before after text → IsWrittenOrStops {A = Unit {0}} before after text (Err stop.Write)
puts_err before after text failed fact = grind arith

-- ---- a frame in two calls

module _ (head wire bytes : List ℕ) (before : Outgoing) (whole : head ++ wire ≡ bytes) (unfailed : before.failed ≡ false) where
  pub both_out : (mid after : Outgoing) → mid.failed ≡ before.failed → Appends before.written mid.written head → after.failed ≡ mid.failed → Appends mid.written after.written wire
      → IsWrittenOrStops {A = Unit {0}} before after bytes (Ok tt)
  both_out mid after same head_out later wire_out = grind (arith, prints_on, all_out, puts_ok)

  pub head_and_front : (mid after : Outgoing) → mid.failed ≡ before.failed → Appends before.written mid.written head → after.failed ≡ true → FrontOf mid after wire
      → IsWrittenOrStops {A = Unit {0}} before after bytes (Err stop.Write)
  head_and_front mid after same head_out failed front =
      let mid_fine : mid.failed ≡ false = same ∙ unfailed in
      let joined = prints_on before mid after head wire mid_fine (all_out before mid head mid_fine head_out) (front_out mid after wire failed front) in
      puts_err before after bytes failed (subst (IsWrittenUpToFailure before after) whole joined)

  pub front_of_head : (after : Outgoing) → after.failed ≡ true → FrontOf before after head → IsWrittenOrStops {A = Unit {0}} before after bytes (Err stop.Write)
  front_of_head after failed front =
      puts_err before after bytes failed (subst (IsWrittenUpToFailure before after) whole (prints_no_more before after head wire failed (front_out before after head failed front)))
