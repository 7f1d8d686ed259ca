-- An empty frame that ends an event, and the event's normal frame in its place.
use Rattle.std.proofs.Common.{◌≡◌, ◌≢◌, ℕ, ◌+◌, ◌≤◌, Bool, true, Some, List, [], ◌++◌, length, take, drop, refl, sym, ap, ◌∙◌, subst, arith, append-nil}
use Rattle.std.proofs.lemmas.List.{take_all, take-append-le, length-take-le}
use Rattle.std.proofs.Math.Seq.{drop-append-add}
use Rattle.wsn_wire.specs.declared.endpoint.Role.{Role}
use Rattle.wsn_wire.specs.declared.opcode.Op.{Op}
use Rattle.wsn_wire.specs.declared.opcode.Op.TheVariants as op
use Rattle.wsn_wire.specs.declared.length_encoding.Form.TheVariants.{Shortest}
use Rattle.wsn_wire.specs.declared.refusal.Reason.{Reason}
use Rattle.wsn_wire.specs.declared.refusal.Reason.TheVariants.{CloseCode, CloseReason, TextBad, TextCut}
use Rattle.wsn_wire.specs.Frame.{Frame, IsBytes, first_byte, opcode}
use Rattle.wsn_wire.specs.ReceivedHead.{opcode_field}
use Rattle.wsn_wire.proofs.FrameLemmas.{first_byte_fields}
use Rattle.wsn_wire.proofs.HeadLemmas.{close_from_opcode}
use Rattle.wsn_text.proofs.Rests.{text-nil}
use Rattle.wsn_text.specs.Utf8.{BeginsText}
use Rattle.wsn_rules.specs.Limits.{Limits, InRange}
use Rattle.wsn_rules.specs.Group.{unfinished}
use Rattle.wsn_rules.specs.Evidence.{EvidentByPayload}
use Rattle.wsn_rules.specs.Lawful.{IsLawful}
use Rattle.wsn_rules.specs.AfterClose.{HasNoClose}
use Rattle.wsn_frame.specs.declared.heads.Head.{Head}
use Rattle.wsn_frame.specs.declared.payload_check.PayloadCheck.{PayloadCheck}
use Rattle.wsn_frame.specs.declared.payload_check.PayloadCheck.TheVariants as check
use Rattle.wsn_frame.specs.PartialHeads.{IsHead, encoded_form}
use Rattle.wsn_frame.specs.PayloadChecks.{HasChecked}
use Rattle.wsn_frame.specs.Payloads.{unmasked_by, HoldsPayload}
use Rattle.wsn_frame.proofs.FrameStarts.{goes_on}
use Rattle.wsn_frame.proofs.PayloadBytes.{starts_empty, unmasked_by-nil}
use Rattle.wsn_scan.specs.EventFrames.{EndsEventAt, IsEventFrame, with_key_cleared}
use Rattle.wsn_scan.proofs.EventFrames.{ends_event}
use Rattle.wsn_rules.proofs.PlanTheory.MessageFrames.{bytes_take}

-- ---- the payload

field : (fin : Bool) (o : Op) → opcode_field (first_byte fin o) ≡ opcode o
field fin o = (first_byte_fields fin o).opcode_is

begins : BeginsText []
begins = record { more = []; text = text-nil }

-- no text and no Close
free : (fin : Bool) (o : Op) → opcode o ≢ 1 → opcode o ≢ 8 → HasChecked [] (first_byte fin o) check.Free []
free fin o text close = ((λ is. text (sym (field fin o) ∙ is)), (λ is. close (sym (field fin o) ∙ is)))

-- after no open message, there is a check of a frame that begins a message, or of a ping or a pong
checks : (fin : Bool) (o : Op) → o ≢ op.Continue → o ≢ op.Close → (next : PayloadCheck) × HasChecked [] (first_byte fin o) next []
checks fin op.Continue begun close = absurd (begun refl)
checks fin op.Text begun close = (check.Text (Some []), (field fin op.Text, record { continues = λ more. ((λ text. text), (λ text. text)) }, begins))
checks fin op.Binary begun close = (check.Free, free fin op.Binary (λ is. absurd (omega (arith, is))) (λ is. absurd (omega (arith, is))))
checks fin op.Close begun close = absurd (close refl)
checks fin op.Ping begun close = (check.Free, free fin op.Ping (λ is. absurd (omega (arith, is))) (λ is. absurd (omega (arith, is))))
checks fin op.Pong begun close = (check.Free, free fin op.Pong (λ is. absurd (omega (arith, is))) (λ is. absurd (omega (arith, is))))

-- its empty payload is evidence for no refusal
quiet : (first : ℕ) (reason : Reason) → EvidentByPayload [] reason first 0 [] → opcode_field first ≢ 8 → ⊥
quiet first CloseCode row close = close row.0
quiet first CloseReason row close = close row.0
quiet first TextBad row close = let none : row.1.0 + 1 ≡ 0 = row.1.1 in absurd (omega (arith, none))
quiet first TextCut row close = row.3.1 text-nil
quiet first reason row close = row

-- ---- the frame

module _ (role : Role) (limits : Limits) (head : Head) (front : List ℕ) (h : IsHead role limits [] head front) (empty : head.len ≡ 0) (no_close : head.first.op ≢ op.Close) where
  checked : (next : PayloadCheck) × HasChecked [] (first_byte head.first.fin head.first.op) next []
  checked = checks head.first.fin head.first.op (λ more. goes_on role limits [] head front h more refl) no_close

  other : opcode_field (first_byte head.first.fin head.first.op) ≢ 8
  other is = no_close (close_from_opcode head.first.op (sym (field head.first.fin head.first.op) ∙ is))

  holds : HoldsPayload role limits [] head checked.0 [] front
  holds = starts_empty role limits [] head front h checked.0 checked.1 empty (λ row. quiet _ TextCut row other) (λ reason no_cut row. quiet _ reason row other)

-- ---- the chunk after the head's key is cleared

module _ (role : Role) (limits : Limits) (head : Head) (chunk bytes : List ℕ) (start : ℕ) (empty : head.len ≡ 0) (within : start ≤ length chunk)
    (cleared : bytes ≡ with_key_cleared head.key (take start chunk)) (size : length bytes ≡ length (take start chunk)) where
  abbrev after : List ℕ
  after = bytes ++ drop start chunk

  size_front : length (take start chunk) ≡ start
  size_front = length-take-le start chunk within

  front_after : take start after ≡ bytes
  front_after = take-append-le start bytes (drop start chunk) (omega (arith, size, size_front)) ∙ take_all start bytes (omega (arith, size, size_front))

  -- the bytes after the frame are unchanged
  pub kept_after_head : drop (length (take start chunk)) after ≡ drop (length (take start chunk)) chunk
  kept_after_head =
      let own : length (take start chunk) ≡ length bytes + 0 = omega (arith, size) in
      ap (λ (n : ℕ). drop n after) own ∙ drop-append-add bytes (drop start chunk) 0 ∙ ap (λ (n : ℕ). drop n chunk) (sym size_front)

  pub empty_event : IsBytes chunk → ((group : List Frame) → group ≡ [] → IsHead role limits group head (take start chunk)) → head.first.fin ≡ true → head.first.op ≢ op.Close → encoded_form head.encoded head.len ≡ Shortest
      → IsEventFrame role limits chunk after (record { op = head.first.op; key = head.key; size = length (take start chunk); len = 0 })
  empty_event in_chunk heads final no_close shortest = (no_close, ends)
    where
      ends : (fs : List Frame) → InRange limits → IsLawful role limits fs → HasNoClose fs → unfinished fs ≡ [] → EndsEventAt role limits fs chunk after (record { op = head.first.op; key = head.key; size = length (take start chunk); len = 0 })
      ends fs range lawful none_closed none =
          let group = unfinished fs in
          let h = heads [] refl in
          let next = (checked role limits head (take start chunk) h empty no_close).0 in
          let joined : take start chunk ++ [] ≡ take start chunk = append-nil (take start chunk) in
          let of_group : HoldsPayload role limits group head next [] (take start chunk) =
          subst (λ (g : List Frame). HoldsPayload role limits g head next [] (take start chunk)) (sym none) (holds role limits head (take start chunk) h empty no_close) in
          let holds_all : HoldsPayload role limits group head next [] (take start chunk ++ []) =
          subst (λ (bs : List ℕ). HoldsPayload role limits group head next [] bs) (sym joined) of_group in
          let in_front : IsBytes (take start chunk ++ []) = subst IsBytes (sym joined) (bytes_take start chunk in_chunk) in
          let was : take (length (take start chunk)) chunk ≡ take start chunk ++ [] = ap (λ (n : ℕ). take n chunk) size_front ∙ sym joined in
          let is : take (length (take start chunk)) after ≡ with_key_cleared head.key (take start chunk) ++ unmasked_by head.key 0 [] =
          ap (λ (n : ℕ). take n after) size_front ∙ front_after ∙ cleared ∙ sym (append-nil (with_key_cleared head.key (take start chunk)))
          ∙ ap (λ (bs : List ℕ). with_key_cleared head.key (take start chunk) ++ bs) (sym (unmasked_by-nil head.key)) in
          subst (λ (len : ℕ). EndsEventAt role limits fs chunk after (record { op = head.first.op; key = head.key; size = length (take start chunk); len = len })) empty
          (ends_event role limits fs head next (take start chunk) [] range lawful none (heads group none) holds_all (sym empty) in_front final shortest chunk after (length (take start chunk)) was is)
