-- Whether a row of the table holds is decided.
use Rattle.std.proofs.Common.{◌≡◌, ℕ, ◌+◌, ◌^◌, ◌<◌, ◌≤◌, Bool, true, false, Option, Some, None, List, [], ◌∷◌, ◌++◌, ◌⊎◌, length, drop, refl, sym, ap, ◌∙◌, inl, inr, arith, true≢false}
use Rattle.std.specs.Int.{from_be_bytes, w16}
use Rattle.wsn_text.proofs.Numbers.{less_or_not, same_or_not}
use Rattle.std.proofs.lemmas.Option.{same_Some}
use Rattle.wsn_wire.specs.declared.endpoint.Role.{Role}
use Rattle.wsn_wire.specs.declared.endpoint.Role.TheVariants.{Client, Server}
use Rattle.wsn_wire.specs.declared.length_encoding.Lengths.{Lengths}
use Rattle.wsn_wire.specs.declared.length_encoding.Lengths.TheVariants.{Shortest, Any}
use Rattle.wsn_wire.specs.declared.length_encoding.LenForm.{LenForm}
use Rattle.wsn_wire.specs.declared.length_encoding.LenForm.TheVariants as len_form
use Rattle.wsn_wire.specs.declared.opcode.Op.{Op}
use Rattle.wsn_wire.specs.declared.opcode.Op.TheVariants.{Continue, Text, Binary, Close, Ping, Pong}
use Rattle.wsn_wire.specs.declared.refusal.Reason.{Reason}
use Rattle.wsn_wire.specs.declared.refusal.Reason.TheVariants.{ReservedBits, ReservedOpcode, ControlNotFinal, NothingToContinue, MessageOpen, MaskMissing, MaskPresent, ControlTooLong, CloseOneByte, LengthTopBit, LengthNotMinimal, MessageTooBig, CloseCode, CloseReason, TextBad, TextCut, TooManyFrames}
use Rattle.wsn_wire.specs.Frame.{Frame}
use Rattle.wsn_wire.specs.ReceivedHead.{fin_bit, reserved_bits, opcode_field, mask_bit, len_form_at, encoded_length}
use Rattle.wsn_wire.specs.EvidenceInHeads.{IsLong, IsNotMinimal, HasTopBit, EvidentInSecond}
use Rattle.wsn_text.specs.Utf8.{IsText, BeginsText}
use Rattle.wsn_text.proofs.Decide.{begins_decided, text_decided}
use Rattle.wsn_text.proofs.Prefixes.{bad_ends, first_bad_unique, begins_or_first_bad}
use Rattle.wsn_rules.specs.Limits.{Limits}
use Rattle.wsn_rules.specs.Group.{payload_of}
use Rattle.wsn_rules.specs.Evidence.{EvidentByFirst, EvidentByLength, EvidentByPayload, IsDataOpcode, IsOfText, EndsBad, EndsInside}
use Rattle.wsn_rules.proofs.Prefixes.{nil-cons}
use Rattle.wsn_rules.proofs.MessageText.{accepted_code_or_not}

abbrev pub Decided : Type 0 → Type 0
Decided P = P ⊎ (P → ⊥)

-- ---- parts of rows

unfoldable pub both : (P Q : Type 0) → Decided P → Decided Q → Decided (P × Q)
both P Q (inl p) (inl q) = inl (p, q)
both P Q (inl p) (inr not) = inr (λ pq. not pq.1)
both P Q (inr not) q = inr (λ pq. not pq.0)

-- The second part is decided only if the first holds.
unfoldable pub both_in_turn : (P Q : Type 0) → Decided P → (P → Decided Q) → Decided (P × Q)
both_in_turn P Q (inl p) next = elim (next p) [ inl q ↦ inl (p, q) | inr not ↦ inr (λ pq. not pq.1) ]
both_in_turn P Q (inr not) next = inr (λ pq. not pq.0)

unfoldable pub either : (P Q : Type 0) → Decided P → Decided Q → Decided (P ⊎ Q)
either P Q (inl p) q = inl (inl p)
either P Q (inr not) (inl q) = inl (inr q)
either P Q (inr not) (inr nor) = inr (λ pq. elim pq [ inl p ↦ not p | inr q ↦ nor q ])

unfoldable pub denied : (P : Type 0) → Decided P → Decided (P → ⊥)
denied P (inl p) = inr (λ not. not p)
denied P (inr not) = inl not

unfoldable pub less : (a b : ℕ) → Decided (a < b)
less a b = elim (less_or_not a b) [ inl below ↦ inl below | inr above ↦ inr (λ below. omega arith) ]

unfoldable pub at_most : (a b : ℕ) → Decided (a ≤ b)
at_most a b = elim (less_or_not b a) [ inl below ↦ inr (λ above. omega arith) | inr above ↦ inl above ]

unfoldable pub bool_is : (a b : Bool) → Decided (a ≡ b)
bool_is true true = inl refl
bool_is false false = inl refl
bool_is true false = inr true≢false
bool_is false true = inr (λ e. true≢false (sym e))

unfoldable pub role_is : (a b : Role) → Decided (a ≡ b)
role_is Client Client = inl refl
role_is Server Server = inl refl
role_is Client Server = inr (λ e. cc)
role_is Server Client = inr (λ e. cc)

unfoldable pub only_shortest : (a : Lengths) → Decided (a ≡ Shortest)
only_shortest Shortest = inl refl
only_shortest Any = inr (λ e. cc)

unfoldable pub no_group : (group : List Frame) → Decided (group ≡ [])
no_group [] = inl refl
no_group (f ∷ group) = inr (λ e. nil-cons f group (sym e))

unfoldable pub limit_is : (limit : Option ℕ) (n : ℕ) → Decided (limit ≡ Some n)
limit_is None n = inr (λ e. cc)
limit_is (Some m) n = elim (same_or_not m n) [ inl same ↦ inl (ap Some same) | inr other ↦ inr (λ e. other (same_Some m n e)) ]

unfoldable pub is_long : (f : LenForm) → Decided (IsLong f)
is_long (len_form.Short n) = inr (λ e. e)
is_long len_form.Two = inl tt
is_long len_form.Eight = inl tt

unfoldable pub is_short_one : (f : LenForm) → Decided (f ≡ len_form.Short 1)
is_short_one (len_form.Short n) = elim (same_or_not n 1) [ inl one ↦ inl (ap len_form.Short one) | inr other ↦ inr (λ e. other cc) ]
is_short_one len_form.Two = inr (λ e. cc)
is_short_one len_form.Eight = inr (λ e. cc)

unfoldable pub not_minimal : (f : LenForm) (len : ℕ) → Decided (IsNotMinimal f len)
not_minimal (len_form.Short n) len = inr (λ e. e)
not_minimal len_form.Two len = less len 126
not_minimal len_form.Eight len = less len 65536

unfoldable pub top_bit : (f : LenForm) (len : ℕ) → Decided (HasTopBit f len)
top_bit (len_form.Short n) len = inr (λ e. e)
top_bit len_form.Two len = inr (λ e. e)
top_bit len_form.Eight len = at_most (2 ^ 63) len

unfoldable pub op_is_text : (op : Op) → Decided (op ≡ Text)
op_is_text Text = inl refl
op_is_text _ = inr (λ e. cc)

unfoldable pub of_text : (group : List Frame) (opcode : ℕ) → Decided (IsOfText group opcode)
of_text [] opcode = same_or_not opcode 1
of_text (f ∷ group) opcode = both (IsDataOpcode opcode) (f.op ≡ Text) (at_most opcode 2) (op_is_text f.op)

unfoldable pub ends_bad : (text : List ℕ) → Decided (EndsBad text)
ends_bad text =
    elim (begins_or_first_bad text) [
      | inl begins ↦ inr (λ bad. bad_ends text bad.0 bad.2 begins)
      | inr bad ↦ elim (same_or_not (bad.0 + 1) (length text)) [
        | inl last ↦ inl (bad.0, last, bad.1)
        | inr other ↦ inr (λ ends. other (ap (λ (n : ℕ). n + 1) (first_bad_unique text bad.0 ends.0 bad.1 ends.2) ∙ ends.1))
      ]
    ]

unfoldable pub ends_inside : (text : List ℕ) → Decided (EndsInside text)
ends_inside text = both (BeginsText text) (IsText text → ⊥) (begins_decided text) (denied (IsText text) (text_decided text))

-- ---- rows

unfoldable pub by_first : (limits : Limits) (group : List Frame) (reason : Reason) (first : ℕ) → Decided (EvidentByFirst limits group reason first)
by_first limits group ReservedBits first = less 0 (reserved_bits first)
by_first limits group ReservedOpcode first =
    let n = opcode_field first in
    either _ _ (both _ _ (at_most 3 n) (at_most n 7)) (both _ _ (at_most 11 n) (at_most n 15))
by_first limits group ControlNotFinal first =
    let n = opcode_field first in
    both _ _ (both _ _ (at_most 8 n) (at_most n 10)) (bool_is (fin_bit first) false)
by_first limits group NothingToContinue first = both _ _ (same_or_not (opcode_field first) 0) (no_group group)
by_first limits group MessageOpen first =
    both _ _ (either _ _ (same_or_not (opcode_field first) 1) (same_or_not (opcode_field first) 2)) (denied _ (no_group group))
by_first limits group TooManyFrames first = both _ _ (same_or_not (opcode_field first) 0) (limit_is limits.frames (length group))
by_first limits group reason first = inr (λ row. row)

unfoldable pub by_second : (role : Role) (reason : Reason) (first second : ℕ) → Decided (EvidentInSecond role reason first second)
by_second role MaskMissing first second = both _ _ (role_is role Client) (bool_is (mask_bit second) false)
by_second role MaskPresent first second = both _ _ (role_is role Server) (bool_is (mask_bit second) true)
by_second role ControlTooLong first second =
    let n = opcode_field first in
    both _ _ (both _ _ (at_most 8 n) (at_most n 10)) (is_long (len_form_at second))
by_second role CloseOneByte first second = both _ _ (same_or_not (opcode_field first) 8) (is_short_one (len_form_at second))
by_second role reason first second = inr (λ row. row)

unfoldable pub by_length : (limits : Limits) (group : List Frame) (reason : Reason) (first second : ℕ) (len : List ℕ) → Decided (EvidentByLength limits group reason first second len)
by_length limits group LengthTopBit first second len = top_bit (len_form_at second) (encoded_length (len_form_at second) len)
by_length limits group LengthNotMinimal first second len =
    both _ _ (only_shortest limits.lengths) (not_minimal (len_form_at second) (encoded_length (len_form_at second) len))
by_length limits group MessageTooBig first second len =
    both _ _ (at_most (opcode_field first) 2) (less limits.message (length (payload_of group) + encoded_length (len_form_at second) len))
by_length limits group reason first second len = inr (λ row. row)

unfoldable pub by_payload : (group : List Frame) (reason : Reason) (first total : ℕ) (payload : List ℕ) → Decided (EvidentByPayload group reason first total payload)
by_payload group CloseCode first total payload =
    let accepted = accepted_code_or_not (from_be_bytes w16 payload) in
    let refused = denied _ accepted in
    elim (both _ _ (same_or_not (opcode_field first) 8) (same_or_not (length payload) 2)) [
      | inl p ↦ elim refused [ inl is ↦ inl (p.0, p.1, is) | inr not ↦ inr (λ row. not row.2) ]
      | inr not ↦ inr (λ row. not (row.0, row.1))
    ]
by_payload group CloseReason first total payload =
    both_in_turn _ _ (same_or_not (opcode_field first) 8)
    (λ _. either _ _ (ends_bad (drop 2 payload)) (both_in_turn _ _ (same_or_not (length payload) total) (λ _. ends_inside (drop 2 payload))))
by_payload group TextBad first total payload = both_in_turn _ _ (of_text group (opcode_field first)) (λ _. ends_bad (payload_of group ++ payload))
by_payload group TextCut first total payload =
    elim (both_in_turn _ _ (both _ _ (of_text group (opcode_field first)) (bool_is (fin_bit first) true)) (λ _. both_in_turn _ _ (same_or_not (length payload) total) (λ _. ends_inside (payload_of group ++ payload)))) [
      | inl p ↦ inl (p.0.0, p.0.1, p.1.0, p.1.1)
      | inr not ↦ inr (λ row. not ((row.0, row.1), (row.2, row.3)))
    ]
by_payload group reason first total payload = inr (λ row. row)
