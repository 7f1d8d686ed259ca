-- What a frame's first bytes are of its head. RFC 6455 sections 5.1 and 5.2.
use Rattle.std.specs.Prelude.{◌≡◌, ℕ, ◌+◌, ◌-◌, ◌<◌, ◌≤◌, ◌↔◌, ⊤, nat_lt, if◌then◌else◌, Option, Result, Ok, Err, List, [], ◌∷◌, ◌++◌, length, take, IsSome, IfSome, is_some, ◌≢◌}
use Rattle.wsn_wire.specs.declared.endpoint.Role.{Role, TheVariants.{Client}}
use Rattle.wsn_wire.specs.declared.head_law.FirstByte.{FirstByte}
use Rattle.wsn_wire.specs.declared.refusal.Reason.{Reason}
use Rattle.wsn_wire.specs.declared.length_encoding.Form.{Form}
use Rattle.wsn_wire.specs.declared.length_encoding.Form.TheVariants as form
use Rattle.wsn_wire.specs.declared.length_encoding.LenForm.{LenForm}
use Rattle.wsn_wire.specs.declared.length_encoding.LenForm.TheVariants as len_form
use Rattle.wsn_wire.specs.declared.length_encoding.Lengths.{Lengths}
use Rattle.wsn_wire.specs.Frame.{Frame, IsBytes, IsKey, first_byte, key_bytes}
use Rattle.wsn_wire.specs.ReceivedHead.{mask_bit, len_form_at, length_count, encoded_length, key_count}
use Rattle.wsn_wire.specs.Refusal.{IsFirstEvident, number_of}
use Rattle.wsn_wire.specs.EvidenceInHeads.{EvidentInSecond, EvidentInLength}
use Rattle.wsn_rules.specs.declared.head_info.HeadInfo.{HeadInfo}
use Rattle.wsn_rules.specs.Limits.{Limits}
use Rattle.wsn_rules.specs.Evidence.{Evidence, EvidentByFirst, EvidentByPayload, HasNoEvidence}
use Rattle.wsn_frame.specs.declared.heads.Head.{Head}
use Rattle.wsn_frame.specs.declared.parsing.Parsed.{Parsed, TheVariants.{Incomplete, Whole, Refused}}
use Rattle.wsn_frame.specs.declared.kept_message.OpenMessage.{OpenMessage}
use Rattle.wsn_frame.specs.KeptMessages.{IsOpenMessage}

-- Only with the last of these bytes there is evidence for a refusal: for this reason, and for none with a lower number.
pub record IsEvidentLast (role : Role) (limits : Limits) (group : List Frame) (reason : Reason) (bytes : List ℕ)
    : Type 0 where
  pub before : (seen later : List ℕ) (r : Reason) → later ≢ [] → bytes ≡ seen ++ later →
      Evidence role limits group r seen → ⊥
  pub is_evident : Evidence role limits group reason bytes
  pub least : (r : Reason) → Evidence role limits group r bytes → number_of reason ≤ number_of r

-- Fewer bytes than a head: none, the first alone, or the first two and not all that the second requires.
abbrev pub IsShort : List ℕ → Type 0
IsShort [] = ⊤
IsShort (first ∷ []) = ⊤
IsShort (first ∷ second ∷ following) = length following < length_count (len_form_at second) + key_count second

-- The bytes are fewer than a head, and are evidence for no refusal.
pub record IsHeadSoFar (role : Role) (limits : Limits) (group : List Frame) (bytes : List ℕ) : Type 0 where
  pub short : IsShort bytes
  pub has_no_evidence : HasNoEvidence role limits group bytes

-- The bytes are this complete head. They are evidence for no refusal, unless the payload is empty and the frame ends
-- with them.
pub record IsHead (role : Role) (limits : Limits) (group : List Frame) (head : Head) (bytes : List ℕ) : Type 0 where
  pub second : ℕ
  pub lengths : List ℕ
  pub whole : bytes ≡ first_byte head.first.fin head.first.op ∷ second ∷ (lengths ++ key_bytes head.key)
  pub encoded : head.encoded ≡ len_form_at second
  pub masked : mask_bit second ≡ is_some head.key
  pub keyed : IsSome head.key ↔ (role ≡ Client)
  pub of_four : IfSome head.key IsKey
  pub counted : length lengths ≡ length_count head.encoded
  pub reported : head.len ≡ encoded_length head.encoded lengths
  pub in_bytes : IsBytes bytes
  pub has_no_evidence : (seen later : List ℕ) (reason : Reason) → bytes ≡ seen ++ later →
      Evidence role limits group reason seen
      → (later ≡ []) × EvidentByPayload group reason (first_byte head.first.fin head.first.op) head.len []

-- The bytes from a frame's first byte on, after the open message of this group, are those of an incomplete head, begin
-- with this head of `size` bytes, or are refused within the head, at the last of `size` bytes.
abbrev pub IsParsed : Role → Limits → List Frame → List ℕ → Parsed → Type 0
IsParsed role limits group bytes Incomplete = IsHeadSoFar role limits group bytes
IsParsed role limits group bytes (Whole size head) = IsHead role limits group head (take size bytes)
IsParsed role limits group bytes (Refused size reason) =
    IsShort (take (size - 1) bytes) × IsEvidentLast role limits group reason (take size bytes)

-- The first n bytes are this complete head, after the open message.
abbrev pub IsHeadPrefix : Role → Limits → Option OpenMessage → List ℕ → ℕ → Head → Type 0
IsHeadPrefix role limits message bytes n head =
    (0 < n) × (n ≤ length bytes) × ((group : List Frame) → IsOpenMessage message group → IsHead role limits group head
    (take n bytes))

-- The head, or its bytes up to the offending one, are within as many bytes.
abbrev pub IsWithin : ℕ → Parsed → Type 0
IsWithin count Incomplete = ⊤
IsWithin count (Whole size head) = (0 < size) × (size ≤ count)
IsWithin count (Refused size reason) = (0 < size) × (size ≤ count)

-- The first byte of a frame, and a second one that encodes the length in this form, are evidence for no refusal.
pub record HasTwoBytes (role : Role) (limits : Limits) (group : List Frame) (first : FirstByte) (encoded : LenForm)
    (second : ℕ) : Type 0 where
  pub in_bytes : IsBytes (first_byte first.fin first.op ∷ second ∷ [])
  pub encoded_is : encoded ≡ len_form_at second
  pub by_first : (reason : Reason) → ¬ (EvidentByFirst limits group reason (first_byte first.fin first.op))
  pub by_second : (reason : Reason) → ¬ (EvidentInSecond role reason (first_byte first.fin first.op) second)

-- The length bytes are read as this length, or refused for this reason.
abbrev pub IsLengthRead : Lengths → LenForm → List ℕ → Result ℕ Reason → Type 0
IsLengthRead lengths encoded bytes (Ok len) =
    (len ≡ encoded_length encoded bytes) × ((reason : Reason) → ¬ (EvidentInLength lengths reason encoded bytes))
IsLengthRead lengths encoded bytes (Err reason) = IsFirstEvident (λ r. EvidentInLength lengths r encoded bytes) reason

-- The form of a length in this length form: Shortest if fewer bytes could not hold it.
abbrev pub encoded_form : LenForm → ℕ → Form
encoded_form (len_form.Short _) len = form.Shortest
encoded_form len_form.Two len = if nat_lt len 126 then form.Two else form.Shortest
encoded_form len_form.Eight len = if nat_lt len 65536 then form.Eight else form.Shortest

-- The head as it is reported, at this offset.
abbrev pub info_at : ℕ → Head → HeadInfo
info_at offset head = record {
  offset = offset;
  fin = head.first.fin;
  op = head.first.op;
  key = head.key;
  form = encoded_form head.encoded head.len;
  len = head.len;
}
