-- The evidence for refusals in a frame's bytes. RFC 6455 sections 5.4 to 5.6, 7.4, 8.1 and 10.4.
use Rattle.std.specs.Prelude.{◌≡◌, ◌≢◌, ℕ, ◌+◌, ◌<◌, ◌≤◌, ◌⊎◌, true, Some, List, [], ◌∷◌, ◌++◌, length, drop, if◌then◌else◌}
use Rattle.std.specs.Int.{from_be_bytes, w16}
use Rattle.wsn_wire.specs.declared.endpoint.Role.{Role}
use Rattle.wsn_wire.specs.declared.opcode.Op.TheVariants.{Text}
use Rattle.wsn_wire.specs.declared.refusal.Reason.{Reason, TheVariants.{NothingToContinue, MessageOpen, MessageTooBig, CloseCode, CloseReason, TextBad, TextCut, TooManyFrames}}
use Rattle.wsn_wire.specs.Frame.{Frame, masked}
use Rattle.wsn_wire.specs.ReceivedHead.{fin_bit, opcode_field, mask_bit, len_form_at, length_count, encoded_length, key_count}
use Rattle.wsn_wire.specs.EvidenceInHeads.{EvidentInFirst, EvidentInSecond, EvidentInLength}
use Rattle.wsn_text.specs.Utf8.{IsText, BeginsText, IsFirstBad}
use Rattle.wsn_text.specs.CloseBody.{IsAcceptedCode}
use Rattle.wsn_rules.specs.Limits.{Limits}
use Rattle.wsn_rules.specs.Group.{payload_of}

-- In all definitions, `group` is the frames of the message that is open before the frame, or empty. Evidence for
-- several reasons may hold at once: the one with precedence is reported (specs/Verdict.antt).

-- [5.2] The opcodes 0, 1 and 2 are those of data frames.
abbrev pub IsDataOpcode : ℕ → Type 0
IsDataOpcode opcode = opcode ≤ 2

-- [5.6] The frame is a data frame of a text message: the open message began with Text; or none is open, and it is a
-- Text.
abbrev pub IsOfText : List Frame → ℕ → Type 0
IsOfText [] opcode = opcode ≡ 1
IsOfText (f ∷ group) opcode = IsDataOpcode opcode × (f.op ≡ Text)

-- [8.1] The last byte is the first bad one.
abbrev pub EndsBad : List ℕ → Type 0
EndsBad text = (i : ℕ) × (i + 1 ≡ length text) × IsFirstBad text i

-- [8.1] The text ends inside a character, and has no bad byte.
abbrev pub EndsInside : List ℕ → Type 0
EndsInside text = BeginsText text × ¬ (IsText text)

-- ---- evidence in the first byte

-- [5.4] A message continues with opcode 0 and begins with 1 or 2. [10.4] It has no more frames than the limit.
abbrev pub EvidentByFirst : Limits → List Frame → Reason → ℕ → Type 0
EvidentByFirst limits group NothingToContinue first = (opcode_field first ≡ 0) × (group ≡ [])
EvidentByFirst limits group MessageOpen first = ((opcode_field first ≡ 1) ⊎ (opcode_field first ≡ 2)) × (group ≢ [])
EvidentByFirst limits group TooManyFrames first = (opcode_field first ≡ 0) × (limits.frames ≡ Some (length group))
-- Reserved bits, a reserved opcode, a control frame without FIN [5.2, 5.5].
EvidentByFirst limits group reason first = EvidentInFirst reason first

-- ---- evidence in the second byte: only EvidentInSecond of wsn_wire [5.1, 5.5]

-- ---- evidence in the last byte of the length: the second byte, or the last length byte

-- [10.4] With the length of this frame, whose payload need not have come, the message is longer than the limit.
abbrev pub EvidentByLength : Limits → List Frame → Reason → ℕ → ℕ → List ℕ → Type 0
EvidentByLength limits group MessageTooBig first second len =
    IsDataOpcode (opcode_field first)
    × (limits.message < length (payload_of group) + encoded_length (len_form_at second) len)
-- A length of 2^63 or more, or one that fewer bytes could hold [5.2].
EvidentByLength limits group reason first second len = EvidentInLength limits.lengths reason (len_form_at second) len

-- ---- evidence in the payload

-- The payload so far is evidence for the reason; `total` is the length of the whole payload.
abbrev pub EvidentByPayload : List Frame → Reason → ℕ → ℕ → List ℕ → Type 0
-- [7.4] The body of a Close is a code in two bytes, and then a reason [5.5.1].
EvidentByPayload group CloseCode first total payload =
    (opcode_field first ≡ 8) × (length payload ≡ 2) × ¬ (IsAcceptedCode (from_be_bytes w16 payload))
EvidentByPayload group CloseReason first total payload =
    (opcode_field first ≡ 8) × (EndsBad (drop 2 payload) ⊎ ((length payload ≡ total) × EndsInside (drop 2 payload)))
-- [5.6, 8.1] The text of a message is that of all its frames.
EvidentByPayload group TextBad first total payload =
    IsOfText group (opcode_field first) × EndsBad (payload_of group ++ payload)
EvidentByPayload group TextCut first total payload =
    IsOfText group (opcode_field first) × (fin_bit first ≡ true) × (length payload ≡ total)
    × EndsInside (payload_of group ++ payload)
EvidentByPayload group reason first total payload = ⊥

-- ---- a frame's bytes, up to the offending byte

-- The bytes are a complete head and a part of the payload, possibly all or none of it [5.2].
pub record IntoPayload (seen : List ℕ) : Type 0 where
  pub first : ℕ
  pub second : ℕ
  pub len : List ℕ
  pub key : List ℕ
  pub wire : List ℕ
  pub whole : seen ≡ first ∷ second ∷ (len ++ (key ++ wire))
  pub len_count : length len ≡ length_count (len_form_at second)
  pub key_counted : length key ≡ key_count second
  pub within : length wire ≤ encoded_length (len_form_at second) len

-- [5.3] The part of the payload, unmasked.
abbrev pub unmasked : ℕ → List ℕ → List ℕ → List ℕ
unmasked second key wire = if mask_bit second then masked key 0 wire else wire

-- The bytes from a frame's first byte on are evidence for the reason, and the last of them completes it.
pub data Evidence (role : Role) (limits : Limits) (group : List Frame) (reason : Reason) (seen : List ℕ) : Type 0 where
  ByFirst : (first : ℕ) → seen ≡ first ∷ [] →
      EvidentByFirst limits group reason first → Evidence role limits group reason seen
  BySecond : (first second : ℕ) → seen ≡ first ∷ second ∷ [] →
      EvidentInSecond role reason first second → Evidence role limits group reason seen
  ByLength : (first second : ℕ) (len : List ℕ) → seen ≡ first ∷ second ∷ len → length len
      ≡ length_count (len_form_at second) →
      EvidentByLength limits group reason first second len → Evidence role limits group reason seen
  ByPayload : (p : IntoPayload seen) →
      EvidentByPayload group reason p.first (encoded_length (len_form_at p.second) p.len)
      (unmasked p.second p.key p.wire) → Evidence role limits group reason seen

-- No prefix of these bytes is evidence for a refusal, nor are all of them.
pub record HasNoEvidence (role : Role) (limits : Limits) (group : List Frame) (bytes : List ℕ) : Type 0 where
  pub none : (seen later : List ℕ) (reason : Reason) → bytes ≡ seen ++ later → Evidence role limits group reason seen →
      ⊥
