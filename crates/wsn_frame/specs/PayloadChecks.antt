-- The check of a payload after its first bytes, unmasked. RFC 6455 sections 5.5.1, 5.6, 7.4 and 8.1.
use Rattle.std.specs.Prelude.{◌≡◌, ◌≢◌, ℕ, ◌+◌, ◌<◌, ◌≤◌, ◌⊎◌, ◌↔◌, Bool, true, Option, Result, Ok, Err, List, [], ◌∷◌, ◌++◌, length, take}
use Rattle.std.specs.Int.{to_be_bytes, w16}
use Rattle.wsn_wire.specs.declared.refusal.Reason.{Reason}
use Rattle.wsn_wire.specs.Frame.{Frame}
use Rattle.wsn_wire.specs.ReceivedHead.{opcode_field}
use Rattle.wsn_wire.specs.Refusal.{number_of}
use Rattle.wsn_text.specs.Utf8.{Range, IsText, BeginsText, IsFirstBad}
use Rattle.wsn_text.specs.Validated.{HasValidated}
use Rattle.wsn_text.specs.CloseBody.{IsAcceptedCode}
use Rattle.wsn_frame.specs.declared.payload_check.PayloadCheck.{PayloadCheck, TheVariants.{Free, Text, Close}}
use Rattle.wsn_frame.specs.declared.payload_check.CloseBody.{CloseBody, TheVariants.{Empty, HalfCode, Code}}
use Rattle.wsn_frame.specs.declared.payload_check.BadByte.{BadByte}
use Rattle.wsn_rules.specs.Group.{payload_of}
use Rattle.wsn_rules.specs.Evidence.{EndsInside, IsOfText, EvidentByPayload}

-- These bytes are the part of a Close's body that has been checked.
abbrev pub IsBody : CloseBody → List ℕ → Type 0
IsBody Empty payload = payload ≡ []
IsBody (HalfCode b) payload = payload ≡ b ∷ []
IsBody (Code code reason) payload =
    (text : List ℕ) × (payload ≡ to_be_bytes w16 code ++ text) × (code < 65536) × IsAcceptedCode code
    × HasValidated reason text × BeginsText text

-- The check is the one for a frame with this first byte, after the group, and these bytes of its payload have been
-- checked.
abbrev pub HasChecked : List Frame → ℕ → PayloadCheck → List ℕ → Type 0
HasChecked group first Free payload = (IsOfText group (opcode_field first) → ⊥) × (opcode_field first ≢ 8)
HasChecked group first (Text utf8) payload =
    IsOfText group (opcode_field first) × HasValidated utf8 (payload_of group ++ payload)
    × BeginsText (payload_of group ++ payload)
HasChecked group first (Close body) payload = (opcode_field first ≡ 8) × IsBody body payload

-- No prefix of 1 to n bytes of the chunk, after the payload `before`, is evidence for a refusal; `total` is the
-- payload's length.
abbrev pub IsQuiet : List Frame → ℕ → ℕ → List ℕ → List ℕ → ℕ → Type 0
IsQuiet group first total before chunk n =
    (k : ℕ) (reason : Reason) → 0 < k → k ≤ n → EvidentByPayload group reason first total (before ++ take k chunk) → ⊥

-- The result of checking a chunk of a payload.
abbrev pub IsChecked : List Frame → ℕ → ℕ → List ℕ → List ℕ → Result PayloadCheck BadByte → Type 0
IsChecked group first total before chunk (Ok check) =
    HasChecked group first check (before ++ chunk) × IsQuiet group first total before chunk (length chunk)
IsChecked group first total before chunk (Err bad) =
    (bad.at < length chunk) × IsQuiet group first total before chunk bad.at
    × EvidentByPayload group bad.reason first total (before ++ take (bad.at + 1) chunk)
    × ((r : Reason) → EvidentByPayload group r first total (before ++ take (bad.at + 1) chunk) →
    number_of bad.reason ≤ number_of r)

-- The result of checking a chunk of a Close's body, after the part `before`; `last`: the chunk ends the payload.
abbrev pub IsBodyChecked : List ℕ → List ℕ → Bool → Result PayloadCheck BadByte → Type 0
IsBodyChecked before chunk last result =
    (group : List Frame) (first total : ℕ) → opcode_field first ≡ 8 →
    (last ≡ true ↔ (length before + length chunk ≡ total))
    → length before + length chunk ≤ total → IsChecked group first total before chunk result

-- The result of checking a chunk of a text, after the part `taken`; `ends`: the chunk ends the text.
abbrev pub IsTextConsumed : List ℕ → List ℕ → Bool → Reason → Reason → Result (Option (List Range)) BadByte → Type 0
IsTextConsumed taken chunk ends bad cut (Ok utf8) =
    HasValidated utf8 (taken ++ chunk) × BeginsText (taken ++ chunk) × (ends ≡ true → IsText (taken ++ chunk))
IsTextConsumed taken chunk ends bad cut (Err fault) =
    ((fault.reason ≡ bad) × (fault.at < length chunk) × IsFirstBad (taken ++ chunk) (length taken + fault.at))
    ⊎ ((fault.reason ≡ cut) × (fault.at + 1 ≡ length chunk) × (ends ≡ true) × EndsInside (taken ++ chunk))
