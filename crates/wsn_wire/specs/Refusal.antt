-- The table of refusals: the number, the word and the close code of each reason (RFC 6455 section 7.4.1).
use Rattle.std.specs.Prelude.{ℕ, ◌≤◌, List, Option, MatchOption, codes}
use Rattle.wsn_wire.specs.declared.refusal.Reason.{Reason, TheVariants.{ReservedBits, ReservedOpcode, ControlNotFinal, NothingToContinue, MessageOpen, MaskMissing, MaskPresent, ControlTooLong, CloseOneByte, LengthTopBit, LengthNotMinimal, MessageTooBig, CloseCode, CloseReason, TextBad, TextCut, TooManyFrames}}

-- The reason's number. At one offset, the least number has precedence.
abbrev pub number_of : Reason → ℕ
number_of ReservedBits = 1
number_of ReservedOpcode = 2
number_of ControlNotFinal = 3
number_of NothingToContinue = 4
number_of MessageOpen = 5
number_of MaskMissing = 6
number_of MaskPresent = 7
number_of ControlTooLong = 8
number_of CloseOneByte = 9
number_of LengthTopBit = 10
number_of LengthNotMinimal = 11
number_of MessageTooBig = 12
number_of CloseCode = 13
number_of CloseReason = 14
number_of TextBad = 15
number_of TextCut = 16
number_of TooManyFrames = 17

-- The word that is printed for a reason.
abbrev pub word_of : Reason → List ℕ
word_of ReservedBits = codes "reserved-bits"
word_of ReservedOpcode = codes "reserved-opcode"
word_of ControlNotFinal = codes "control-not-final"
word_of NothingToContinue = codes "nothing-to-continue"
word_of MessageOpen = codes "message-open"
word_of MaskMissing = codes "mask-missing"
word_of MaskPresent = codes "mask-present"
word_of ControlTooLong = codes "control-too-long"
word_of CloseOneByte = codes "close-one-byte"
word_of LengthTopBit = codes "length-top-bit"
word_of LengthNotMinimal = codes "length-not-minimal"
word_of MessageTooBig = codes "message-too-big"
word_of CloseCode = codes "close-code"
word_of CloseReason = codes "close-reason"
word_of TextBad = codes "text-bad"
word_of TextCut = codes "text-cut"
word_of TooManyFrames = codes "too-many-frames"

-- The close code: 1002 protocol error, 1007 payload data that don't fit their type, 1008 policy, 1009 message too big.
abbrev pub code_of : Reason → ℕ
code_of ReservedBits = 1002
code_of ReservedOpcode = 1002
code_of ControlNotFinal = 1002
code_of NothingToContinue = 1002
code_of MessageOpen = 1002
code_of MaskMissing = 1002
code_of MaskPresent = 1002
code_of ControlTooLong = 1002
code_of CloseOneByte = 1002
code_of LengthTopBit = 1002
code_of LengthNotMinimal = 1002
code_of MessageTooBig = 1009
code_of CloseCode = 1002
code_of CloseReason = 1007
code_of TextBad = 1007
code_of TextCut = 1007
code_of TooManyFrames = 1008

-- Of the reasons with evidence, this one has the least number.
pub record IsFirstEvident (IsEvident : Reason → Type 0) (reason : Reason) : Type 0 where
  pub is_evident : IsEvident reason
  pub least : (other : Reason) → IsEvident other → number_of reason ≤ number_of other

-- The answer of a check: the first of the reasons with evidence, or none if there is no evidence.
abbrev pub IsFirstOrNone : (Reason → Type 0) → Option Reason → Type 0
IsFirstOrNone IsEvident answer =
    MatchOption answer ((reason : Reason) → ¬ (IsEvident reason)) (λ reason. IsFirstEvident IsEvident reason)
