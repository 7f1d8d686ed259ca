-- What a printed word or number determines.
use Rattle.std.proofs.Common.{◌≡◌, ℕ, ◌+◌, ◌<◌, ◌%◌, ◌^◌, zero, suc, append-nil, inl, inr, true, if◌then◌else◌, List, [], ◌∷◌, ◌++◌, get_or, codes, refl, sym, ap, ◌∙◌, arith}
use Rattle.std.specs.Prelude.{decimal}
use Rattle.std.specs.List.{AllByRecursion}
use Rattle.std.specs.Str.{bytes_eq}
use Rattle.std.proofs.lemmas.Fmt.{decimal_by_steps, first_decimal, decimal_digit}
use Rattle.wsn_wire.specs.declared.refusal.Reason.{Reason}
use Rattle.wsn_wire.specs.declared.refusal.Reason.TheVariants.{ReservedBits, ReservedOpcode, ControlNotFinal, NothingToContinue, MessageOpen, MaskMissing, MaskPresent, ControlTooLong, CloseOneByte, LengthTopBit, LengthNotMinimal, MessageTooBig, CloseCode, CloseReason, TextBad, TextCut, TooManyFrames}
use Rattle.wsn_wire.specs.Refusal.{word_of}
use Rattle.wsn_laws.specs.JsonText.{StartAboveZero, IsInteger, IsNumber}
use Rattle.wsn_laws.proofs.Strings.{are_unescaped}
use Rattle.wsn_rules.specs.ShownCapture.{IsDigit}

-- ---- reasons

-- The reason with this word.
reason_with : List ℕ → Reason
reason_with word =
    if bytes_eq word (codes "reserved-bits") then ReservedBits
    else if bytes_eq word (codes "reserved-opcode") then ReservedOpcode
    else if bytes_eq word (codes "control-not-final") then ControlNotFinal
    else if bytes_eq word (codes "nothing-to-continue") then NothingToContinue
    else if bytes_eq word (codes "message-open") then MessageOpen
    else if bytes_eq word (codes "mask-missing") then MaskMissing
    else if bytes_eq word (codes "mask-present") then MaskPresent
    else if bytes_eq word (codes "control-too-long") then ControlTooLong
    else if bytes_eq word (codes "close-one-byte") then CloseOneByte
    else if bytes_eq word (codes "length-top-bit") then LengthTopBit
    else if bytes_eq word (codes "length-not-minimal") then LengthNotMinimal
    else if bytes_eq word (codes "message-too-big") then MessageTooBig
    else if bytes_eq word (codes "close-code") then CloseCode
    else if bytes_eq word (codes "close-reason") then CloseReason
    else if bytes_eq word (codes "text-bad") then TextBad
    else if bytes_eq word (codes "text-cut") then TextCut
    else TooManyFrames

reason_back : (reason : Reason) → reason_with (word_of reason) ≡ reason
unfolding reason_with
reason_back ReservedBits = refl
reason_back ReservedOpcode = refl
reason_back ControlNotFinal = refl
reason_back NothingToContinue = refl
reason_back MessageOpen = refl
reason_back MaskMissing = refl
reason_back MaskPresent = refl
reason_back ControlTooLong = refl
reason_back CloseOneByte = refl
reason_back LengthTopBit = refl
reason_back LengthNotMinimal = refl
reason_back MessageTooBig = refl
reason_back CloseCode = refl
reason_back CloseReason = refl
reason_back TextBad = refl
reason_back TextCut = refl
reason_back TooManyFrames = refl

pub one_reason : (reason other : Reason) → word_of reason ≡ word_of other → reason ≡ other
one_reason reason other same = sym (reason_back reason) ∙ ap reason_with same ∙ reason_back other

pub plain_reason : (reason : Reason) → are_unescaped (word_of reason) ≡ true
plain_reason ReservedBits = refl
plain_reason ReservedOpcode = refl
plain_reason ControlNotFinal = refl
plain_reason NothingToContinue = refl
plain_reason MessageOpen = refl
plain_reason MaskMissing = refl
plain_reason MaskPresent = refl
plain_reason ControlTooLong = refl
plain_reason CloseOneByte = refl
plain_reason LengthTopBit = refl
plain_reason LengthNotMinimal = refl
plain_reason MessageTooBig = refl
plain_reason CloseCode = refl
plain_reason CloseReason = refl
plain_reason TextBad = refl
plain_reason TextCut = refl
plain_reason TooManyFrames = refl

-- ---- numbers

digits_push : (xs : List ℕ) (b : ℕ) → AllByRecursion IsDigit xs → IsDigit b → AllByRecursion IsDigit (xs ++ (b ∷ []))
digits_push [] b are is = (is, tt)
digits_push (x ∷ xs) b are is = (are.0, digits_push xs b are.1 is)

last_digit : (n : ℕ) → n < 10 → IsDigit (48 + n)
last_digit n small = (omega arith, omega arith)

all_digits : (n : ℕ) → n < 2 ^ 64 → AllByRecursion IsDigit (decimal n)
all_digits =
    decimal_by_steps (λ n bytes. AllByRecursion IsDigit bytes)
    (λ n small. (last_digit n small, tt))
    (λ n bytes large before. digits_push bytes (48 + n % 10) before (last_digit (n % 10) (omega arith)))

above_zero : (bytes : List ℕ) → AllByRecursion IsDigit bytes → 48 < get_or bytes 0 0 → StartAboveZero bytes
above_zero [] are high = absurd (omega arith)
above_zero (b ∷ bytes) are high = (b, bytes, refl, omega arith, are.0.1, are.1)

integer : (n : ℕ) → n < 2 ^ 64 → IsInteger (decimal n)
integer zero fits = inl (decimal_digit 0 (omega arith))
integer (suc n) fits = inr (above_zero (decimal (suc n)) (all_digits (suc n) fits) (first_decimal (suc n) (omega arith) fits))

pub decimal_number : (n : ℕ) → n < 2 ^ 64 → IsNumber (decimal n)
decimal_number n fits =
    ([], decimal n, refl, inl refl, (decimal n, [], sym (append-nil (decimal n)), integer n fits, ([], [], refl, inl refl, inl refl)))
