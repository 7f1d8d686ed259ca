-- Sentences that say what a report means. The page `wsn.html` has them too: tools/sentences writes page/sentences.js from
-- this file.
use Rattle.std.specs.Prelude.{ℕ, List, codes}
use Rattle.wsn_wire.specs.declared.refusal.Reason.{Reason, TheVariants.{ReservedBits, ReservedOpcode, ControlNotFinal, NothingToContinue, MessageOpen, MaskMissing, MaskPresent, ControlTooLong, CloseOneByte, LengthTopBit, LengthNotMinimal, MessageTooBig, CloseCode, CloseReason, TextBad, TextCut, TooManyFrames}}

-- Why a byte is refused: the first sentence of what `wsn explain` says of the reason.
abbrev pub reason_sentence : Reason → List ℕ
reason_sentence ReservedBits = codes "a reserved bit (hex 40, 20 or 10) is set in the byte where a frame should begin"
reason_sentence ReservedOpcode = codes "the opcode, the low four bits of a frame's first byte, is 3 to 7 or 11 to 15"
reason_sentence ControlNotFinal = codes "a Close, ping or pong (opcode 8, 9 or 10) without FIN, so its first byte is hex 08, 09 or 0a"
reason_sentence NothingToContinue = codes "a continuation (opcode 0), but no message is open"
reason_sentence MessageOpen = codes "a text or binary frame begins a message, but the message before it has no final frame yet"
reason_sentence MaskMissing = codes "a client's frame without a masking key: the top bit of its second byte is 0"
reason_sentence MaskPresent = codes "a server's frame with a masking key: the top bit of its second byte is 1"
reason_sentence ControlTooLong = codes "a Close, ping or pong whose length field, the low seven bits of its second byte, is 126 or 127"
reason_sentence CloseOneByte = codes "a Close with a payload of one byte"
reason_sentence LengthTopBit = codes "a length in eight bytes has its highest bit set, so it is 2^63 or more"
reason_sentence LengthNotMinimal = codes "a length is encoded in two or eight bytes and fits in fewer"
reason_sentence MessageTooBig = codes "with this frame's length the message exceeds the limit"
reason_sentence CloseCode = codes "a Close has a code that may not be sent"
reason_sentence CloseReason = codes "the reason in a Close isn't UTF-8"
reason_sentence TextBad = codes "the offending byte is the first that can't follow what came before in UTF-8"
reason_sentence TextCut = codes "a text message ends inside a character"
reason_sentence TooManyFrames = codes "a continuation, but its message already has as many frames as --frames allows"

-- Each side is refused at its first frame for the masking of the other.
abbrev pub exchanged_sentence : List ℕ
exchanged_sentence = codes "The client's first frame has no masking key and the server's has one, as if each were the other's."

-- How a direction of the connection ended, without a Close.
abbrev pub ended_words : List ℕ
ended_words = codes "ended between two messages"

abbrev pub cut_words : List ℕ
cut_words = codes "ended inside a frame or a message"

-- How a connection ended on which both sides sent a Close.
abbrev pub clean_sentence : List ℕ
clean_sentence = codes "Both directions then ended."

abbrev pub complete_sentence : List ℕ
complete_sentence = codes "The capture lacks the end of a direction."

-- Neither side closed, and no direction ended.
abbrev pub open_sentence : List ℕ
open_sentence = codes "Nothing is wrong so far: no side has closed, and no direction has ended."

-- ---- commands

-- This makes a capture of one whose messages are compressed.
abbrev pub inflate_command : List ℕ
inflate_command = codes "recipes/inflate CAPTURE > inflated.capture"

-- This exchanges the sides of a capture.
abbrev pub exchange_command : List ℕ
exchange_command = codes "sed 's/^C/X/; s/^S/C/; s/^X/S/' CAPTURE > right.capture"
