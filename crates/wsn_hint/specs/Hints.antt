-- What a hint says of the input that begins with the bytes.
use Rattle.std.specs.Prelude.{◌≡◌, ℕ, ◌+◌, ◌%◌, ◌<◌, ◌≤◌, ◌⊎◌, true, Option, None, Some, List, [], ◌∷◌, ◌++◌, length, take, drop, codes}
use Rattle.std.specs.Char.{is_ascii_hexdigit}
use Rattle.std.specs.List.{AllByRecursion, Contains, take_while}
use Rattle.wsn_wire.specs.declared.endpoint.Role.{Role, TheVariants.{Client, Server}}
use Rattle.wsn_wire.specs.declared.refusal.Reason.{Reason, TheVariants.{ReservedBits, MaskMissing, MaskPresent}}
use Rattle.wsn_wire.specs.Frame.{Frame}
use Rattle.wsn_rules.specs.declared.verdict.Verdict.{Verdict}
use Rattle.wsn_rules.specs.Limits.{Limits}
use Rattle.wsn_rules.specs.Examples.{greatest}
use Rattle.wsn_rules.specs.Verdict.{IsRefused, IsVerdict, IsUnrefused}
use Rattle.wsn_hint.specs.declared.hint.Hint.{Hint, TheVariants.{Empty, HttpHead, Capture, CaptureToShow, Hexadecimal, HexDump, OffsetDump, Compressed, Text, Pcap, PcapNg, Gzip, Tls, ByteOrderMark, OtherRole, Stream, Json, SmallLetters, Blanks, OtherText, Binary}}

-- This is the verdict on the bytes.
abbrev pub IsVerdictOnBytes : Role → Limits → List ℕ → Verdict → Type 0
IsVerdictOnBytes role limits bytes verdict = (fs : List Frame) × IsVerdict role limits bytes fs verdict

-- The bytes are refused at offset 0 or 1.
pub record IsRefusedEarly (role : Role) (limits : Limits) (bytes : List ℕ) : Type 0 where
  pub frames : List Frame
  pub offset : ℕ
  pub reason : Reason
  pub early : offset < 2
  pub refused : IsRefused role limits bytes frames offset reason

-- The bytes begin with this mark.
abbrev pub Begins : List ℕ → List ℕ → Type 0
Begins mark bytes = (rest : List ℕ) × (bytes ≡ mark ++ rest)

-- The bytes begin with the mark of a pcap file, with time stamps in microseconds or nanoseconds, in either byte order.
abbrev pub BeginsPcap : List ℕ → Type 0
BeginsPcap bytes =
    Begins (0xa1 ∷ 0xb2 ∷ 0xc3 ∷ 0xd4 ∷ []) bytes ⊎ Begins (0xd4 ∷ 0xc3 ∷ 0xb2 ∷ 0xa1 ∷ []) bytes
    ⊎ Begins (0xa1 ∷ 0xb2 ∷ 0x3c ∷ 0x4d ∷ []) bytes ⊎ Begins (0x4d ∷ 0x3c ∷ 0xb2 ∷ 0xa1 ∷ []) bytes

-- The bytes begin with the head of a TLS record: its type, 20 to 23, and a version from 3.0 to 3.4 (RFC 8446 section
-- 5.1).
pub record BeginsTls (bytes : List ℕ) : Type 0 where
  pub kind : ℕ
  pub minor : ℕ
  pub rest : List ℕ
  pub is : bytes ≡ kind ∷ 3 ∷ minor ∷ rest
  pub least : 20 ≤ kind
  pub most : kind ≤ 23
  pub version : minor ≤ 4

-- The bytes begin with a version of HTTP, or with a method and a space (RFC 9112 sections 3 and 4).
abbrev pub BeginsHttp : List ℕ → Type 0
BeginsHttp bytes =
    Begins (codes "HTTP/1.") bytes ⊎ Begins (codes "GET ") bytes ⊎ Begins (codes "HEAD ") bytes
    ⊎ Begins (codes "POST ") bytes ⊎ Begins (codes "PUT ") bytes ⊎ Begins (codes "DELETE ") bytes
    ⊎ Begins (codes "CONNECT ") bytes ⊎ Begins (codes "OPTIONS ") bytes ⊎ Begins (codes "TRACE ") bytes
    ⊎ Begins (codes "PATCH ") bytes

-- There are at least two bytes, and an endpoint may have sent the first two, under the greatest limits.
abbrev pub MayBeStream : List ℕ → Type 0
MayBeStream bytes = (2 ≤ length bytes) × ((role : Role) × IsUnrefused role greatest (take 2 bytes))

-- The first byte of the head of a text or binary frame, in one frame or more, without RSV bits (RFC 6455 section 5.2).
abbrev pub IsDataHead : ℕ → Type 0
IsDataHead byte = (byte ≡ 0x01) ⊎ (byte ≡ 0x02) ⊎ (byte ≡ 0x81) ⊎ (byte ≡ 0x82)

-- The bytes begin with a text or binary frame that this endpoint may have sent but for RSV1, as compression sets it (RFC
-- 7692 section 6).
pub record BeginsCompressed (role : Role) (limits : Limits) (bytes : List ℕ) : Type 0 where
  pub plain : ℕ
  pub second : ℕ
  pub rest : List ℕ
  pub is : bytes ≡ (plain + 0x40) ∷ second ∷ rest
  pub of_data : IsDataHead plain
  pub unrefused : IsUnrefused role limits (plain ∷ second ∷ [])

-- The byte is of a text in ASCII: a tab, an LF, a CR, or a printable character.
abbrev pub IsTextByte : ℕ → Type 0
IsTextByte byte = (byte ≡ 9) ⊎ (byte ≡ 10) ⊎ (byte ≡ 13) ⊎ ((0x20 ≤ byte) × (byte ≤ 0x7e))

-- The byte is a control character that no text has, not even one with the commands of a terminal or a printer.
abbrev pub IsBinaryControl : ℕ → Type 0
IsBinaryControl byte =
    (byte ≤ 6) ⊎ ((14 ≤ byte) × (byte ≤ 26)) ⊎ ((28 ≤ byte) × (byte ≤ 31)) ⊎ (byte ≡ 127)

-- All the bytes are of a text in ASCII, and they are more than three.
abbrev pub IsAsciiText : List ℕ → Type 0
IsAsciiText bytes = (3 < length bytes) × AllByRecursion IsTextByte bytes

-- One of the bytes is such a control character.
abbrev pub HasBinaryControl : List ℕ → Type 0
HasBinaryControl bytes = (byte : ℕ) × Contains bytes byte × IsBinaryControl byte

-- The byte is a hexadecimal digit.
abbrev pub IsHexDigit : ℕ → Type 0
IsHexDigit byte = is_ascii_hexdigit byte ≡ true

-- the number of hexadecimal digits that the bytes begin with
abbrev pub digits_at_start : List ℕ → ℕ
digits_at_start bytes = length (take_while is_ascii_hexdigit bytes)

-- what follows these digits
abbrev pub after_digits : List ℕ → List ℕ
after_digits bytes = drop (digits_at_start bytes) bytes

-- The bytes begin with a colon, a space and a digit.
pub record BeginsGroup (bytes : List ℕ) : Type 0 where
  pub digit : ℕ
  pub rest : List ℕ
  pub is : bytes ≡ 58 ∷ 32 ∷ digit ∷ rest
  pub is_digit : IsHexDigit digit

-- The bytes begin with an offset of eight digits, a colon, a space and a digit, as a dump by xxd does.
abbrev pub BeginsHexDump : List ℕ → Type 0
BeginsHexDump bytes = (digits_at_start bytes ≡ 8) × BeginsGroup (after_digits bytes)

-- The bytes begin with a byte in two digits, and a space or an LF.
pub record BeginsByte (bytes : List ℕ) : Type 0 where
  pub high : ℕ
  pub low : ℕ
  pub next : ℕ
  pub rest : List ℕ
  pub is : bytes ≡ high ∷ low ∷ next ∷ rest
  pub digits : IsHexDigit high × IsHexDigit low
  pub apart : (next ≡ 32) ⊎ (next ≡ 10)

-- The bytes begin with one or two spaces and such a byte.
abbrev pub BeginsSpacedByte : List ℕ → Type 0
BeginsSpacedByte bytes =
    (rest : List ℕ) × ((bytes ≡ 32 ∷ rest) ⊎ (bytes ≡ 32 ∷ 32 ∷ rest)) × BeginsByte rest

-- The bytes begin with an offset of six to eight digits and a byte, as a dump by hexdump or od does.
abbrev pub BeginsOffsetDump : List ℕ → Type 0
BeginsOffsetDump bytes =
    (6 ≤ digits_at_start bytes) × (digits_at_start bytes ≤ 8) × BeginsSpacedByte (after_digits bytes)

-- The byte is a hexadecimal digit, or separates the digits of bytes: a space, a colon, a tab, or a line's end.
abbrev pub IsHexByte : ℕ → Type 0
IsHexByte byte =
    IsHexDigit byte ⊎ (byte ≡ 32) ⊎ (byte ≡ 58) ⊎ (byte ≡ 9) ⊎ (byte ≡ 13) ⊎ (byte ≡ 10)

-- At least four bytes are hexadecimal digits, and what separates them; the first is a digit. The digits at the
-- front are in pairs, or they are all there is.
pub record IsHexText (bytes : List ℕ) : Type 0 where
  pub first : ℕ
  pub rest : List ℕ
  pub is : bytes ≡ first ∷ rest
  pub some : 4 ≤ length bytes
  pub digit : IsHexDigit first
  pub all : AllByRecursion IsHexByte bytes
  pub pairs : (digits_at_start bytes % 2 ≡ 0) ⊎ (digits_at_start bytes ≡ length bytes)

-- The bytes begin with c or s, and what follows an endpoint's letter in a capture: a space or a dot.
abbrev pub BeginsSmall : List ℕ → Type 0
BeginsSmall bytes =
    Begins (99 ∷ 32 ∷ []) bytes ⊎ Begins (99 ∷ 46 ∷ []) bytes
    ⊎ Begins (115 ∷ 32 ∷ []) bytes ⊎ Begins (115 ∷ 46 ∷ []) bytes

-- The bytes begin with digits, none or more, and a space or a colon.
abbrev pub HasBlank : List ℕ → Type 0
HasBlank bytes = Begins (32 ∷ []) (after_digits bytes) ⊎ Begins (58 ∷ []) (after_digits bytes)

-- The bytes begin with C or S and a space, as a capture's line with bytes does, and a blank or a colon follows the first
-- of its digits.
pub record BeginsBlanks (bytes : List ℕ) : Type 0 where
  pub letter : ℕ
  pub rest : List ℕ
  pub is : bytes ≡ letter ∷ 32 ∷ rest
  pub endpoint : (letter ≡ 67) ⊎ (letter ≡ 83)
  pub separated : HasBlank rest

-- A line of a capture may begin with these two bytes: a comment with #, an empty line, or C or S with a space or a dot.
abbrev pub MayBeginLine : ℕ → ℕ → Type 0
MayBeginLine byte next =
    (byte ≡ 35) ⊎ (byte ≡ 13) ⊎ (byte ≡ 10) ⊎ (((byte ≡ 67) ⊎ (byte ≡ 83)) × ((next ≡ 32) ⊎ (next ≡ 46)))

-- There are at least two bytes, and no line of a capture may begin with the first two.
pub record BeginsNoLine (bytes : List ℕ) : Type 0 where
  pub first : ℕ
  pub second : ℕ
  pub rest : List ℕ
  pub is : bytes ≡ first ∷ second ∷ rest
  pub none : ¬ (MayBeginLine first second)

-- The bytes begin with C or S, a space and two digits, as a capture's line with bytes does.
pub record BeginsLine (bytes : List ℕ) : Type 0 where
  pub letter : ℕ
  pub high : ℕ
  pub low : ℕ
  pub rest : List ℕ
  pub is : bytes ≡ letter ∷ 32 ∷ high ∷ low ∷ rest
  pub endpoint : (letter ≡ 67) ⊎ (letter ≡ 83)
  pub digits : IsHexDigit high × IsHexDigit low

-- The bytes begin with a line that is C or S and a dot, as a capture's end mark is.
pub record BeginsEndMark (bytes : List ℕ) : Type 0 where
  pub letter : ℕ
  pub rest : List ℕ
  pub is : bytes ≡ letter ∷ 46 ∷ rest
  pub endpoint : (letter ≡ 67) ⊎ (letter ≡ 83)
  pub end : (rest ≡ []) ⊎ Begins (13 ∷ []) rest ⊎ Begins (10 ∷ []) rest

-- The bytes begin as a line of a capture does: one with bytes, an end mark, or a comment after a space.
abbrev pub BeginsCapture : List ℕ → Type 0
BeginsCapture bytes = BeginsLine bytes ⊎ BeginsEndMark bytes ⊎ Begins (35 ∷ 32 ∷ []) bytes

-- What the hint says is so of an input that begins with these bytes: a mark or the text of a first line is at the front;
-- the first two bytes are what an endpoint may send; or all of them are of a text, or one is of none. No other hint is
-- given.
abbrev pub HintFits : Limits → List ℕ → Hint → Type 0
HintFits limits bytes Empty = bytes ≡ []
HintFits limits bytes Pcap = BeginsPcap bytes
HintFits limits bytes PcapNg = Begins (0x0a ∷ 0x0d ∷ 0x0d ∷ 0x0a ∷ []) bytes
HintFits limits bytes Gzip = Begins (0x1f ∷ 0x8b ∷ 8 ∷ []) bytes
HintFits limits bytes Tls = BeginsTls bytes
HintFits limits bytes ByteOrderMark = Begins (0xef ∷ 0xbb ∷ 0xbf ∷ []) bytes
HintFits limits bytes (OtherRole other) = IsUnrefused other limits (take 2 bytes)
HintFits limits bytes Stream = MayBeStream bytes
HintFits limits bytes Compressed = (role : Role) × BeginsCompressed role limits bytes
HintFits limits bytes Hexadecimal = IsHexText bytes
HintFits limits bytes Text = IsAsciiText bytes
HintFits limits bytes Capture = BeginsCapture bytes
HintFits limits bytes Json = BeginsNoLine bytes × Begins (0x7b ∷ []) bytes
HintFits limits bytes SmallLetters = BeginsSmall bytes
HintFits limits bytes Blanks = BeginsBlanks bytes
HintFits limits bytes CaptureToShow = BeginsCapture bytes
HintFits limits bytes HttpHead = BeginsHttp bytes
HintFits limits bytes HexDump = BeginsHexDump bytes
HintFits limits bytes OffsetDump = BeginsOffsetDump bytes
HintFits limits bytes OtherText = BeginsNoLine bytes × IsAsciiText bytes
HintFits limits bytes Binary = BeginsNoLine bytes × HasBinaryControl bytes
HintFits limits bytes hint = ⊥

-- The hint fits a stream that begins with these bytes and is refused for this reason, where this endpoint is said to
-- have sent it. Compressed frames are no text; frames of the other endpoint are refused for their masking.
abbrev pub FitsRefused : Role → Limits → Reason → List ℕ → Hint → Type 0
FitsRefused role limits reason bytes Compressed =
    (reason ≡ ReservedBits) × BeginsCompressed role limits bytes × ¬ (AllByRecursion IsTextByte bytes)
FitsRefused role limits reason bytes (OtherRole Server) =
    (reason ≡ MaskMissing) × IsUnrefused Server limits (take 2 bytes)
FitsRefused role limits reason bytes (OtherRole Client) =
    (reason ≡ MaskPresent) × IsUnrefused Client limits (take 2 bytes)
FitsRefused role limits reason bytes hint = HintFits limits bytes hint

-- ---- which hint is given

-- The result is the first of these hints that fits, or none if none does.
abbrev pub IsFirstFit : (Hint → Type 0) → List Hint → Option Hint → Type 0
IsFirstFit fits [] result = result ≡ None
IsFirstFit fits (hint ∷ later) result =
    (fits hint × (result ≡ Some hint)) ⊎ (¬ (fits hint) × IsFirstFit fits later result)

-- the formats of files that begin with a mark
abbrev pub marked_hints : List Hint
marked_hints = ByteOrderMark ∷ Pcap ∷ PcapNg ∷ Gzip ∷ Tls ∷ []

-- the formats of texts
abbrev pub written_hints : List Hint
written_hints = HttpHead ∷ HexDump ∷ OffsetDump ∷ Hexadecimal ∷ []

-- the formats, in the order in which they are tried
abbrev pub format_hints : List Hint
format_hints = marked_hints ++ written_hints

-- the hints for a capture of which a line isn't accepted, in the order in which they are tried
abbrev pub capture_hints : List Hint
capture_hints = format_hints ++ (Stream ∷ Json ∷ SmallLetters ∷ OtherText ∷ Binary ∷ Blanks ∷ [])

-- the hints for a stream of no known format that is refused early
abbrev pub frame_hints : List Hint
frame_hints = Compressed ∷ OtherRole Server ∷ OtherRole Client ∷ Text ∷ []

-- the hints for a stream that is refused early, in the order in which they are tried
abbrev pub stream_hints : List Hint
stream_hints = Capture ∷ format_hints ++ frame_hints
