-- Which hint the sides of a capture have that begins with the text, where it is known why each side that was read is
-- refused, and, where both were, in which lines the offending bytes are.
use Rattle.std.specs.Prelude.{◌≡◌, ◌≢◌, ◌+◌, ◌-◌, ◌<◌, ◌≤◌, ◌⊎◌, ℕ, Bool, IsTrue, Option, None, Some, IfSome, IsSome, List, [], ◌∷◌, ◌++◌, length, drop}
use Rattle.std.specs.List.{AllByRecursion}
use Rattle.wsn_wire.specs.declared.endpoint.Role.{Role, TheVariants.{Client, Server}}
use Rattle.wsn_wire.specs.declared.refusal.Reason.{Reason, TheVariants.{ReservedBits, MaskMissing, MaskPresent, TextBad}}
use Rattle.wsn_wire.specs.Frame.{Frame, stream}
use Rattle.wsn_rules.specs.declared.head_info.HeadInfo.{HeadInfo}
use Rattle.wsn_rules.specs.declared.verdict.Refusal.{Refusal}
use Rattle.wsn_rules.specs.Limits.{Limits}
use Rattle.wsn_rules.specs.Lawful.{IsLawful}
use Rattle.wsn_rules.specs.Heads.{BeginsWithHead}
use Rattle.wsn_rules.specs.BadCharacter.{payload_offset}
use Rattle.wsn_capture.specs.declared.tail_counts.Tails.{Tails}
use Rattle.wsn_capture.specs.declared.refused_line.RefusedLine.{RefusedLine}
use Rattle.wsn_capture.specs.declared.refused_line.RefusedLines.{RefusedLines}
use Rattle.wsn_capture.specs.RefusedLines.{kept_bytes}
use Rattle.wsn_capture.specs.SideTexts.{sent_in}
use Rattle.wsn_hint.specs.Hints.{IsDataHead, IsFirstFit, IsTextByte}
use Rattle.wsn_hint.specs.Comments.{IsSaid}
use Rattle.wsn_hint.specs.declared.comments.Said.TheVariants.{Answer, Compression, WrongAnswer}
use Rattle.wsn_hint.specs.declared.refused_sides.RefusedSides.{RefusedSides}
use Rattle.wsn_hint.specs.declared.hint.Hint.{Hint, TheVariants.{Empty, Compressed, MaybeCompressed, NotAgreed, Exchanged, NeverMasked, NotUtf8, AfterClose, WrongHandshake}}

-- By the text's lines, this is the byte that the endpoint sent at this offset.
abbrev pub IsSentAt : Role → List ℕ → ℕ → ℕ → Type 0
IsSentAt role text offset byte = (later : List ℕ) × (drop offset (sent_in role text) ≡ byte ∷ later)

-- ---- a text that was perhaps never masked

-- Lawful frames come first, and then this head.
pub record HasHead (role : Role) (limits : Limits) (sent : List ℕ) (head : HeadInfo) : Type 0 where
  pub frames : List Frame
  pub rest : List ℕ
  pub lawful : IsLawful role limits frames
  pub whole : sent ≡ stream frames ++ rest
  pub begins : BeginsWithHead role limits frames rest head

-- The bytes begin with this number of bytes of a text in ASCII, at most `most`.
abbrev pub BeginsInAscii : ℕ → ℕ → List ℕ → Type 0
BeginsInAscii most count bytes = (text : List ℕ) × (later : List ℕ) × (bytes ≡ text ++ later)
    × (length text ≡ count) × (count ≤ most) × AllByRecursion IsTextByte text

-- A frame's key isn't zero, and its payload begins with a text in ASCII as it was sent, up to the byte at this offset or
-- further: it was perhaps never masked [5.3].
pub record IsSentAsText (role : Role) (limits : Limits) (sent : List ℕ) (offset : ℕ) : Type 0 where
  pub head : HeadInfo
  pub has_head : HasHead role limits sent head
  pub key : List ℕ
  pub keyed : head.key ≡ Some key
  pub masks : key ≢ 0 ∷ 0 ∷ 0 ∷ 0 ∷ []
  pub count : ℕ
  pub text : BeginsInAscii head.len count (drop (payload_offset head) sent)
  pub from : payload_offset head ≤ offset
  pub up_to : offset < payload_offset head + count

-- ---- a refused side

-- The byte begins the head of a text or binary frame with RSV1 alone, as compression sets it (RFC 7692 section 6).
abbrev pub IsCompressedHead : ℕ → Type 0
IsCompressedHead byte = (plain : ℕ) × (byte ≡ plain + 0x40) × IsDataHead plain

-- The offending byte of a side: in its line if that is known, otherwise, if it is known, by the text's lines.
abbrev pub IsOffendingByte : Role → List ℕ → Option RefusedLine → ℕ → Option ℕ → Type 0
IsOffendingByte role text (Some line) offset byte = byte ≡ Some line.byte
IsOffendingByte role text None offset byte = IfSome byte (IsSentAt role text offset)

-- The same of the first bytes of the line with the offending byte, read as a stream of their own, as if a message began
-- with the line.
abbrev pub IsLineAsText : Role → Limits → Option RefusedLine → ℕ → Type 0
IsLineAsText role limits (Some line) offset =
    (line.start ≤ offset) × IsSentAsText role limits (kept_bytes line) (offset - line.start)
IsLineAsText role limits None offset = ⊥

-- The payload of the frame with the offending byte is a text as it was sent, by the text's lines or by the byte's line.
abbrev pub IsTextAsSent : Role → Limits → List ℕ → Option RefusedLine → ℕ → Type 0
IsTextAsSent role limits text line offset =
    IsSentAsText role limits (sent_in role text) offset ⊎ IsLineAsText role limits line offset

-- The hint fits a side that is refused for this reason. The offending byte is known, or may not be, and `as_text` says
-- whether the payload is known to be a text as it was sent.
abbrev pub FitsSide : List ℕ → Reason → Option ℕ → Bool → Hint → Type 0
FitsSide text reason byte as_text Compressed =
    (reason ≡ ReservedBits) × IfSome byte IsCompressedHead × IsSaid Compression text
FitsSide text reason byte as_text NotAgreed =
    (reason ≡ ReservedBits) × IsSome byte × IfSome byte IsCompressedHead
    × IsSaid Answer text × ¬ IsSaid Compression text
FitsSide text reason byte as_text MaybeCompressed =
    (reason ≡ ReservedBits) × IsSome byte × IfSome byte IsCompressedHead
FitsSide text reason byte as_text NeverMasked = (reason ≡ TextBad) × IsTrue as_text
FitsSide text reason byte as_text NotUtf8 = reason ≡ TextBad
FitsSide text reason byte as_text hint = ⊥

-- What the comments say of a compressed frame: that it was agreed on, or that the handshake is known and agreed on
-- none, or neither.
abbrev pub IsCompressedHint : List ℕ → Hint → Type 0
IsCompressedHint text hint =
    (IsSaid Compression text × (hint ≡ Compressed))
    ⊎ (¬ IsSaid Compression text × IsSaid Answer text × (hint ≡ NotAgreed))
    ⊎ (¬ IsSaid Compression text × ¬ IsSaid Answer text × (hint ≡ MaybeCompressed))

-- the hints for a refused side, in the order in which they are tried
abbrev pub side_hints : List Hint
side_hints = Compressed ∷ NotAgreed ∷ MaybeCompressed ∷ NeverMasked ∷ NotUtf8 ∷ []

-- A side that is refused has the first hint that fits, or none if none does; any other side has none.
abbrev pub IsSideHint : Role → Limits → List ℕ → Option RefusedLine → Option Refusal → Option Hint → Type 0
IsSideHint role limits text line None result = result ≡ None
IsSideHint role limits text line (Some refusal) result = (byte : Option ℕ) × (as_text : Bool)
    × IsOffendingByte role text line refusal.offset byte
    × (IsTrue as_text → IsTextAsSent role limits text line refusal.offset)
    × IsFirstFit (FitsSide text refusal.reason byte as_text) side_hints result

-- ---- both sides

-- There is no hint, or only that a text isn't UTF-8.
abbrev pub IsWeak : Option Hint → Type 0
IsWeak hint = (hint ≡ None) ⊎ (hint ≡ Some NotUtf8)

-- The result is the client's hint, unless that is weak and the server has one.
abbrev pub IsLikelier : Option Hint → Option Hint → Option Hint → Type 0
IsLikelier client server result =
    (IsWeak client × IsSome server × (result ≡ server)) ⊎ (¬ (IsWeak client × IsSome server) × (result ≡ client))

-- The likelier hint of both sides.
abbrev pub IsLikelierHint : Limits → List ℕ → RefusedSides → RefusedLines → Option Hint → Type 0
IsLikelierHint limits text refused lines result = (client : Option Hint) × (server : Option Hint)
    × IsSideHint Client limits text lines.client refused.client client
    × IsSideHint Server limits text lines.server refused.server server
    × IsLikelier client server result

-- The first frame is refused for its masking, which is that of the other endpoint's frames (RFC 6455 section 5.1).
abbrev pub IsForMask : Role → Refusal → Type 0
IsForMask Client refusal = (refusal.offset ≡ 1) × (refusal.reason ≡ MaskMissing)
IsForMask Server refusal = (refusal.offset ≡ 1) × (refusal.reason ≡ MaskPresent)

-- The second byte of a head has the mask bit of the other endpoint's frames.
abbrev pub IsOthersMask : Role → ℕ → Type 0
IsOthersMask Client byte = byte < 0x80
IsOthersMask Server byte = 0x80 ≤ byte

-- The first frame has the masking of the other endpoint's: it is refused for that, or the side wasn't read, and by the
-- text's lines it has.
abbrev pub HasOthersMask : Role → List ℕ → Option Refusal → Type 0
HasOthersMask role text (Some refusal) = IsForMask role refusal
HasOthersMask role text None = (byte : ℕ) × IsSentAt role text 1 byte × IsOthersMask role byte

-- Each side has the frames of the other.
abbrev pub AreExchanged : List ℕ → RefusedSides → Type 0
AreExchanged text refused =
    (IsSome refused.client ⊎ IsSome refused.server)
    × HasOthersMask Client text refused.client × HasOthersMask Server text refused.server

-- Both are refused for that.
abbrev pub AreRefusedForMasks : Option Refusal → Option Refusal → Type 0
AreRefusedForMasks (Some client) (Some server) = IsForMask Client client × IsForMask Server server
AreRefusedForMasks client server = ⊥

-- The hint for an empty text; that the sides are exchanged; or the likelier of both sides' hints. Sides that are both
-- refused for the other's masking are always said to be exchanged.
abbrev pub IsSidesHint : Limits → List ℕ → RefusedSides → RefusedLines → Option Hint → Type 0
IsSidesHint limits text refused lines result =
    ((text ≡ []) × (result ≡ Some Empty))
    ⊎ ((text ≢ []) × AreExchanged text refused × (result ≡ Some Exchanged))
    ⊎ ((text ≢ []) × ¬ AreRefusedForMasks refused.client refused.server × IsLikelierHint limits text refused lines result)

-- ---- a report on sides that aren't refused

-- A comment says that the handshake's answer is wrong.
abbrev pub FitsHandshake : List ℕ → Hint → Type 0
FitsHandshake text WrongHandshake = IsSaid WrongAnswer text
FitsHandshake text hint = ⊥

-- The hint says that an endpoint sent bytes after its Close, and it did (RFC 6455 section 5.5.1).
abbrev pub FitsTail : Tails → Hint → Type 0
FitsTail tails (AfterClose Client) = 0 < tails.client
FitsTail tails (AfterClose Server) = 0 < tails.server
FitsTail tails hint = ⊥

-- the hints at bytes after a Close, in the order in which they are tried
abbrev pub tail_hints : List Hint
tail_hints = AfterClose Client ∷ AfterClose Server ∷ []
