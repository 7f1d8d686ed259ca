-- What a quoted text is: a JSON string, of which nothing is hidden. RFC 8259 section 7.
use Rattle.std.specs.Prelude.{◌≡◌, ◌≢◌, ℕ, ◌+◌, ◌-◌, ◌*◌, ◌≤◌, ◌⊎◌, ◌==◌, ◌||◌, false, if◌then◌else◌, Option, None, Some, Ok, List, [], ◌∷◌, ◌++◌, codes, ⊤}
use Rattle.std.specs.Char.{encode_utf8}
use Rattle.std.specs.List.{AllByRecursion}
use Rattle.std.specs.Str.{chars, IsUtf8}
use Rattle.hex.specs.Hex.{decode_of}
use Rattle.wsn_wire.specs.Frame.{key_bytes}
use Rattle.wsn_rules.specs.ShownStream.{Item}
use Rattle.wsn_rules.specs.ShownStream.Item.{Event, Head, Unfinished, UnfinishedHead, RefusedFrame, Unread, Tail}
use Rattle.wsn_print.specs.EscapedText.{is_hidden}
use Rattle.wsn_print.specs.ShownParts.{HasTextReason}
use Rattle.wsn_rules.specs.Meaning.{payload_in}

-- ---- JSON strings

-- The character that an ASCII character after a backslash represents: `"`, `\` and `/` for themselves; b, f, n, r and
-- t for U+0008, U+000C, U+000A, U+000D and U+0009.
abbrev pub unescaped : ℕ → Option ℕ
unescaped letter =
    if letter == 34 || letter == 92 || letter == 47 then Some letter
    else (if letter == 98 then Some 0x08
    else (if letter == 102 then Some 0x0c
    else (if letter == 110 then Some 0x0a
    else (if letter == 114 then Some 0x0d
    else (if letter == 116 then Some 0x09 else None)))))

-- The character as it is: none below U+0020, no quotation mark, no backslash.
abbrev pub IsPlain : ℕ → List ℕ → Type 0
IsPlain c bytes = (0x20 ≤ c) × (c ≢ 34) × (c ≢ 92) × (bytes ≡ encode_utf8 c)

-- A backslash and the character that represents this one.
abbrev pub IsShortEscape : ℕ → List ℕ → Type 0
IsShortEscape c bytes = (letter : ℕ) × (unescaped letter ≡ Some c) × (bytes ≡ 92 ∷ letter ∷ [])

-- `\u` and a number below 0x10000 in four hexadecimal digits.
abbrev pub IsUnitEscape : ℕ → List ℕ → Type 0
IsUnitEscape unit bytes =
    (high : ℕ) × (low : ℕ) × (digits : List ℕ) × (decode_of digits ≡ Ok (high ∷ low ∷ []))
    × (unit ≡ high * 256 + low) × (bytes ≡ 92 ∷ 117 ∷ digits)

-- The number is a surrogate: half of a character beyond U+FFFF, and no character.
abbrev pub IsSurrogate : ℕ → Type 0
IsSurrogate unit = (0xd800 ≤ unit) × (unit ≤ 0xdfff)

-- The character's number in four digits. So none is escaped that is beyond U+FFFF.
abbrev pub IsUnicodeEscape : ℕ → List ℕ → Type 0
IsUnicodeEscape c bytes = IsUnitEscape c bytes × ¬ (IsSurrogate c)

-- The character beyond U+FFFF of a high and a low surrogate.
abbrev pub IsOfSurrogates : ℕ → ℕ → ℕ → Type 0
IsOfSurrogates high low c =
    (0xd800 ≤ high) × (high ≤ 0xdbff) × (0xdc00 ≤ low) × (low ≤ 0xdfff)
    × (c ≡ 0x10000 + (high - 0xd800) * 0x400 + (low - 0xdc00))

-- The escapes of the two surrogates of a character.
abbrev pub IsSurrogatePair : ℕ → List ℕ → Type 0
IsSurrogatePair c bytes =
    (high : ℕ) × (low : ℕ) × IsOfSurrogates high low c
    × ((first : List ℕ) × (second : List ℕ) × (bytes ≡ first ++ second) × IsUnitEscape high first × IsUnitEscape low second)

-- One character of a JSON string.
abbrev pub IsJsonCharacter : ℕ → List ℕ → Type 0
IsJsonCharacter c bytes =
    IsPlain c bytes ⊎ (IsShortEscape c bytes ⊎ (IsUnicodeEscape c bytes ⊎ IsSurrogatePair c bytes))

-- The characters of a JSON string, one after another.
abbrev pub AreJsonCharacters : List ℕ → List ℕ → Type 0
AreJsonCharacters [] bytes = bytes ≡ []
AreJsonCharacters (c ∷ cs) bytes =
    (first : List ℕ) × (following : List ℕ) × (bytes ≡ first ++ following) × IsJsonCharacter c first
    × AreJsonCharacters cs following

-- The bytes are a JSON string of this text in UTF-8.
pub record IsJsonString (text bytes : List ℕ) : Type 0 where
  pub inner : List ℕ
  pub between : bytes ≡ codes "\"" ++ inner ++ codes "\""
  pub characters : AreJsonCharacters (chars text) inner

-- ---- what a terminal shows

-- The bytes are UTF-8, and none of their characters moves the cursor or changes how the text around it is shown.
abbrev pub IsAllVisible : List ℕ → Type 0
IsAllVisible bytes = IsUtf8 bytes × AllByRecursion (λ c. is_hidden c ≡ false) (chars bytes)

-- The bytes of which an item shows a part.
abbrev pub bytes_in : Item → List ℕ
bytes_in (Event offset event frames) = payload_in event
bytes_in (Head info) = key_bytes info.key
bytes_in (Unfinished offset event frames lacks) = payload_in event
bytes_in (UnfinishedHead offset) = []
bytes_in (RefusedFrame offset refusal evidence character) = evidence
bytes_in (Unread offset bytes) = bytes
bytes_in (Tail offset bytes) = bytes

-- If the item is a Close, its reason is UTF-8.
abbrev pub ShowsTextReason : Item → Type 0
ShowsTextReason (Event offset event frames) = HasTextReason event
ShowsTextReason item = ⊤

-- The bytes of an item's bad character, if it has one.
abbrev pub bad_bytes : Item → List ℕ
bad_bytes (RefusedFrame offset refusal evidence (Some character)) = character.bytes
bad_bytes item = []

-- The text is a line that ends with the only character in it that is hidden, an LF.
abbrev pub IsVisibleLine : List ℕ → Type 0
IsVisibleLine line = (text : List ℕ) × (line ≡ text ++ codes "\n") × IsAllVisible text

-- The text is one such line, or two.
abbrev pub AreVisibleLines : List ℕ → Type 0
AreVisibleLines text = IsVisibleLine text
    ⊎ ((first : List ℕ) × (second : List ℕ) × (text ≡ first ++ second) × IsVisibleLine first × IsVisibleLine second)
