-- Streams that differ only in what was said: in the letters, digits and longer characters of texts, in the payloads of
-- binary messages, pings and pongs, and in the bytes after their end. Nothing here speaks of redactions. RFC 6455 sections
-- 5.2 to 5.6, 7.1 and 8.1.
use Rattle.std.specs.Prelude.{◌≡◌, ℕ, ◌≤◌, ◌⊎◌, ⊤, Bool, true, false, List, [], ◌∷◌, ◌++◌, length, take, drop}
use Rattle.std.specs.List.{concat}
use Rattle.wsn_wire.specs.declared.endpoint.Role.{Role}
use Rattle.wsn_wire.specs.declared.opcode.Op.{Op, TheVariants.{Close}}
use Rattle.wsn_wire.specs.Frame.{Frame, stream, wire_payload}
use Rattle.wsn_text.specs.Utf8.{Range, ◌–◌, IsCharacter, BeginsText}
use Rattle.wsn_rules.specs.declared.head_info.HeadInfo.{HeadInfo}
use Rattle.wsn_rules.specs.declared.verdict.Verdict.{Verdict}
use Rattle.wsn_rules.specs.Limits.{Limits}
use Rattle.wsn_rules.specs.Group.{unfinished, payload_of}
use Rattle.wsn_rules.specs.AfterClose.{HasNoClose, EndsWithClose}
use Rattle.wsn_rules.specs.Heads.{BeginsWithHead}
use Rattle.wsn_rules.specs.Verdict.{IsVerdict, judged_bytes}
use Rattle.wsn_redact.specs.StandIns.{BeginsCharacter}
use Rattle.wsn_redact.specs.Redaction.{is_of_text, with_payload}

-- ---- kinds of characters

-- The byte is in one of the ranges.
abbrev pub IsIn : List Range → ℕ → Type 0
IsIn [] b = ⊥
IsIn (r ∷ ranges) b = ((r.low ≤ b) × (b ≤ r.high)) ⊎ IsIn ranges b

-- Two bytes of one of the kinds, or the same byte.
abbrev pub AreOfOneKind : List (List Range) → ℕ → ℕ → Type 0
AreOfOneKind [] b c = b ≡ c
AreOfOneKind (kind ∷ kinds) b c = (IsIn kind b × IsIn kind c) ⊎ AreOfOneKind kinds b c

-- Small letters, capital letters and digits.
abbrev pub single_kinds : List (List Range)
single_kinds = ((0x61 – 0x7A) ∷ []) ∷ ((0x41 – 0x5A) ∷ []) ∷ ((0x30 – 0x39) ∷ []) ∷ []

-- These, and the first bytes of longer characters, by the rows of Table 3-7 of the Unicode Standard. The rows that begin
-- with E1 and with EE are one kind: they differ in nothing else. Each row that isn't here has only one first byte.
abbrev pub first_kinds : List (List Range)
first_kinds =
    single_kinds
    ++ ((0xC2 – 0xDF) ∷ []) ∷ ((0xE1 – 0xEC) ∷ (0xEE – 0xEF) ∷ []) ∷ ((0xF1 – 0xF3) ∷ []) ∷ []

-- Two characters, or the first bytes of two: as many bytes, and first bytes of one kind.
abbrev pub AreAlikeCharacters : List ℕ → List ℕ → Type 0
AreAlikeCharacters [] [] = ⊤
AreAlikeCharacters (b ∷ bytes) (c ∷ others) = AreOfOneKind first_kinds b c × (length bytes ≡ length others)
AreAlikeCharacters bytes others = ⊥

-- In pairs, characters that are alike.
abbrev pub AreAlikeInPairs : List (List ℕ) → List (List ℕ) → Type 0
AreAlikeInPairs [] [] = ⊤
AreAlikeInPairs (c ∷ characters) (d ∷ others) =
    IsCharacter c × IsCharacter d × AreAlikeCharacters c d × AreAlikeInPairs characters others
AreAlikeInPairs characters others = ⊥

-- ---- texts

-- Both are characters that are alike in pairs, and then the first bytes of two that are alike.
pub record AreAlikeBeginnings (text other : List ℕ) : Type 0 where
  pub characters : List (List ℕ)
  pub other_characters : List (List ℕ)
  pub pairs : AreAlikeInPairs characters other_characters
  pub begun : List ℕ
  pub other_begun : List ℕ
  pub begins : BeginsCharacter begun
  pub other_begins : BeginsCharacter other_begun
  pub begun_alike : AreAlikeCharacters begun other_begun
  pub text_is : text ≡ concat characters ++ begun
  pub other_is : other ≡ concat other_characters ++ other_begun

-- Both go wrong at their last byte. It is the same, or both are small letters, capital letters or digits.
pub record AreAlikeToBad (text other : List ℕ) : Type 0 where
  pub front : List ℕ
  pub other_front : List ℕ
  pub fronts : AreAlikeBeginnings front other_front
  pub bad : ℕ
  pub other_bad : ℕ
  pub bad_alike : AreOfOneKind single_kinds bad other_bad
  pub text_is : text ≡ front ++ bad ∷ []
  pub other_is : other ≡ other_front ++ other_bad ∷ []
  pub goes_wrong : ¬ (BeginsText text)
  pub other_goes_wrong : ¬ (BeginsText other)

-- Two texts up to where they end or go wrong.
abbrev pub AreAlikeTexts : List ℕ → List ℕ → Type 0
AreAlikeTexts text other = AreAlikeBeginnings text other ⊎ AreAlikeToBad text other

-- ---- payloads, or the parts of two that came

-- As many bytes, and if they are of texts, texts that are alike up to their end.
abbrev pub AreAlikeData : Bool → List ℕ → List ℕ → List ℕ → List ℕ → Type 0
AreAlikeData true earlier other_earlier payload other =
    (length payload ≡ length other) × AreAlikeTexts (earlier ++ payload) (other_earlier ++ other)
AreAlikeData false earlier other_earlier payload other = length payload ≡ length other

-- Of two frames with this opcode, after the frames of two open messages. Of a Close, the same code and reasons that are
-- alike.
abbrev pub AreAlikePayloads : List Frame → List Frame → Op → List ℕ → List ℕ → Type 0
AreAlikePayloads group other_group Close payload other =
    (length payload ≡ length other) × (take 2 payload ≡ take 2 other) × AreAlikeTexts (drop 2 payload) (drop 2 other)
AreAlikePayloads group other_group op payload other =
    AreAlikeData (is_of_text group op) (payload_of group) (payload_of other_group) payload other

-- ---- frames

-- In pairs, after these frames, frames that differ in nothing but their payloads, which are alike.
abbrev pub AreAlikeFrames : List Frame → List Frame → List Frame → List Frame → Type 0
AreAlikeFrames before other_before [] [] = ⊤
AreAlikeFrames before other_before (f ∷ fs) (g ∷ gs) =
    (g ≡ with_payload f g.payload)
    × AreAlikePayloads (unfinished before) (unfinished other_before) f.op f.payload g.payload
    × AreAlikeFrames (before ++ f ∷ []) (other_before ++ g ∷ []) fs gs
AreAlikeFrames before other_before fs gs = ⊥

-- ---- what follows them

-- Both begin with the same head, which is complete and valid so far, and the parts of their frames' payloads are alike.
pub record AreAlikeBegun (role : Role) (limits : Limits) (fs gs : List Frame) (rest other : List ℕ) : Type 0 where
  pub info : HeadInfo
  pub begins : BeginsWithHead role limits fs rest info
  pub other_begins : BeginsWithHead role limits gs other info
  pub payloads :
      AreAlikePayloads (unfinished fs) (unfinished gs) info.op
      (wire_payload info.key begins.following) (wire_payload info.key other_begins.following)

-- Neither begins with a complete head that is valid so far.
abbrev pub HaveNoHead : Role → Limits → List Frame → List Frame → List ℕ → List ℕ → Type 0
HaveNoHead role limits fs gs rest other =
    ((info : HeadInfo) → BeginsWithHead role limits fs rest info → ⊥)
    × ((info : HeadInfo) → BeginsWithHead role limits gs other info → ⊥)

-- After the frames fs and gs: after a Close as many bytes; the same part of a head; the same head and parts of payloads
-- that are alike.
abbrev pub AreAlikeRests : Role → Limits → List Frame → List Frame → List ℕ → List ℕ → Type 0
AreAlikeRests role limits fs gs rest other =
    (EndsWithClose fs × EndsWithClose gs × (length rest ≡ length other))
    ⊎ (HasNoClose fs × HasNoClose gs × HaveNoHead role limits fs gs rest other × (rest ≡ other))
    ⊎ (HasNoClose fs × HasNoClose gs × AreAlikeBegun role limits fs gs rest other)

-- ---- streams

-- Two streams with the same verdict and as many bytes. Their lawful frames are alike, and so is what follows these up to
-- the offending byte. Nothing is said of the bytes after it.
pub record AreAlikeStreams (role : Role) (limits : Limits) (bytes other : List ℕ) : Type 0 where
  pub verdict : Verdict
  pub frames : List Frame
  pub other_frames : List Frame
  pub is_verdict : IsVerdict role limits bytes frames verdict
  pub other_verdict : IsVerdict role limits other other_frames verdict
  pub same_size : length bytes ≡ length other
  pub frames_alike : AreAlikeFrames [] [] frames other_frames
  pub rests_alike :
      AreAlikeRests role limits frames other_frames
      (drop (length (stream frames)) (judged_bytes verdict bytes))
      (drop (length (stream other_frames)) (judged_bytes verdict other))
