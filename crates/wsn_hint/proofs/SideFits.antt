-- Which hint a refused side has, by its reason, its offending byte and the comments.
use Rattle.std.proofs.Common.{◌≡◌, ◌≢◌, ◌+◌, ◌↔◌, IfSome, IsTrue, is_some, ℕ, true, false, List, [], ◌∷◌, Option, None, Some, inl, inr, refl, arith}
use Rattle.wsn_wire.specs.declared.endpoint.Role.{Role}
use Rattle.wsn_wire.specs.declared.refusal.Reason.TheVariants.{ReservedBits, TextBad}
use Rattle.wsn_capture.specs.declared.refused_line.RefusedLine.{RefusedLine}
use Rattle.wsn_hint.specs.declared.hint.Hint.{Hint}
use Rattle.wsn_hint.specs.declared.hint.Hint.TheVariants.{NeverMasked, NotUtf8}
use Rattle.wsn_hint.specs.Hints.{IsDataHead, IsFirstFit}
use Rattle.wsn_hint.specs.SideHints.{FitsSide, IsCompressedHead, IsCompressedHint, IsOffendingByte, side_hints}

reserved_not_text : ReservedBits ≡ TextBad → ⊥
reserved_not_text is = cc is

-- The head of a compressed frame, by what it is without RSV1.
pub head_by : (byte : ℕ) (plain : Option ℕ) → IfSome plain (λ p. (byte ≡ p + 0x40) × IsDataHead p) → (plain ≡ None → (p : ℕ) → IsDataHead p → byte ≢ p + 0x40) → IsTrue (is_some plain) ↔ IsCompressedHead byte
head_by byte (Some p) some none = (λ is. (p, some.0, some.1), λ head. refl)
head_by byte None some none = (λ is. cc is, λ head. absurd (none refl head.0 head.2 head.1))

module _ (text : List ℕ) where
  -- The offending byte begins a compressed frame.
  pub head_known : (byte : ℕ) (hint : Hint) → IsCompressedHead byte → IsCompressedHint text hint → IsFirstFit (FitsSide text ReservedBits (Some byte) false) side_hints (Some hint)
  head_known byte hint head fact = grind arith

  -- The hints for texts fit no side that is refused for reserved bits.
  no_text : (byte : Option ℕ) → IsFirstFit (FitsSide text ReservedBits byte false) (NeverMasked ∷ NotUtf8 ∷ []) None
  no_text byte = inr (λ fits. reserved_not_text fits.0, inr (λ fits. reserved_not_text fits, refl))

  -- It begins another frame.
  pub other_head : (byte : ℕ) → (IsCompressedHead byte → ⊥) → IsFirstFit (FitsSide text ReservedBits (Some byte) false) side_hints None
  other_head byte none = grind (arith, no_text)

-- ---- a text that isn't UTF-8, and other reasons

-- the offending byte, if its line is known
pub some_byte : (role : Role) (text : List ℕ) (line : Option RefusedLine) (offset : ℕ) → (byte : Option ℕ) × IsOffendingByte role text line offset byte
some_byte role text (Some line) offset = (Some line.byte, refl)
some_byte role text None offset = (None, tt)

pub unmasked_fits : (text : List ℕ) (byte : Option ℕ) → IsFirstFit (FitsSide text TextBad byte true) side_hints (Some NeverMasked)
unmasked_fits text byte = inr ((λ fits. cc (fits.0)), inr ((λ fits. cc (fits.0)), inr ((λ fits. cc (fits.0)), inl ((refl, refl), refl))))

pub no_utf8_fits : (text : List ℕ) (byte : Option ℕ) → IsFirstFit (FitsSide text TextBad byte false) side_hints (Some NotUtf8)
no_utf8_fits text byte = inr ((λ fits. cc (fits.0)), inr ((λ fits. cc (fits.0)), inr ((λ fits. cc (fits.0)), inr ((λ fits. cc (fits.1)), inl (refl, refl)))))
