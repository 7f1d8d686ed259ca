-- Streams and texts that are written out, and are alike or aren't.
use Rattle.std.proofs.Common.{◌≡◌, ℕ, ◌≤◌, true, List, [], ◌∷◌, length, inl, inr, refl, sym, ap, ◌∙◌, subst, arith, drop}
use Rattle.std.specs.List.{AllByRecursion, slice_index}
use Rattle.wsn_wire.specs.declared.endpoint.Role.{Role}
use Rattle.wsn_text.specs.Utf8.{◌–◌, IsText}
use Rattle.wsn_text.proofs.Prefixes.{text_begins}
use Rattle.wsn_text.proofs.Rests.{text-nil, text_push}
use Rattle.wsn_wire.specs.Frame.{IsBytes}
use Rattle.wsn_rules.specs.Limits.{Limits, InRange}
use Rattle.wsn_rules.proofs.Computed.{all_bytes, bytes_by_test}
use Rattle.wsn_redact.specs.StandIns.{IsRedacted, stood}
use Rattle.wsn_redact.specs.Redaction.{IsRedaction}
use Rattle.wsn_laws.specs.AlikeStreams.{IsIn, AreAlikeTexts, AreAlikeStreams}
use Rattle.wsn_redact.proofs.StoodTexts.{stood_is}
use Rattle.wsn_redact.proofs.EveryRedaction.{some_redaction_of}
use Rattle.wsn_laws.proofs.AlikeRedactions.{letter_alone, alike_is_one}
use Rattle.wsn_laws.proofs.RedactionsAlike.{texts_back, one_redaction_alike}

module _ (role : Role) (limits : Limits) where
  pub computed_alike : (bytes other redacted : List ℕ) → all_bytes bytes ≡ true → all_bytes other ≡ true → IsRedaction role limits bytes redacted → IsRedaction role limits other redacted → AreAlikeStreams role limits bytes other
  computed_alike bytes other redacted test other_test r s = one_redaction_alike role limits bytes other redacted (bytes_by_test bytes test) (bytes_by_test other other_test) r s

-- ---- small letters

letter_low : (b : ℕ) → IsIn ((0x61 – 0x7A) ∷ []) b → b ≤ 0x7F
letter_low b (inl is) = let to = is.1 in omega (arith, to)
letter_low b (inr none) = absurd none

letters_text : (text : List ℕ) → AllByRecursion (IsIn ((0x61 – 0x7A) ∷ [])) text → IsText text
letters_text [] each = text-nil
letters_text (b ∷ text) each = text_push (b ∷ []) text (inl (omega arith, letter_low b each.0, tt)) (letters_text text each.1)

letters_stood : (text other : List ℕ) → AllByRecursion (IsIn ((0x61 – 0x7A) ∷ [])) text → AllByRecursion (IsIn ((0x61 – 0x7A) ∷ [])) other → length text ≡ length other → stood [] text ≡ stood [] other
letters_stood [] [] each also size = refl
letters_stood [] (c ∷ other) each also size = absurd (omega (arith, size))
letters_stood (b ∷ text) [] each also size = absurd (omega (arith, size))
letters_stood (b ∷ text) (c ∷ other) each also size =
    let x = letter_alone b each.0 in
    let y = letter_alone c also.0 in
    let rest = letters_stood text other each.1 also.1 (omega (arith, size)) in
    (λ i. slice_index (x i) 0 ∷ stood (drop 1 (x i)) text) ∙ ap (λ (bs : List ℕ). 0x78 ∷ bs) rest ∙ sym (λ i. slice_index (y i) 0 ∷ stood (drop 1 (y i)) other)

pub letters_alike : (text other : List ℕ) → AllByRecursion (IsIn ((0x61 – 0x7A) ∷ [])) text → AllByRecursion (IsIn ((0x61 – 0x7A) ∷ [])) other → length text ≡ length other → AreAlikeTexts text other
letters_alike text other each also size =
    let r : IsRedacted text (stood [] text) = inl (stood_is text (text_begins text (letters_text text each))) in
    let s : IsRedacted other (stood [] other) = inl (stood_is other (text_begins other (letters_text other also))) in
    texts_back text other (stood [] text) r (subst (λ (bs : List ℕ). IsRedacted other bs) (sym (letters_stood text other each also size)) s)

-- ---- an equivalence

module _ (role : Role) (limits : Limits) (range : InRange limits) where
  pub same_alike : (bytes : List ℕ) → IsBytes bytes → AreAlikeStreams role limits bytes bytes
  same_alike bytes all = let r = some_redaction_of role limits range bytes all in one_redaction_alike role limits bytes bytes r.0 all all r.1 r.1

  -- The redaction of one is that of the other.
  on_other : (bytes other redacted : List ℕ) → IsBytes other → AreAlikeStreams role limits bytes other → IsRedaction role limits bytes redacted → IsRedaction role limits other redacted
  on_other bytes other redacted all a r = let s = some_redaction_of role limits range other all in subst (λ (bs : List ℕ). IsRedaction role limits other bs) (sym (alike_is_one role limits bytes other redacted s.0 a r s.1)) s.1

  pub back_alike : (bytes other : List ℕ) → IsBytes bytes → IsBytes other → AreAlikeStreams role limits bytes other → AreAlikeStreams role limits other bytes
  back_alike bytes other all also a = let r = some_redaction_of role limits range bytes all in one_redaction_alike role limits other bytes r.0 also all (on_other bytes other r.0 also a r.1) r.1

  pub onward_alike : (bytes other third : List ℕ) → IsBytes bytes → IsBytes other → IsBytes third → AreAlikeStreams role limits bytes other → AreAlikeStreams role limits other third → AreAlikeStreams role limits bytes third
  onward_alike bytes other third all also and_third a b =
      let r = some_redaction_of role limits range bytes all in
      one_redaction_alike role limits bytes third r.0 all and_third r.1 (on_other other third r.0 and_third b (on_other bytes other r.0 also a r.1))
