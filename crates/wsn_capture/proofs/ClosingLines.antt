-- The line in which a Close ends, as lines are added.
use Rattle.std.proofs.Common.{◌≡◌, ℕ, suc, ◌-◌, ◌<◌, ◌≤◌, ◌⊎◌, true, false, Option, None, Some, List, [], ◌∷◌, ◌++◌, length, is_some, inl, inr, refl, sym, ap, ◌∙◌, subst, append_assoc, append-nil, arith, length-append}
use Rattle.std.proofs.lemmas.List.{take_all, take-append-le, take_at}
use Rattle.std.proofs.lemmas.List.Concat.{flat_map-append}
use Rattle.wsn_wire.specs.declared.endpoint.Role.{Role}
use Rattle.wsn_wire.specs.Frame.{Frame, stream}
use Rattle.wsn_rules.specs.declared.verdict.Summary.{Summary}
use Rattle.wsn_rules.specs.declared.verdict.Verdict.{Verdict}
use Rattle.wsn_rules.specs.declared.verdict.Verdict.TheVariants.{Accepted, Cut, Refused}
use Rattle.wsn_rules.specs.declared.verdict.Refusal.{Refusal}
use Rattle.wsn_rules.specs.Limits.{Limits}
use Rattle.wsn_rules.specs.Lawful.{IsLawful}
use Rattle.wsn_rules.specs.AfterClose.{EndsWithClose}
use Rattle.wsn_rules.specs.Accepted.{IsAccepted}
use Rattle.wsn_rules.specs.Summary.{close_of, close_code, counted}
use Rattle.wsn_rules.specs.Verdict.{IsVerdict}
use Rattle.wsn_rules.proofs.OneVerdict.{one_verdict}
use Rattle.wsn_rules.proofs.LawfulLists.{no_close_before, close_is_last}
use Rattle.wsn_rules.proofs.Prefixes.{two_fronts}
use Rattle.wsn_scan.proofs.FrameEnds.{close_of-push}
use Rattle.wsn_scan.proofs.ScanVerdicts.{close_of_none}
use Rattle.wsn_rules.specs.Entries.{Entry}
use Rattle.wsn_rules.specs.Sides.{bytes_in, sent}
use Rattle.wsn_rules.specs.ClosingHandshake.{ClosesIn}
use Rattle.wsn_capture.specs.CloseLines.{IsUnclosed, IsClosedBy, IsCloseLine}

-- the bytes of one entry more
pub sent-push : (role : Role) (given : List Entry) (entry : Entry) → sent role (given ++ entry ∷ []) ≡ sent role given ++ bytes_in role entry
sent-push role given entry = flat_map-append (bytes_in role) given (entry ∷ []) ∙ ap (λ (bs : List ℕ). sent role given ++ bs) (append-nil (bytes_in role entry))

module _ (role : Role) (limits : Limits) where
  -- ---- whether a stream has a Close

  -- frames that end with a Close have a close code
  pub close_counted : (fs : List Frame) → IsLawful role limits fs → EndsWithClose fs → (code : Option ℕ) × (close_of fs ≡ Some code)
  close_counted fs lawful ends =
      let none = no_close_before role limits ends.0 ends.1 [] (subst (IsLawful role limits) ends.3 lawful) in
      (close_code ends.1.payload, ap close_of ends.3 ∙ close_of-push ends.0 ends.1 none ends.2)

  by_close : (bytes : List ℕ) (fs : List Frame) (close : Option (Option ℕ)) → IsAccepted role limits bytes fs → close ≡ close_of fs → IsClosedBy role limits bytes (is_some close)
  by_close bytes fs (Some code) is counts =
      elim (close_is_last role limits fs is.lawful) [
        | inl none ↦ let both : Some code ≡ None = counts ∙ close_of_none fs none in absurd (cc both)
        | inr ends ↦ (fs, is, ends)
      ]
  by_close bytes fs None is counts = λ gs also ends.
      let same = (one_verdict role limits bytes fs gs (Accepted (counted fs (length (stream fs)) (length bytes - length (stream fs)))) (Accepted (counted gs (length (stream gs)) (length bytes - length (stream gs)))) (is, refl) (also, refl)).0 in
      let code = close_counted gs also.lawful ends in
      let both : None ≡ Some code.0 = counts ∙ ap close_of same ∙ code.1 in
      cc

  pub accepted_closed : (bytes : List ℕ) (fs : List Frame) (summary : Summary) → IsVerdict role limits bytes fs (Accepted summary) → IsClosedBy role limits bytes (is_some summary.close)
  accepted_closed bytes fs summary is = by_close bytes fs summary.close is.0 (ap (λ (s : Summary). s.close) is.1)

  not_accepted : (bytes : List ℕ) (fs : List Frame) (verdict : Verdict) → IsVerdict role limits bytes fs verdict → ((summary : Summary) → verdict ≡ Accepted summary → ⊥) → IsUnclosed role limits bytes
  not_accepted bytes fs verdict is other gs also ends =
      other (counted gs (length (stream gs)) (length bytes - length (stream gs)))
      (one_verdict role limits bytes fs gs verdict (Accepted (counted gs (length (stream gs)) (length bytes - length (stream gs)))) is (also, refl)).1

  pub cut_unclosed : (bytes : List ℕ) (fs : List Frame) (verdict : Verdict) → IsVerdict role limits bytes fs verdict
      → ((summary : Summary) × (verdict ≡ Cut summary)) ⊎ ((refusal : Refusal) × (verdict ≡ Refused refusal)) → IsUnclosed role limits bytes
  cut_unclosed bytes fs verdict is fact = grind (arith, not_accepted)

  -- ---- a stream with further bytes

  -- what comes after a Close is its tail
  pub accepted_longer : (bytes more : List ℕ) (fs : List Frame) → IsAccepted role limits bytes fs → EndsWithClose fs → IsAccepted role limits (bytes ++ more) fs
  accepted_longer bytes more fs is closes = grind (arith, append_assoc)

  used : (bytes : List ℕ) (fs : List Frame) → IsAccepted role limits bytes fs → EndsWithClose fs → (tail : List ℕ) × (bytes ≡ stream fs ++ tail)
  used bytes fs is closes =
      elim is.ends [
        | inl whole ↦ absurd (whole.0 closes.0 [] closes.1 closes.3 closes.2)
        | inr tail ↦ tail.1
      ]

  -- the Close of a stream that had none ends after the bytes that came before
  pub ends_after : (bytes more : List ℕ) (fs : List Frame) → IsUnclosed role limits bytes → IsAccepted role limits (bytes ++ more) fs → EndsWithClose fs → length bytes < length (stream fs)
  ends_after bytes more fs unclosed is closes =
      let tail = used (bytes ++ more) fs is closes in
      elim (two_fronts bytes (stream fs) more tail.0 tail.1) [
        | inl further ↦ some_more further.0 further.1
        | inr within ↦ absurd (unclosed fs (record { lawful = is.lawful; ends = inr (closes, (within.0, within.1)) }) closes)
      ]
    where
      some_more : (m : List ℕ) → stream fs ≡ bytes ++ m → length bytes < length (stream fs)
      some_more [] same = absurd (unclosed fs (record { lawful = is.lawful; ends = inr (closes, ([], sym (append-nil bytes) ∙ sym same ∙ sym (append-nil (stream fs)))) }) closes)
      some_more (b ∷ m) longer = let size = ap (λ (bs : List ℕ). length bs) longer ∙ length-append bytes (b ∷ m) in omega (arith, size)

  -- ---- further lines

  -- a Close ends in one of the lines
  pub closes_within : (given : List Entry) (line : ℕ) → ClosesIn role limits given line → line < length given
  closes_within given line is = grind (arith, take_all)

  pub closes_longer : (given : List Entry) (entry : Entry) (line : ℕ) → ClosesIn role limits given line → ClosesIn role limits (given ++ entry ∷ []) line
  closes_longer given entry line is = grind (arith, closes_within, take-append-le, sent-push, accepted_longer)

  pub closes_last : (given : List Entry) (entry : Entry) (fs : List Frame) → IsUnclosed role limits (sent role given) → IsAccepted role limits (sent role given ++ bytes_in role entry) fs → EndsWithClose fs → ClosesIn role limits (given ++ entry ∷ []) (length given)
  closes_last given entry fs unclosed is closes =
      let size : length (given ++ entry ∷ []) ≤ suc (length given) = omega (arith, length-append given (entry ∷ [])) in
      let all = ap (λ (es : List Entry). length (sent role es)) (take_all (suc (length given)) (given ++ entry ∷ []) size) in
      let tail = used (sent role given ++ bytes_in role entry) fs is closes in
      let pushed = ap (λ (bs : List ℕ). length bs) (sent-push role given entry) in
      let late = ends_after (sent role given) (bytes_in role entry) fs unclosed is closes in
      record {
        frames = fs;
        accepted = subst (λ (bs : List ℕ). IsAccepted role limits bs fs) (sym (sent-push role given entry)) is;
        closes = closes;
        before = omega (arith, ap (λ (es : List Entry). length (sent role es)) (take_at given (entry ∷ []) (length given) refl), late);
        following = omega (arith, all, pushed, ap (λ (bs : List ℕ). length bs) tail.1 ∙ length-append (stream fs) tail.0);
      }

  -- a line that is noted stays
  pub line_stays : (given : List Entry) (entry : Entry) (line : ℕ) → IsCloseLine role limits given (Some line) → IsCloseLine role limits (given ++ entry ∷ []) (Some line)
  line_stays given entry line is = closes_longer given entry line is

  -- a Close that is new ends in the last line
  pub line_new : (given : List Entry) (entry : Entry) → IsCloseLine role limits given None → IsClosedBy role limits (sent role given ++ bytes_in role entry) true → IsCloseLine role limits (given ++ entry ∷ []) (Some (length given))
  line_new given entry unclosed closes = closes_last given entry closes.0 unclosed closes.1 closes.2

  -- no line is noted while no Close comes
  pub line_none : (given : List Entry) (entry : Entry) → IsClosedBy role limits (sent role given ++ bytes_in role entry) false → IsCloseLine role limits (given ++ entry ∷ []) None
  line_none given entry unclosed = subst (IsUnclosed role limits) (sym (sent-push role given entry)) unclosed

  -- the line that is noted after an entry that adds none
  pub line_kept : (given : List Entry) (entry : Entry) (known : Option ℕ) → bytes_in role entry ≡ [] → IsCloseLine role limits given known → IsCloseLine role limits (given ++ entry ∷ []) known
  line_kept given entry known none is = grind (arith, closes_longer, sent-push, append-nil)
