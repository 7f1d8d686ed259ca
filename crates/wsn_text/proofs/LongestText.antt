-- The longest prefix of bytes that is text, and what follows it in bytes that end with their first bad byte.
use Rattle.std.proofs.Common.{◌≡◌, ℕ, zero, suc, ◌+◌, ◌-◌, ◌<◌, ◌≤◌, List, [], ◌∷◌, ◌++◌, length, take, drop, inl, inr, refl, sym, ◌∙◌, subst, ap, append_assoc, arith, length-append}
use Rattle.std.proofs.lemmas.List.{take-append-drop, take-append-le, drop-append-le, take_all, take_at, length-drop}
use Rattle.std.proofs.lemmas.Str.{utf8_valid_len-IsUtf8, utf8_valid_len-IsValidUpTo}
use Rattle.std.specs.Str.{IsUtf8}
use Rattle.std.specs.Str.Lossy.{utf8_valid_len}
use Rattle.wsn_text.specs.Utf8.{IsText, BeginsText, IsFirstBad}
use Rattle.wsn_text.proofs.Numbers.{less_or_not}
use Rattle.wsn_text.proofs.Rests.{text-nil}
use Rattle.wsn_text.proofs.Scalars.{text_is_utf8}
use Rattle.wsn_text.proofs.Decide.{text_decided}
use Rattle.wsn_text.proofs.Prefixes.{text_begins, begins-nil, begins-append, bad_ends}
use Rattle.wsn_text.proofs.Boundaries.{text_after, longer_front}

-- ---- the longest prefix that is text

-- Of the first n bytes, m are the longest prefix that is text.
pub record IsLongest (bytes : List ℕ) (n m : ℕ) : Type 0 where
  pub within : m ≤ n
  pub front : IsText (take m bytes)
  pub longest : (k : ℕ) → m < k → k ≤ n → ¬ (IsText (take k bytes))

longest_of : (bytes : List ℕ) (n : ℕ) → (m : ℕ) × IsLongest bytes n m
longest_of bytes zero = (0, record { within = omega arith; front = text-nil; longest = λ k more le. absurd (omega arith) })
longest_of bytes (suc n) =
    elim (text_decided (take (suc n) bytes)) [
      | inl text ↦ (suc n, record { within = omega arith; front = text; longest = λ k more le. absurd (omega arith) })
      | inr none ↦
          let p = longest_of bytes n in
          let within = p.1.within in (
            p.0,
            record {
              within = omega arith;
              front = p.1.front;
              longest = λ k more le text. elim (less_or_not k (suc n)) [
                | inl less ↦ p.1.longest k more (omega arith) text
                | inr not_less ↦ let same : k ≡ suc n = omega arith in none (subst (λ (m : ℕ). IsText (take m bytes)) same text)
              ];
            },
          )
    ]

valid_is : (bytes : List ℕ) (m : ℕ) → IsLongest bytes (length bytes) m → utf8_valid_len bytes ≡ m
valid_is bytes m is =
    let within = is.within in
    elim (less_or_not m (length bytes)) [
      | inl less ↦ utf8_valid_len-IsValidUpTo bytes m (record { short = less; front = (text_is_utf8 (take m bytes)).0 is.front; longest = longer less })
      | inr not_less ↦
          let same : m ≡ length bytes = omega arith in
          let all : take m bytes ≡ bytes = take_all m bytes (omega arith) in
          utf8_valid_len-IsUtf8 bytes ((text_is_utf8 bytes).0 (subst IsText all is.front)) ∙ sym same
    ]
  where
    longer : m < length bytes → (k : ℕ) → m < k → ¬ (IsUtf8 (take k bytes))
    longer less k more utf8 =
        let text = (text_is_utf8 (take k bytes)).1 utf8 in
        elim (less_or_not (length bytes) k) [
          | inr le ↦ is.longest k more (omega arith) text
          | inl past ↦
              let same : take k bytes ≡ take (length bytes) bytes = take_all k bytes (omega arith) ∙ sym (take_all (length bytes) bytes (omega arith)) in
              is.longest (length bytes) less (omega arith) (subst IsText same text)
        ]

pub valid_is_longest : (bytes : List ℕ) → IsLongest bytes (length bytes) (utf8_valid_len bytes)
valid_is_longest bytes = let p = longest_of bytes (length bytes) in subst (IsLongest bytes (length bytes)) (sym (valid_is bytes p.0 p.1)) p.1

-- ---- one byte more, with which the bytes don't begin text

module _ (front : List ℕ) (b : ℕ) (begins : BeginsText front) (ends : ¬ (BeginsText (front ++ b ∷ []))) where
  abbrev text : List ℕ
  text = front ++ b ∷ []

  -- The longest text is the same.
  pub valid_before_bad : utf8_valid_len (front ++ b ∷ []) ≡ utf8_valid_len front
  valid_before_bad =
      let before = valid_is_longest front in
      let within = before.within in
      let size : length text ≡ length front + 1 = length-append front (b ∷ []) in
      valid_is text (utf8_valid_len front) (record {
        within = omega (arith, within, size);
        front = subst IsText (sym (take-append-le (utf8_valid_len front) front (b ∷ []) within)) before.front;
        longest = longer;
      })
    where
      longer : (k : ℕ) → utf8_valid_len front < k → k ≤ length (front ++ b ∷ []) → ¬ (IsText (take k (front ++ b ∷ [])))
      longer k more le is_text =
          let before = valid_is_longest front in
          let size : length text ≡ length front + 1 = length-append front (b ∷ []) in
          elim (less_or_not (length front) k) [
            | inr short ↦ before.longest k more short (subst IsText (take-append-le k front (b ∷ []) short) is_text)
            | inl past ↦ ends (text_begins text (subst IsText (take_all k text (omega (arith, size))) is_text))
          ]

  -- After it come the bytes of one character, up to the one that is bad: one to four.
  pub record IsSplit : Type 0 where
    pub whole : IsText (take (utf8_valid_len text) text)
    pub bad : ¬ (BeginsText (drop (utf8_valid_len text) text))
    pub part : List ℕ
    pub is : drop (utf8_valid_len text) text ≡ part ++ b ∷ []
    pub begun : BeginsText part
    pub few : length part ≤ 3

  is_split : (v : ℕ) → utf8_valid_len text ≡ v → utf8_valid_len front ≡ v → IsSplit
  is_split v is_v front_v =
      let longest : IsLongest front (length front) v = subst (IsLongest front (length front)) front_v (valid_is_longest front) in
      let within = longest.within in
      let whole : IsText (take v text) = subst IsText (sym (take-append-le v front (b ∷ []) within)) longest.front in
      record {
        whole = subst (λ (n : ℕ). IsText (take n text)) (sym is_v) whole;
        bad = λ begun. ends (subst BeginsText (take-append-drop v text) (begins-append (take v text) (drop v text) whole (subst (λ (n : ℕ). BeginsText (drop n text)) is_v begun)));
        part = drop v front;
        is = ap (λ (n : ℕ). drop n text) is_v ∙ drop-append-le v front (b ∷ []) within;
        begun = rest_begins v longest.front;
        few = few v longest;
      }
    where
      rest_begins : (v : ℕ) → IsText (take v front) → BeginsText (drop v front)
      rest_begins v is_text =
          let joined : take v front ++ (drop v front ++ begins.more) ≡ front ++ begins.more =
          sym (append_assoc (take v front) (drop v front) begins.more) ∙ ap (λ (bs : List ℕ). bs ++ begins.more) (take-append-drop v front) in
          record { more = begins.more; text = text_after (take v front) (drop v front ++ begins.more) is_text (subst IsText (sym joined) begins.text) }

      few : (v : ℕ) → IsLongest front (length front) v → length (drop v front) ≤ 3
      few v longest =
          let within = longest.within in
          let size = length-drop v front in
          elim (less_or_not (length front) (v + 4)) [
            | inl less ↦ omega (arith, size, less, within)
            | inr le ↦
                let p = longer_front front v longest.front le begins in
                let more = p.1 in
                let fits = p.2 in
                absurd (longest.longest p.0 p.1 (omega (arith, fits, le)) p.3)
          ]

  pub split : IsSplit
  split = is_split (utf8_valid_len front) valid_before_bad refl

-- ---- bytes that end with their first bad byte

pub before_bad : (front : List ℕ) (b i : ℕ) → IsFirstBad (front ++ b ∷ []) i → i + 1 ≡ length (front ++ b ∷ []) → BeginsText front
before_bad front b i bad last =
    let size = length-append front (b ∷ []) in
    elim (less_or_not 0 i) [
      | inl some ↦ subst BeginsText (take_at front (b ∷ []) (i - 1 + 1) (omega (arith, size, last))) (bad.least (i - 1) (omega (arith, some)))
      | inr none ↦ subst BeginsText (take_at front (b ∷ []) 0 (omega (arith, size, last, none))) begins-nil
    ]

-- The bytes of the bad character, if n of those before the bad byte belong to it.
pub bad_len : (text skipped before : List ℕ) (b i n : ℕ) → text ≡ skipped ++ (before ++ b ∷ []) → IsFirstBad text i → i + 1 ≡ length text
    → (BeginsText (skipped ++ before) → utf8_valid_len (skipped ++ before) + n ≡ length (skipped ++ before)) → utf8_valid_len text + (1 + n) ≡ length text
bad_len text skipped before b i n is bad last unfinished =
    let front = skipped ++ before in
    let whole : text ≡ front ++ b ∷ [] = is ∙ sym (append_assoc skipped before (b ∷ [])) in
    let bad' : IsFirstBad (front ++ b ∷ []) i = subst (λ (bs : List ℕ). IsFirstBad bs i) whole bad in
    let begins : BeginsText front = before_bad front b i bad' (last ∙ ap (λ (bs : List ℕ). length bs) whole) in
    let same : utf8_valid_len text ≡ utf8_valid_len front = ap utf8_valid_len whole ∙ valid_before_bad front b begins (bad_ends (front ++ b ∷ []) i bad') in
    let rest : utf8_valid_len front + n ≡ length front = unfinished begins in
    let size : length text ≡ length front + 1 = ap (λ (bs : List ℕ). length bs) whole ∙ length-append front (b ∷ []) in
    omega (arith, same, rest, size)
