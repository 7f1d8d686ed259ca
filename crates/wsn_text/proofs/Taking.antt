-- The state after more bytes: byte by byte, after text, and after one chunk and another.
use Rattle.std.proofs.Common.{◌≡◌, ℕ, ◌+◌, ◌<◌, ◌≤◌, ◌↔◌, List, [], ◌∷◌, ◌++◌, length, take, drop, get_or, Result, Ok, Err, Option, Some, refl, sym, ◌∙◌, subst, ap, append_assoc, append-nil, arith}
use Rattle.std.proofs.Math.Seq.{take-append-add, take-add}
use Rattle.std.proofs.lemmas.List.{take-append-drop, take_more, length-append, length-take-le}
use Rattle.std.specs.Result.{MatchResult, IfErr, IsOk}
use Rattle.wsn_text.specs.Utf8.{Range, IsText, BeginsText, IsFirstBad}
use Rattle.wsn_text.specs.Validated.{Follows, HasValidated, Validates, Breaks}
use Rattle.wsn_text.proofs.Boundaries.{text_after}
use Rattle.wsn_text.proofs.Prefixes.{text-append, text_begins, begins_front, begins_shorter, first_bad-append}

abbrev State : Type 0
State = Option (List Range)

-- Bytes may follow, or none may.

abbrev pub Live : State → Type 0
Live state = (more : List ℕ) × Follows state more

abbrev pub Dead : State → Type 0
Dead state = (more : List ℕ) → ¬ (Follows state more)

begins_live : (state : State) (taken : List ℕ) → HasValidated state taken → Live state → BeginsText taken
begins_live state taken has live = record { more = live.0; text = (has.continues live.0).1 live.1 }

ends_dead : (state : State) (taken : List ℕ) → HasValidated state taken → Dead state → ¬ (BeginsText taken)
ends_dead state taken has dead begins = dead begins.more ((has.continues begins.more).0 begins.text)

dead_state : (state : State) (taken : List ℕ) → HasValidated state taken → ¬ (BeginsText taken) → Dead state
dead_state state taken has ends more follows = ends (record { more = more; text = (has.continues more).1 follows })

stays_dead : (state : State) (taken back : List ℕ) → HasValidated state taken → Dead state → HasValidated state (taken ++ back)
stays_dead state taken back has dead =
    record { continues = λ more. (λ text. absurd (ends_dead state taken has dead (begins_front taken (back ++ more) (text_begins _ (subst IsText (append_assoc taken back more) text)))), λ follows. absurd (dead more follows)) }

-- Where none may follow, no byte is taken.
pub breaks_dead : (state : State) (chunk : List ℕ) → Dead state → Breaks state state chunk 0
breaks_dead state chunk dead =
    record {
      taken = λ taken has. stays_dead state taken chunk has dead;
      ends = λ taken has begins. ends_dead state taken has dead (begins_front taken chunk begins);
      first = λ taken has begins. absurd (ends_dead state taken has dead begins);
      later = λ taken has ends. refl;
    }

pub takes_nothing : (state : State) → Live state → Validates state state []
takes_nothing state live =
    record {
      taken = λ taken has. subst (HasValidated state) (sym (append-nil taken)) has;
      begins = λ taken has. subst BeginsText (sym (append-nil taken)) (begins_live state taken has live);
    }

-- One byte.

pushed : (old new : State) (b : ℕ) → ((more : List ℕ) → Follows old (b ∷ more) ↔ Follows new more) → (taken : List ℕ) → HasValidated old taken → HasValidated new (taken ++ b ∷ [])
pushed old new b same taken has =
    record {
      continues = λ more.
          let e : (taken ++ b ∷ []) ++ more ≡ taken ++ b ∷ more = append_assoc taken (b ∷ []) more in
          (λ text. (same more).0 ((has.continues (b ∷ more)).0 (subst IsText e text)), λ follows. subst IsText (sym e) ((has.continues (b ∷ more)).1 ((same more).1 follows)));
    }

-- `new` is the state after the first n bytes, where `old` is the state before them.
abbrev pub TakesFirst : State → State → List ℕ → ℕ → Type 0
TakesFirst old new bytes n = (taken : List ℕ) → HasValidated old taken → HasValidated new (taken ++ take n bytes)

pub takes_next : (old before new : State) (bytes : List ℕ) (i : ℕ) → i < length bytes → TakesFirst old before bytes i
    → ((more : List ℕ) → Follows before (get_or bytes i 0 ∷ more) ↔ Follows new more) → TakesFirst old new bytes (i + 1)
takes_next old before new bytes i less consumes same taken has =
    let e : (taken ++ take i bytes) ++ get_or bytes i 0 ∷ [] ≡ taken ++ take (i + 1) bytes = append_assoc taken (take i bytes) (get_or bytes i 0 ∷ []) ∙ ap (λ (front : List ℕ). taken ++ front) (sym (take_more bytes i 0 less)) in
    subst (HasValidated new) e (pushed before new (get_or bytes i 0) same (taken ++ take i bytes) (consumes taken has))

pub breaks_at : (old before new : State) (bytes : List ℕ) (i : ℕ) → i < length bytes → TakesFirst old before bytes i → Live before
    → ((more : List ℕ) → Follows before (get_or bytes i 0 ∷ more) ↔ Follows new more) → Dead new → Breaks old new bytes i
breaks_at old before new bytes i less consumes live same dead =
    let next : TakesFirst old new bytes (i + 1) = takes_next old before new bytes i less consumes same in
    let front_of : (taken : List ℕ) (n : ℕ) → take (length taken + n) (taken ++ bytes) ≡ taken ++ take n bytes = λ taken n. take-append-add taken bytes n in
    let whole : (taken : List ℕ) → (taken ++ take (i + 1) bytes) ++ drop (i + 1) bytes ≡ taken ++ bytes =
    λ taken. append_assoc taken (take (i + 1) bytes) (drop (i + 1) bytes) ∙ ap (λ (chunk : List ℕ). taken ++ chunk) (take-append-drop (i + 1) bytes) in
    let good : (taken : List ℕ) → HasValidated old taken → BeginsText (taken ++ take i bytes) = λ taken has. begins_live before (taken ++ take i bytes) (consumes taken has) live in
    let bad : (taken : List ℕ) → HasValidated old taken → ¬ (BeginsText (taken ++ take (i + 1) bytes)) = λ taken has. ends_dead new (taken ++ take (i + 1) bytes) (next taken has) dead in
    record {
      taken = λ taken has. subst (HasValidated new) (whole taken) (stays_dead new (taken ++ take (i + 1) bytes) (drop (i + 1) bytes) (next taken has) dead);
      ends = λ taken has begins. bad taken has (begins_front (taken ++ take (i + 1) bytes) (drop (i + 1) bytes) (subst BeginsText (sym (whole taken)) begins));
      first = λ taken has begins. record {
        within = omega (arith, length-append taken bytes);
        bad = λ longer. bad taken has (subst BeginsText (front_of taken (i + 1)) (subst (λ (n : ℕ). BeginsText (take n (taken ++ bytes))) (omega arith) longer));
        least = λ j before_it. begins_shorter (j + 1) (length taken + i) (taken ++ bytes) (omega arith) (subst BeginsText (sym (front_of taken i)) (good taken has));
      };
      later = λ taken has ends. absurd (ends (begins_front taken (take i bytes) (good taken has)));
    }

-- Text, after text.

pub takes_text : (state : State) (text : List ℕ) → ((taken : List ℕ) → HasValidated state taken → IsText taken) → IsText text → Validates state state text
takes_text state text whole is_text =
    let both : (taken : List ℕ) → HasValidated state taken → IsText (taken ++ text) = λ taken has. text-append taken text (whole taken has) is_text in
    record {
      taken = λ taken has. record {
        continues = λ more. (
          λ joined. (has.continues more).0 (text-append taken more (whole taken has) (text_after (taken ++ text) more (both taken has) joined)),
          λ follows. text-append (taken ++ text) more (both taken has) (text_after taken more (whole taken has) ((has.continues more).1 follows)),
        );
      };
      begins = λ taken has. text_begins (taken ++ text) (both taken has);
    }

-- The end of a character that `first` begins, and text.

pub takes_end : (state : State) (first : ℕ) (bytes : List ℕ) → ((more : List ℕ) → IsText (first ∷ more) ↔ Follows state more) → IsText (first ∷ bytes) → Validates state (Some []) bytes
takes_end state first bytes same is_text =
    let both : (taken : List ℕ) → HasValidated state taken → IsText (taken ++ bytes) = λ taken has. (has.continues bytes).1 ((same bytes).0 is_text) in
    record {
      taken = λ taken has. record {
        continues = λ more. (λ joined. text_after (taken ++ bytes) more (both taken has) joined, λ following. text-append (taken ++ bytes) more (both taken has) following);
      };
      begins = λ taken has. text_begins (taken ++ bytes) (both taken has);
    }

-- One chunk after another.

pub takes_then_takes : (old mid new : State) (front back bytes : List ℕ) → bytes ≡ front ++ back → Validates old mid front → Validates mid new back → Validates old new bytes
takes_then_takes old mid new front back bytes joined first second =
    let whole : (taken : List ℕ) → (taken ++ front) ++ back ≡ taken ++ bytes = λ taken. append_assoc taken front back ∙ ap (λ (chunk : List ℕ). taken ++ chunk) (sym joined) in
    record {
      taken = λ taken has. subst (HasValidated new) (whole taken) (second.taken (taken ++ front) (first.taken taken has));
      begins = λ taken has. subst BeginsText (whole taken) (second.begins (taken ++ front) (first.taken taken has));
    }

pub takes_then_breaks : (old mid new : State) (front back bytes : List ℕ) (i : ℕ) → bytes ≡ front ++ back → Validates old mid front → Breaks mid new back i → Breaks old new bytes (length front + i)
takes_then_breaks old mid new front back bytes i joined first second =
    let whole : (taken : List ℕ) → (taken ++ front) ++ back ≡ taken ++ bytes = λ taken. append_assoc taken front back ∙ ap (λ (chunk : List ℕ). taken ++ chunk) (sym joined) in
    record {
      taken = λ taken has. subst (HasValidated new) (whole taken) (second.taken (taken ++ front) (first.taken taken has));
      ends = λ taken has begins. second.ends (taken ++ front) (first.taken taken has) (subst BeginsText (sym (whole taken)) begins);
      first = λ taken has begins.
          let place : length (taken ++ front) + i ≡ length taken + (length front + i) = omega (arith, length-append taken front) in
          subst (IsFirstBad (taken ++ bytes)) place
          (subst (λ (all : List ℕ). IsFirstBad all (length (taken ++ front) + i)) (whole taken) (second.first (taken ++ front) (first.taken taken has) (first.begins taken has)));
      later = λ taken has ends. absurd (ends (begins_front taken front (first.begins taken has)));
    }

pub breaks_then : (old new : State) (front back bytes : List ℕ) (i : ℕ) → bytes ≡ front ++ back → Breaks old new front i → Breaks old new bytes i
breaks_then old new front back bytes i joined first =
    let whole : (taken : List ℕ) → (taken ++ front) ++ back ≡ taken ++ bytes = λ taken. append_assoc taken front back ∙ ap (λ (chunk : List ℕ). taken ++ chunk) (sym joined) in
    record {
      taken = λ taken has.
          let now : HasValidated new (taken ++ front) = first.taken taken has in
          subst (HasValidated new) (whole taken) (stays_dead new (taken ++ front) back now (dead_state new (taken ++ front) now (first.ends taken has)));
      ends = λ taken has begins. first.ends taken has (begins_front (taken ++ front) back (subst BeginsText (sym (whole taken)) begins));
      first = λ taken has begins. subst (λ (all : List ℕ). IsFirstBad all (length taken + i)) (whole taken) (first_bad-append (taken ++ front) back (length taken + i) (first.first taken has begins));
      later = first.later;
    }

-- The result for the second chunk, with its offset counted from the start of the first.

abbrev pub Shifted : {T : Type 0} → Result T ℕ → Result T ℕ → ℕ → Type 0
Shifted answer shifted n = MatchResult answer (λ x. shifted ≡ Ok x) (λ i. shifted ≡ Err (n + i))

pub answers_after : {T : Type 0} (old mid new : State) (front back bytes : List ℕ) (answer shifted : Result T ℕ) → bytes ≡ front ++ back → Validates old mid front → Shifted answer shifted (length front)
    → MatchResult answer (λ _. Validates mid new back) (Breaks mid new back) → MatchResult shifted (λ _. Validates old new bytes) (Breaks old new bytes)
answers_after old mid new front back bytes (Ok x) shifted joined first is second =
    subst (λ (r : Result _ ℕ). MatchResult r (λ _. Validates old new bytes) (Breaks old new bytes)) (sym is) (takes_then_takes old mid new front back bytes joined first second)
answers_after old mid new front back bytes (Err i) shifted joined first is second =
    subst (λ (r : Result _ ℕ). MatchResult r (λ _. Validates old new bytes) (Breaks old new bytes)) (sym is) (takes_then_breaks old mid new front back bytes i joined first second)

pub answers_part : {T : Type 0} (old mid new : State) (bytes part : List ℕ) (at n : ℕ) (answer shifted : Result T ℕ) → at + n ≤ length bytes → part ≡ take n (drop at bytes) → Validates old mid (take at bytes) → Shifted answer shifted at
    → MatchResult answer (λ _. Validates mid new part) (Breaks mid new part) → MatchResult shifted (λ _. Validates old new (take (at + n) bytes)) (Breaks old new (take (at + n) bytes))
answers_part old mid new bytes part at n answer shifted fits is first behind second =
    let joined : take (at + n) bytes ≡ take at bytes ++ part = take-add at n bytes ∙ ap (λ (back : List ℕ). take at bytes ++ back) (sym is) in
    let size : length (take at bytes) ≡ at = length-take-le at bytes (omega arith) in
    answers_after old mid new (take at bytes) part (take (at + n) bytes) answer shifted joined first (subst (Shifted answer shifted) (sym size) behind) second

pub answers_before : {T : Type 0} (old new : State) (front back bytes : List ℕ) (answer : Result T ℕ) (i : ℕ) → bytes ≡ front ++ back → answer ≡ Err i → Breaks old new front i
    → MatchResult answer (λ _. Validates old new bytes) (Breaks old new bytes)
answers_before old new front back bytes answer i joined is first =
    subst (λ (r : Result _ ℕ). MatchResult r (λ _. Validates old new bytes) (Breaks old new bytes)) (sym is) (breaks_then old new front back bytes i joined first)

-- What `feed` says of its result.

pub taken_of : {T : Type 0} (old new : State) (chunk : List ℕ) (answer : Result T ℕ) → MatchResult answer (λ _. Validates old new chunk) (Breaks old new chunk)
    → (taken : List ℕ) → HasValidated old taken → HasValidated new (taken ++ chunk)
taken_of old new chunk (Ok x) consumes taken has = consumes.taken taken has
taken_of old new chunk (Err i) breaks taken has = breaks.taken taken has

pub ok_of : {T : Type 0} (old new : State) (chunk : List ℕ) (answer : Result T ℕ) → MatchResult answer (λ _. Validates old new chunk) (Breaks old new chunk)
    → (taken : List ℕ) → HasValidated old taken → IsOk answer ↔ BeginsText (taken ++ chunk)
ok_of old new chunk (Ok x) consumes taken has = (λ ok. consumes.begins taken has, λ begins. refl)
ok_of old new chunk (Err i) breaks taken has = (λ ok. cc, λ begins. absurd (breaks.ends taken has begins))

pub first_bad_of : {T : Type 0} (old new : State) (chunk : List ℕ) (answer : Result T ℕ) → MatchResult answer (λ _. Validates old new chunk) (Breaks old new chunk)
    → (taken : List ℕ) → HasValidated old taken → BeginsText taken → IfErr answer (λ i. IsFirstBad (taken ++ chunk) (length taken + i))
first_bad_of old new chunk (Ok x) consumes taken has begins = tt
first_bad_of old new chunk (Err i) breaks taken has begins = breaks.first taken has begins

pub after_bad_of : {T : Type 0} (old new : State) (chunk : List ℕ) (answer : Result T ℕ) → MatchResult answer (λ _. Validates old new chunk) (Breaks old new chunk)
    → (taken : List ℕ) → HasValidated old taken → ¬ (BeginsText taken) → answer ≡ Err 0
after_bad_of old new chunk (Ok x) consumes taken has ends = absurd (ends (begins_front taken chunk (consumes.begins taken has)))
after_bad_of old new chunk (Err i) breaks taken has ends = ap (λ (n : ℕ). Err n) (breaks.later taken has ends)
