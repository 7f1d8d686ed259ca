-- The redaction of a redacted capture is itself.
use Rattle.std.proofs.Common.{◌≡◌, ◌≢◌, ℕ, suc, ◌+◌, ◌<◌, ◌≤◌, ◌⊎◌, ◌==◌, Bool, true, false, List, [], ◌∷◌, ◌++◌, length, inl, inr, refl, sym, ap, ◌∙◌, subst, length-append, arith}
use Rattle.std.specs.Prelude.{codes, ◌||◌, if◌then◌else◌}
use Rattle.hex.specs.Hex.{lower_digits, encode_lower}
use Rattle.hex.proofs.HexLemmas.{length-encode_with, decode_of-ok}
use Rattle.wsn_wire.specs.declared.endpoint.Role.{Role}
use Rattle.wsn_wire.specs.declared.endpoint.Role.TheVariants.{Client, Server}
use Rattle.wsn_rules.specs.Limits.{Limits}
use Rattle.wsn_redact.proofs.TwiceIsOnce.{redaction_twice}
use Rattle.wsn_rules.specs.Entries.{Entry, without_cr, bytes_prefix, GivesEntry, AreEntries}
use Rattle.wsn_rules.specs.Entries.Entry.{Nothing, Bytes, Mark}
use Rattle.wsn_rules.specs.Sides.{bytes_in, sent, has_ended}
use Rattle.wsn_capture.specs.declared.line_fault.LineFault.TheVariants.{TooManyLines, TooLong, AfterEnd, InputLimit}
use Rattle.wsn_capture.specs.LineFaults.{line_most, lines_most, IsAcceptedLine, AreAcceptedAfter, AreAcceptedLines}
use Rattle.wsn_laws.proofs.ComputedLineFaults.{takes_nothing, takes_bytes, takes_mark}
use Rattle.wsn_redact.specs.declared.extension_names.Within.{Within}
use Rattle.wsn_redact.specs.declared.extension_names.Within.TheVariants.{Name, Value, Quoted, Escaped}
use Rattle.wsn_redact.specs.ExtensionNames.{is_separator, is_of_names, within_after, is_kept, names_in}
use Rattle.wsn_redact.specs.RedactedCaptures.{extensions_prefix, Stays, SaysElse, IsRedactedNothing, IsRedactedLineText, cr_of, IsRedactedLine, AreRedactedLines, IsRedactedCapture}
use Rattle.wsn_laws.specs.AlikeCaptures.{IsAlike, AreAlike}
use Rattle.wsn_laws.proofs.RedactedEntries.{HasBytes, AllBytes, first_bytes, other_bytes, line_text, line_facts, RedactedTextFacts, text_alike, entries_given, all_bytes, others_bytes, ended_alike, sizes_alike}
use Rattle.wsn_laws.proofs.PlainEnds.{same_cr}
use Rattle.wsn_laws.proofs.SameLines.{hash_gives, hash_resets}

-- ---- names of extensions

-- What is left within one is read again within the other.
abbrev MayRead : Within → Within → Type 0
MayRead Name within = Unit {0}
MayRead Value Name = ⊥
MayRead Value within = Unit {0}
MayRead again within = ⊥

is_byte : (b n : ℕ) → (b == n) ≡ true → b ≡ n
is_byte b n is = grind (arith)

separator_is : (b : ℕ) (s c : Bool) → (b == 0x3B) ≡ s → (b == 0x2C) ≡ c → (s || c) ≡ true → (b ≡ 0x3B) ⊎ (b ≡ 0x2C)
separator_is b true c s_is c_is is = inl (is_byte b 0x3B s_is)
separator_is b false true s_is c_is is = inr (is_byte b 0x2C c_is)
separator_is b false false s_is c_is is = absurd cc

-- After a separator a name begins.
record Separates (b : ℕ) : Type 0 where
  kept : is_kept Name b ≡ true
  kept_in_value : is_kept Value b ≡ true
  after_name : within_after Name b ≡ Name
  after_value : within_after Value b ≡ Name

separates : (b : ℕ) → is_separator b ≡ true → Separates b
separates b is = elim (separator_is b (b == 0x3B) (b == 0x2C) refl refl is) [
  | inl at ↦ subst Separates (sym at) (record { kept = refl; kept_in_value = refl; after_name = refl; after_value = refl })
  | inr at ↦ subst Separates (sym at) (record { kept = refl; kept_in_value = refl; after_name = refl; after_value = refl })
]

either_within : (P : Within → Type 0) (c : Bool) (one other : Within) → P one → P other → P (if c then one else other)
either_within P true one other is also = is
either_within P false one other is also = also

-- What isn't kept is read no otherwise.
left_out : (again within : Within) (b : ℕ) → MayRead again within → is_kept within b ≡ false → MayRead again (within_after within b)
left_out Name within b may is = tt
left_out Value Name b may is = absurd may
left_out Value Value b may is =
    either_within (MayRead Value) (b == 0x22) Quoted (if is_separator b then Name else Value) tt
    (subst (λ (c : Bool). MayRead Value (if c then Name else Value)) (sym is) tt)
left_out Value Quoted b may is = either_within (MayRead Value) (b == 0x22) Value (if b == 0x5C then Escaped else Quoted) tt (either_within (MayRead Value) (b == 0x5C) Escaped Quoted tt tt)
left_out Value Escaped b may is = tt
left_out Quoted within b may is = absurd may
left_out Escaped within b may is = absurd may

-- What is kept is kept again.
record KeptAgain (again within : Within) (b : ℕ) : Type 0 where
  kept : is_kept again b ≡ true
  next : MayRead (within_after again b) (within_after within b)

of_name : (b : ℕ) → is_kept Name b ≡ true → MayRead (within_after Name b) (within_after Name b)
of_name b is = by (b == 0x22) refl
  where
    same : (c : Bool) → MayRead (if c then Name else Value) (if c then Name else Value)
    same true = tt
    same false = tt

    by : (t : Bool) → (b == 0x22) ≡ t → MayRead (within_after Name b) (within_after Name b)
    by true at = let never : is_kept Name 0x22 ≡ true = ap (λ (n : ℕ). is_kept Name n) (sym (is_byte b 0x22 at)) ∙ is in absurd cc
    by false at = subst (λ (t : Bool). MayRead (if t then Quoted else (if is_of_names b then Name else Value)) (if t then Quoted else (if is_of_names b then Name else Value))) (sym at) (same (is_of_names b))

kept_again : (again within : Within) (b : ℕ) → MayRead again within → is_kept within b ≡ true → KeptAgain again within b
kept_again Name Name b may is = record { kept = is; next = of_name b is }
kept_again Name Value b may is = let s = separates b is in record { kept = s.kept; next = subst (λ (w : Within). MayRead w (within_after Value b)) (sym s.after_name) tt }
kept_again Value Value b may is = let s = separates b is in record { kept = is; next = subst (λ (w : Within). MayRead w w) (sym s.after_value) tt }
kept_again again Quoted b may is = absurd cc
kept_again again Escaped b may is = absurd cc
kept_again Value Name b may is = absurd may
kept_again Quoted within b may is = absurd may
kept_again Escaped within b may is = absurd may

names_again : (again within : Within) (list : List ℕ) → MayRead again within → names_in again (names_in within list) ≡ names_in within list
names_again again within [] may = refl
names_again again within (b ∷ list) may = by (is_kept within b) refl (λ next may_read. names_again next (within_after within b) list may_read)
  where
    rest : List ℕ
    rest = names_in (within_after within b) list

    by : (t : Bool) → is_kept within b ≡ t → ((next : Within) → MayRead next (within_after within b) → names_in next (names_in (within_after within b) list) ≡ names_in (within_after within b) list) → names_in again (names_in within (b ∷ list)) ≡ names_in within (b ∷ list)
    by true is onward =
        let k = kept_again again within b may is in
        let whole : names_in within (b ∷ list) ≡ b ∷ rest = ap (λ (t : Bool). if t then b ∷ rest else rest) is in
        let first : names_in again (b ∷ rest) ≡ b ∷ names_in (within_after again b) rest =
        ap (λ (t : Bool). if t then b ∷ names_in (within_after again b) rest else names_in (within_after again b) rest) k.kept in
        ap (names_in again) whole ∙ first ∙ ap (λ (l : List ℕ). b ∷ l) (onward (within_after again b) k.next) ∙ sym whole
    by false is onward =
        let whole : names_in within (b ∷ list) ≡ rest = ap (λ (t : Bool). if t then b ∷ rest else rest) is in
        ap (names_in again) whole ∙ onward again (left_out again within b may is) ∙ sym whole

pub names_twice : (list : List ℕ) → names_in Name (names_in Name list) ≡ names_in Name list
names_twice list = names_again Name Name list tt

-- ---- comments

pub hash_says : SaysElse (codes "#")
hash_says = (
  λ none. let size : 1 ≡ 0 = ap (λ (l : List ℕ). length l) none in omega (arith, size),
  no_stay,
  λ list has. let size : 1 ≡ 14 + length list = ap (λ (l : List ℕ). length l) has ∙ length-append extensions_prefix list in omega (arith, size),
)
  where
    no_stay : Stays (codes "#") → ⊥
    no_stay (inl (seconds, gives)) = hash_gives (codes "#") seconds refl gives
    no_stay (inr (inl is)) = hash_resets (codes "#") Client refl is
    no_stay (inr (inr is)) = hash_resets (codes "#") Server refl is

pub nothing_twice : (text redacted : List ℕ) → IsRedactedNothing text redacted → IsRedactedNothing redacted redacted
nothing_twice text redacted (inl is) = inl (subst (λ (t : List ℕ). (t ≡ []) ⊎ Stays t) (sym is.1) is.0, refl)
nothing_twice text redacted (inr (inl is)) = inr (inl (names_in Name is.0, is.2, is.2 ∙ ap (λ (l : List ℕ). extensions_prefix ++ l) (sym (names_twice is.0))))
nothing_twice text redacted (inr (inr is)) = inr (inr (subst SaysElse (sym is.1) hash_says, is.1))

-- ---- lines

text_twice : (text redacted : List ℕ) (entry other : Entry) → IsRedactedLineText text entry other redacted → IsRedactedLineText redacted other other redacted
text_twice text redacted Nothing Nothing is = nothing_twice text redacted is
text_twice text redacted (Bytes role bytes) (Bytes r others) is = (refl, refl, is.2 ∙ ap (λ (q : Role). bytes_prefix q ++ encode_lower others) (sym is.0))
text_twice text redacted (Mark role) (Mark r) is = (refl, refl)
text_twice text redacted Nothing (Bytes r others) is = absurd is
text_twice text redacted Nothing (Mark r) is = absurd is
text_twice text redacted (Bytes role bytes) Nothing is = absurd is
text_twice text redacted (Bytes role bytes) (Mark r) is = absurd is
text_twice text redacted (Mark role) Nothing is = absurd is
text_twice text redacted (Mark role) (Bytes r others) is = absurd is

line_twice : (line redacted : List ℕ) (entry other : Entry) → GivesEntry (without_cr line) entry → HasBytes other → IsRedactedLine line entry other redacted → IsRedactedLine redacted other other redacted
line_twice line redacted entry other gives all is =
    let text = line_text line redacted entry other gives all is in
    let ends = (line_facts line redacted entry other gives all is).ends in
    let cr : cr_of redacted ≡ cr_of line = ap cr_of is.2 ∙ same_cr line is.0 ends in (
      is.0,
      subst (λ (t : List ℕ). IsRedactedLineText t other other is.0) (sym text) (text_twice (without_cr line) is.0 entry other is.1),
      is.2 ∙ ap (λ (c : List ℕ). is.0 ++ c) (sym cr),
    )

lines_twice : (lines : List (List ℕ)) (entries others : List Entry) (redacted : List (List ℕ)) → AreEntries lines entries → AllBytes others → AreRedactedLines lines entries others redacted → AreRedactedLines redacted others others redacted
lines_twice [] [] [] [] given all are = tt
lines_twice [] [] [] (r ∷ redacted) given all are = absurd are
lines_twice [] [] (other ∷ others) redacted given all are = absurd are
lines_twice (line ∷ lines) (entry ∷ entries) [] redacted given all are = absurd are
lines_twice (line ∷ lines) (entry ∷ entries) (other ∷ others) [] given all are = absurd are
lines_twice (line ∷ lines) (entry ∷ entries) (other ∷ others) (r ∷ redacted) given all are =
    (line_twice line r entry other given.0 (first_bytes other others all) are.0, lines_twice lines entries others redacted given.1 (other_bytes other others all) are.1)
lines_twice _ _ others redacted given all are = absurd are

-- ---- redacted lines are accepted

names_shorter : (within : Within) (list : List ℕ) → length (names_in within list) ≤ length list
names_shorter within [] = omega arith
names_shorter within (b ∷ list) = by (is_kept within b) (names_shorter (within_after within b) list)
  where
    rest : List ℕ
    rest = names_in (within_after within b) list

    by : (t : Bool) → length (names_in (within_after within b) list) ≤ length list → length (if t then b ∷ rest else rest) ≤ suc (length list)
    by true shorter = omega (arith, shorter)
    by false shorter = omega (arith, shorter)

some_byte : (text : List ℕ) → text ≢ [] → 1 ≤ length text
some_byte [] some = absurd (some refl)
some_byte (b ∷ text) some = omega arith

nothing_shorter : (text redacted : List ℕ) → IsRedactedNothing text redacted → length redacted ≤ length text
nothing_shorter text redacted (inl is) = let size = ap (λ (l : List ℕ). length l) is.1 in omega (arith, size)
nothing_shorter text redacted (inr (inl is)) =
    let own = ap (λ (l : List ℕ). length l) is.1 ∙ length-append extensions_prefix is.0 in
    let size = ap (λ (l : List ℕ). length l) is.2 ∙ length-append extensions_prefix (names_in Name is.0) in
    omega (arith, own, size, names_shorter Name is.0)
nothing_shorter text redacted (inr (inr (says, is))) = let size : length redacted ≡ 1 = ap (λ (l : List ℕ). length l) is in omega (arith, size, some_byte text says.0)

text_shorter : (text redacted : List ℕ) (entry other : Entry) → GivesEntry text entry → IsRedactedLineText text entry other redacted → length redacted ≤ length text
text_shorter text redacted Nothing Nothing gives is = nothing_shorter text redacted is
text_shorter text redacted (Bytes role bytes) (Bytes r others) gives is =
    let own = ap (λ (l : List ℕ). length l) gives.1 ∙ length-append (bytes_prefix role) gives.0 in
    let its = ap (λ (l : List ℕ). length l) is.2 ∙ length-append (bytes_prefix role) (encode_lower others) in
    let digits = (decode_of-ok gives.0 bytes gives.2.1).2 in
    let size = is.1 in
    omega (arith, own, its, digits, size, length-encode_with lower_digits others)
text_shorter text redacted (Mark role) (Mark r) gives is = let size = ap (λ (l : List ℕ). length l) is.1 in omega (arith, size)
text_shorter text redacted Nothing (Bytes r others) gives is = absurd is
text_shorter text redacted Nothing (Mark r) gives is = absurd is
text_shorter text redacted (Bytes role bytes) Nothing gives is = absurd is
text_shorter text redacted (Bytes role bytes) (Mark r) gives is = absurd is
text_shorter text redacted (Mark role) Nothing gives is = absurd is
text_shorter text redacted (Mark role) (Bytes r others) gives is = absurd is

not_true : (b : Bool) → (b ≡ true → ⊥) → b ≡ false
not_true true never = absurd (never refl)
not_true false never = refl

sizes_of : (role : Role) (given also : List Entry) → AreAlike given also → length (sent role also) ≡ length (sent role given)
sizes_of role [] [] are = refl
sizes_of role (entry ∷ given) (other ∷ also) are =
    let first = sizes_alike role entry other are.0 in
    let rest = sizes_of role given also are.1 in
    omega (arith, first, rest, length-append (bytes_in role other) (sent role also), length-append (bytes_in role entry) (sent role given))
sizes_of role _ _ are = absurd are

counts_of : (given also : List Entry) → AreAlike given also → length also ≡ length given
counts_of [] [] are = refl
counts_of (entry ∷ given) (other ∷ also) are = ap suc (counts_of given also are.1)
counts_of _ _ are = absurd are

alike_push : (given also : List Entry) (entry other : Entry) → AreAlike given also → IsAlike entry other → AreAlike (given ++ entry ∷ []) (also ++ other ∷ [])
alike_push [] [] entry other are is = (is, tt)
alike_push (e ∷ given) (o ∷ also) entry other are is = (are.0, alike_push given also entry other are.1 is)
alike_push _ _ entry other are is = absurd are

module _ (limits : Limits) where
  line_accepted : (given also : List Entry) (line redacted : List ℕ) (entry other : Entry) → AreAlike given also → HasBytes other → IsAcceptedLine limits given line entry → IsRedactedLine line entry other redacted → IsAcceptedLine limits also redacted other
  line_accepted given also line redacted entry other are all is became =
      by entry other is.gives (text_alike (without_cr line) became.0 entry other became.1) (subst (λ (t : List ℕ). GivesEntry t other) (sym text) facts.gives)
    where
      facts : RedactedTextFacts (without_cr line) became.0 other
      facts = line_facts line redacted entry other is.gives all became

      text : without_cr redacted ≡ became.0
      text = line_text line redacted entry other is.gives all became

      few : length also < lines_most
      few = let own : lines_most ≤ length given → ⊥ = λ many. is.none TooManyLines many in omega (arith, own, counts_of given also are)

      short : length (without_cr redacted) ≤ line_most
      short =
          let own : line_most < length (without_cr line) → ⊥ = λ more. is.none TooLong more in
          let size = ap (λ (l : List ℕ). length l) text in
          omega (arith, own, size, text_shorter (without_cr line) became.0 entry other is.gives became.1)

      going : (role : Role) → (has_ended role given ≡ true → ⊥) → has_ended role also ≡ false
      going role never = ended_alike role given also are ∙ not_true (has_ended role given) never

      by : (e o : Entry) → GivesEntry (without_cr line) e → IsAlike e o → GivesEntry (without_cr redacted) o → IsAcceptedLine limits also redacted o
      by Nothing Nothing gives alike its = takes_nothing limits also redacted few short its
      by (Bytes role bytes) (Bytes r others) gives alike its =
          let ended : has_ended role given ≡ true → ⊥ = λ over. is.none AfterEnd (role, inl (gives.0, gives.1), over) in
          let room : limits.input < length (sent role given) + length bytes → ⊥ = λ more. is.none InputLimit (role, bytes, gives, more) in
          let size = alike.1 in
          let fits : length (sent role also) + length others ≤ limits.input = omega (arith, room, size, sizes_of role given also are) in
          let back = sym alike.0 in
          takes_bytes limits also redacted few short r its.0 others its.1 its.2
          (subst (λ (q : Role). has_ended q also ≡ false) back (going role ended))
          (subst (λ (q : Role). length (sent q also) + length others ≤ limits.input) back fits)
      by (Mark role) (Mark r) gives alike its =
          let ended : has_ended role given ≡ true → ⊥ = λ over. is.none AfterEnd (role, inr gives, over) in
          takes_mark limits also redacted few short r its (subst (λ (q : Role). has_ended q also ≡ false) (sym alike) (going role ended))
      by Nothing (Bytes r others) gives alike its = absurd alike
      by Nothing (Mark r) gives alike its = absurd alike
      by (Bytes role bytes) Nothing gives alike its = absurd alike
      by (Bytes role bytes) (Mark r) gives alike its = absurd alike
      by (Mark role) Nothing gives alike its = absurd alike
      by (Mark role) (Bytes r others) gives alike its = absurd alike

  lines_accepted : (given also : List Entry) (lines : List (List ℕ)) (entries others : List Entry) (redacted : List (List ℕ)) → AreAlike given also → AllBytes others → AreAcceptedAfter limits given lines entries → AreRedactedLines lines entries others redacted
      → AreAcceptedAfter limits also redacted others
  lines_accepted given also [] [] [] [] alike all accepted are = tt
  lines_accepted given also [] [] [] (r ∷ redacted) alike all accepted are = absurd are
  lines_accepted given also [] [] (other ∷ others) redacted alike all accepted are = absurd are
  lines_accepted given also (line ∷ lines) (entry ∷ entries) [] redacted alike all accepted are = absurd are
  lines_accepted given also (line ∷ lines) (entry ∷ entries) (other ∷ others) [] alike all accepted are = absurd are
  lines_accepted given also (line ∷ lines) (entry ∷ entries) (other ∷ others) (r ∷ redacted) alike all accepted are =
      let one = text_alike (without_cr line) are.0.0 entry other are.0.1 in (
        line_accepted given also line r entry other alike (first_bytes other others all) accepted.0 are.0,
        lines_accepted (given ++ entry ∷ []) (also ++ other ∷ []) lines entries others redacted (alike_push given also entry other alike one) (other_bytes other others all) accepted.1 are.1,
      )
  lines_accepted given also _ _ others redacted alike all accepted are = absurd are

  pub redacted_accepted : (lines redacted : List (List ℕ)) (c : IsRedactedCapture limits lines redacted) → AreAcceptedLines limits redacted c.others
  redacted_accepted lines redacted c = lines_accepted [] [] lines c.entries c.others redacted tt (others_bytes limits lines redacted c) c.taken c.each

  pub capture_twice : (lines redacted : List (List ℕ)) → IsRedactedCapture limits lines redacted → IsRedactedCapture limits redacted redacted
  capture_twice lines redacted c = record {
    entries = c.others;
    taken = redacted_accepted lines redacted c;
    others = c.others;
    each = lines_twice lines c.entries c.others redacted (entries_given limits lines redacted c) (others_bytes limits lines redacted c) c.each;
    streams = λ role. redaction_twice role limits (sent role c.entries) (sent role c.others) (all_bytes limits lines redacted c role) (c.streams role);
  }
