-- The lines of a redacted capture are alike, and who ended the connection stays the same.
use Rattle.std.proofs.Common.{◌≡◌, ◌≢◌, ℕ, zero, suc, ◌⊎◌, ◌↔◌, Option, None, Some, List, [], ◌∷◌, ◌++◌, length, inl, inr, refl, sym, ap, ◌∙◌, subst, arith}
use Rattle.std.specs.Prelude.{codes, slice_get}
use Rattle.std.specs.List.{Any}
use Rattle.wsn_wire.specs.declared.endpoint.Role.{Role}
use Rattle.wsn_wire.specs.declared.endpoint.Role.TheVariants.{Client, Server}
use Rattle.wsn_rules.specs.Limits.{Limits}
use Rattle.wsn_rules.specs.Entries.{Entry, without_cr, GivesEntry, AreEntries}
use Rattle.wsn_rules.specs.Entries.Entry.{Nothing, Bytes, Mark}
use Rattle.wsn_rules.specs.ShownCapture.{GivesTime}
use Rattle.wsn_rules.specs.declared.closing_handshake.Report.{Report}
use Rattle.wsn_rules.proofs.OneEntry.{same_entries, front_is, letter_of, not_nothing}
use Rattle.wsn_capture.specs.declared.ended_by.EndedBy.{EndedBy}
use Rattle.wsn_capture.specs.EndedBy.{marks_in, end_marks, reset_comment, SayReset, IsEndedBy}
use Rattle.wsn_redact.specs.declared.extension_names.Within.TheVariants.{Name}
use Rattle.wsn_redact.specs.ExtensionNames.{names_in}
use Rattle.wsn_redact.specs.RedactedCaptures.{IsRedactedNothing, IsRedactedLineText, IsRedactedLine, AreRedactedLines, IsRedactedCapture}
use Rattle.wsn_laws.specs.AlikeCaptures.{IsAlike, AreAlike, IsAlikeLine, AreAlikeLines}
use Rattle.wsn_laws.proofs.OneRedactedCapture.{no_time, no_reset}
use Rattle.wsn_laws.proofs.RedactedEntries.{HasBytes, AllBytes, first_bytes, other_bytes, line_text, line_facts, text_alike, entries_given, others_bytes, others_given, others_alike}

-- ---- times and resets

-- a text that says nothing begins with #, or is empty
comment_of : (role : Role) → GivesEntry (reset_comment role) Nothing
comment_of Client = inr (codes " reset by the client", refl)
comment_of Server = inr (codes " reset by the server", refl)

-- a line of an endpoint gives no time, and is no comment
not_comment : (role : Role) (rest text : List ℕ) → text ≡ letter_of role ∷ rest → (text ≢ reset_comment Client) × (text ≢ reset_comment Server) × ((seconds : List ℕ) → GivesTime text seconds → ⊥)
not_comment role rest text is = (
  λ reset. not_nothing role rest text is (subst (λ (t : List ℕ). GivesEntry t Nothing) (sym reset) (comment_of Client)),
  λ reset. not_nothing role rest text is (subst (λ (t : List ℕ). GivesEntry t Nothing) (sym reset) (comment_of Server)),
  λ seconds gives. not_nothing role rest text is (inr (codes " " ++ seconds, gives.0)),
)

-- The texts say the same of times and resets.
pub record SaysAlike (text other : List ℕ) : Type 0 where
  pub time : (seconds : List ℕ) → GivesTime text seconds ↔ GivesTime other seconds
  pub reset : (role : Role) → (text ≡ reset_comment role) ↔ (other ≡ reset_comment role)

same_says : (text other : List ℕ) → other ≡ text → SaysAlike text other
same_says text other is = record {
  time = λ seconds. (λ gives. subst (λ (t : List ℕ). GivesTime t seconds) (sym is) gives, λ gives. subst (λ (t : List ℕ). GivesTime t seconds) is gives);
  reset = λ role. (λ says. is ∙ says, λ says. sym is ∙ says);
}

-- Neither says anything of them.
neither_says : (text other : List ℕ) → ((seconds : List ℕ) → GivesTime text seconds → ⊥) → ((seconds : List ℕ) → GivesTime other seconds → ⊥)
    → ((role : Role) → text ≢ reset_comment role) → ((role : Role) → other ≢ reset_comment role) → SaysAlike text other
neither_says text other no_time no_other_time no_reset no_other_reset = record {
  time = λ seconds. (λ gives. absurd (no_time seconds gives), λ gives. absurd (no_other_time seconds gives));
  reset = λ role. (λ says. absurd (no_reset role says), λ says. absurd (no_other_reset role says));
}

pub hash_gives : (text seconds : List ℕ) → text ≡ codes "#" → GivesTime text seconds → ⊥
hash_gives text seconds is gives = let size : 1 ≡ suc (suc (length seconds)) = ap (λ (l : List ℕ). length l) (sym is ∙ gives.0) in omega (arith, size)

pub hash_resets : (text : List ℕ) (role : Role) → text ≡ codes "#" → text ≢ reset_comment role
hash_resets text Client is says = let size : 1 ≡ 21 = ap (λ (l : List ℕ). length l) (sym is ∙ says) in omega (arith, size)
hash_resets text Server is says = let size : 1 ≡ 21 = ap (λ (l : List ℕ). length l) (sym is ∙ says) in omega (arith, size)

nothing_says : (text redacted : List ℕ) → IsRedactedNothing text redacted → SaysAlike text redacted
nothing_says text redacted (inl is) = same_says text redacted is.1
nothing_says text redacted (inr (inl is)) =
    neither_says text redacted (λ seconds gives. no_time is.0 seconds gives.1 (sym gives.0 ∙ is.1)) (λ seconds gives. no_time (names_in Name is.0) seconds gives.1 (sym gives.0 ∙ is.2))
    (λ role says. no_reset is.0 role (sym says ∙ is.1)) (λ role says. no_reset (names_in Name is.0) role (sym says ∙ is.2))
nothing_says text redacted (inr (inr (says, is))) =
    neither_says text redacted (λ seconds gives. says.1 (inl (seconds, gives))) (λ seconds gives. hash_gives redacted seconds is gives)
    no_own (λ role is_reset. hash_resets redacted role is is_reset)
  where
    no_own : (role : Role) → text ≢ reset_comment role
    no_own Client is_reset = says.1 (inr (inl is_reset))
    no_own Server is_reset = says.1 (inr (inr is_reset))

endpoints_say : (role other : Role) (rest others text redacted : List ℕ) → text ≡ letter_of role ∷ rest → redacted ≡ letter_of other ∷ others → SaysAlike text redacted
endpoints_say role other rest others text redacted is also =
    let own = not_comment role rest text is in
    let its = not_comment other others redacted also in
    neither_says text redacted own.2 its.2 (each own.0 own.1) (each its.0 its.1)
  where
    each : {t : List ℕ} → t ≢ reset_comment Client → t ≢ reset_comment Server → (r : Role) → t ≢ reset_comment r
    each client server Client = client
    each client server Server = server

text_says : (text redacted : List ℕ) (entry other : Entry) → GivesEntry text entry → GivesEntry redacted other → IsRedactedLineText text entry other redacted → SaysAlike text redacted
text_says text redacted Nothing Nothing gives also is = nothing_says text redacted is
text_says text redacted (Bytes role bytes) (Bytes r others) gives also is = endpoints_say role r (32 ∷ gives.0) (32 ∷ also.0) text redacted (gives.1 ∙ front_is role gives.0) (also.1 ∙ front_is r also.0)
text_says text redacted (Mark role) (Mark r) gives also is = same_says text redacted is.1
text_says text redacted Nothing (Bytes r others) gives also is = absurd is
text_says text redacted Nothing (Mark r) gives also is = absurd is
text_says text redacted (Bytes role bytes) Nothing gives also is = absurd is
text_says text redacted (Bytes role bytes) (Mark r) gives also is = absurd is
text_says text redacted (Mark role) Nothing gives also is = absurd is
text_says text redacted (Mark role) (Bytes r others) gives also is = absurd is

-- ---- lines

line_alike : (line redacted : List ℕ) (entry other : Entry) → GivesEntry (without_cr line) entry → HasBytes other → IsRedactedLine line entry other redacted → IsAlikeLine line redacted
line_alike line redacted entry other gives all is =
    let text = line_text line redacted entry other gives all is in
    let facts = line_facts line redacted entry other gives all is in
    let says : SaysAlike (without_cr line) (without_cr redacted) = subst (SaysAlike (without_cr line)) (sym text) (text_says (without_cr line) is.0 entry other gives facts.gives is.1) in
    record {
      entry = entry;
      other_entry = other;
      given = gives;
      other_given = subst (λ (t : List ℕ). GivesEntry t other) (sym text) facts.gives;
      alike = text_alike (without_cr line) is.0 entry other is.1;
      time = says.time;
      reset = says.reset;
    }

lines_alike : (lines : List (List ℕ)) (entries others : List Entry) (redacted : List (List ℕ)) → AreEntries lines entries → AllBytes others → AreRedactedLines lines entries others redacted → AreAlikeLines lines redacted
lines_alike [] [] [] [] given all are = tt
lines_alike [] [] [] (r ∷ redacted) given all are = absurd are
lines_alike [] [] (other ∷ others) redacted given all are = absurd are
lines_alike (line ∷ lines) (entry ∷ entries) [] redacted given all are = absurd are
lines_alike (line ∷ lines) (entry ∷ entries) (other ∷ others) [] given all are = absurd are
lines_alike (line ∷ lines) (entry ∷ entries) (other ∷ others) (r ∷ redacted) given all are =
    (line_alike line r entry other given.0 (first_bytes other others all) are.0, lines_alike lines entries others redacted given.1 (other_bytes other others all) are.1)
lines_alike _ _ others redacted given all are = absurd are

pub capture_alike : (limits : Limits) (lines redacted : List (List ℕ)) → IsRedactedCapture limits lines redacted → AreAlikeLines lines redacted
capture_alike limits lines redacted c = lines_alike lines c.entries c.others redacted (entries_given limits lines redacted c) (others_bytes limits lines redacted c) c.each

-- ---- who ended the connection

-- the first of some lines, or one of the others
first_or_later : (P : List ℕ → Type 0) (line : List ℕ) (lines : List (List ℕ)) → Any P (line ∷ lines) → P line ⊎ Any P lines
first_or_later P line lines (zero, x, within, at, holds) = inl (subst P (sym at) holds)
first_or_later P line lines (suc k, x, within, at, holds) = inr (k, x, omega (arith, within), at, holds)

is_first : (P : List ℕ → Type 0) (line : List ℕ) (lines : List (List ℕ)) → P line → Any P (line ∷ lines)
is_first P line lines holds = (0, line, omega arith, refl, holds)

is_later : (P : List ℕ → Type 0) (line : List ℕ) (lines : List (List ℕ)) → Any P lines → Any P (line ∷ lines)
is_later P line lines (k, x, within, at, holds) = (suc k, x, omega (arith, within), at, holds)

abbrev Resets : Role → List ℕ → Type 0
Resets role line = without_cr line ≡ reset_comment role

none_said : (role : Role) → SayReset [] role → ⊥
none_said role (k, x, within, at, holds) = omega (arith, within)

say_reset : (role : Role) (lines others : List (List ℕ)) → AreAlikeLines lines others → SayReset lines role ↔ SayReset others role
say_reset role [] [] are = (λ said. said, λ said. said)
say_reset role (line ∷ lines) (other ∷ others) are =
    let rest = say_reset role lines others are.1 in (
      λ said. elim (first_or_later (Resets role) line lines said) [
        | inl first ↦ is_first (Resets role) other others ((are.0.reset role).0 first)
        | inr later ↦ is_later (Resets role) other others (rest.0 later)
      ],
      λ said. elim (first_or_later (Resets role) other others said) [
        | inl first ↦ is_first (Resets role) line lines ((are.0.reset role).1 first)
        | inr later ↦ is_later (Resets role) line lines (rest.1 later)
      ],
    )
say_reset role _ _ are = absurd are

marks_alike : (entry other : Entry) → IsAlike entry other → marks_in other ≡ marks_in entry
marks_alike Nothing Nothing is = refl
marks_alike (Bytes r bytes) (Bytes s others) is = refl
marks_alike (Mark r) (Mark s) is = ap (λ (q : Role). q ∷ []) is
marks_alike Nothing (Bytes s others) is = absurd is
marks_alike Nothing (Mark s) is = absurd is
marks_alike (Bytes r bytes) Nothing is = absurd is
marks_alike (Bytes r bytes) (Mark s) is = absurd is
marks_alike (Mark r) Nothing is = absurd is
marks_alike (Mark r) (Bytes s others) is = absurd is

same_marks : (entries others : List Entry) → AreAlike entries others → end_marks others ≡ end_marks entries
same_marks [] [] are = refl
same_marks (entry ∷ entries) (other ∷ others) are =
    let first = marks_alike entry other are.0 in
    let rest = same_marks entries others are.1 in
    λ i. first i ++ rest i
same_marks _ _ are = absurd are

iff_then : {A B C : Type 0} → A ↔ B → B ↔ C → A ↔ C
iff_then ab bc = (λ a. bc.0 (ab.0 a), λ c. ab.1 (bc.1 c))

iff_back : {A B : Type 0} → A ↔ B → B ↔ A
iff_back ab = (ab.1, ab.0)

module _ (limits : Limits) (lines redacted : List (List ℕ)) (c : IsRedactedCapture limits lines redacted) (report : Report) where
  marks : end_marks c.others ≡ end_marks c.entries
  marks = same_marks c.entries c.others (others_alike limits lines redacted c)

  resets : (role : Role) → SayReset lines role ↔ SayReset redacted role
  resets role = say_reset role lines redacted (capture_alike limits lines redacted c)

  ended_on : (ended_by : Option EndedBy) → IsEndedBy lines c.entries report ended_by → IsEndedBy redacted c.others report ended_by
  ended_on None is = is
  ended_on (Some by) is = (is.0, ap (λ (rs : List Role). slice_get rs 0) marks ∙ is.1, iff_then is.2 (resets by.role))

  ended_back : (ended_by : Option EndedBy) → IsEndedBy redacted c.others report ended_by → IsEndedBy lines c.entries report ended_by
  ended_back None is = is
  ended_back (Some by) is = (is.0, ap (λ (rs : List Role). slice_get rs 0) (sym marks) ∙ is.1, iff_then is.2 (iff_back (resets by.role)))

  pub same_ended_by : (entries others : List Entry) (ended_by : Option EndedBy) → AreEntries lines entries → AreEntries redacted others → IsEndedBy lines entries report ended_by ↔ IsEndedBy redacted others report ended_by
  same_ended_by entries others ended_by given other_given =
      let own : c.entries ≡ entries = same_entries lines c.entries entries (entries_given limits lines redacted c) given in
      let its : c.others ≡ others = same_entries redacted c.others others (others_given limits lines redacted c) other_given in
      subst (λ (es : List Entry). IsEndedBy lines es report ended_by ↔ IsEndedBy redacted others report ended_by) own
      (subst (λ (os : List Entry). IsEndedBy lines c.entries report ended_by ↔ IsEndedBy redacted os report ended_by) its (ended_on ended_by, ended_back ended_by))
