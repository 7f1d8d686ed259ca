-- The lines of a redacted capture give the redacted entries, which are like the capture's.
use Rattle.std.proofs.Common.{◌≡◌, ◌≢◌, ℕ, zero, suc, ◌<◌, ◌⊎◌, List, [], ◌∷◌, ◌++◌, length, take, inl, inr, refl, sym, ap, ◌∙◌, subst, length-append, arith}
use Rattle.std.specs.Prelude.{codes, ◌||◌}
use Rattle.hex.specs.Hex.{lower_digits, encode_lower}
use Rattle.hex.proofs.HexLemmas.{length-encode_with, decode_of-encode_lower, decode_of-ok}
use Rattle.wsn_wire.specs.declared.endpoint.Role.{Role}
use Rattle.wsn_wire.specs.declared.endpoint.Role.TheVariants.{Client, Server}
use Rattle.wsn_wire.specs.Frame.{IsBytes}
use Rattle.wsn_wire.proofs.FrameLemmas.{IsBytes-left, IsBytes-right}
use Rattle.wsn_wire.proofs.MaskLemmas.{at-All}
use Rattle.wsn_frame.proofs.HeadsAtOnce.{no_items}
use Rattle.wsn_rules.specs.Limits.{Limits}
use Rattle.wsn_rules.specs.Entries.{Entry, without_cr, bytes_prefix, end_mark, IsHex, GivesEntry, IsEntry, AreEntries}
use Rattle.wsn_rules.specs.Entries.Entry.{Nothing, Bytes, Mark}
use Rattle.wsn_rules.specs.Sides.{bytes_in, is_mark, sent, has_ended}
use Rattle.wsn_capture.proofs.AcceptedTexts.{taken_given}
use Rattle.wsn_capture.proofs.EveryReport.{sent_bytes}
use Rattle.wsn_redact.specs.declared.extension_names.Within.TheVariants.{Name}
use Rattle.wsn_redact.specs.ExtensionNames.{names_in}
use Rattle.wsn_redact.specs.RedactedCaptures.{IsRedactedNothing, IsRedactedLineText, IsRedactedLine, AreRedactedLines, IsRedactedCapture}
use Rattle.wsn_laws.specs.AlikeCaptures.{IsAlike, AreAlike}
use Rattle.wsn_laws.proofs.RedactedBytes.{redaction_bytes}
use Rattle.wsn_laws.proofs.PlainEnds.{text_of_line, extensions_plain, bytes_plain}

-- ---- a line

-- the bytes of the entry are bytes
abbrev pub HasBytes : Entry → Type 0
HasBytes Nothing = Unit {0}
HasBytes (Bytes role bytes) = IsBytes bytes
HasBytes (Mark role) = Unit {0}

-- The redacted text gives the entry, and doesn't end with CR unless the line's text does.
pub record RedactedTextFacts (before text : List ℕ) (other : Entry) : Type 0 where
  pub gives : GivesEntry text other
  pub ends : (without_cr text ≡ text) ⊎ (text ≡ before)

nothing_facts : (before text : List ℕ) → GivesEntry before Nothing → IsRedactedNothing before text → RedactedTextFacts before text Nothing
nothing_facts before text gives (inl is) = record { gives = subst (λ (t : List ℕ). GivesEntry t Nothing) (sym is.1) gives; ends = inr is.1 }
nothing_facts before text gives (inr (inl is)) = record {
  gives = inr (codes " extensions: " ++ names_in Name is.0, is.2);
  ends = inl (ap without_cr is.2 ∙ extensions_plain Name is.0 ∙ sym is.2);
}
nothing_facts before text gives (inr (inr is)) = record { gives = inr ([], is.1); ends = inl (ap without_cr is.1 ∙ sym is.1) }

some_digits : (digits bytes others : List ℕ) → IsHex digits bytes → length others ≡ length bytes → encode_lower others ≢ []
some_digits digits bytes others hex same none =
    let size = length-encode_with lower_digits others in
    let no_size : length (encode_lower others) ≡ 0 = ap (λ (l : List ℕ). length l) none in
    let its = (decode_of-ok digits bytes hex.1).2 in
    hex.0 (no_items digits (omega (arith, size, no_size, its, same)))

text_facts : (before text : List ℕ) (entry other : Entry) → GivesEntry before entry → HasBytes other → IsRedactedLineText before entry other text → RedactedTextFacts before text other
text_facts before text Nothing Nothing gives all is = nothing_facts before text gives is
text_facts before text (Bytes role bytes) (Bytes r others) gives all is = record {
  gives = (encode_lower others, is.2 ∙ ap (λ (q : Role). bytes_prefix q ++ encode_lower others) (sym is.0), (some_digits gives.0 bytes others gives.2 is.1, decode_of-encode_lower others (at-All (λ n. n < 256) (omega arith) others all)));
  ends = inl (ap without_cr is.2 ∙ bytes_plain role others ∙ sym is.2);
}
text_facts before text (Mark role) (Mark r) gives all is = record { gives = is.1 ∙ gives ∙ ap end_mark (sym is.0); ends = inr is.1 }
text_facts before text Nothing (Bytes r others) gives all is = absurd is
text_facts before text Nothing (Mark r) gives all is = absurd is
text_facts before text (Bytes role bytes) Nothing gives all is = absurd is
text_facts before text (Bytes role bytes) (Mark r) gives all is = absurd is
text_facts before text (Mark role) Nothing gives all is = absurd is
text_facts before text (Mark role) (Bytes r others) gives all is = absurd is

pub line_facts : (line redacted : List ℕ) (entry other : Entry) → IsEntry line entry → HasBytes other → (is : IsRedactedLine line entry other redacted) → RedactedTextFacts (without_cr line) is.0 other
line_facts line redacted entry other gives all is = text_facts (without_cr line) is.0 entry other gives all is.1

-- The redacted line's text.
pub line_text : (line redacted : List ℕ) (entry other : Entry) → IsEntry line entry → HasBytes other → (is : IsRedactedLine line entry other redacted) → without_cr redacted ≡ is.0
line_text line redacted entry other gives all is = ap without_cr is.2 ∙ text_of_line line is.0 (line_facts line redacted entry other gives all is).ends

line_entry : (line redacted : List ℕ) (entry other : Entry) → IsEntry line entry → HasBytes other → IsRedactedLine line entry other redacted → IsEntry redacted other
line_entry line redacted entry other gives all is =
    subst (λ (t : List ℕ). GivesEntry t other) (sym (line_text line redacted entry other gives all is)) (line_facts line redacted entry other gives all is).gives

-- ---- all lines

-- All bytes of both streams are bytes.
abbrev pub AllBytes : List Entry → Type 0
AllBytes entries = (role : Role) → IsBytes (sent role entries)

pub first_bytes : (entry : Entry) (entries : List Entry) → AllBytes (entry ∷ entries) → HasBytes entry
first_bytes Nothing entries all = tt
first_bytes (Bytes Client bytes) entries all = IsBytes-left bytes (sent Client entries) (all Client)
first_bytes (Bytes Server bytes) entries all = IsBytes-left bytes (sent Server entries) (all Server)
first_bytes (Mark role) entries all = tt

pub other_bytes : (entry : Entry) (entries : List Entry) → AllBytes (entry ∷ entries) → AllBytes entries
other_bytes entry entries all role = IsBytes-right (bytes_in role entry) (sent role entries) (all role)

lines_entries : (lines : List (List ℕ)) (entries others : List Entry) (redacted : List (List ℕ)) → AreEntries lines entries → AllBytes others → AreRedactedLines lines entries others redacted → AreEntries redacted others
lines_entries [] [] [] [] given all are = tt
lines_entries [] [] [] (r ∷ redacted) given all are = absurd are
lines_entries [] [] (other ∷ others) redacted given all are = absurd are
lines_entries (line ∷ lines) (entry ∷ entries) [] redacted given all are = absurd are
lines_entries (line ∷ lines) (entry ∷ entries) (other ∷ others) [] given all are = absurd are
lines_entries (line ∷ lines) (entry ∷ entries) (other ∷ others) (r ∷ redacted) given all are =
    (line_entry line r entry other given.0 (first_bytes other others all) are.0, lines_entries lines entries others redacted given.1 (other_bytes other others all) are.1)
lines_entries _ _ others redacted given all are = absurd are

pub text_alike : (before text : List ℕ) (entry other : Entry) → IsRedactedLineText before entry other text → IsAlike entry other
text_alike before text Nothing Nothing is = tt
text_alike before text (Bytes role bytes) (Bytes r others) is = (is.0, is.1)
text_alike before text (Mark role) (Mark r) is = is.0
text_alike before text Nothing (Bytes r others) is = absurd is
text_alike before text Nothing (Mark r) is = absurd is
text_alike before text (Bytes role bytes) Nothing is = absurd is
text_alike before text (Bytes role bytes) (Mark r) is = absurd is
text_alike before text (Mark role) Nothing is = absurd is
text_alike before text (Mark role) (Bytes r others) is = absurd is

lines_alike : (lines : List (List ℕ)) (entries others : List Entry) (redacted : List (List ℕ)) → AreRedactedLines lines entries others redacted → AreAlike entries others
lines_alike [] [] [] [] are = tt
lines_alike [] [] [] (r ∷ redacted) are = absurd are
lines_alike [] [] (other ∷ others) redacted are = absurd are
lines_alike (line ∷ lines) (entry ∷ entries) [] redacted are = absurd are
lines_alike (line ∷ lines) (entry ∷ entries) (other ∷ others) [] are = absurd are
lines_alike (line ∷ lines) (entry ∷ entries) (other ∷ others) (r ∷ redacted) are =
    (text_alike (without_cr line) are.0.0 entry other are.0.1, lines_alike lines entries others redacted are.1)
lines_alike _ _ others redacted are = absurd are

-- ---- a capture

module _ (limits : Limits) (lines redacted : List (List ℕ)) (c : IsRedactedCapture limits lines redacted) where
  pub entries_given : AreEntries lines c.entries
  entries_given = taken_given limits [] lines c.entries c.taken

  pub all_bytes : AllBytes c.entries
  all_bytes role = sent_bytes role lines c.entries entries_given

  pub others_bytes : AllBytes c.others
  others_bytes role = redaction_bytes role limits (sent role c.entries) (sent role c.others) (all_bytes role) (c.streams role)

  pub others_given : AreEntries redacted c.others
  others_given = lines_entries lines c.entries c.others redacted entries_given others_bytes c.each

  pub others_alike : AreAlike c.entries c.others
  others_alike = lines_alike lines c.entries c.others redacted c.each

-- ---- what alike entries have in common

marks_alike : (role : Role) (entry other : Entry) → IsAlike entry other → is_mark role other ≡ is_mark role entry
marks_alike Client Nothing Nothing is = refl
marks_alike Server Nothing Nothing is = refl
marks_alike Client (Bytes r bytes) (Bytes s others) is = refl
marks_alike Server (Bytes r bytes) (Bytes s others) is = refl
marks_alike role (Mark r) (Mark s) is = ap (λ (q : Role). is_mark role (Mark q)) is
marks_alike role Nothing (Bytes s others) is = absurd is
marks_alike role Nothing (Mark s) is = absurd is
marks_alike role (Bytes r bytes) Nothing is = absurd is
marks_alike role (Bytes r bytes) (Mark s) is = absurd is
marks_alike role (Mark r) Nothing is = absurd is
marks_alike role (Mark r) (Bytes s others) is = absurd is

pub sizes_alike : (role : Role) (entry other : Entry) → IsAlike entry other → length (bytes_in role other) ≡ length (bytes_in role entry)
sizes_alike Client Nothing Nothing is = refl
sizes_alike Server Nothing Nothing is = refl
sizes_alike role (Bytes r bytes) (Bytes s others) is = ap (λ (q : Role). length (bytes_in role (Bytes q others))) is.0 ∙ by role r
  where
    by : (role r : Role) → length (bytes_in role (Bytes r others)) ≡ length (bytes_in role (Bytes r bytes))
    by Client Client = is.1
    by Client Server = refl
    by Server Client = refl
    by Server Server = is.1
sizes_alike Client (Mark r) (Mark s) is = refl
sizes_alike Server (Mark r) (Mark s) is = refl
sizes_alike role Nothing (Bytes s others) is = absurd is
sizes_alike role Nothing (Mark s) is = absurd is
sizes_alike role (Bytes r bytes) Nothing is = absurd is
sizes_alike role (Bytes r bytes) (Mark s) is = absurd is
sizes_alike role (Mark r) Nothing is = absurd is
sizes_alike role (Mark r) (Bytes s others) is = absurd is

pub ended_alike : (role : Role) (entries others : List Entry) → AreAlike entries others → has_ended role others ≡ has_ended role entries
ended_alike role [] [] are = refl
ended_alike role (entry ∷ entries) (other ∷ others) are =
    let first = marks_alike role entry other are.0 in
    let rest = ended_alike role entries others are.1 in
    λ i. first i || rest i
ended_alike role _ _ are = absurd are

pub sent_alike : (role : Role) (n : ℕ) (entries others : List Entry) → AreAlike entries others → length (sent role (take n others)) ≡ length (sent role (take n entries))
sent_alike role zero entries others are = refl
sent_alike role (suc n) [] [] are = refl
sent_alike role (suc n) (entry ∷ entries) (other ∷ others) are =
    let first = sizes_alike role entry other are.0 in
    let rest = sent_alike role n entries others are.1 in
    omega (arith, first, rest, length-append (bytes_in role other) (sent role (take n others)), length-append (bytes_in role entry) (sent role (take n entries)))
sent_alike role (suc n) _ _ are = absurd are
