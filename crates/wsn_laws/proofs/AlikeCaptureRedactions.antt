-- Captures have one redaction exactly if they are alike.
use Rattle.std.proofs.Common.{◌≡◌, ℕ, List, [], ◌∷◌, ◌++◌, inl, inr, refl, sym, ap, ◌∙◌, subst}
use Rattle.std.specs.Prelude.{codes}
use Rattle.std.proofs.lemmas.List.{append_cancel_left}
use Rattle.hex.specs.Hex.{encode_lower}
use Rattle.wsn_wire.specs.declared.endpoint.Role.{Role}
use Rattle.wsn_rules.specs.Limits.{Limits}
use Rattle.wsn_rules.specs.Entries.{Entry, without_cr, bytes_prefix, end_mark, GivesEntry, AreEntries}
use Rattle.wsn_rules.specs.Entries.Entry.{Nothing, Bytes, Mark}
use Rattle.wsn_rules.specs.Sides.{sent}
use Rattle.wsn_rules.proofs.OneEntry.{same_entries}
use Rattle.wsn_capture.proofs.AcceptedTexts.{taken_given}
use Rattle.wsn_redact.specs.declared.extension_names.Within.TheVariants.{Name}
use Rattle.wsn_redact.specs.ExtensionNames.{names_in}
use Rattle.wsn_redact.specs.Redaction.{IsRedaction}
use Rattle.wsn_redact.specs.RedactedCaptures.{extensions_prefix, SaysElse, IsRedactedNothing, IsRedactedLineText, cr_of, AreRedactedLines, IsRedactedCapture}
use Rattle.wsn_laws.specs.AlikeCaptures.{IsAlike, AreAlike, AreAlikeComments, AreAlikeIn, AreAlikeInLines, AreAlikeCaptures}
use Rattle.wsn_laws.proofs.OneRedactedCapture.{one_nothing, bytes_off, nothing_off, mark_off, stays_or_extensions, stays_or_else}
use Rattle.wsn_laws.proofs.RedactedEntries.{AllBytes, first_bytes, other_bytes, line_text, text_alike, entries_given, all_bytes, others_bytes, others_given, others_alike}
use Rattle.wsn_laws.proofs.CapturesTwice.{hash_says}
use Rattle.wsn_laws.proofs.AlikeRedactions.{alike_is_one}
use Rattle.wsn_laws.proofs.RedactionsAlike.{one_redaction_alike}

-- ---- entries

pub alike_back : (entry other : Entry) → IsAlike entry other → IsAlike other entry
alike_back Nothing Nothing is = tt
alike_back (Bytes role bytes) (Bytes r others) is = (sym is.0, sym is.1)
alike_back (Mark role) (Mark r) is = sym is
alike_back Nothing (Bytes r others) is = absurd is
alike_back Nothing (Mark r) is = absurd is
alike_back (Bytes role bytes) Nothing is = absurd is
alike_back (Bytes role bytes) (Mark r) is = absurd is
alike_back (Mark role) Nothing is = absurd is
alike_back (Mark role) (Bytes r others) is = absurd is

pub alike_on : (entry other third : Entry) → IsAlike entry other → IsAlike other third → IsAlike entry third
alike_on Nothing (Bytes r others) third is also = absurd is
alike_on Nothing (Mark r) third is also = absurd is
alike_on (Bytes role bytes) Nothing third is also = absurd is
alike_on (Bytes role bytes) (Mark r) third is also = absurd is
alike_on (Mark role) Nothing third is also = absurd is
alike_on (Mark role) (Bytes r others) third is also = absurd is
alike_on Nothing Nothing third is also = also
alike_on (Bytes role bytes) (Bytes r others) Nothing is also = absurd also
alike_on (Bytes role bytes) (Bytes r others) (Bytes s more) is also = (also.0 ∙ is.0, also.1 ∙ is.1)
alike_on (Bytes role bytes) (Bytes r others) (Mark s) is also = absurd also
alike_on (Mark role) (Mark r) Nothing is also = absurd also
alike_on (Mark role) (Mark r) (Bytes s more) is also = absurd also
alike_on (Mark role) (Mark r) (Mark s) is also = also ∙ is

-- Alike entries of the same streams are the same.
record IsSameFirst (entry other : Entry) (entries others : List Entry) : Type 0 where
  first : entry ≡ other
  rest : (r : Role) → sent r entries ≡ sent r others

same_first : (entry other : Entry) (entries others : List Entry) → IsAlike entry other → ((r : Role) → sent r (entry ∷ entries) ≡ sent r (other ∷ others)) → IsSameFirst entry other entries others
same_first Nothing Nothing entries others is same = record { first = refl; rest = nothing_off entries others same }
same_first (Bytes role bytes) (Bytes r more) entries others is same =
    let onto = subst (λ (q : Role). (p : Role) → sent p (Bytes role bytes ∷ entries) ≡ sent p (Bytes q more ∷ others)) is.0 same in
    let off = bytes_off role bytes more entries others (sym is.1) onto in
    record { first = λ i. Bytes (sym is.0 i) (off.0 i); rest = off.1 }
same_first (Mark role) (Mark r) entries others is same =
    let onto = subst (λ (q : Role). (p : Role) → sent p (Mark role ∷ entries) ≡ sent p (Mark q ∷ others)) is same in
    record { first = ap Mark (sym is); rest = mark_off role entries others onto }
same_first Nothing (Bytes r more) entries others is same = absurd is
same_first Nothing (Mark r) entries others is same = absurd is
same_first (Bytes role bytes) Nothing entries others is same = absurd is
same_first (Bytes role bytes) (Mark r) entries others is same = absurd is
same_first (Mark role) Nothing entries others is same = absurd is
same_first (Mark role) (Bytes r more) entries others is same = absurd is

same_entries_of : (entries others : List Entry) → AreAlike entries others → ((r : Role) → sent r entries ≡ sent r others) → entries ≡ others
same_entries_of [] [] are same = refl
same_entries_of (e ∷ entries) (o ∷ others) are same =
    let first = same_first e o entries others are.0 same in
    let rest = same_entries_of entries others are.1 first.rest in
    λ i. first.first i ∷ rest i
same_entries_of _ _ are same = absurd are

-- ---- comments

comments_alike : (text other redacted other_redacted : List ℕ) → AreAlikeComments text other → IsRedactedNothing text redacted → IsRedactedNothing other other_redacted → redacted ≡ other_redacted
comments_alike text other redacted other_redacted (inl a) r s = one_nothing other redacted other_redacted (subst (λ (t : List ℕ). IsRedactedNothing t redacted) a.1 r) s
comments_alike text other redacted other_redacted (inr (inl (list, other_list, has, other_has, same))) r s =
    one_nothing text redacted (extensions_prefix ++ names_in Name list) r (inr (inl (list, has, refl)))
    ∙ ap (λ (l : List ℕ). extensions_prefix ++ l) same
    ∙ one_nothing other (extensions_prefix ++ names_in Name other_list) other_redacted (inr (inl (other_list, other_has, refl))) s
comments_alike text other redacted other_redacted (inr (inr (says, other_says))) r s =
    one_nothing text redacted (codes "#") r (inr (inr (says, refl))) ∙ one_nothing other (codes "#") other_redacted (inr (inr (other_says, refl))) s

comments_back : (text other redacted : List ℕ) → IsRedactedNothing text redacted → IsRedactedNothing other redacted → AreAlikeComments text other
comments_back text other redacted (inl r) (inl s) = inl (r.0, sym r.1 ∙ s.1)
comments_back text other redacted (inl r) (inr (inl s)) = absurd (stays_or_extensions text (names_in Name s.0) r.0 (sym r.1 ∙ s.2))
comments_back text other redacted (inl r) (inr (inr s)) = absurd (stays_or_else text r.0 (subst SaysElse (sym s.1 ∙ r.1) hash_says))
comments_back text other redacted (inr (inl r)) (inl s) = absurd (stays_or_extensions other (names_in Name r.0) s.0 (sym s.1 ∙ r.2))
comments_back text other redacted (inr (inl r)) (inr (inl s)) = inr (inl (r.0, s.0, r.1, s.1, append_cancel_left extensions_prefix (names_in Name r.0) (names_in Name s.0) (sym r.2 ∙ s.2)))
comments_back text other redacted (inr (inl r)) (inr (inr s)) = absurd (hash_says.2 (names_in Name r.0) (sym s.1 ∙ r.2))
comments_back text other redacted (inr (inr r)) (inl s) = absurd (stays_or_else other s.0 (subst SaysElse (sym r.1 ∙ s.1) hash_says))
comments_back text other redacted (inr (inr r)) (inr (inl s)) = absurd (hash_says.2 (names_in Name s.0) (sym r.1 ∙ s.2))
comments_back text other redacted (inr (inr r)) (inr (inr s)) = inr (inr (r.0, s.0))

-- ---- lines

entries_alike : (entry other : Entry) (text other_text : List ℕ) → AreAlikeIn entry other text other_text → IsAlike entry other
entries_alike Nothing Nothing text other_text is = tt
entries_alike Nothing (Bytes r others) text other_text is = is
entries_alike Nothing (Mark r) text other_text is = is
entries_alike (Bytes role bytes) other text other_text is = is
entries_alike (Mark role) other text other_text is = is

texts_alike : (text other_text redacted other_redacted : List ℕ) (entry other o : Entry) → GivesEntry text entry → GivesEntry other_text other → AreAlikeIn entry other text other_text → IsRedactedLineText text entry o redacted → IsRedactedLineText other_text other o other_redacted → redacted ≡ other_redacted
texts_alike text other_text redacted other_redacted Nothing Nothing Nothing gives other_gives a r s = comments_alike text other_text redacted other_redacted a r s
texts_alike text other_text redacted other_redacted Nothing Nothing (Bytes q o) gives other_gives a r s = absurd r
texts_alike text other_text redacted other_redacted Nothing Nothing (Mark q) gives other_gives a r s = absurd r
texts_alike text other_text redacted other_redacted (Bytes role bytes) (Bytes p others) Nothing gives other_gives a r s = absurd r
texts_alike text other_text redacted other_redacted (Bytes role bytes) (Bytes p others) (Bytes q o) gives other_gives a r s = r.2 ∙ ap (λ (x : Role). bytes_prefix x ++ encode_lower o) (sym a.0) ∙ sym s.2
texts_alike text other_text redacted other_redacted (Bytes role bytes) (Bytes p others) (Mark q) gives other_gives a r s = absurd r
texts_alike text other_text redacted other_redacted (Mark role) (Mark p) Nothing gives other_gives a r s = absurd r
texts_alike text other_text redacted other_redacted (Mark role) (Mark p) (Bytes q o) gives other_gives a r s = absurd r
texts_alike text other_text redacted other_redacted (Mark role) (Mark p) (Mark q) gives other_gives a r s = r.1 ∙ gives ∙ ap end_mark (sym a) ∙ sym other_gives ∙ sym s.1
texts_alike text other_text redacted other_redacted Nothing (Bytes p others) o gives other_gives a r s = absurd a
texts_alike text other_text redacted other_redacted Nothing (Mark p) o gives other_gives a r s = absurd a
texts_alike text other_text redacted other_redacted (Bytes role bytes) Nothing o gives other_gives a r s = absurd a
texts_alike text other_text redacted other_redacted (Bytes role bytes) (Mark p) o gives other_gives a r s = absurd a
texts_alike text other_text redacted other_redacted (Mark role) Nothing o gives other_gives a r s = absurd a
texts_alike text other_text redacted other_redacted (Mark role) (Bytes p others) o gives other_gives a r s = absurd a

-- The redacted entries are alike.
others_are_alike : (lines others : List (List ℕ)) (entries other_entries os ps : List Entry) → AreAlikeInLines lines others entries other_entries → AreAlike entries os → AreAlike other_entries ps → AreAlike os ps
others_are_alike [] [] [] [] [] [] a r s = tt
others_are_alike [] [] [] [] [] (p ∷ ps) a r s = absurd s
others_are_alike [] [] [] [] (o ∷ os) ps a r s = absurd r
others_are_alike [] [] [] (e ∷ es) os ps a r s = absurd a
others_are_alike [] [] (e ∷ entries) es os ps a r s = absurd a
others_are_alike (l ∷ lines) (m ∷ others) [] es os ps a r s = absurd a
others_are_alike (l ∷ lines) (m ∷ others) (e ∷ entries) [] os ps a r s = absurd a
others_are_alike (l ∷ lines) (m ∷ others) (e ∷ entries) (f ∷ es) [] ps a r s = absurd r
others_are_alike (l ∷ lines) (m ∷ others) (e ∷ entries) (f ∷ es) (o ∷ os) [] a r s = absurd s
others_are_alike (l ∷ lines) (m ∷ others) (e ∷ entries) (f ∷ es) (o ∷ os) (p ∷ ps) a r s =
    let first = entries_alike e f (without_cr l) (without_cr m) a.0 in
    (alike_on o f p (alike_on o e f (alike_back e o r.0) first) s.0, others_are_alike lines others entries es os ps a.2 r.1 s.1)
others_are_alike _ _ entries es os ps a r s = absurd a

lines_are_one : (lines others : List (List ℕ)) (entries other_entries os : List Entry) (redacted also : List (List ℕ)) → AreEntries lines entries → AreEntries others other_entries → AreAlikeInLines lines others entries other_entries → AreRedactedLines lines entries os redacted → AreRedactedLines others other_entries os also → redacted ≡ also
lines_are_one [] [] [] [] [] [] [] given other_given a r s = refl
lines_are_one [] [] [] [] [] [] (y ∷ also) given other_given a r s = absurd s
lines_are_one [] [] [] [] [] (x ∷ redacted) also given other_given a r s = absurd r
lines_are_one [] [] [] [] (o ∷ os) redacted also given other_given a r s = absurd r
lines_are_one [] [] [] (f ∷ es) os redacted also given other_given a r s = absurd a
lines_are_one [] [] (e ∷ entries) es os redacted also given other_given a r s = absurd a
lines_are_one (l ∷ lines) (m ∷ others) [] es os redacted also given other_given a r s = absurd a
lines_are_one (l ∷ lines) (m ∷ others) (e ∷ entries) [] os redacted also given other_given a r s = absurd a
lines_are_one (l ∷ lines) (m ∷ others) (e ∷ entries) (f ∷ es) [] redacted also given other_given a r s = absurd r
lines_are_one (l ∷ lines) (m ∷ others) (e ∷ entries) (f ∷ es) (o ∷ os) [] also given other_given a r s = absurd r
lines_are_one (l ∷ lines) (m ∷ others) (e ∷ entries) (f ∷ es) (o ∷ os) (x ∷ redacted) [] given other_given a r s = absurd s
lines_are_one (l ∷ lines) (m ∷ others) (e ∷ entries) (f ∷ es) (o ∷ os) (x ∷ redacted) (y ∷ also) given other_given a r s =
    let text = texts_alike (without_cr l) (without_cr m) r.0.0 s.0.0 e f o given.0 other_given.0 a.0 r.0.1 s.0.1 in
    let first : x ≡ y = r.0.2 ∙ (λ i. text i ++ a.1 i) ∙ sym s.0.2 in
    let rest = lines_are_one lines others entries es os redacted also given.1 other_given.1 a.2 r.1 s.1 in
    λ i. first i ∷ rest i
lines_are_one _ _ entries es os redacted also given other_given a r s = absurd a

-- The other way round.
texts_back : (text other_text redacted : List ℕ) (entry other o : Entry) → IsRedactedLineText text entry o redacted → IsRedactedLineText other_text other o redacted → AreAlikeIn entry other text other_text
texts_back text other_text redacted Nothing Nothing Nothing r s = comments_back text other_text redacted r s
texts_back text other_text redacted Nothing Nothing (Bytes q o) r s = absurd r
texts_back text other_text redacted Nothing Nothing (Mark q) r s = absurd r
texts_back text other_text redacted Nothing (Bytes p others) o r s = alike_on Nothing o (Bytes p others) (text_alike text redacted Nothing o r) (alike_back (Bytes p others) o (text_alike other_text redacted (Bytes p others) o s))
texts_back text other_text redacted Nothing (Mark p) o r s = alike_on Nothing o (Mark p) (text_alike text redacted Nothing o r) (alike_back (Mark p) o (text_alike other_text redacted (Mark p) o s))
texts_back text other_text redacted (Bytes role bytes) other o r s = alike_on (Bytes role bytes) o other (text_alike text redacted (Bytes role bytes) o r) (alike_back other o (text_alike other_text redacted other o s))
texts_back text other_text redacted (Mark role) other o r s = alike_on (Mark role) o other (text_alike text redacted (Mark role) o r) (alike_back other o (text_alike other_text redacted other o s))

lines_back : (lines others : List (List ℕ)) (entries other_entries os : List Entry) (redacted : List (List ℕ)) → AreEntries lines entries → AreEntries others other_entries → AllBytes os → AreRedactedLines lines entries os redacted → AreRedactedLines others other_entries os redacted → AreAlikeInLines lines others entries other_entries
lines_back [] [] [] [] [] [] given other_given all r s = tt
lines_back [] [] [] [] [] (x ∷ redacted) given other_given all r s = absurd r
lines_back [] [] [] [] (o ∷ os) redacted given other_given all r s = absurd r
lines_back [] [] [] (f ∷ es) os redacted given other_given all r s = absurd other_given
lines_back [] [] (e ∷ entries) es os redacted given other_given all r s = absurd given
lines_back [] (m ∷ others) (e ∷ entries) es os redacted given other_given all r s = absurd given
lines_back [] (m ∷ others) [] [] [] [] given other_given all r s = absurd s
lines_back [] (m ∷ others) [] (f ∷ es) [] [] given other_given all r s = absurd s
lines_back [] (m ∷ others) [] es [] (x ∷ redacted) given other_given all r s = absurd r
lines_back [] (m ∷ others) [] es (o ∷ os) redacted given other_given all r s = absurd r
lines_back (l ∷ lines) others [] es os redacted given other_given all r s = absurd given
lines_back (l ∷ lines) others (e ∷ entries) es [] redacted given other_given all r s = absurd r
lines_back (l ∷ lines) others (e ∷ entries) es (o ∷ os) [] given other_given all r s = absurd r
lines_back (l ∷ lines) [] (e ∷ entries) [] (o ∷ os) (x ∷ redacted) given other_given all r s = absurd s
lines_back (l ∷ lines) (m ∷ others) (e ∷ entries) (f ∷ es) (o ∷ os) (x ∷ redacted) given other_given all r s =
    let bytes = first_bytes o os all in
    let mine = line_text l x e o given.0 bytes r.0 in
    let its = line_text m x f o other_given.0 bytes s.0 in
    let same : r.0.0 ≡ s.0.0 = sym mine ∙ its in
    let cr : cr_of l ≡ cr_of m = append_cancel_left s.0.0 (cr_of l) (cr_of m) (ap (λ (t : List ℕ). t ++ cr_of l) (sym same) ∙ sym r.0.2 ∙ s.0.2) in
    let other : IsRedactedLineText (without_cr m) f o r.0.0 = subst (λ (t : List ℕ). IsRedactedLineText (without_cr m) f o t) (sym same) s.0.1 in
    (texts_back (without_cr l) (without_cr m) r.0.0 e f o r.0.1 other, cr, lines_back lines others entries es os redacted given.1 other_given.1 (other_bytes o os all) r.1 s.1)
lines_back (l ∷ lines) _ (e ∷ entries) _ (o ∷ os) (x ∷ redacted) given other_given all r s = absurd other_given

-- ---- captures

module _ (limits : Limits) where
  pub alike_captures_are_one : (lines others redacted also : List (List ℕ)) → AreAlikeCaptures limits lines others → IsRedactedCapture limits lines redacted → IsRedactedCapture limits others also → redacted ≡ also
  alike_captures_are_one lines others redacted also a r s =
      let given = taken_given limits [] lines a.entries a.taken in
      let other_given = taken_given limits [] others a.other_entries a.other_taken in
      let mine : r.entries ≡ a.entries = same_entries lines r.entries a.entries (entries_given limits lines redacted r) given in
      let its : s.entries ≡ a.other_entries = same_entries others s.entries a.other_entries (entries_given limits others also s) other_given in
      let each = subst (λ (es : List Entry). AreRedactedLines lines es r.others redacted) mine r.each in
      let other_each = subst (λ (es : List Entry). AreRedactedLines others es s.others also) its s.each in
      let streams = subst (λ (es : List Entry). (role : Role) → IsRedaction role limits (sent role es) (sent role r.others)) mine r.streams in
      let other_streams = subst (λ (es : List Entry). (role : Role) → IsRedaction role limits (sent role es) (sent role s.others)) its s.streams in
      let sides = subst (λ (es : List Entry). AreAlike es r.others) mine (others_alike limits lines redacted r) in
      let other_sides = subst (λ (es : List Entry). AreAlike es s.others) its (others_alike limits others also s) in
      let same : r.others ≡ s.others = same_entries_of r.others s.others (others_are_alike lines others a.entries a.other_entries r.others s.others a.alike sides other_sides)
      (λ role. alike_is_one role limits (sent role a.entries) (sent role a.other_entries) (sent role r.others) (sent role s.others) (a.streams role) (streams role) (other_streams role)) in
      lines_are_one lines others a.entries a.other_entries s.others redacted also given other_given a.alike (subst (λ (os : List Entry). AreRedactedLines lines a.entries os redacted) same each) other_each

  pub one_capture_alike : (lines others redacted : List (List ℕ)) → IsRedactedCapture limits lines redacted → IsRedactedCapture limits others redacted → AreAlikeCaptures limits lines others
  one_capture_alike lines others redacted r s =
      let same : s.others ≡ r.others = same_entries redacted s.others r.others (others_given limits others redacted s) (others_given limits lines redacted r) in
      let other_each = subst (λ (os : List Entry). AreRedactedLines others s.entries os redacted) same s.each in
      let other_streams = subst (λ (os : List Entry). (role : Role) → IsRedaction role limits (sent role s.entries) (sent role os)) same s.streams in
      record {
        entries = r.entries;
        other_entries = s.entries;
        taken = r.taken;
        other_taken = s.taken;
        alike = lines_back lines others r.entries s.entries r.others redacted (entries_given limits lines redacted r) (entries_given limits others redacted s) (others_bytes limits lines redacted r) r.each other_each;
        streams = λ role. one_redaction_alike role limits (sent role r.entries) (sent role s.entries) (sent role r.others) (all_bytes limits lines redacted r role) (all_bytes limits others redacted s role) (r.streams role) (other_streams role);
      }
