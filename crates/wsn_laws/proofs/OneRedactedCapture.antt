-- A capture has one redaction at most, with as many lines.
use Rattle.std.proofs.Common.{◌≡◌, ℕ, suc, ◌≤◌, ◌⊎◌, List, [], ◌∷◌, ◌++◌, length, inl, inr, refl, sym, ap, ◌∙◌, subst, arith}
use Rattle.std.specs.Prelude.{codes, slice_index}
use Rattle.std.proofs.lemmas.List.{append_cancel_left}
use Rattle.std.specs.List.{AllByRecursion}
use Rattle.wsn_wire.specs.declared.endpoint.Role.{Role}
use Rattle.wsn_wire.specs.declared.endpoint.Role.TheVariants.{Client, Server}
use Rattle.wsn_rules.specs.Limits.{Limits}
use Rattle.wsn_rules.specs.Entries.{Entry, without_cr}
use Rattle.wsn_rules.specs.Entries.Entry.{Nothing, Bytes, Mark}
use Rattle.wsn_rules.specs.Sides.{sent}
use Rattle.wsn_rules.specs.ShownCapture.{IsDigit, IsSeconds}
use Rattle.wsn_rules.proofs.OneEntry.{same_entries}
use Rattle.wsn_capture.proofs.AcceptedTexts.{taken_given}
use Rattle.wsn_capture.specs.EndedBy.{reset_comment}
use Rattle.wsn_redact.specs.Redaction.{IsRedaction}
use Rattle.wsn_redact.specs.declared.extension_names.Within.TheVariants.{Name}
use Rattle.wsn_redact.specs.ExtensionNames.{names_in}
use Rattle.wsn_redact.specs.RedactedCaptures.{extensions_prefix, Stays, HasExtensions, SaysElse, IsRedactedNothing, IsRedactedLineText, cr_of, IsRedactedLine, AreRedactedLines, IsRedactedCapture}
use Rattle.wsn_redact.proofs.OneRedaction.{one_redaction}
use Rattle.wsn_wire.proofs.FrameLemmas.{fronts_agree}

-- ---- comments

-- a time begins with a digit
digit_first : (list seconds whole fraction : List ℕ) → 1 ≤ length whole → AllByRecursion IsDigit whole → seconds ≡ whole ++ codes "." ++ fraction
    → seconds ≡ codes "extensions: " ++ list → ⊥
digit_first list seconds [] fraction some digits is same = omega (arith, some)
digit_first list seconds (d ∷ whole) fraction some digits is same =
    let first : d ≡ 101 = ap (λ (l : List ℕ). slice_index l 0) (sym is ∙ same) in
    let most = digits.0.1 in
    omega (arith, first, most)

pub no_time : (list seconds : List ℕ) → IsSeconds seconds → codes "# " ++ seconds ≡ extensions_prefix ++ list → ⊥
no_time list seconds is same =
    digit_first list seconds is.whole is.fraction is.whole_is.some is.whole_is.digits is.is
    (append_cancel_left (codes "# ") seconds (codes "extensions: " ++ list) same)

pub no_reset : (list : List ℕ) (role : Role) → reset_comment role ≡ extensions_prefix ++ list → ⊥
no_reset list Client same = let third : 114 ≡ 101 = ap (λ (l : List ℕ). slice_index l 2) same in omega (arith, third)
no_reset list Server same = let third : 114 ≡ 101 = ap (λ (l : List ℕ). slice_index l 2) same in omega (arith, third)

pub stays_or_extensions : (text list : List ℕ) → ((text ≡ []) ⊎ Stays text) → HasExtensions text list → ⊥
stays_or_extensions text list (inl none) has = let size : 0 ≡ suc (length (codes " extensions: " ++ list)) = ap (λ (l : List ℕ). length l) (sym none ∙ has) in omega (arith, size)
stays_or_extensions text list (inr (inl (seconds, gives))) has = no_time list seconds gives.1 (sym gives.0 ∙ has)
stays_or_extensions text list (inr (inr (inl is))) has = no_reset list Client (sym is ∙ has)
stays_or_extensions text list (inr (inr (inr is))) has = no_reset list Server (sym is ∙ has)

pub stays_or_else : (text : List ℕ) → ((text ≡ []) ⊎ Stays text) → SaysElse text → ⊥
stays_or_else text (inl none) says = says.0 none
stays_or_else text (inr stays) says = says.1 stays

pub one_nothing : (text redacted other : List ℕ) → IsRedactedNothing text redacted → IsRedactedNothing text other → redacted ≡ other
one_nothing text redacted other (inl is) (inl also) = is.1 ∙ sym also.1
one_nothing text redacted other (inl is) (inr (inl also)) = absurd (stays_or_extensions text also.0 is.0 also.1)
one_nothing text redacted other (inl is) (inr (inr also)) = absurd (stays_or_else text is.0 also.0)
one_nothing text redacted other (inr (inl is)) (inl also) = absurd (stays_or_extensions text is.0 also.0 is.1)
one_nothing text redacted other (inr (inl is)) (inr (inl also)) =
    let same : is.0 ≡ also.0 = append_cancel_left extensions_prefix is.0 also.0 (sym is.1 ∙ also.1) in
    is.2 ∙ ap (λ (l : List ℕ). extensions_prefix ++ names_in Name l) same ∙ sym also.2
one_nothing text redacted other (inr (inl is)) (inr (inr also)) = absurd (also.0.2 is.0 is.1)
one_nothing text redacted other (inr (inr is)) (inl also) = absurd (stays_or_else text also.0 is.0)
one_nothing text redacted other (inr (inr is)) (inr (inl also)) = absurd (is.0.2 also.0 also.1)
one_nothing text redacted other (inr (inr is)) (inr (inr also)) = is.1 ∙ sym also.1

-- ---- lines

-- the same redacted entries, the same lines
one_text : (text : List ℕ) (entry other : Entry) (redacted also : List ℕ) → IsRedactedLineText text entry other redacted → IsRedactedLineText text entry other also → redacted ≡ also
one_text text Nothing Nothing redacted also is same = one_nothing text redacted also is same
one_text text (Bytes role bytes) (Bytes r others) redacted also is same = is.2 ∙ sym same.2
one_text text (Mark role) (Mark r) redacted also is same = is.1 ∙ sym same.1
one_text text Nothing (Bytes r others) redacted also is same = absurd is
one_text text Nothing (Mark r) redacted also is same = absurd is
one_text text (Bytes role bytes) Nothing redacted also is same = absurd is
one_text text (Bytes role bytes) (Mark r) redacted also is same = absurd is
one_text text (Mark role) Nothing redacted also is same = absurd is
one_text text (Mark role) (Bytes r others) redacted also is same = absurd is

one_line : (line : List ℕ) (entry other : Entry) (redacted also : List ℕ) → IsRedactedLine line entry other redacted → IsRedactedLine line entry other also → redacted ≡ also
one_line line entry other redacted also is same = is.2 ∙ ap (λ (t : List ℕ). t ++ cr_of line) (one_text (without_cr line) entry other is.0 same.0 is.1 same.1) ∙ sym same.2

one_lines : (lines : List (List ℕ)) (entries others : List Entry) (redacted also : List (List ℕ)) → AreRedactedLines lines entries others redacted → AreRedactedLines lines entries others also → redacted ≡ also
one_lines [] [] [] [] [] are same = refl
one_lines [] [] [] [] (s ∷ also) are same = absurd same
one_lines [] [] [] (r ∷ redacted) also are same = absurd are
one_lines [] [] (other ∷ others) redacted also are same = absurd are
one_lines (line ∷ lines) (entry ∷ entries) [] redacted also are same = absurd are
one_lines (line ∷ lines) (entry ∷ entries) (other ∷ others) [] also are same = absurd are
one_lines (line ∷ lines) (entry ∷ entries) (other ∷ others) (r ∷ redacted) [] are same = absurd same
one_lines (line ∷ lines) (entry ∷ entries) (other ∷ others) (r ∷ redacted) (s ∷ also) are same =
    let first = one_line line entry other r s are.0 same.0 in
    let rest = one_lines lines entries others redacted also are.1 same.1 in
    cc (first, rest)
one_lines _ _ others redacted also are same = absurd are

pub as_many : (lines : List (List ℕ)) (entries others : List Entry) (redacted : List (List ℕ)) → AreRedactedLines lines entries others redacted → length redacted ≡ length lines
as_many [] [] [] [] are = refl
as_many [] [] [] (r ∷ redacted) are = absurd are
as_many [] [] (other ∷ others) redacted are = absurd are
as_many (line ∷ lines) (entry ∷ entries) [] redacted are = absurd are
as_many (line ∷ lines) (entry ∷ entries) (other ∷ others) [] are = absurd are
as_many (line ∷ lines) (entry ∷ entries) (other ∷ others) (r ∷ redacted) are = ap suc (as_many lines entries others redacted are.1)
as_many _ _ others redacted are = absurd are

-- ---- the redacted entries

none_more : (n : ℕ) → suc n ≡ 0 → ⊥
none_more n is = omega (arith, is)

both : (P : Role → Type 0) → P Client → P Server → (role : Role) → P role
both P of_client of_server Client = of_client
both P of_client of_server Server = of_server

-- both streams stay the same after the bytes of a line
pub bytes_off : (role : Role) (bytes also : List ℕ) (others more : List Entry) → length bytes ≡ length also
    → ((r : Role) → sent r (Bytes role bytes ∷ others) ≡ sent r (Bytes role also ∷ more)) → (bytes ≡ also) × ((r : Role) → sent r others ≡ sent r more)
bytes_off Client bytes also others more size same =
    let parts = fronts_agree bytes also (sent Client others) (sent Client more) size (same Client) in
    (parts.0, both (λ r. sent r others ≡ sent r more) parts.1 (same Server))
bytes_off Server bytes also others more size same =
    let parts = fronts_agree bytes also (sent Server others) (sent Server more) size (same Server) in
    (parts.0, both (λ r. sent r others ≡ sent r more) (same Client) parts.1)

pub nothing_off : (others more : List Entry) → ((r : Role) → sent r (Nothing ∷ others) ≡ sent r (Nothing ∷ more)) → (r : Role) → sent r others ≡ sent r more
nothing_off others more same Client = same Client
nothing_off others more same Server = same Server

pub mark_off : (role : Role) (others more : List Entry) → ((r : Role) → sent r (Mark role ∷ others) ≡ sent r (Mark role ∷ more)) → (r : Role) → sent r others ≡ sent r more
mark_off Client others more same Client = same Client
mark_off Client others more same Server = same Server
mark_off Server others more same Client = same Client
mark_off Server others more same Server = same Server

-- the first entries are the same, and so are both streams after them
abbrev SameFirst : Entry → List Entry → Entry → List Entry → Type 0
SameFirst other others another more = (other ≡ another) × ((r : Role) → sent r others ≡ sent r more)

first_same : (text : List ℕ) (entry other another : Entry) (redacted also : List ℕ) (others more : List Entry)
    → IsRedactedLineText text entry other redacted → IsRedactedLineText text entry another also
    → ((r : Role) → sent r (other ∷ others) ≡ sent r (another ∷ more)) → SameFirst other others another more
first_same text Nothing Nothing Nothing redacted also others more is too same = (refl, nothing_off others more same)
first_same text Nothing Nothing (Bytes s b) redacted also others more is too same = absurd too
first_same text Nothing Nothing (Mark s) redacted also others more is too same = absurd too
first_same text Nothing (Bytes r a) another redacted also others more is too same = absurd is
first_same text Nothing (Mark r) another redacted also others more is too same = absurd is
first_same text (Bytes role bytes) Nothing another redacted also others more is too same = absurd is
first_same text (Bytes role bytes) (Mark r) another redacted also others more is too same = absurd is
first_same text (Bytes role bytes) (Bytes r a) Nothing redacted also others more is too same = absurd too
first_same text (Bytes role bytes) (Bytes r a) (Mark s) redacted also others more is too same = absurd too
first_same text (Bytes role bytes) (Bytes r a) (Bytes s b) redacted also others more is too same =
    let one : s ≡ r = too.0 ∙ sym is.0 in
    let onto = subst (λ (q : Role). (p : Role) → sent p (Bytes r a ∷ others) ≡ sent p (Bytes q b ∷ more)) one same in
    let off = bytes_off r a b others more (is.1 ∙ sym too.1) onto in
    let back : r ≡ s = sym one in
    (cc (back, off.0), off.1)
first_same text (Mark role) Nothing another redacted also others more is too same = absurd is
first_same text (Mark role) (Bytes r a) another redacted also others more is too same = absurd is
first_same text (Mark role) (Mark r) Nothing redacted also others more is too same = absurd too
first_same text (Mark role) (Mark r) (Bytes s b) redacted also others more is too same = absurd too
first_same text (Mark role) (Mark r) (Mark s) redacted also others more is too same =
    let one : s ≡ r = too.0 ∙ sym is.0 in
    let onto = subst (λ (q : Role). (p : Role) → sent p (Mark r ∷ others) ≡ sent p (Mark q ∷ more)) one same in
    (ap Mark (sym one), mark_off r others more onto)

-- the same streams, cut at the same places
same_others : (lines : List (List ℕ)) (entries others more : List Entry) (redacted also : List (List ℕ))
    → AreRedactedLines lines entries others redacted → AreRedactedLines lines entries more also
    → ((r : Role) → sent r others ≡ sent r more) → others ≡ more
same_others [] [] [] [] redacted also are too same = refl
same_others [] [] [] (m ∷ more) redacted also are too same = absurd too
same_others [] [] (other ∷ others) more redacted also are too same = absurd are
same_others (line ∷ lines) (entry ∷ entries) [] more redacted also are too same = absurd are
same_others (line ∷ lines) (entry ∷ entries) (other ∷ others) [] redacted also are too same = absurd too
same_others (line ∷ lines) (entry ∷ entries) (other ∷ others) (m ∷ more) [] also are too same = absurd are
same_others (line ∷ lines) (entry ∷ entries) (other ∷ others) (m ∷ more) (r ∷ redacted) [] are too same = absurd too
same_others (line ∷ lines) (entry ∷ entries) (other ∷ others) (m ∷ more) (r ∷ redacted) (s ∷ also) are too same =
    let first = first_same (without_cr line) entry other m are.0.0 too.0.0 others more are.0.1 too.0.1 same in
    let rest = same_others lines entries others more redacted also are.1 too.1 first.1 in
    let head = first.0 in
    cc (head, rest)
same_others _ _ others more redacted also are too same = absurd are

-- ---- captures

of_same : (limits : Limits) (lines redacted also : List (List ℕ)) (is : IsRedactedCapture limits lines redacted) (too : IsRedactedCapture limits lines also) → is.entries ≡ too.entries → redacted ≡ also
of_same limits lines redacted also is too same =
    let each = subst (λ (es : List Entry). AreRedactedLines lines es too.others also) (sym same) too.each in
    let streams = subst (λ (es : List Entry). (role : Role) → IsRedaction role limits (sent role es) (sent role too.others)) (sym same) too.streams in
    let others : is.others ≡ too.others = same_others lines is.entries is.others too.others redacted also is.each each
    (λ role. one_redaction role limits (sent role is.entries) (sent role is.others) (sent role too.others) (is.streams role) (streams role)) in
    one_lines lines is.entries is.others redacted also is.each (subst (λ (os : List Entry). AreRedactedLines lines is.entries os also) (sym others) each)

pub one_capture : (limits : Limits) (lines redacted also : List (List ℕ)) → IsRedactedCapture limits lines redacted → IsRedactedCapture limits lines also → redacted ≡ also
one_capture limits lines redacted also is too =
    of_same limits lines redacted also is too
    (same_entries lines is.entries too.entries (taken_given limits [] lines is.entries is.taken) (taken_given limits [] lines too.entries too.taken))

pub capture_size : (limits : Limits) (lines redacted : List (List ℕ)) → IsRedactedCapture limits lines redacted → length redacted ≡ length lines
capture_size limits lines redacted is = as_many lines is.entries is.others redacted is.each
