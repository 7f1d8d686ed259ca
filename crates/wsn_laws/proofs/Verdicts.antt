-- The value of a verdict's object, and that it determines the verdict.
use Rattle.std.proofs.Common.{◌≡◌, ℕ, true, Option, None, Some, List, [], ◌++◌, codes, refl, sym, ap, ◌∙◌, append_assoc, arith}
use Rattle.std.specs.Prelude.{decimal}
use Rattle.wsn_wire.specs.declared.refusal.Reason.{Reason}
use Rattle.wsn_wire.specs.declared.refusal.Reason.TheVariants.{ReservedBits, ReservedOpcode, ControlNotFinal, NothingToContinue, MessageOpen, MaskMissing, MaskPresent, ControlTooLong, CloseOneByte, LengthTopBit, LengthNotMinimal, MessageTooBig, CloseCode, CloseReason, TextBad, TextCut, TooManyFrames}
use Rattle.wsn_wire.specs.Refusal.{word_of, code_of}
use Rattle.wsn_rules.specs.declared.verdict.Refusal.{Refusal}
use Rattle.wsn_rules.specs.declared.verdict.Summary.{Summary}
use Rattle.wsn_rules.specs.declared.verdict.Verdict.{Verdict}
use Rattle.wsn_rules.specs.declared.verdict.Verdict.TheVariants.{Accepted, Cut, Refused}
use Rattle.wsn_print.specs.Json.{number_or_null, field, string_field, number_field, number_or_null_field}
use Rattle.wsn_print.specs.Objects.{close_value, count_fields, refusal_fields, verdict_members, verdict_object}
use Rattle.wsn_laws.specs.JsonText.{Value, Null, String, Object, Members, End, Member}
use Rattle.wsn_laws.specs.Answers.{IsInU64, IsCloseInRange, IsSummaryInRange, IsVerdictInRange, IsPrintedWhole}
use Rattle.wsn_laws.proofs.Written.{write, write_others, IsPlainValue, ArePlain}
use Rattle.wsn_laws.proofs.Strings.{are_unescaped}
use Rattle.wsn_laws.proofs.Words.{one_reason, plain_reason, decimal_number}
use Rattle.wsn_laws.proofs.Fields.{number, number_member, string_member, optional_number, optional_written, plain_optional, one_number, one_optional, one_written}

-- ---- the value

abbrev pub close_json : Option (Option ℕ) → Value
close_json None = Null
close_json (Some code) = Object (Member (codes "code") (optional_number code) End)

abbrev pub count_json : Summary → Members → Members
count_json s others =
    Member (codes "frames") (number s.frames) (Member (codes "messages") (number s.messages)
    (Member (codes "pings") (number s.pings) (Member (codes "pongs") (number s.pongs) others)))

abbrev pub refusal_json : List ℕ → Refusal → Members
refusal_json key refusal =
    Member key (number refusal.offset) (Member (codes "reason") (String (word_of refusal.reason))
    (Member (codes "code") (number (code_of refusal.reason)) End))

abbrev pub verdict_json_members : Verdict → Members
verdict_json_members (Accepted s) =
    Member (codes "verdict") (String (codes "accepted")) (Member (codes "used") (number s.used) (Member (codes "tail") (number s.tail)
    (Member (codes "unfinished") (optional_number s.unfinished) (count_json s (Member (codes "close") (close_json s.close) End)))))
verdict_json_members (Cut s) =
    Member (codes "verdict") (String (codes "cut")) (Member (codes "used") (number s.used)
    (Member (codes "unfinished") (optional_number s.unfinished) (count_json s End)))
verdict_json_members (Refused refusal) = Member (codes "verdict") (String (codes "refused")) (refusal_json (codes "offset") refusal)

abbrev pub verdict_json : Verdict → Value
verdict_json verdict = Object (Member (codes "type") (String (codes "verdict")) (verdict_json_members verdict))

-- ---- written

pub close_written : (close : Option (Option ℕ)) (rest : List ℕ) → write (close_json close) rest ≡ close_value close ++ rest
close_written None rest = refl
close_written (Some code) rest =
    ap (λ (bs : List ℕ). codes "{\"code\":" ++ bs) (optional_written code (codes "}" ++ rest))
    ∙ ap (λ (bs : List ℕ). codes "{\"code\":" ++ bs) (sym (append_assoc (number_or_null code) (codes "}") rest))

three : (a b c rest : List ℕ) → (a ++ b ++ c) ++ rest ≡ a ++ (b ++ (c ++ rest))
three a b c rest = simp append_assoc

four : (a b c d rest : List ℕ) → (a ++ b ++ c ++ d) ++ rest ≡ a ++ (b ++ (c ++ (d ++ rest)))
four a b c d rest = simp append_assoc

six : (a b c d e f rest : List ℕ) → (a ++ b ++ c ++ d ++ e ++ f) ++ rest ≡ a ++ (b ++ (c ++ (d ++ (e ++ (f ++ rest)))))
six a b c d e f rest = simp append_assoc

counts_written : (s : Summary) (others : Members) (rest : List ℕ) → write_others (count_json s others) rest ≡ count_fields s ++ write_others others rest
counts_written s others rest =
    sym (four (number_field (codes "frames") s.frames) (number_field (codes "messages") s.messages) (number_field (codes "pings") s.pings) (number_field (codes "pongs") s.pongs) (write_others others rest))

pub refusal_written : (key : List ℕ) (refusal : Refusal) (rest : List ℕ) → write_others (refusal_json key refusal) rest ≡ refusal_fields key refusal ++ rest
refusal_written key refusal rest =
    let front : field key (decimal refusal.offset) ++ (string_field (codes "reason") (word_of refusal.reason) ++ (number_field (codes "code") (code_of refusal.reason) ++ rest)) ≡ refusal_fields key refusal ++ rest =
    sym (three (number_field key refusal.offset) (string_field (codes "reason") (word_of refusal.reason)) (number_field (codes "code") (code_of refusal.reason)) rest) in
    let place : write_others (refusal_json key refusal) rest ≡ field key (decimal refusal.offset) ++ (write_others (Member (codes "reason") (String (word_of refusal.reason)) (Member (codes "code") (number (code_of refusal.reason)) End)) rest) =
    number_member key refusal.offset (write_others (Member (codes "reason") (String (word_of refusal.reason)) (Member (codes "code") (number (code_of refusal.reason)) End)) rest) in
    place ∙ ap (λ (bs : List ℕ). field key (decimal refusal.offset) ++ bs) (string_member (codes "reason") (word_of refusal.reason) (number_field (codes "code") (code_of refusal.reason) ++ rest)) ∙ front

-- The members of a verdict after the type, with what follows.
pub members_written : (verdict : Verdict) (rest : List ℕ) → write_others (verdict_json_members verdict) rest ≡ codes "," ++ (verdict_members verdict ++ rest)
members_written (Accepted s) rest =
    let unfinished = optional_written s.unfinished (write_others (count_json s (Member (codes "close") (close_json s.close) End)) rest) in
    let counts = counts_written s (Member (codes "close") (close_json s.close) End) rest in
    let close = close_written s.close rest in
    let front : List ℕ → List ℕ = λ bs. codes ",\"verdict\":\"accepted\"" ++ (number_field (codes "used") s.used ++ (number_field (codes "tail") s.tail ++ (codes ",\"unfinished\":" ++ bs))) in
    ap front unfinished
    ∙ ap (λ (bs : List ℕ). front (number_or_null s.unfinished ++ bs)) counts
    ∙ ap (λ (bs : List ℕ). front (number_or_null s.unfinished ++ (count_fields s ++ (codes ",\"close\":" ++ bs)))) close
    ∙ ap (λ (bs : List ℕ). codes "," ++ bs) (sym (six (codes "\"verdict\":\"accepted\"") (number_field (codes "used") s.used) (number_field (codes "tail") s.tail) (number_or_null_field (codes "unfinished") s.unfinished) (count_fields s) (field (codes "close") (close_value s.close)) rest))
members_written (Cut s) rest =
    let unfinished = optional_written s.unfinished (write_others (count_json s End) rest) in
    let counts = counts_written s End rest in
    let front : List ℕ → List ℕ = λ bs. codes ",\"verdict\":\"cut\"" ++ (number_field (codes "used") s.used ++ (codes ",\"unfinished\":" ++ bs)) in
    ap front unfinished
    ∙ ap (λ (bs : List ℕ). front (number_or_null s.unfinished ++ bs)) counts
    ∙ ap (λ (bs : List ℕ). codes "," ++ bs) (sym (four (codes "\"verdict\":\"cut\"") (number_field (codes "used") s.used) (number_or_null_field (codes "unfinished") s.unfinished) (count_fields s) rest))
members_written (Refused refusal) rest =
    ap (λ (bs : List ℕ). codes ",\"verdict\":\"refused\"" ++ bs) (refusal_written (codes "offset") refusal rest)

pub verdict_written : (verdict : Verdict) → verdict_object verdict ≡ write (verdict_json verdict) (codes "\n")
verdict_written verdict =
    append_assoc (codes "{\"type\":\"verdict\",") (verdict_members verdict) (codes "}\n")
    ∙ ap (λ (bs : List ℕ). codes "{\"type\":\"verdict\"" ++ bs) (sym (members_written verdict (codes "}\n")))

-- ---- plain

close_plain : (close : Option (Option ℕ)) → IsCloseInRange close → IsPlainValue (close_json close)
close_plain None fits = tt
close_plain (Some code) fits = (refl, plain_optional code fits, tt)

pub code_fits : (reason : Reason) → IsInU64 (code_of reason)
code_fits ReservedBits = omega arith
code_fits ReservedOpcode = omega arith
code_fits ControlNotFinal = omega arith
code_fits NothingToContinue = omega arith
code_fits MessageOpen = omega arith
code_fits MaskMissing = omega arith
code_fits MaskPresent = omega arith
code_fits ControlTooLong = omega arith
code_fits CloseOneByte = omega arith
code_fits LengthTopBit = omega arith
code_fits LengthNotMinimal = omega arith
code_fits MessageTooBig = omega arith
code_fits CloseCode = omega arith
code_fits CloseReason = omega arith
code_fits TextBad = omega arith
code_fits TextCut = omega arith
code_fits TooManyFrames = omega arith

pub refusal_plain : (key : List ℕ) (refusal : Refusal) → are_unescaped key ≡ true → IsInU64 refusal.offset → ArePlain (refusal_json key refusal)
refusal_plain key refusal plain fits =
    (plain, decimal_number refusal.offset fits, (refl, plain_reason refusal.reason, (refl, decimal_number (code_of refusal.reason) (code_fits refusal.reason), tt)))

count_plain : (s : Summary) (others : Members) → IsSummaryInRange s → ArePlain others → ArePlain (count_json s others)
count_plain s others fits plain =
    (refl, decimal_number s.frames fits.frames, (refl, decimal_number s.messages fits.messages, (refl, decimal_number s.pings fits.pings, (refl, decimal_number s.pongs fits.pongs, plain))))

pub members_plain : (verdict : Verdict) → IsVerdictInRange verdict → ArePlain (verdict_json_members verdict)
members_plain (Accepted s) fits = (
  refl,
  refl,
  (
    refl,
    decimal_number s.used fits.used,
    (
      refl,
      decimal_number s.tail fits.tail,
      (
        refl,
        plain_optional s.unfinished fits.unfinished,
        count_plain s (Member (codes "close") (close_json s.close) End) fits (refl, close_plain s.close fits.close, tt),
      ),
    ),
  ),
)
members_plain (Cut s) fits =
    (refl, refl, (refl, decimal_number s.used fits.used, (refl, plain_optional s.unfinished fits.unfinished, count_plain s End fits tt)))
members_plain (Refused refusal) fits = (refl, refl, refusal_plain (codes "offset") refusal refl fits)

pub verdict_plain : (verdict : Verdict) → IsVerdictInRange verdict → IsPlainValue (verdict_json verdict)
verdict_plain verdict fits = (refl, refl, members_plain verdict fits)

-- ---- what the value determines

one_close : (close other : Option (Option ℕ)) → IsCloseInRange close → IsCloseInRange other → close_json close ≡ close_json other → close ≡ other
one_close None None fits also same = refl
one_close None (Some code) fits also same = absurd cc
one_close (Some code) None fits also same = absurd cc
one_close (Some code) (Some other) fits also same =
    let codes_same : optional_number code ≡ optional_number other = cc in
    ap Some (one_optional code other fits also codes_same)

refusal_of : ℕ → Reason → Refusal
refusal_of place reason = record { offset = place; reason = reason }

refusals : (p q : ℕ) (r t : Reason) → p ≡ q → r ≡ t → refusal_of p r ≡ refusal_of q t
refusals p q r t places reasons = cc

pub refusal_same : (refusal other : Refusal) → refusal.offset ≡ other.offset → refusal.reason ≡ other.reason → refusal ≡ other
unfolding refusal_of
refusal_same refusal other places reasons = refusals refusal.offset other.offset refusal.reason other.reason places reasons

pub one_refusal : (key : List ℕ) (refusal other : Refusal) → IsInU64 refusal.offset → IsInU64 other.offset → refusal_json key refusal ≡ refusal_json key other → refusal ≡ other
one_refusal key refusal other fits also same =
    let places : number refusal.offset ≡ number other.offset = cc in
    let words : word_of refusal.reason ≡ word_of other.reason = cc in
    refusal_same refusal other (one_number refusal.offset other.offset fits also places) (one_reason refusal.reason other.reason words)

summary_of : ℕ → ℕ → Option ℕ → ℕ → ℕ → ℕ → ℕ → Option (Option ℕ) → Summary
summary_of used tail unfinished frames messages pings pongs close = record {
  used = used;
  tail = tail;
  unfinished = unfinished;
  frames = frames;
  messages = messages;
  pings = pings;
  pongs = pongs;
  close = close;
}

summaries : (a b d e f g a' b' d' e' f' g' : ℕ) (c c' : Option ℕ) (h h' : Option (Option ℕ)) → a ≡ a' → b ≡ b' → c ≡ c' → d ≡ d' → e ≡ e' → f ≡ f' → g ≡ g' → h ≡ h'
    → summary_of a b c d e f g h ≡ summary_of a' b' c' d' e' f' g' h'
summaries a b d e f g a' b' d' e' f' g' c c' h h' same_a same_b same_c same_d same_e same_f same_g same_h = cc

summary_same : (s t : Summary) → s.used ≡ t.used → s.tail ≡ t.tail → s.unfinished ≡ t.unfinished → s.frames ≡ t.frames → s.messages ≡ t.messages
    → s.pings ≡ t.pings → s.pongs ≡ t.pongs → s.close ≡ t.close → s ≡ t
unfolding summary_of
summary_same s t used tail unfinished frames messages pings pongs close =
    summaries s.used s.tail s.frames s.messages s.pings s.pongs t.used t.tail t.frames t.messages t.pings t.pongs s.unfinished t.unfinished s.close t.close
    used tail unfinished frames messages pings pongs close

one_accepted : (s t : Summary) → IsSummaryInRange s → IsSummaryInRange t → verdict_json_members (Accepted s) ≡ verdict_json_members (Accepted t) → s ≡ t
one_accepted s t fits also same =
    let used : number s.used ≡ number t.used = cc in
    let tail : number s.tail ≡ number t.tail = cc in
    let unfinished : optional_number s.unfinished ≡ optional_number t.unfinished = cc in
    let frames : number s.frames ≡ number t.frames = cc in
    let messages : number s.messages ≡ number t.messages = cc in
    let pings : number s.pings ≡ number t.pings = cc in
    let pongs : number s.pongs ≡ number t.pongs = cc in
    let close : close_json s.close ≡ close_json t.close = cc in
    summary_same s t (one_number s.used t.used fits.used also.used used) (one_number s.tail t.tail fits.tail also.tail tail)
    (one_optional s.unfinished t.unfinished fits.unfinished also.unfinished unfinished)
    (one_number s.frames t.frames fits.frames also.frames frames) (one_number s.messages t.messages fits.messages also.messages messages)
    (one_number s.pings t.pings fits.pings also.pings pings) (one_number s.pongs t.pongs fits.pongs also.pongs pongs)
    (one_close s.close t.close fits.close also.close close)

one_cut : (s t : Summary) → IsSummaryInRange s → IsSummaryInRange t → IsPrintedWhole (Cut s) → IsPrintedWhole (Cut t)
    → verdict_json_members (Cut s) ≡ verdict_json_members (Cut t) → s ≡ t
one_cut s t fits also bare bare_too same =
    let used : number s.used ≡ number t.used = cc in
    let unfinished : optional_number s.unfinished ≡ optional_number t.unfinished = cc in
    let frames : number s.frames ≡ number t.frames = cc in
    let messages : number s.messages ≡ number t.messages = cc in
    let pings : number s.pings ≡ number t.pings = cc in
    let pongs : number s.pongs ≡ number t.pongs = cc in
    summary_same s t (one_number s.used t.used fits.used also.used used) (bare.0 ∙ sym bare_too.0)
    (one_optional s.unfinished t.unfinished fits.unfinished also.unfinished unfinished)
    (one_number s.frames t.frames fits.frames also.frames frames) (one_number s.messages t.messages fits.messages also.messages messages)
    (one_number s.pings t.pings fits.pings also.pings pings) (one_number s.pongs t.pongs fits.pongs also.pongs pongs)
    (bare.1 ∙ sym bare_too.1)

answer_of : Members → List ℕ
answer_of (Member name (String word) others) = word
answer_of members = []

pub one_members : (verdict other : Verdict) → IsVerdictInRange verdict → IsVerdictInRange other → IsPrintedWhole verdict → IsPrintedWhole other
    → verdict_json_members verdict ≡ verdict_json_members other → verdict ≡ other
unfolding answer_of
one_members (Accepted s) (Accepted t) fits also bare bare_too same = ap Accepted (one_accepted s t fits also same)
one_members (Cut s) (Cut t) fits also bare bare_too same = ap Cut (one_cut s t fits also bare bare_too same)
one_members (Refused r) (Refused q) fits also bare bare_too same =
    let members : refusal_json (codes "offset") r ≡ refusal_json (codes "offset") q = cc in
    ap Refused (one_refusal (codes "offset") r q fits also members)
one_members (Accepted s) (Cut t) fits also bare bare_too same =
    let words : codes "accepted" ≡ codes "cut" = ap answer_of same in absurd cc
one_members (Accepted s) (Refused t) fits also bare bare_too same =
    let words : codes "accepted" ≡ codes "refused" = ap answer_of same in absurd cc
one_members (Cut s) (Accepted t) fits also bare bare_too same =
    let words : codes "cut" ≡ codes "accepted" = ap answer_of same in absurd cc
one_members (Cut s) (Refused t) fits also bare bare_too same =
    let words : codes "cut" ≡ codes "refused" = ap answer_of same in absurd cc
one_members (Refused s) (Accepted t) fits also bare bare_too same =
    let words : codes "refused" ≡ codes "accepted" = ap answer_of same in absurd cc
one_members (Refused s) (Cut t) fits also bare bare_too same =
    let words : codes "refused" ≡ codes "cut" = ap answer_of same in absurd cc

pub one_verdict : (verdict other : Verdict) → IsVerdictInRange verdict → IsVerdictInRange other → IsPrintedWhole verdict → IsPrintedWhole other
    → verdict_object verdict ≡ verdict_object other → verdict ≡ other
one_verdict verdict other fits also bare bare_too same =
    let values : verdict_json verdict ≡ verdict_json other =
    one_written (verdict_json verdict) (verdict_json other) (verdict_object verdict) (verdict_object other)
    (verdict_plain verdict fits) (verdict_plain other also) (verdict_written verdict) (verdict_written other) same in
    let members : verdict_json_members verdict ≡ verdict_json_members other = cc in
    one_members verdict other fits also bare bare_too members
