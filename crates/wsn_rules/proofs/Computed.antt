-- The verdict that the law on every input finds, where it computes: for an input that is written out.
use Rattle.std.proofs.Common.{◌≡◌, ℕ, ◌<◌, ◌≤◌, Bool, true, false, ◌&&◌, List, [], ◌∷◌, Option, Some, None, nat_lt, nat_le, ◌==◌, refl, ap, arith}
use Rattle.std.proofs.lemmas.Bool.{and_parts, ltb-true, leb-true, eqb-true, false≢true}
use Rattle.std.proofs.lemmas.Option.{same_Some}
use Rattle.wsn_wire.specs.declared.endpoint.Role.{Role}
use Rattle.wsn_wire.specs.Frame.{IsBytes}
use Rattle.wsn_wire.proofs.FrameLemmas.{op_at, form_at, key_at, frame_at}
unfoldable pub use Rattle.wsn_text.proofs.Numbers.{less_or_not, same_or_not}
use Rattle.wsn_text.proofs.Decide.{nothing, begun, four_long, three_long, after_first, after_byte, following, fill, begins_by, begins_decided, text_by, text_decided}
use Rattle.wsn_text.proofs.Prefixes.{begins_or_bad, begins_or_first_bad}
use Rattle.wsn_rules.specs.Limits.{Limits, InRange}
use Rattle.wsn_rules.specs.Meaning.{MeantEvent, meaning}
use Rattle.wsn_wire.specs.Refusal.{number_of}
use Rattle.wsn_rules.specs.declared.verdict.Verdict.{Verdict}
use Rattle.wsn_rules.specs.declared.verdict.Verdict.TheVariants.{Accepted, Cut, Refused}
use Rattle.wsn_rules.specs.Examples.{ShortVerdict, RefusedAt, CutAt, AcceptedTo, Counts, Abbreviates, Judged, Means}
use Rattle.wsn_rules.proofs.MessageText.{accepted_code_or_not}
use Rattle.wsn_rules.proofs.DecidedRows.{both, both_in_turn, either, denied, less, at_most, bool_is, role_is, only_shortest, no_group, limit_is, is_long, is_short_one, not_minimal, top_bit, op_is_text, of_text, ends_bad, ends_inside, by_first, by_second, by_length, by_payload}
use Rattle.wsn_rules.proofs.DecidedEvidence.{into_payload, first_evidence, second_evidence, length_evidence, payload_evidence, evidence_decided}
use Rattle.wsn_rules.proofs.LeastEvident.{least_or_none, reason_at, numbered, least_reason, front_decided, least_front, least_evident, same_number}
use Rattle.wsn_rules.proofs.LayoutPrefixes.{front_or_missing, layout_of, layout_or_within}
use Rattle.wsn_rules.proofs.LawfulLists.{close_or_not}
use Rattle.wsn_rules.proofs.LayoutsWithoutEvidence.{without_evidence_is_lawful}
use Rattle.wsn_rules.proofs.EveryInput.{HasVerdict, refused, cut, accepted, ended, without_evidence_frame, from, has_verdict}

-- ---- tests for the parts of an example

abbrev pub all_bytes : List ℕ → Bool
all_bytes [] = true
all_bytes (b ∷ bytes) = nat_lt b 256 && all_bytes bytes

pub bytes_by_test : (bytes : List ℕ) → all_bytes bytes ≡ true → IsBytes bytes
bytes_by_test [] test = tt
bytes_by_test (b ∷ bytes) test =
    let parts = and_parts (nat_lt b 256) (all_bytes bytes) test in
    (ltb-true b 256 parts.0, bytes_by_test bytes parts.1)

abbrev pub frames_in_range : Option ℕ → Bool
frames_in_range None = true
frames_in_range (Some most) = nat_le 1 most && nat_lt most 4294967296

abbrev pub in_range : Limits → Bool
in_range limits = nat_le limits.message 16777216 && (nat_le limits.input 1099511627776 && frames_in_range limits.frames)

frames_by_test : (frames : Option ℕ) → frames_in_range frames ≡ true → (most : ℕ) → frames ≡ Some most → (1 ≤ most) × (most < 4294967296)
frames_by_test None test most is = cc
frames_by_test (Some n) test most is =
    let parts = and_parts (nat_le 1 n) (nat_lt n 4294967296) test in
    let low : 1 ≤ n = leb-true 1 n parts.0 in
    let high : n < 4294967296 = ltb-true n 4294967296 parts.1 in
    let same : n ≡ most = same_Some n most is in
    (omega arith, omega arith)

pub range_by_test : (limits : Limits) → in_range limits ≡ true → InRange limits
range_by_test limits test =
    let parts = and_parts (nat_le limits.message 16777216) (nat_le limits.input 1099511627776 && frames_in_range limits.frames) test in
    let more = and_parts (nat_le limits.input 1099511627776) (frames_in_range limits.frames) parts.1 in
    record {
      message = leb-true limits.message 16777216 parts.0;
      input = leb-true limits.input 1099511627776 more.0;
      frames = frames_by_test limits.frames more.1;
    }

-- ---- the verdict

unfoldable pub found : (role : Role) (limits : Limits) (range : InRange limits) (bytes : List ℕ) → IsBytes bytes → HasVerdict role limits range bytes
unfolding less_or_not same_or_not nothing begun four_long three_long after_first after_byte following fill begins_by begins_decided text_by text_decided begins_or_bad begins_or_first_bad accepted_code_or_not both both_in_turn either denied less at_most bool_is role_is only_shortest no_group limit_is is_long is_short_one not_minimal top_bit op_is_text of_text ends_bad ends_inside by_first by_second by_length by_payload into_payload first_evidence second_evidence length_evidence payload_evidence evidence_decided least_or_none reason_at numbered least_reason front_decided least_front least_evident front_or_missing layout_of layout_or_within close_or_not without_evidence_is_lawful refused cut accepted ended without_evidence_frame from has_verdict op_at form_at key_at frame_at
found role limits range bytes in_bytes = has_verdict role limits range bytes in_bytes

abbrev pub same_option : Option ℕ → Option ℕ → Bool
same_option None None = true
same_option (Some m) (Some n) = m == n
same_option o p = false

same_option_by_test : (o p : Option ℕ) → same_option o p ≡ true → o ≡ p
same_option_by_test None None test = refl
same_option_by_test None (Some n) test = absurd (false≢true test)
same_option_by_test (Some m) None test = absurd (false≢true test)
same_option_by_test (Some m) (Some n) test = ap Some (eqb-true m n test)

abbrev pub same_close : Option (Option ℕ) → Option (Option ℕ) → Bool
same_close None None = true
same_close (Some m) (Some n) = same_option m n
same_close o p = false

same_close_by_test : (o p : Option (Option ℕ)) → same_close o p ≡ true → o ≡ p
same_close_by_test None None test = refl
same_close_by_test None (Some n) test = absurd (false≢true test)
same_close_by_test (Some m) None test = absurd (false≢true test)
same_close_by_test (Some m) (Some n) test = ap Some (same_option_by_test m n test)

abbrev pub reports : ShortVerdict → Verdict → Bool
reports (RefusedAt offset reason) (Refused refusal) = (refusal.offset == offset) && (number_of refusal.reason == number_of reason)
reports (CutAt used) (Cut summary) = summary.used == used
reports (AcceptedTo used tail unfinished) (Accepted summary) = (summary.used == used) && ((summary.tail == tail) && same_option summary.unfinished unfinished)
reports (Counts frames messages pings pongs close) (Accepted summary) =
    (summary.frames == frames) && ((summary.messages == messages) && ((summary.pings == pings) && ((summary.pongs == pongs) && same_close summary.close close)))
reports short verdict = false

reports_by_test : (short : ShortVerdict) (verdict : Verdict) → reports short verdict ≡ true → Abbreviates short verdict
reports_by_test (RefusedAt offset reason) (Refused refusal) test =
    let parts = and_parts (refusal.offset == offset) (number_of refusal.reason == number_of reason) test in
    (eqb-true refusal.offset offset parts.0, same_number refusal.reason reason (eqb-true (number_of refusal.reason) (number_of reason) parts.1))
reports_by_test (CutAt used) (Cut summary) test = eqb-true summary.used used test
reports_by_test (AcceptedTo used tail unfinished) (Accepted summary) test =
    let parts = and_parts (summary.used == used) ((summary.tail == tail) && same_option summary.unfinished unfinished) test in
    let more = and_parts (summary.tail == tail) (same_option summary.unfinished unfinished) parts.1 in
    (eqb-true summary.used used parts.0, eqb-true summary.tail tail more.0, same_option_by_test summary.unfinished unfinished more.1)
reports_by_test (RefusedAt offset reason) (Cut summary) test = absurd (false≢true test)
reports_by_test (RefusedAt offset reason) (Accepted summary) test = absurd (false≢true test)
reports_by_test (CutAt used) (Refused refusal) test = absurd (false≢true test)
reports_by_test (CutAt used) (Accepted summary) test = absurd (false≢true test)
reports_by_test (AcceptedTo used tail unfinished) (Refused refusal) test = absurd (false≢true test)
reports_by_test (AcceptedTo used tail unfinished) (Cut summary) test = absurd (false≢true test)
reports_by_test (Counts frames messages pings pongs close) (Accepted summary) test =
    let one = and_parts (summary.frames == frames) _ test in
    let two = and_parts (summary.messages == messages) _ one.1 in
    let three = and_parts (summary.pings == pings) _ two.1 in
    let four = and_parts (summary.pongs == pongs) (same_close summary.close close) three.1 in
    (eqb-true summary.frames frames one.0, eqb-true summary.messages messages two.0, eqb-true summary.pings pings three.0, eqb-true summary.pongs pongs four.0, same_close_by_test summary.close close four.1)
reports_by_test (Counts frames messages pings pongs close) (Refused refusal) test = absurd (false≢true test)
reports_by_test (Counts frames messages pings pongs close) (Cut summary) test = absurd (false≢true test)

pub judged : (role : Role) (limits : Limits) (bytes : List ℕ) (short : ShortVerdict) (range : in_range limits ≡ true) (in_bytes : all_bytes bytes ≡ true) →
    reports short (found role limits (range_by_test limits range) bytes (bytes_by_test bytes in_bytes)).verdict ≡ true → Judged role limits bytes short
judged role limits bytes short range in_bytes test =
    let v = found role limits (range_by_test limits range) bytes (bytes_by_test bytes in_bytes) in
    record { frames = v.frames; verdict = v.verdict; is = v.is; reports = reports_by_test short v.verdict test }

-- ---- the meaning

pub means : (role : Role) (limits : Limits) (bytes : List ℕ) (events : List MeantEvent) (range : in_range limits ≡ true) (in_bytes : all_bytes bytes ≡ true) →
    meaning (found role limits (range_by_test limits range) bytes (bytes_by_test bytes in_bytes)).frames ≡ events → Means role limits bytes events
means role limits bytes events range in_bytes is =
    let v = found role limits (range_by_test limits range) bytes (bytes_by_test bytes in_bytes) in
    record { frames = v.frames; verdict = v.verdict; is = v.is; means = is }
