-- The report on a capture and that on its redaction are the same.
use Rattle.std.proofs.Common.{◌≡◌, ℕ, suc, ◌-◌, ◌↔◌, Bool, Option, None, Some, List, [], length, inl, inr, refl, sym, ap, ◌∙◌, subst, arith}
use Rattle.wsn_wire.specs.declared.endpoint.Role.{Role}
use Rattle.wsn_wire.specs.declared.endpoint.Role.TheVariants.{Client, Server}
use Rattle.wsn_wire.specs.Frame.{Frame, IsBytes, stream}
use Rattle.wsn_rules.specs.declared.verdict.Verdict.{Verdict}
use Rattle.wsn_rules.specs.declared.verdict.Verdict.TheVariants.{Accepted, Cut, Refused}
use Rattle.wsn_rules.specs.declared.closing_handshake.Side.{Side}
use Rattle.wsn_rules.specs.declared.closing_handshake.Report.{Report}
use Rattle.wsn_rules.specs.Limits.{Limits}
use Rattle.wsn_rules.specs.Lawful.{IsLawful}
use Rattle.wsn_rules.specs.AfterClose.{HasNoClose, EndsWithClose}
use Rattle.wsn_rules.specs.Accepted.{IsAccepted}
use Rattle.wsn_rules.specs.Summary.{counted}
use Rattle.wsn_rules.specs.Verdict.{IsVerdict}
use Rattle.wsn_rules.specs.Entries.{Entry}
use Rattle.wsn_rules.specs.Sides.{sent, has_ended, side_of, IsSide}
use Rattle.wsn_rules.specs.ClosingHandshake.{ClosesIn, IsFirst, other_endpoint, IsOutcome, IsReportOf, IsReport}
use Rattle.wsn_rules.proofs.OneEntry.{same_entries}
use Rattle.wsn_rules.proofs.OneVerdict.{one_verdict}
use Rattle.wsn_redact.specs.Redaction.{redacted_frames, IsRedaction}
use Rattle.wsn_redact.specs.RedactedCaptures.{IsRedactedCapture}
use Rattle.wsn_laws.specs.AlikeCaptures.{AreAlike}
use Rattle.wsn_redact.proofs.OneRedaction.{frames_length}
use Rattle.wsn_redact.proofs.RedactedPayloads.{are_redacted}
use Rattle.wsn_redact.proofs.RedactedVerdicts.{no_close_stays, close_stays, stays_accepted}
use Rattle.wsn_redact.proofs.SameVerdicts.{verdict_stays}
use Rattle.wsn_laws.proofs.RedactedEntries.{AllBytes, entries_given, all_bytes, others_given, others_alike, ended_alike, sent_alike}

-- ---- a side

module _ (role : Role) (limits : Limits) (x y : List ℕ) (in_bytes : IsBytes x) (d : IsRedaction role limits x y) where
  pub side_on : (ended : Bool) (side : Side) → IsSide role limits x ended side → IsSide role limits y ended side
  side_on ended side is = (redacted_frames [] is.0, is.1, verdict_stays role limits x y is.0 is.1 in_bytes is.2 d, is.3)

  pub side_back : (ended : Bool) (side : Side) → IsSide role limits y ended side → IsSide role limits x ended side
  side_back ended side is =
      let stays = verdict_stays role limits x y d.frames d.verdict in_bytes d.is_verdict d in
      let same : is.1 ≡ d.verdict = (one_verdict role limits y is.0 (redacted_frames [] d.frames) is.1 d.verdict is.2 stays).1 in
      (d.frames, d.verdict, d.is_verdict, is.3 ∙ ap (λ (v : Verdict). side_of v ended) same)

  -- The frames of a redaction that is accepted with a Close.
  pub record ClosedBack (gs : List Frame) : Type 0 where
    pub frames : List Frame
    pub accepted : IsAccepted role limits x frames
    pub closes : EndsWithClose frames
    pub size : length (stream gs) ≡ length (stream frames)

  pub same_size : (fs : List Frame) → IsLawful role limits fs → length (stream (redacted_frames [] fs)) ≡ length (stream fs)
  same_size fs lawful = frames_length [] fs (redacted_frames [] fs) (are_redacted role limits [] fs lawful)

  closed_back : (gs : List Frame) → IsAccepted role limits y gs → EndsWithClose gs → ClosedBack gs
  closed_back gs is closes = by d.verdict d.is_verdict (one_verdict role limits y hs gs d.verdict w (verdict_stays role limits x y d.frames d.verdict in_bytes d.is_verdict d) (is, refl))
    where
      hs : List Frame
      hs = redacted_frames [] d.frames

      w : Verdict
      w = Accepted (counted gs (length (stream gs)) (length y - length (stream gs)))

      by : (v : Verdict) → IsVerdict role limits x d.frames v → (hs ≡ gs) × (v ≡ w) → ClosedBack gs
      by (Accepted s) own same = record {
        frames = d.frames;
        accepted = own.0;
        closes = elim own.0.ends [
          | inl ends ↦
              let none = subst HasNoClose same.0 (no_close_stays d.frames ends.0) in
              absurd (none closes.0 [] closes.1 closes.3 closes.2)
          | inr ends ↦ ends.0
        ];
        size = ap (λ (ks : List Frame). length (stream ks)) (sym same.0) ∙ same_size d.frames own.0.lawful;
      }
      by (Cut s) own same = let other = same.1 in absurd cc
      by (Refused r) own same = let other = same.1 in absurd cc

-- ---- a capture

module _ (limits : Limits) (lines redacted : List (List ℕ)) (c : IsRedactedCapture limits lines redacted) where
  bytes : AllBytes c.entries
  bytes = all_bytes limits lines redacted c

  alike : AreAlike c.entries c.others
  alike = others_alike limits lines redacted c

  pub ended_same : (role : Role) → has_ended role c.others ≡ has_ended role c.entries
  ended_same role = ended_alike role c.entries c.others alike

  closes_on : (role : Role) (line : ℕ) → ClosesIn role limits c.entries line → ClosesIn role limits c.others line
  closes_on role line is =
      let size = same_size role limits (sent role c.entries) (sent role c.others) (bytes role) (c.streams role) is.frames is.accepted.lawful in
      record {
        frames = redacted_frames [] is.frames;
        accepted = stays_accepted role limits (sent role c.entries) (sent role c.others) is.frames is.accepted (c.streams role);
        closes = close_stays is.frames is.closes;
        before = (let less = is.before in omega (arith, less, size, sent_alike role line c.entries c.others alike));
        following = (let least = is.following in omega (arith, least, size, sent_alike role (suc line) c.entries c.others alike));
      }

  closes_back : (role : Role) (line : ℕ) → ClosesIn role limits c.others line → ClosesIn role limits c.entries line
  closes_back role line is =
      let back = closed_back role limits (sent role c.entries) (sent role c.others) (bytes role) (c.streams role) is.frames is.accepted is.closes in
      let size = back.size in
      record {
        frames = back.frames;
        accepted = back.accepted;
        closes = back.closes;
        before = (let less = is.before in omega (arith, less, size, sent_alike role line c.entries c.others alike));
        following = (let least = is.following in omega (arith, least, size, sent_alike role (suc line) c.entries c.others alike));
      }

  first_on : (first : Option Role) → IsFirst limits c.entries first → IsFirst limits c.others first
  first_on (Some role) is = (is.0, closes_on role is.0 is.1, λ line closes. is.2 line (closes_back (other_endpoint role) line closes))
  first_on None is = λ role line closes. is role line (closes_back role line closes)

  first_back : (first : Option Role) → IsFirst limits c.others first → IsFirst limits c.entries first
  first_back (Some role) is = (is.0, closes_back role is.0 is.1, λ line closes. is.2 line (closes_on (other_endpoint role) line closes))
  first_back None is = λ role line closes. is role line (closes_on role line closes)

  of_side_on : (role : Role) (side : Side) → IsSide role limits (sent role c.entries) (has_ended role c.entries) side → IsSide role limits (sent role c.others) (has_ended role c.others) side
  of_side_on role side is =
      subst (λ (ended : Bool). IsSide role limits (sent role c.others) ended side) (sym (ended_same role))
      (side_on role limits (sent role c.entries) (sent role c.others) (bytes role) (c.streams role) (has_ended role c.entries) side is)

  of_side_back : (role : Role) (side : Side) → IsSide role limits (sent role c.others) (has_ended role c.others) side → IsSide role limits (sent role c.entries) (has_ended role c.entries) side
  of_side_back role side is =
      side_back role limits (sent role c.entries) (sent role c.others) (bytes role) (c.streams role) (has_ended role c.entries) side
      (subst (λ (ended : Bool). IsSide role limits (sent role c.others) ended side) (ended_same role) is)

  report_on : (report : Report) → IsReportOf limits c.entries report → IsReportOf limits c.others report
  report_on report is = record {
    client = of_side_on Client report.client is.client;
    server = of_side_on Server report.server is.server;
    first = first_on report.first is.first;
    echo = is.echo;
    client_sees = is.client_sees;
    server_sees = is.server_sees;
    outcome =
        subst (λ (ended : Bool). IsOutcome report.client report.server ended (has_ended Server c.others) report.outcome) (sym (ended_same Client))
        (subst (λ (ended : Bool). IsOutcome report.client report.server (has_ended Client c.entries) ended report.outcome) (sym (ended_same Server)) is.outcome);
  }

  report_back : (report : Report) → IsReportOf limits c.others report → IsReportOf limits c.entries report
  report_back report is = record {
    client = of_side_back Client report.client is.client;
    server = of_side_back Server report.server is.server;
    first = first_back report.first is.first;
    echo = is.echo;
    client_sees = is.client_sees;
    server_sees = is.server_sees;
    outcome =
        subst (λ (ended : Bool). IsOutcome report.client report.server ended (has_ended Server c.entries) report.outcome) (ended_same Client)
        (subst (λ (ended : Bool). IsOutcome report.client report.server (has_ended Client c.others) ended report.outcome) (ended_same Server) is.outcome);
  }

  pub same_report : (report : Report) → IsReport limits lines report ↔ IsReport limits redacted report
  same_report report = (
    λ is. record {
      entries = c.others;
      given = others_given limits lines redacted c;
      is = report_on report (subst (λ (es : List Entry). IsReportOf limits es report) (same_entries lines is.entries c.entries is.given (entries_given limits lines redacted c)) is.is);
    },
    λ is. record {
      entries = c.entries;
      given = entries_given limits lines redacted c;
      is = report_back report (subst (λ (es : List Entry). IsReportOf limits es report) (same_entries redacted is.entries c.others is.given (others_given limits lines redacted c)) is.is);
    },
  )
