-- The entries of lines and the report on them, where they compute: for lines that are written out.
use Rattle.std.proofs.Common.{◌≡◌, ℕ, suc, ◌<◌, Bool, true, false, not, ◌&&◌, ◌==◌, inl, inr, ◌-◌, Ok, List, [], ◌∷◌, ◌++◌, Some, None, length, take, nat_lt, nat_le, refl, sym, ap, ◌∙◌, arith}
use Rattle.std.proofs.lemmas.Bool.{and_parts, and_from, cases_lt, ltb-true, leb-true, eqb-false, not-true, false≢true}
use Rattle.hex.specs.Hex.{decode_of}
use Rattle.wsn_wire.specs.declared.endpoint.Role.{Role}
use Rattle.wsn_wire.specs.declared.endpoint.Role.TheVariants.{Client, Server}
use Rattle.wsn_wire.specs.declared.opcode.Op.{Op}
use Rattle.wsn_wire.specs.declared.opcode.Op.TheVariants as op
use Rattle.wsn_wire.specs.Frame.{Frame, stream}
use Rattle.wsn_rules.specs.declared.verdict.Verdict.{Verdict}
use Rattle.wsn_rules.specs.declared.verdict.Verdict.TheVariants.{Accepted, Cut, Refused}
use Rattle.wsn_rules.specs.declared.closing_handshake.Report.{Report}
use Rattle.wsn_rules.specs.Limits.{Limits}
use Rattle.wsn_rules.specs.AfterClose.{EndsWithClose}
use Rattle.wsn_rules.specs.Accepted.{IsAccepted}
use Rattle.wsn_rules.specs.Summary.{counted}
use Rattle.wsn_rules.specs.Verdict.{IsVerdict}
use Rattle.wsn_rules.specs.TextLines.{IsLine}
use Rattle.wsn_rules.specs.Entries.{Entry, GivesEntry, bytes_prefix}
use Rattle.wsn_rules.specs.Entries.Entry.{Bytes}
use Rattle.wsn_rules.specs.Sides.{sent, has_ended, side_of}
use Rattle.wsn_rules.specs.ClosingHandshake.{ClosesIn, IsFirst, other_endpoint, echo_of, seen_of, IsReportOf}
use Rattle.wsn_rules.proofs.EveryInput.{HasVerdict}
use Rattle.wsn_rules.proofs.OneVerdict.{one_verdict}
use Rattle.wsn_rules.proofs.Computed.{all_bytes, bytes_by_test, in_range, range_by_test, found}
use Rattle.wsn_rules.proofs.Outcomes.{has_outcome, is_outcome}
use Rattle.wsn_rules.proofs.OneReport.{sent_grows}

-- ---- lines and entries

abbrev pub has_no_lf : List ℕ → Bool
has_no_lf [] = true
has_no_lf (b ∷ line) = not (b == 10) && has_no_lf line

pub line_by_test : (line : List ℕ) → has_no_lf line ≡ true → IsLine line
line_by_test [] test = tt
line_by_test (b ∷ line) test =
    let parts = and_parts (not (b == 10)) (has_no_lf line) test in
    (eqb-false b 10 (not-true (b == 10) parts.0), line_by_test line parts.1)

-- A line of bytes, by its first digit and its other digits.
pub given_bytes : (role : Role) (digit : ℕ) (digits bytes : List ℕ) → decode_of (digit ∷ digits) ≡ Ok bytes → GivesEntry (bytes_prefix role ++ digit ∷ digits) (Bytes role bytes)
given_bytes role digit digits bytes decoded = (digit ∷ digits, refl, ((λ none. cc none), decoded))

-- ---- a Close at the end

abbrev pub is_close : Op → Bool
is_close op.Close = true
is_close op = false

abbrev pub last_is_close : List Frame → Bool
last_is_close [] = false
last_is_close (f ∷ []) = is_close f.op
last_is_close (f ∷ g ∷ fs) = last_is_close (g ∷ fs)

close_by_test : (o : Op) → is_close o ≡ true → o ≡ op.Close
close_by_test op.Close test = refl
close_by_test _ test = absurd (false≢true test)

closes_by_test : (fs : List Frame) → last_is_close fs ≡ true → EndsWithClose fs
closes_by_test [] test = absurd (false≢true test)
closes_by_test (f ∷ []) test = ([], f, close_by_test f.op test, refl)
closes_by_test (f ∷ g ∷ fs) test =
    let rest = closes_by_test (g ∷ fs) test in
    (f ∷ rest.0, rest.1, rest.2, ap (λ (hs : List Frame). f ∷ hs) rest.3)

last_closes : (before : List Frame) (close : Frame) → close.op ≡ op.Close → last_is_close (before ++ close ∷ []) ≡ true
last_closes [] close is = ap is_close is
last_closes (f ∷ []) close is = ap is_close is
last_closes (f ∷ g ∷ before) close is = last_closes (g ∷ before) close is

abbrev pub is_accepted : Verdict → Bool
is_accepted (Accepted summary) = true
is_accepted (Cut summary) = false
is_accepted (Refused refusal) = false

-- ---- the report

module _ (limits : Limits) (entries : List Entry) (range : in_range limits ≡ true) (client : all_bytes (sent Client entries) ≡ true) (server : all_bytes (sent Server entries) ≡ true) where
  pub in_bytes : (role : Role) → all_bytes (sent role entries) ≡ true
  in_bytes Client = client
  in_bytes Server = server

  -- the verdict on the endpoint's stream
  unfoldable pub judged_stream : (role : Role) → HasVerdict role limits (range_by_test limits range) (sent role entries)
  unfolding found
  judged_stream role = found role limits (range_by_test limits range) (sent role entries) (bytes_by_test (sent role entries) (in_bytes role))

  -- whether the stream has a Close
  abbrev pub has_close : Role → Bool
  has_close role = is_accepted (judged_stream role).verdict && last_is_close (judged_stream role).frames

  -- whether fewer of the endpoint's bytes are in the first lines than its frames have
  abbrev pub is_due : Role → ℕ → Bool
  is_due role count = nat_lt (length (sent role (take count entries))) (length (stream (judged_stream role).frames))

  abbrev pub has_come : Role → ℕ → Bool
  has_come role count = nat_le (length (stream (judged_stream role).frames)) (length (sent role (take count entries)))

  accepted_by : (role : Role) (frames : List Frame) (verdict : Verdict) → IsVerdict role limits (sent role entries) frames verdict → is_accepted verdict ≡ true → IsAccepted role limits (sent role entries) frames
  accepted_by role frames (Accepted summary) is test = is.0
  accepted_by role frames (Cut summary) is test = absurd (false≢true test)
  accepted_by role frames (Refused refusal) is test = absurd (false≢true test)

  closes_there : (role : Role) (line : ℕ) → has_close role ≡ true → is_due role line ≡ true → has_come role (suc line) ≡ true → ClosesIn role limits entries line
  closes_there role line closes due come =
      let v = judged_stream role in
      let parts = and_parts (is_accepted v.verdict) (last_is_close v.frames) closes in
      record {
        frames = v.frames;
        accepted = accepted_by role v.frames v.verdict v.is parts.0;
        closes = closes_by_test v.frames parts.1;
        before = ltb-true (length (sent role (take line entries))) (length (stream v.frames)) due;
        following = leb-true (length (stream v.frames)) (length (sent role (take (suc line) entries))) come;
      }

  -- the frames up to a Close are those of the verdict
  same_frames : (role : Role) (line : ℕ) (closes : ClosesIn role limits entries line) → (closes.frames ≡ (judged_stream role).frames) × (is_accepted (judged_stream role).verdict ≡ true)
  same_frames role line closes =
      let v = judged_stream role in
      let all : Verdict = Accepted (counted closes.frames (length (stream closes.frames)) (length (sent role entries) - length (stream closes.frames))) in
      let same = one_verdict role limits (sent role entries) closes.frames v.frames all v.verdict (closes.accepted, refl) v.is in
      (same.0, sym (ap is_accepted same.1))

  closes_nowhere : (role : Role) → has_close role ≡ false → (line : ℕ) → ClosesIn role limits entries line → ⊥
  closes_nowhere role none line closes =
      let v = judged_stream role in
      let same = same_frames role line closes in
      let end = closes.closes in
      let last : last_is_close v.frames ≡ true = ap last_is_close (sym same.0 ∙ end.3) ∙ last_closes end.0 end.1 end.2 in
      false≢true (sym none ∙ and_from (is_accepted v.verdict) (last_is_close v.frames) same.1 last)

  closes_later : (role : Role) (line : ℕ) → is_due role (suc line) ≡ true → (other : ℕ) → ClosesIn role limits entries other → line < other
  closes_later role line due other closes =
      let v = judged_stream role in
      let less = ltb-true (length (sent role (take (suc line) entries))) (length (stream v.frames)) due in
      let same = ap (λ (fs : List Frame). length (stream fs)) (same_frames role other closes).0 in
      let there = closes.following in
      elim (cases_lt line other) [
        | inl after ↦ after
        | inr le ↦ let grows = sent_grows role entries (suc other) (suc line) (omega (arith, le)) in absurd (omega (arith, less, same, there, grows))
      ]

  -- no endpoint sent a Close; one did; or both did, and this one's was complete first
  pub none_first : has_close Client ≡ false → has_close Server ≡ false → IsFirst limits entries None
  none_first client_open server_open Client = closes_nowhere Client client_open
  none_first client_open server_open Server = closes_nowhere Server server_open

  pub alone_first : (role : Role) (line : ℕ) → has_close role ≡ true → is_due role line ≡ true → has_come role (suc line) ≡ true → has_close (other_endpoint role) ≡ false → IsFirst limits entries (Some role)
  alone_first role line closes due come none = (line, closes_there role line closes due come, λ other there. absurd (closes_nowhere (other_endpoint role) none other there))

  pub earlier_first : (role : Role) (line : ℕ) → has_close role ≡ true → is_due role line ≡ true → has_come role (suc line) ≡ true → is_due (other_endpoint role) (suc line) ≡ true → IsFirst limits entries (Some role)
  earlier_first role line closes due come later = (line, closes_there role line closes due come, closes_later (other_endpoint role) line later)

  pub report_is : (report : Report) → IsFirst limits entries report.first
      → report.client ≡ side_of (judged_stream Client).verdict (has_ended Client entries)
      → report.server ≡ side_of (judged_stream Server).verdict (has_ended Server entries)
      → report.echo ≡ echo_of report.client report.server
      → report.client_sees ≡ seen_of report.server → report.server_sees ≡ seen_of report.client
      → (has_outcome report.client report.server (has_ended Client entries) (has_ended Server entries)).0 ≡ report.outcome
      → IsReportOf limits entries report
  report_is report first of_client of_server echo client_sees server_sees outcome = record {
    client = ((judged_stream Client).frames, (judged_stream Client).verdict, (judged_stream Client).is, of_client);
    server = ((judged_stream Server).frames, (judged_stream Server).verdict, (judged_stream Server).is, of_server);
    first = first;
    echo = echo;
    client_sees = client_sees;
    server_sees = server_sees;
    outcome = is_outcome report.client report.server (has_ended Client entries) (has_ended Server entries) report.outcome outcome;
  }
