-- A stream that is scanned up to a refusal, and its further bytes.
use Rattle.std.proofs.Common.{◌≡◌, ℕ, ◌+◌, ◌≤◌, ◌⊎◌, inl, inr, true, false, Option, None, List, [], ◌∷◌, ◌++◌, length, take, drop, sym, ap, ◌∙◌, subst, append_assoc, append-nil, arith, length-append, take-append-drop}
use Rattle.std.specs.Option.{is_some}
use Rattle.std.proofs.lemmas.List.{drop_all as drop_none}
use Rattle.wsn_wire.specs.declared.endpoint.Role.{Role}
use Rattle.wsn_wire.specs.declared.endpoint.Role.TheVariants.{Client, Server}
use Rattle.wsn_wire.specs.Frame.{Frame}
use Rattle.wsn_rules.specs.declared.verdict.Verdict.{Verdict}
use Rattle.wsn_rules.specs.declared.verdict.Refusal.{Refusal}
use Rattle.wsn_rules.specs.Limits.{Limits}
use Rattle.wsn_rules.specs.Verdict.{IsVerdict}
use Rattle.wsn_rules.specs.Entries.{Entry}
use Rattle.wsn_rules.specs.Entries.Entry.{Nothing, Bytes, Mark}
use Rattle.wsn_rules.specs.Sides.{bytes_in, sent}
use Rattle.wsn_rules.proofs.StaysRefused.{stays_refused}
use Rattle.wsn_scan.specs.declared.scan.Scan.{Scan}
use Rattle.wsn_scan.specs.Positions.{Position}
use Rattle.wsn_scan.specs.Scans.{HasScanned, refusal_in, refusal_judged, room_of}
use Rattle.wsn_scan.specs.Feeding.{HasFed, IsRunning}
use Rattle.wsn_capture.specs.declared.capture_lines.CaptureLines.{CaptureLines}
use Rattle.wsn_capture.specs.declared.line_form.LineEntry.{LineEntry}
use Rattle.wsn_capture.specs.declared.line_form.LineEntry.TheVariants as entries
use Rattle.wsn_capture.specs.LineEntries.{held_entry}
use Rattle.wsn_capture.specs.CaptureLines.{HasAccepted, HasNotedCloses, HasNotedUpTo, IsVerdictOnSide, count_of}
use Rattle.wsn_capture.specs.Captures.{Captured, HasStreamed, HasAcceptedLines}
use Rattle.wsn_capture.proofs.ClosingLines.{sent-push}
use Rattle.wsn_capture.proofs.AcceptedLines.{own_bytes, judged_push, no_bytes_in_nothing, no_bytes_in_mark}

-- ---- one stream

pub refused_by : (scan : Scan) (refusal : Option Refusal) → refusal ≡ refusal_in scan → is_some refusal ≡ true → refusal_in scan ≡ None → ⊥
refused_by scan refusal is some none = let both : true ≡ false = sym some ∙ ap is_some (is ∙ none) in cc

pub unrefused_by : (scan : Scan) (refusal : Option Refusal) → refusal ≡ refusal_in scan → is_some refusal ≡ false → refusal_in scan ≡ None
unrefused_by scan refusal is none = grind arith

-- bytes after a refusal change nothing
pub streamed_after : (role : Role) (limits : Limits) (scan : Scan) (came more : List ℕ) → (refusal_in scan ≡ None → ⊥) → HasStreamed role limits scan came → HasStreamed role limits scan (came ++ more)
streamed_after role limits scan came more refused s = record {
  came = s.came;
  following = s.following ++ more;
  heads = s.heads;
  whole = ap (λ (bs : List ℕ). bs ++ more) s.whole ∙ append_assoc s.came s.following more;
  taken = s.taken;
  all = λ none. absurd (refused none);
}

-- what the scan consumes of further bytes
pub streamed_on : (role : Role) (limits : Limits) (scan new : Scan) (came more : List ℕ) (refusal : Option Refusal) → refusal_in scan ≡ None → HasFed scan new more refusal → HasStreamed role limits scan came → HasStreamed role limits new (came ++ more)
streamed_on role limits scan new came more refusal unrefused fed s =
    let whole : came ≡ s.came = s.whole ∙ ap (λ (bs : List ℕ). s.came ++ bs) (s.all unrefused) ∙ append-nil s.came in
    let all : refusal_in new ≡ None → drop fed.count more ≡ [] = λ none. let size = fed.all (fed.answered ∙ none) in drop_all fed.count more size in
    record {
      came = s.came ++ take fed.count more;
      following = drop fed.count more;
      heads = s.heads ++ fed.heads;
      whole = ap (λ (bs : List ℕ). bs ++ more) whole ∙ ap (λ (bs : List ℕ). s.came ++ bs) (sym (take-append-drop fed.count more)) ∙ sym (append_assoc s.came (take fed.count more) (drop fed.count more));
      taken = fed.consumes role limits s.came s.heads s.taken;
      all = all;
    }
  where
    drop_all : (n : ℕ) (xs : List ℕ) → n ≡ length xs → drop n xs ≡ []
    drop_all n xs is = drop_none n xs (omega (arith, is))

pub running_of : (role : Role) (limits : Limits) (scan : Scan) (came : List ℕ) → HasStreamed role limits scan came → IsRunning scan
running_of role limits scan came s = record { role = role; limits = limits; bytes = s.came; heads = s.heads; taken = s.taken }

-- the verdict on what the scan consumed is the verdict on all bytes that came
pub verdict_on_all : (role : Role) (limits : Limits) (came following : List ℕ) (fs : List Frame) (verdict : Verdict) → (refusal_judged verdict ≡ None → following ≡ []) → IsVerdict role limits came fs verdict → IsVerdict role limits (came ++ following) fs verdict
verdict_on_all role limits came following fs verdict all is = grind (arith, append-nil, stays_refused)

-- the verdict on all bytes that came
pub judged : (role : Role) (limits : Limits) (scan : Scan) (came : List ℕ) (verdict : Verdict) → HasStreamed role limits scan came
    → ((role : Role) (limits : Limits) (bytes rest : List ℕ) (fs : List Frame) (at : Position) → HasScanned role limits scan bytes fs rest at → IsVerdict role limits bytes fs verdict)
    → refusal_judged verdict ≡ refusal_in scan → (fs : List Frame) × IsVerdict role limits came fs verdict
judged role limits scan came verdict s is reported =
    let taken = s.taken in (
      taken.frames,
      subst (λ (bs : List ℕ). IsVerdict role limits bs taken.frames verdict) (sym s.whole)
          (verdict_on_all role limits s.came s.following taken.frames verdict (λ none. s.all (sym reported ∙ none)) (is role limits s.came taken.since taken.frames _ taken.has_scanned)),
    )

-- ---- one more line

-- the scan has room for the bytes of a line that was accepted
pub room_for : (role : Role) (limits : Limits) (scan : Scan) (accepted : CaptureLines) (lines : List (List ℕ)) (given : List Entry) (bytes line : List ℕ) → HasAccepted limits accepted (lines ++ line ∷ []) (given ++ Bytes role bytes ∷ [])
    → HasStreamed role limits scan (sent role given) → length bytes ≤ room_of scan
room_for role limits scan accepted lines given bytes line has s =
    let all = ap (λ (bs : List ℕ). length bs) (sent-push role given (Bytes role bytes) ∙ ap (λ (bs : List ℕ). sent role given ++ bs) (own_bytes role bytes)) ∙ length-append (sent role given) bytes in
    let own = s.taken.has_scanned.has_consumed.room in
    omega (arith, has.room role, all, ap (λ (bs : List ℕ). length bs) s.whole ∙ length-append s.came s.following, own)

module _ (limits : Limits) (capture : Captured) (lines : List (List ℕ)) (has : HasAcceptedLines limits capture lines) (noted : CaptureLines) (line : List ℕ) where
  pub client_line : (scan : Scan) (bytes : List ℕ) → HasAccepted limits noted (lines ++ line ∷ []) (has.entries ++ Bytes Client bytes ∷ []) → HasNotedCloses limits noted (has.entries ++ Bytes Client bytes ∷ [])
      → HasStreamed Client limits scan (sent Client has.entries ++ bytes) → HasAcceptedLines limits (record { lines = noted; client = scan; server = capture.server }) (lines ++ line ∷ [])
  client_line scan bytes accepted closes came = grind (arith, sent-push, append-nil)

  pub server_line : (scan : Scan) (bytes : List ℕ) → HasAccepted limits noted (lines ++ line ∷ []) (has.entries ++ Bytes Server bytes ∷ []) → HasNotedCloses limits noted (has.entries ++ Bytes Server bytes ∷ [])
      → HasStreamed Server limits scan (sent Server has.entries ++ bytes) → HasAcceptedLines limits (record { lines = noted; client = capture.client; server = scan }) (lines ++ line ∷ [])
  server_line scan bytes accepted closes came = grind (arith, sent-push, append-nil)

  -- a line without bytes
  pub other_line : (entry : Entry) → ((role : Role) → bytes_in role entry ≡ []) → HasAccepted limits noted (lines ++ line ∷ []) (has.entries ++ entry ∷ []) → HasNotedCloses limits noted (has.entries ++ entry ∷ [])
      → HasAcceptedLines limits (record { lines = noted; client = capture.client; server = capture.server }) (lines ++ line ∷ [])
  other_line entry none accepted closes = record {
    entries = has.entries ++ entry ∷ [];
    accepted = accepted;
    noted = closes;
    client = subst (HasStreamed Client limits capture.client) (sym (sent-push Client has.entries entry ∙ ap (λ (bs : List ℕ). sent Client has.entries ++ bs) (none Client) ∙ append-nil (sent Client has.entries))) has.client;
    server = subst (HasStreamed Server limits capture.server) (sym (sent-push Server has.entries entry ∙ ap (λ (bs : List ℕ). sent Server has.entries ++ bs) (none Server) ∙ append-nil (sent Server has.entries))) has.server;
  }

-- The verdict on whatever the scan has consumed.
abbrev pub Judges : Scan → Verdict → Type 0
Judges scan verdict = (role : Role) (limits : Limits) (bytes rest : List ℕ) (fs : List Frame) (at : Position) → HasScanned role limits scan bytes fs rest at → IsVerdict role limits bytes fs verdict

-- What is noted of the endpoint's stream with the bytes of the line, given the verdict on it.
abbrev pub Notes : CaptureLines → CaptureLines → Role → List ℕ → Verdict → Type 0
Notes old new role line verdict =
    (limits : Limits) (lines : List (List ℕ)) (given : List Entry) (bytes : List ℕ) → HasAccepted limits old (lines ++ line ∷ []) (given ++ Bytes role bytes ∷ []) → HasNotedCloses limits old given
    → IsVerdictOnSide role limits (given ++ Bytes role bytes ∷ []) verdict → HasNotedCloses limits new (given ++ Bytes role bytes ∷ [])

-- What the lines say once they have accepted one more, before its bytes are scanned.
module _ (capture : Captured) (line : List ℕ) (accepted : CaptureLines) (entry : LineEntry) (held : List ℕ)
    (takes : (limits : Limits) (lines : List (List ℕ)) (given : List Entry) → HasAccepted limits capture.lines lines given → HasAccepted limits accepted (lines ++ line ∷ []) (given ++ held_entry entry held ∷ []))
    (closes : (limits : Limits) (given : List Entry) → HasNotedCloses limits capture.lines given → HasNotedUpTo limits accepted given (held_entry entry held))
    (limits : Limits) (lines : List (List ℕ)) (has : HasAcceptedLines limits capture lines) where
  module _ (role : Role) (count : ℕ) (is : entry ≡ entries.Bytes role count) where
    of_bytes : HasAccepted limits accepted (lines ++ line ∷ []) (has.entries ++ Bytes role (take count held) ∷ [])
    of_bytes = subst (λ (e : LineEntry). HasAccepted limits accepted (lines ++ line ∷ []) (has.entries ++ held_entry e held ∷ [])) is (takes limits lines has.entries has.accepted)

    before_bytes : HasNotedCloses limits accepted has.entries
    before_bytes = subst (λ (e : LineEntry). HasNotedUpTo limits accepted has.entries (held_entry e held)) is (closes limits has.entries has.noted)

    pub fits_scan : (scan : Scan) → HasStreamed role limits scan (sent role has.entries) → length (take count held) ≤ room_of scan
    fits_scan scan s = room_for role limits scan accepted lines has.entries (take count held) line of_bytes s

    -- the verdict on the stream with these bytes
    pub judged_bytes : (scan : Scan) (verdict : Verdict) → HasStreamed role limits scan (sent role has.entries ++ take count held) → Judges scan verdict → refusal_judged verdict ≡ refusal_in scan
        → IsVerdictOnSide role limits (has.entries ++ Bytes role (take count held) ∷ []) verdict
    judged_bytes scan verdict streams judges reported =
        judged_push role limits has.entries (take count held) verdict (judged role limits scan (sent role has.entries ++ take count held) verdict streams judges reported)

  pub client_done : (count : ℕ) → entry ≡ entries.Bytes Client count → (scan : Scan) (noted : CaptureLines) (verdict : Verdict)
      → ((role : Role) (limits : Limits) (came : List ℕ) → HasStreamed role limits capture.client came → HasStreamed role limits scan (came ++ take count held))
      → Judges scan verdict → refusal_judged verdict ≡ refusal_in scan
      → Notes accepted noted Client line verdict
      → ((limits : Limits) (lines : List (List ℕ)) (given : List Entry) → HasAccepted limits accepted lines given → HasAccepted limits noted lines given)
      → HasAcceptedLines limits (record { lines = noted; client = scan; server = capture.server }) (lines ++ line ∷ [])
  client_done count is scan noted verdict streams judges reported notes keeps =
      let came = streams Client limits (sent Client has.entries) has.client in
      client_line limits capture lines has noted line scan (take count held) (keeps limits (lines ++ line ∷ []) (has.entries ++ Bytes Client (take count held) ∷ []) (of_bytes Client count is))
      (notes limits lines has.entries (take count held) (of_bytes Client count is) (before_bytes Client count is) (judged_bytes Client count is scan verdict came judges reported)) came

  pub server_done : (count : ℕ) → entry ≡ entries.Bytes Server count → (scan : Scan) (noted : CaptureLines) (verdict : Verdict)
      → ((role : Role) (limits : Limits) (came : List ℕ) → HasStreamed role limits capture.server came → HasStreamed role limits scan (came ++ take count held))
      → Judges scan verdict → refusal_judged verdict ≡ refusal_in scan
      → Notes accepted noted Server line verdict
      → ((limits : Limits) (lines : List (List ℕ)) (given : List Entry) → HasAccepted limits accepted lines given → HasAccepted limits noted lines given)
      → HasAcceptedLines limits (record { lines = noted; client = capture.client; server = scan }) (lines ++ line ∷ [])
  server_done count is scan noted verdict streams judges reported notes keeps =
      let came = streams Server limits (sent Server has.entries) has.server in
      server_line limits capture lines has noted line scan (take count held) (keeps limits (lines ++ line ∷ []) (has.entries ++ Bytes Server (take count held) ∷ []) (of_bytes Server count is))
      (notes limits lines has.entries (take count held) (of_bytes Server count is) (before_bytes Server count is) (judged_bytes Server count is scan verdict came judges reported)) came

  pub nothing_done : (entry ≡ entries.Nothing) ⊎ ((role : Role) × (entry ≡ entries.Mark role)) → HasAcceptedLines limits (record { lines = accepted; client = capture.client; server = capture.server }) (lines ++ line ∷ [])
  nothing_done (inl none) =
      other_line limits capture lines has accepted line Nothing no_bytes_in_nothing
      (subst (λ (e : LineEntry). HasAccepted limits accepted (lines ++ line ∷ []) (has.entries ++ held_entry e held ∷ [])) none (takes limits lines has.entries has.accepted))
      (subst (λ (e : LineEntry). HasNotedUpTo limits accepted has.entries (held_entry e held)) none (closes limits has.entries has.noted))
  nothing_done (inr mark) =
      other_line limits capture lines has accepted line (Mark mark.0) (no_bytes_in_mark mark.0)
      (subst (λ (e : LineEntry). HasAccepted limits accepted (lines ++ line ∷ []) (has.entries ++ held_entry e held ∷ [])) mark.1 (takes limits lines has.entries has.accepted))
      (subst (λ (e : LineEntry). HasNotedUpTo limits accepted has.entries (held_entry e held)) mark.1 (closes limits has.entries has.noted))

pub counted : (capture : Captured) (old accepted noted : CaptureLines) → old ≡ capture.lines → (count_of accepted ≡ count_of old + 1) × (count_of accepted ≤ 1000000) → count_of noted ≡ count_of accepted
    → (count_of noted ≡ count_of capture.lines + 1) × (count_of noted ≤ 1000000)
counted capture old accepted noted is more same = grind arith
