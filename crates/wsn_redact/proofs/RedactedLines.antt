-- One more line of a capture that is redacted.
use Rattle.std.proofs.Common.{◌≡◌, ◌≤◌, ◌<◌, ℕ, List, [], ◌∷◌, ◌++◌, length, take, refl, sym, ap, ◌∙◌, subst, append_assoc, append-nil, length-append, length-take-le, arith}
use Rattle.std.proofs.lemmas.List.{take_all}
use Rattle.std.proofs.Math.Seq.{take-append_seam}
use Rattle.wsn_wire.specs.declared.endpoint.Role.{Role}
use Rattle.wsn_wire.specs.declared.endpoint.Role.TheVariants.{Client, Server}
use Rattle.wsn_rules.specs.Limits.{Limits}
use Rattle.wsn_rules.specs.Entries.{Entry, without_cr}
use Rattle.wsn_rules.specs.Entries.Entry.{Nothing, Bytes, Mark}
use Rattle.wsn_rules.specs.Sides.{bytes_in, sent}
use Rattle.wsn_scan.specs.declared.scan.Scan.{Scan}
use Rattle.wsn_capture.specs.declared.capture_lines.CaptureLines.{CaptureLines}
use Rattle.wsn_capture.specs.declared.line_fault.LineFault.TheVariants.{TooLong}
use Rattle.wsn_capture.specs.declared.line_form.LineEntry.{LineEntry}
use Rattle.wsn_capture.specs.declared.line_form.LineEntry.TheVariants as gives
use Rattle.wsn_capture.specs.LineEntries.{held_entry, FitsInLine}
use Rattle.wsn_capture.specs.LineFaults.{IsAcceptedLine, AreAcceptedAfter}
use Rattle.wsn_capture.specs.CaptureLines.{HasAccepted}
use Rattle.wsn_capture.proofs.ClosingLines.{sent-push}
use Rattle.wsn_capture.proofs.AcceptedLines.{own_bytes, no_bytes_in_nothing, no_bytes_in_mark}
use Rattle.wsn_redact.specs.declared.redacted_payload.Redactor.{Redactor}
use Rattle.wsn_redact.specs.declared.capture_redactor.CaptureRedactor.{CaptureRedactor}
use Rattle.wsn_redact.specs.RedactedParts.{HasRedacted, RedactsOn}
use Rattle.wsn_redact.specs.RedactedCaptures.{IsRedactedLine, AreRedactedLines, IsRedactedCapture}
use Rattle.wsn_redact.specs.PassedRedactions.{stream_of, AreStreams, HasRoomForEntry, HasRedactedLines, RedactsLine}
use Rattle.wsn_redact.proofs.RedactedInputs.{some_redaction}

-- ---- streams

sent_own : (role : Role) (given : List Entry) (bytes : List ℕ) → sent role (given ++ Bytes role bytes ∷ []) ≡ sent role given ++ bytes
sent_own role given bytes = sent-push role given (Bytes role bytes) ∙ ap (λ (bs : List ℕ). sent role given ++ bs) (own_bytes role bytes)

sent_same : (role : Role) (given : List Entry) (entry : Entry) → bytes_in role entry ≡ [] → sent role (given ++ entry ∷ []) ≡ sent role given
sent_same role given entry none = sent-push role given entry ∙ ap (λ (bs : List ℕ). sent role given ++ bs) none ∙ append-nil (sent role given)

redacted_as : (role : Role) (limits : Limits) (scan : Scan) (kept : Redactor) (came written bytes redacted : List ℕ) → came ≡ bytes → written ≡ redacted
    → HasRedacted role limits scan kept came written → HasRedacted role limits scan kept bytes redacted
redacted_as role limits scan kept came written bytes redacted is also has =
    subst (λ (bs : List ℕ). HasRedacted role limits scan kept bs redacted) is (subst (λ (bs : List ℕ). HasRedacted role limits scan kept came bs) also has)

-- bytes of the endpoint
own_on : (role : Role) (limits : Limits) (scan next : Scan) (kept next_kept : Redactor) (bytes after : List ℕ) (entries others : List Entry)
    → RedactsOn scan kept next next_kept bytes after (length bytes) → length after ≡ length bytes → HasRedacted role limits scan kept (sent role entries) (sent role others)
    → HasRedacted role limits next next_kept (sent role (entries ++ Bytes role bytes ∷ [])) (sent role (others ++ Bytes role after ∷ []))
own_on role limits scan next kept next_kept bytes after entries others step sized has =
    redacted_as role limits next next_kept (sent role entries ++ take (length bytes) bytes) (sent role others ++ take (length bytes) after) _ _
    (ap (λ (bs : List ℕ). sent role entries ++ bs) (take_all (length bytes) bytes (omega arith)) ∙ sym (sent_own role entries bytes))
    (ap (λ (bs : List ℕ). sent role others ++ bs) (take_all (length bytes) after (omega (arith, sized))) ∙ sym (sent_own role others after))
    (step role limits (sent role entries) (sent role others) has)

-- no bytes of the endpoint
same_on : (role : Role) (limits : Limits) (scan : Scan) (kept : Redactor) (entries others : List Entry) (entry other : Entry) → bytes_in role entry ≡ [] → bytes_in role other ≡ []
    → HasRedacted role limits scan kept (sent role entries) (sent role others) → HasRedacted role limits scan kept (sent role (entries ++ entry ∷ [])) (sent role (others ++ other ∷ []))
same_on role limits scan kept entries others entry other none also has =
    redacted_as role limits scan kept (sent role entries) (sent role others) _ _ (sym (sent_same role entries entry none)) (sym (sent_same role others other also)) has

module _ (old : CaptureRedactor) (next : Scan) (next_kept : Redactor) (bytes after : List ℕ) (sized : length after ≡ length bytes) (limits : Limits) (entries others : List Entry)
    (are : AreStreams limits old entries others) where
  pub client_bytes : RedactsOn old.client.scan old.client.redactor next next_kept bytes after (length bytes)
      → AreStreams limits (record old { client = record { scan = next; redactor = next_kept } }) (entries ++ Bytes Client bytes ∷ []) (others ++ Bytes Client after ∷ [])
  client_bytes step Client = own_on Client limits old.client.scan next old.client.redactor next_kept bytes after entries others step sized (are Client)
  client_bytes step Server = same_on Server limits old.server.scan old.server.redactor entries others (Bytes Client bytes) (Bytes Client after) refl refl (are Server)

  pub server_bytes : RedactsOn old.server.scan old.server.redactor next next_kept bytes after (length bytes)
      → AreStreams limits (record old { server = record { scan = next; redactor = next_kept } }) (entries ++ Bytes Server bytes ∷ []) (others ++ Bytes Server after ∷ [])
  server_bytes step Client = same_on Client limits old.client.scan old.client.redactor entries others (Bytes Server bytes) (Bytes Server after) refl refl (are Client)
  server_bytes step Server = own_on Server limits old.server.scan next old.server.redactor next_kept bytes after entries others step sized (are Server)

pub no_bytes : (old : CaptureRedactor) (limits : Limits) (entries others : List Entry) (entry other : Entry) → ((role : Role) → bytes_in role entry ≡ []) → ((role : Role) → bytes_in role other ≡ [])
    → AreStreams limits old entries others → AreStreams limits old (entries ++ entry ∷ []) (others ++ other ∷ [])
no_bytes old limits entries others entry other none also are role = same_on role limits (stream_of role old).scan (stream_of role old).redactor entries others entry other (none role) (also role) (are role)

pub with_lines : (old : CaptureRedactor) (lines : CaptureLines) (limits : Limits) (entries others : List Entry) → AreStreams limits old entries others → AreStreams limits (record old { lines = lines }) entries others
with_lines old lines limits entries others are Client = are Client
with_lines old lines limits entries others are Server = are Server

-- the bytes of an entry
pub entry_bytes : (new : CaptureRedactor) (limits : Limits) (entries others : List Entry) (entry : LineEntry) (role : Role) (count : ℕ) (held bytes tail : List ℕ) → entry ≡ gives.Bytes role count
    → length bytes ≡ count → AreStreams limits new (entries ++ Bytes role (take count held) ∷ []) (others ++ Bytes role bytes ∷ [])
    → AreStreams limits new (entries ++ held_entry entry held ∷ []) (others ++ held_entry entry (bytes ++ tail) ∷ [])
entry_bytes new limits entries others entry role count held bytes tail is size are =
    subst (λ (e : LineEntry). AreStreams limits new (entries ++ held_entry e held ∷ []) (others ++ held_entry e (bytes ++ tail) ∷ [])) (sym is)
    (subst (λ (bs : List ℕ). AreStreams limits new (entries ++ Bytes role (take count held) ∷ []) (others ++ Bytes role bs ∷ []))
    (sym (ap (λ (n : ℕ). take n (bytes ++ tail)) (sym size) ∙ take-append_seam bytes tail)) are)

pub entry_nothing : (old : CaptureRedactor) (limits : Limits) (entries others : List Entry) (entry : LineEntry) (held : List ℕ) → entry ≡ gives.Nothing
    → AreStreams limits old entries others → AreStreams limits old (entries ++ held_entry entry held ∷ []) (others ++ held_entry entry held ∷ [])
entry_nothing old limits entries others entry held is are =
    subst (λ (e : LineEntry). AreStreams limits old (entries ++ held_entry e held ∷ []) (others ++ held_entry e held ∷ [])) (sym is)
    (no_bytes old limits entries others Nothing Nothing no_bytes_in_nothing no_bytes_in_nothing are)

pub entry_mark : (old : CaptureRedactor) (limits : Limits) (entries others : List Entry) (entry : LineEntry) (role : Role) (held : List ℕ) → entry ≡ gives.Mark role
    → AreStreams limits old entries others → AreStreams limits old (entries ++ held_entry entry held ∷ []) (others ++ held_entry entry held ∷ [])
entry_mark old limits entries others entry role held is are =
    subst (λ (e : LineEntry). AreStreams limits old (entries ++ held_entry e held ∷ []) (others ++ held_entry e held ∷ [])) (sym is)
    (no_bytes old limits entries others (Mark role) (Mark role) (no_bytes_in_mark role) (no_bytes_in_mark role) are)

-- ---- a line

last_line : (limits : Limits) (before : List Entry) (lines : List (List ℕ)) (entries : List Entry) (line : List ℕ) (entry : Entry) → AreAcceptedAfter limits before lines entries
    → AreAcceptedAfter limits before (lines ++ line ∷ []) (entries ++ entry ∷ []) → IsAcceptedLine limits (before ++ entries) line entry
last_line limits before [] [] line entry are taken = subst (λ (given : List Entry). IsAcceptedLine limits given line entry) (sym (append-nil before)) taken.0
last_line limits before (l ∷ lines) (e ∷ entries) line entry are taken =
    subst (λ (given : List Entry). IsAcceptedLine limits given line entry) (append_assoc before (e ∷ []) entries) (last_line limits (before ++ e ∷ []) lines entries line entry are.1 taken.1)
last_line limits before _ _ line entry are taken = absurd are

pub line_short : (limits : Limits) (old new : CaptureLines) (lines : List (List ℕ)) (entries : List Entry) (line : List ℕ) (entry : Entry) → HasAccepted limits old lines entries
    → HasAccepted limits new (lines ++ line ∷ []) (entries ++ entry ∷ []) → length (without_cr line) ≤ 8194
line_short limits old new lines entries line entry has taken =
    let is = last_line limits [] lines entries line entry has.taken taken.taken in
    let long : 8194 < length (without_cr line) → ⊥ = λ more. is.none TooLong more in
    omega (arith, long)

pub room_for : (limits : Limits) (old : CaptureRedactor) (new : CaptureLines) (lines : List (List ℕ)) (entries others : List Entry) (line held : List ℕ) (entry : LineEntry) → length held ≡ 4096
    → FitsInLine entry → AreStreams limits old entries others
    → HasAccepted limits new (lines ++ line ∷ []) (entries ++ held_entry entry held ∷ []) → HasRoomForEntry entry (record old { lines = new })
room_for limits old new lines entries others line held gives.Nothing full fits are taken = tt
room_for limits old new lines entries others line held (gives.Mark role) full fits are taken = tt
room_for limits old new lines entries others line held (gives.Bytes role count) full fits are taken =
    let all = taken.room role in
    let size = ap (λ (bs : List ℕ). length bs) (sent_own role entries (take count held)) ∙ length-append (sent role entries) (take count held) in
    let own = length-take-le count held (omega (arith, full, fits)) in
    record {
      role = role;
      limits = limits;
      came = sent role entries;
      written = sent role others;
      has_redacted = with_lines old new limits entries others are role;
      within = omega (arith, all, size, own);
    }

redacted_push : (lines : List (List ℕ)) (entries others : List Entry) (redacted : List (List ℕ)) (line : List ℕ) (entry other : Entry) (became : List ℕ)
    → AreRedactedLines lines entries others redacted → IsRedactedLine line entry other became
    → AreRedactedLines (lines ++ line ∷ []) (entries ++ entry ∷ []) (others ++ other ∷ []) (redacted ++ became ∷ [])
redacted_push [] [] [] [] line entry other became are is = (is, tt)
redacted_push [] [] [] (r ∷ redacted) line entry other became are is = absurd are
redacted_push [] [] (o ∷ others) redacted line entry other became are is = absurd are
redacted_push (l ∷ lines) (e ∷ entries) [] redacted line entry other became are is = absurd are
redacted_push (l ∷ lines) (e ∷ entries) (o ∷ others) [] line entry other became are is = absurd are
redacted_push (l ∷ lines) (e ∷ entries) (o ∷ others) (r ∷ redacted) line entry other became are is = (are.0, redacted_push lines entries others redacted line entry other became are.1 is)
redacted_push _ _ others redacted line entry other became are is = absurd are

pub one_more : (limits : Limits) (new : CaptureRedactor) (lines : List (List ℕ)) (entries others : List Entry) (redacted : List (List ℕ)) (line : List ℕ) (entry other : Entry) (became : List ℕ)
    → HasAccepted limits new.lines (lines ++ line ∷ []) (entries ++ entry ∷ []) → AreStreams limits new (entries ++ entry ∷ []) (others ++ other ∷ [])
    → AreRedactedLines lines entries others redacted → IsRedactedLine line entry other became → RedactsLine limits new lines entries others redacted line became
one_more limits new lines entries others redacted line entry other became accepted streams each is = record {
  entry = entry;
  other = other;
  has_redacted = record { accepted = accepted; streams = streams; each = redacted_push lines entries others redacted line entry other became each is };
}

-- the lines that came are redacted
pub redacted_so_far : (limits : Limits) (redactor : CaptureRedactor) (lines : List (List ℕ)) (entries others : List Entry) (redacted : List (List ℕ))
    → HasRedactedLines limits redactor lines entries others redacted → IsRedactedCapture limits lines redacted
redacted_so_far limits redactor lines entries others redacted has = record {
  entries = entries;
  taken = has.accepted.taken;
  others = others;
  each = has.each;
  streams = λ role. some_redaction role limits (stream_of role redactor).scan (stream_of role redactor).redactor (sent role entries) (sent role others) (has.streams role);
}
