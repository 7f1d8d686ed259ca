-- The state of a capture's lines, as lines are added.
use Rattle.std.proofs.Common.{◌≡◌, ℕ, ◌+◌, ◌-◌, ◌<◌, ◌≤◌, true, false, Bool, Option, None, Some, Result, Ok, Err, List, [], ◌∷◌, ◌++◌, length, take, refl, sym, ap, ◌∙◌, subst, length-append, length-take, length-take-le, arith}
use Rattle.std.specs.Prelude.{IsSome}
use Rattle.wsn_wire.specs.Frame.{Frame}
use Rattle.wsn_wire.specs.declared.endpoint.Role.{Role}
use Rattle.wsn_wire.specs.declared.endpoint.Role.TheVariants.{Client, Server}
use Rattle.wsn_rules.specs.Limits.{Limits}
use Rattle.wsn_rules.specs.declared.verdict.Refusal.{Refusal}
use Rattle.wsn_rules.specs.declared.verdict.Verdict.{Verdict}
use Rattle.wsn_rules.specs.declared.verdict.Verdict.TheVariants.{Accepted, Cut, Refused}
use Rattle.wsn_rules.specs.Verdict.{IsVerdict, IsUnrefused}
use Rattle.wsn_rules.specs.Entries.{Entry, without_cr}
use Rattle.wsn_rules.specs.Entries.Entry.{Nothing, Bytes, Mark}
use Rattle.wsn_rules.specs.Sides.{bytes_in, sent}
use Rattle.wsn_capture.specs.declared.line_fault.LineFault.{LineFault}
use Rattle.wsn_capture.specs.declared.line_fault.LineFault.TheVariants.{TooLong, InputLimit}
use Rattle.wsn_capture.specs.declared.refused_line.RefusedLine.{RefusedLine}
use Rattle.wsn_capture.specs.declared.lines_before.LinesBefore.{LinesBefore}
use Rattle.wsn_capture.specs.declared.capture_lines.CaptureLines.{CaptureLines}
use Rattle.wsn_capture.specs.declared.capture_lines.SentBytes.{SentBytes}
use Rattle.wsn_capture.specs.LineFaults.{IsFaultAfter, IsAcceptedLine, line_most}
use Rattle.wsn_capture.specs.RefusedLines.{IsKeptOf, IsRefusedLine}
use Rattle.wsn_capture.specs.SideTexts.{entry_after, text_entry, with_entry, lines_giving}
use Rattle.wsn_capture.specs.declared.line_form.LineEntry.{LineEntry}
use Rattle.wsn_capture.specs.declared.line_form.LineEntry.TheVariants as entries
use Rattle.wsn_capture.specs.LineEntries.{held_entry, FitsInLine}
use Rattle.wsn_capture.specs.CloseLines.{IsClosedBy, IsCloseLine, noted_line}
use Rattle.wsn_capture.specs.CaptureLines.{HasAccepted, HasNotedCloses, HasNotedUpTo, IsVerdictOnSide, IsNotedLine, IsNotedRefusal, count_of, with_room_less, FitsRoom, ExceedsRoom, sent_by}
use Rattle.wsn_capture.proofs.AcceptedTexts.{as_many, taken_push, accepted_last}
use Rattle.wsn_capture.proofs.ClosingLines.{sent-push, line_stays, line_new, line_none, line_kept}
pub use Rattle.wsn_capture.proofs.OffendingLines.{own_bytes}
use Rattle.wsn_capture.proofs.OffendingLines.{unrefused_by, refused_stays, refused_kept, refused_new}
use Rattle.wsn_capture.proofs.SideEntries.{FitsInput, entry_accepted, fault_first, entry_limited, read_entry, short_line}
use Rattle.wsn_capture.proofs.SideLaws.{before-push}

module _ (limits : Limits) (accepted : CaptureLines) (lines : List (List ℕ)) (given : List Entry) (has : HasAccepted limits accepted lines given) where
  pub accepted_count : count_of accepted ≡ length lines
  accepted_count = ap (λ (b : LinesBefore). b.count) has.before ∙ as_many limits [] lines given has.taken

  module _ (line : List ℕ) where
    after : (r : Result Entry LineFault) → entry_after accepted.before line ≡ r → entry_after (lines_giving given) line ≡ r
    after r is = ap (λ (b : LinesBefore). entry_after b line) (sym has.before) ∙ is

    pub faulty_line : (fault : LineFault) → entry_after accepted.before line ≡ Err fault → IsFaultAfter limits lines line fault
    faulty_line fault is = record { given = given; taken = has.taken; is = fault_first limits given line fault (after (Err fault) is) }

    pub limited_line : (role : Role) (bytes : List ℕ) → entry_after accepted.before line ≡ Ok (Bytes role bytes) → (sent_by role accepted).room < length bytes → IsFaultAfter limits lines line InputLimit
    limited_line role bytes is less = record {
      given = given;
      taken = has.taken;
      is = entry_limited limits given line role bytes (after (Ok (Bytes role bytes)) is) (let room = has.room role in omega (arith, less, room));
    }

    -- one more line
    pub accepted_push : (new : CaptureLines) (entry : Entry) → entry_after accepted.before line ≡ Ok entry → new.before ≡ with_entry accepted.before entry
        → ((role : Role) → (sent_by role new).input ≡ (sent_by role accepted).input)
        → ((role : Role) → (sent_by role new).room + length (bytes_in role entry) ≡ (sent_by role accepted).room) → FitsInput limits given line entry
        → HasAccepted limits new (lines ++ line ∷ []) (given ++ entry ∷ [])
    accepted_push new entry is before inputs room fits = grind (arith, taken_push, entry_accepted, after, before-push, sent-push, length-append)

-- ---- room

pub less_before : (entry : LineEntry) (old : CaptureLines) → (with_room_less entry old).before ≡ old.before
less_before entry old = grind arith

pub less_closes : (entry : LineEntry) (old : CaptureLines) (role : Role) → (sent_by role (with_room_less entry old)).close_line ≡ (sent_by role old).close_line
less_closes entry old role = grind arith

less_inputs : (entry : LineEntry) (old : CaptureLines) (role : Role) → (sent_by role (with_room_less entry old)).input ≡ (sent_by role old).input
less_inputs entry old role = grind arith

less_refused : (entry : LineEntry) (old : CaptureLines) (role : Role) → (sent_by role (with_room_less entry old)).refused ≡ (sent_by role old).refused
less_refused entry old role = grind arith

-- so much less as the entry has bytes
pub less_room : (entry : LineEntry) (old : CaptureLines) (held : List ℕ) → FitsRoom old entry → FitsInLine entry → length held ≡ 4096
    → (role : Role) → (sent_by role (with_room_less entry old)).room + length (bytes_in role (held_entry entry held)) ≡ (sent_by role old).room
less_room entry old held fits short size role = grind (arith, length-take-le)

-- the same of a state that is known by equations
pub room_by : (limits : Limits) (old : CaptureLines) (entry : LineEntry) (less : CaptureLines) (before : LinesBefore) (held : List ℕ) → less ≡ with_room_less entry old → FitsRoom old entry → FitsInLine entry → length held ≡ 4096
    → (role : Role) → (sent_by role (record less { before = before })).room + length (bytes_in role (held_entry entry held)) ≡ (sent_by role old).room
room_by limits old entry less before held is fits short size Client = ap (λ (l : CaptureLines). l.client.room + length (bytes_in Client (held_entry entry held))) is ∙ less_room entry old held fits short size Client
room_by limits old entry less before held is fits short size Server = ap (λ (l : CaptureLines). l.server.room + length (bytes_in Server (held_entry entry held))) is ∙ less_room entry old held fits short size Server

pub closes_by : (old : CaptureLines) (entry : LineEntry) (less : CaptureLines) (before : LinesBefore) → less ≡ with_room_less entry old → (role : Role) → (sent_by role (record less { before = before })).close_line ≡ (sent_by role old).close_line
closes_by old entry less before is role = grind (arith, less_closes)

pub inputs_by : (old : CaptureLines) (entry : LineEntry) (less : CaptureLines) (before : LinesBefore) → less ≡ with_room_less entry old → (role : Role) → (sent_by role (record less { before = before })).input ≡ (sent_by role old).input
inputs_by old entry less before is role = grind (arith, less_inputs)

pub refused_by : (old : CaptureLines) (entry : LineEntry) (less : CaptureLines) (before : LinesBefore) → less ≡ with_room_less entry old → (role : Role) → (sent_by role (record less { before = before })).refused ≡ (sent_by role old).refused
refused_by old entry less before is role = grind (arith, less_refused)

pub fits_given : (limits : Limits) (old : CaptureLines) (lines : List (List ℕ)) (given : List Entry) (line : List ℕ) (entry : LineEntry) (held : List ℕ) → HasAccepted limits old lines given → FitsRoom old entry
    → FitsInput limits given line (held_entry entry held)
fits_given limits old lines given line entry held has fits = grind (arith, length-take)

pub exceeds_given : (limits : Limits) (old : CaptureLines) (lines : List (List ℕ)) (given : List Entry) (line : List ℕ) (entry : LineEntry) (held : List ℕ) → HasAccepted limits old lines given → FitsInLine entry → length held ≡ 4096
    → entry_after old.before line ≡ Ok (held_entry entry held) → ExceedsRoom old entry → IsFaultAfter limits lines line InputLimit
exceeds_given limits old lines given line (entries.Bytes role count) held has short size is more =
    let all = length-take-le count held (omega (arith, short, size)) in
    limited_line limits old lines given has line role (take count held) is (omega (arith, all, more))
exceeds_given limits old lines given line _ held has short size is more = absurd more

-- ---- the lines in which Closes end

pub noted_same : (limits : Limits) (old new : CaptureLines) (given : List Entry) → ((role : Role) → (sent_by role new).close_line ≡ (sent_by role old).close_line) → ((role : Role) → (sent_by role new).refused ≡ (sent_by role old).refused)
    → HasNotedCloses limits old given → HasNotedCloses limits new given
noted_same limits old new given same also noted role = (subst (IsCloseLine role limits given) (sym (same role)) (noted role).0, subst (IsRefusedLine role limits given) (sym (also role)) (noted role).1)

pub noted_kept : (limits : Limits) (noted : CaptureLines) (given : List Entry) (entry : Entry) → ((role : Role) → bytes_in role entry ≡ []) → HasNotedCloses limits noted given → HasNotedCloses limits noted (given ++ entry ∷ [])
noted_kept limits noted given entry none has role = grind (arith, line_kept, refused_kept)

pub no_bytes_in_nothing : (role : Role) → bytes_in role Nothing ≡ []
no_bytes_in_nothing role = grind arith

pub no_bytes_in_mark : (other role : Role) → bytes_in role (Mark other) ≡ []
no_bytes_in_mark other role = grind arith

-- before the bytes of the next line are judged
pub noted_up_to : (limits : Limits) (noted : CaptureLines) (given : List Entry) (entry : LineEntry) (held : List ℕ) → HasNotedCloses limits noted given → HasNotedUpTo limits noted given (held_entry entry held)
noted_up_to limits noted given entries.Nothing held has = noted_kept limits noted given Nothing no_bytes_in_nothing has
noted_up_to limits noted given (entries.Bytes role count) held has = has
noted_up_to limits noted given (entries.Mark role) held has = noted_kept limits noted given (Mark role) (no_bytes_in_mark role) has

-- the verdict on a stream with these bytes
pub judged_push : (role : Role) (limits : Limits) (given : List Entry) (bytes : List ℕ) (verdict : Verdict) → ((fs : List Frame) × IsVerdict role limits (sent role given ++ bytes) fs verdict) → IsVerdictOnSide role limits (given ++ Bytes role bytes ∷ []) verdict
judged_push role limits given bytes verdict found = grind (arith, sent-push)

-- what is noted of the endpoint whose bytes came
pub line_noted : (role : Role) (limits : Limits) (given : List Entry) (bytes : List ℕ) (known : Option ℕ) (line : ℕ) (closed : Bool) → line ≡ length given → IsCloseLine role limits given known
    → IsClosedBy role limits (sent role given ++ bytes) closed → IsCloseLine role limits (given ++ Bytes role bytes ∷ []) (noted_line known line closed)
line_noted role limits given bytes (Some known) line closed count is came = line_stays role limits given (Bytes role bytes) known is
line_noted role limits given bytes None line true count is came =
    subst (λ (n : ℕ). IsCloseLine role limits (given ++ Bytes role bytes ∷ []) (Some n)) (sym count)
    (line_new role limits given (Bytes role bytes) is (subst (λ (bs : List ℕ). IsClosedBy role limits (sent role given ++ bs) true) (sym (own_bytes role bytes)) came))
line_noted role limits given bytes None line false count is came =
    line_none role limits given (Bytes role bytes) (subst (λ (bs : List ℕ). IsClosedBy role limits (sent role given ++ bs) false) (sym (own_bytes role bytes)) came)

-- the number of lines before the last one
pub line_number : (limits : Limits) (accepted : CaptureLines) (lines : List (List ℕ)) (given : List Entry) (entry : Entry) → HasAccepted limits accepted lines (given ++ entry ∷ []) → count_of accepted - 1 ≡ length given
line_number limits accepted lines given entry has = grind (arith, length-append)

-- ---- what is noted in one endpoint's part

pub client_kept : (limits : Limits) (old : CaptureLines) (client : SentBytes) (lines : List (List ℕ)) (given : List Entry) → client.input ≡ old.client.input → client.room ≡ old.client.room → HasAccepted limits old lines given → HasAccepted limits (record old { client = client }) lines given
client_kept limits old client lines given inputs same has = record { taken = has.taken; before = has.before; input = λ role. grind (arith, has.input role); room = λ role. grind (arith, has.room role) }

pub server_kept : (limits : Limits) (old : CaptureLines) (server : SentBytes) (lines : List (List ℕ)) (given : List Entry) → server.input ≡ old.server.input → server.room ≡ old.server.room → HasAccepted limits old lines given → HasAccepted limits (record old { server = server }) lines given
server_kept limits old server lines given inputs same has = record { taken = has.taken; before = has.before; input = λ role. grind (arith, has.input role); room = λ role. grind (arith, has.room role) }

-- the line with the offending byte, once the bytes of a line are judged
module _ (role : Role) (limits : Limits) (given : List Entry) (bytes line : List ℕ) (old : SentBytes) (new : Option RefusedLine) (was : IsRefusedLine role limits given old.refused) where
  unrefused_still : (known : Option RefusedLine) → IsRefusedLine role limits given known → IsUnrefused role limits (sent role (given ++ Bytes role bytes ∷ [])) → IsRefusedLine role limits (given ++ Bytes role bytes ∷ []) known
  unrefused_still known kept none = grind (arith, refused_stays)

  module _ (short : length (without_cr line) ≤ line_most) (gives : text_entry (without_cr line) ≡ Ok (Bytes role bytes)) (input : old.input ≡ limits.input)
      (room : old.room + length (sent role (given ++ Bytes role bytes ∷ [])) ≡ limits.input) where
    by_known : (known : Option RefusedLine) → old.refused ≡ known → IsRefusedLine role limits given known → (fs : List Frame) (refusal : Refusal) → IsVerdict role limits (sent role (given ++ Bytes role bytes ∷ [])) fs (Refused refusal)
        → IsNotedLine old line refusal.offset new → IsRefusedLine role limits (given ++ Bytes role bytes ∷ []) new
    by_known (Some known) same kept fs refusal is noted =
        let stays : new ≡ Some known = noted.0 (subst IsSome (sym same) refl) ∙ same in
        subst (IsRefusedLine role limits (given ++ Bytes role bytes ∷ [])) (sym stays) (refused_stays role limits given (Bytes role bytes) known kept)
    by_known None same none fs refusal is noted =
        let size = ap (λ (bs : List ℕ). length bs) (sent-push role given (Bytes role bytes) ∙ ap (λ (bs : List ℕ). sent role given ++ bs) (own_bytes role bytes)) ∙ length-append (sent role given) bytes in
        let start : old.input - old.room - length bytes ≡ length (sent role given) = omega (arith, size, input, room) in
        refused_new role limits given bytes fs refusal none is new
        (subst (λ (n : ℕ). IsKeptOf n bytes refusal.offset new) start (noted.1 same role bytes short gives (omega (arith, size, input, room))))

    pub refused_noted : (fs : List Frame) (verdict : Verdict) → IsVerdict role limits (sent role (given ++ Bytes role bytes ∷ [])) fs verdict → IsNotedRefusal old line verdict new → IsRefusedLine role limits (given ++ Bytes role bytes ∷ []) new
    refused_noted fs (Refused refusal) is noted = by_known old.refused refl was fs refusal is noted
    refused_noted fs (Accepted summary) is same =
        subst (IsRefusedLine role limits (given ++ Bytes role bytes ∷ [])) (sym same)
        (unrefused_still old.refused was (unrefused_by role limits (sent role (given ++ Bytes role bytes ∷ [])) fs (Accepted summary) is (λ refusal equal. cc equal)))
    refused_noted fs (Cut summary) is same =
        subst (IsRefusedLine role limits (given ++ Bytes role bytes ∷ [])) (sym same)
        (unrefused_still old.refused was (unrefused_by role limits (sent role (given ++ Bytes role bytes ∷ [])) fs (Cut summary) is (λ refusal equal. cc equal)))

module _ (limits : Limits) (old : CaptureLines) (lines : List (List ℕ)) (given : List Entry) (bytes line : List ℕ) (number : ℕ) (verdict : Verdict) where
  module _ (role : Role) (has : HasAccepted limits old (lines ++ line ∷ []) (given ++ Bytes role bytes ∷ [])) where
    accepted : IsAcceptedLine limits given line (Bytes role bytes)
    accepted = accepted_last limits [] lines given line (Bytes role bytes) has.taken

    pub short : length (without_cr line) ≤ line_most
    short = short_line limits given line (accepted.none TooLong)

    pub gives : text_entry (without_cr line) ≡ Ok (Bytes role bytes)
    gives = read_entry limits given line (Bytes role bytes) accepted.gives

    pub close_noted : (known now : Option ℕ) → IsCloseLine role limits given known → ((closed : Bool) × IsClosedBy role limits (sent role (given ++ Bytes role bytes ∷ [])) closed × (now ≡ noted_line known number closed))
        → number ≡ count_of old - 1 → IsCloseLine role limits (given ++ Bytes role bytes ∷ []) now
    close_noted known now was close count =
        subst (IsCloseLine role limits (given ++ Bytes role bytes ∷ [])) (sym close.2)
        (line_noted role limits given bytes known number close.0 (count ∙ line_number limits old (lines ++ line ∷ []) given (Bytes role bytes) has) was
        (subst (λ (bs : List ℕ). IsClosedBy role limits bs close.0) (sent-push role given (Bytes role bytes) ∙ ap (λ (bs : List ℕ). sent role given ++ bs) (own_bytes role bytes)) close.1))

  pub client_noted : (role : Role) (client : SentBytes) → role ≡ Client → ((closed : Bool) × IsClosedBy role limits (sent role (given ++ Bytes role bytes ∷ [])) closed × (client.close_line ≡ noted_line old.client.close_line number closed))
      → IsNotedRefusal old.client line verdict client.refused → number ≡ count_of old - 1
      → HasAccepted limits old (lines ++ line ∷ []) (given ++ Bytes role bytes ∷ []) → HasNotedCloses limits old given → IsVerdictOnSide role limits (given ++ Bytes role bytes ∷ []) verdict
      → HasNotedCloses limits (record old { client = client }) (given ++ Bytes role bytes ∷ [])
  client_noted Server client is close refused count has noted judged = absurd (cc is)
  client_noted Client client is close refused count has noted judged = both
    where
      both : (role : Role) → IsCloseLine role limits (given ++ Bytes Client bytes ∷ []) ((sent_by role (record old { client = client })).close_line) × IsRefusedLine role limits (given ++ Bytes Client bytes ∷ []) ((sent_by role (record old { client = client })).refused)
      both Client = (
        close_noted Client has old.client.close_line client.close_line (noted Client).0 close count,
        refused_noted Client limits given bytes line old.client client.refused (noted Client).1 (short Client has) (gives Client has) (has.input Client) (has.room Client) judged.0 verdict judged.1 refused,
      )
      both Server = (
        line_kept Server limits given (Bytes Client bytes) old.server.close_line refl (noted Server).0,
        refused_kept Server limits given (Bytes Client bytes) old.server.refused refl (noted Server).1,
      )

  pub server_noted : (role : Role) (server : SentBytes) → role ≡ Server → ((closed : Bool) × IsClosedBy role limits (sent role (given ++ Bytes role bytes ∷ [])) closed × (server.close_line ≡ noted_line old.server.close_line number closed))
      → IsNotedRefusal old.server line verdict server.refused → number ≡ count_of old - 1
      → HasAccepted limits old (lines ++ line ∷ []) (given ++ Bytes role bytes ∷ []) → HasNotedCloses limits old given → IsVerdictOnSide role limits (given ++ Bytes role bytes ∷ []) verdict
      → HasNotedCloses limits (record old { server = server }) (given ++ Bytes role bytes ∷ [])
  server_noted Client server is close refused count has noted judged = absurd (cc is)
  server_noted Server server is close refused count has noted judged = both
    where
      both : (role : Role) → IsCloseLine role limits (given ++ Bytes Server bytes ∷ []) ((sent_by role (record old { server = server })).close_line) × IsRefusedLine role limits (given ++ Bytes Server bytes ∷ []) ((sent_by role (record old { server = server })).refused)
      both Client = (
        line_kept Client limits given (Bytes Server bytes) old.client.close_line refl (noted Client).0,
        refused_kept Client limits given (Bytes Server bytes) old.client.refused refl (noted Client).1,
      )
      both Server = (
        close_noted Server has old.server.close_line server.close_line (noted Server).0 close count,
        refused_noted Server limits given bytes line old.server server.refused (noted Server).1 (short Server has) (gives Server has) (has.input Server) (has.room Server) judged.0 verdict judged.1 refused,
      )

-- ---- what is kept of a line, by the verdict

pub noted_from : (old mid : SentBytes) (line : List ℕ) (verdict : Verdict) (refusal : Refusal) (new : Option RefusedLine) → verdict ≡ Refused refusal → mid.input ≡ old.input → mid.room ≡ old.room → mid.refused ≡ old.refused
    → IsNotedLine mid line refusal.offset new → IsNotedRefusal old line verdict new
noted_from old mid line verdict refusal new is input room refused noted = grind arith

pub none_noted : (old : SentBytes) (line : List ℕ) (verdict : Verdict) (new : Option RefusedLine) → new ≡ old.refused → ((refusal : Refusal) → verdict ≡ Refused refusal → ⊥) → IsNotedRefusal old line verdict new
none_noted old line verdict new same other = grind arith
