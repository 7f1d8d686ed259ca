-- A capture whose lines are accepted has a redaction.
use Rattle.std.proofs.Common.{◌≡◌, ◌≢◌, ℕ, ◌⊎◌, Bool, true, false, List, [], ◌∷◌, ◌++◌, length, take, drop, inl, inr, refl, sym, ap, ◌∙◌, subst, take-append-drop, length-append, length-drop, arith}
use Rattle.std.specs.Prelude.{codes}
use Rattle.std.specs.Str.{bytes_eq}
use Rattle.std.proofs.lemmas.List.{take_at, length-take-le}
use Rattle.std.proofs.lemmas.Slice.Eq.{bytes_eq-Decides}
use Rattle.hex.specs.Hex.{encode_lower}
use Rattle.wsn_wire.specs.declared.endpoint.Role.{Role}
use Rattle.wsn_wire.specs.declared.endpoint.Role.TheVariants.{Client, Server}
use Rattle.wsn_frame.proofs.HeadsAtOnce.{no_items}
use Rattle.wsn_rules.specs.Limits.{Limits, InRange}
use Rattle.wsn_rules.specs.Entries.{Entry, without_cr, bytes_prefix, AreEntries}
use Rattle.wsn_rules.specs.Entries.Entry.{Nothing, Bytes, Mark}
use Rattle.wsn_rules.specs.Sides.{sent}
use Rattle.wsn_rules.specs.ShownCapture.{GivesNoTime}
use Rattle.wsn_rules.proofs.EveryTime.{gives_time}
use Rattle.wsn_capture.specs.LineFaults.{AreAcceptedLines}
use Rattle.wsn_capture.proofs.AcceptedTexts.{taken_given}
use Rattle.wsn_capture.proofs.EveryReport.{sent_bytes}
use Rattle.wsn_capture.specs.EndedBy.{reset_comment}
use Rattle.wsn_redact.specs.declared.extension_names.Within.TheVariants.{Name}
use Rattle.wsn_redact.specs.ExtensionNames.{names_in}
use Rattle.wsn_redact.specs.Redaction.{IsRedaction}
use Rattle.wsn_redact.specs.RedactedCaptures.{extensions_prefix, IsReset, Stays, HasExtensions, IsRedactedNothing, IsRedactedLineText, cr_of, AreRedactedLines, IsRedactedCapture}
use Rattle.wsn_redact.proofs.OneRedaction.{redaction_length}
use Rattle.wsn_redact.proofs.EveryRedaction.{some_redaction_of}

-- ---- comments

same_or_other : (text other : List ℕ) → (text ≡ other) ⊎ (text ≢ other)
same_or_other text other = by (bytes_eq text other) refl
  where
    by : (t : Bool) → bytes_eq text other ≡ t → (text ≡ other) ⊎ (text ≢ other)
    by true is = inl ((bytes_eq-Decides text other).0 is)
    by false is = inr (λ same. let holds : bytes_eq text other ≡ true = (bytes_eq-Decides text other).1 same in let both : true ≡ false = sym holds ∙ is in cc)

reset_or_not : (text : List ℕ) → IsReset text ⊎ (IsReset text → ⊥)
reset_or_not text = elim (same_or_other text (reset_comment Client)) [
  | inl client ↦ inl (inl client)
  | inr no_client ↦ elim (same_or_other text (reset_comment Server)) [
    | inl server ↦ inl (inr server)
    | inr no_server ↦ inr (neither no_client no_server)
  ]
]
  where
    neither : text ≢ reset_comment Client → text ≢ reset_comment Server → IsReset text → ⊥
    neither no_client no_server (inl client) = no_client client
    neither no_client no_server (inr server) = no_server server

stays_or_not : (text : List ℕ) → Stays text ⊎ (Stays text → ⊥)
stays_or_not text = elim (gives_time text) [
  | inl gives ↦ inl (inl gives)
  | inr none ↦ elim (reset_or_not text) [
    | inl reset ↦ inl (inr reset)
    | inr never ↦ inr (neither none never)
  ]
]
  where
    neither : GivesNoTime text → (IsReset text → ⊥) → Stays text → ⊥
    neither none never (inl gives) = none gives.0 gives.1
    neither none never (inr reset) = never reset

extensions_or_not : (text : List ℕ) → ((list : List ℕ) × HasExtensions text list) ⊎ ((list : List ℕ) → HasExtensions text list → ⊥)
extensions_or_not text = elim (same_or_other (take 14 text) extensions_prefix) [
  | inl same ↦ inl (drop 14 text, sym (take-append-drop 14 text) ∙ ap (λ (front : List ℕ). front ++ drop 14 text) same)
  | inr other ↦ inr (λ list has. other (ap (λ (t : List ℕ). take 14 t) has ∙ take_at extensions_prefix list 14 refl))
]

some_nothing : (text : List ℕ) → (redacted : List ℕ) × IsRedactedNothing text redacted
some_nothing [] = ([], inl (inl refl, refl))
some_nothing (b ∷ text) = elim (stays_or_not (b ∷ text)) [
  | inl stays ↦ (b ∷ text, inl (inr stays, refl))
  | inr leaves ↦ elim (extensions_or_not (b ∷ text)) [
    | inl has ↦ (extensions_prefix ++ names_in Name has.0, inr (inl (has.0, has.1, refl)))
    | inr has_none ↦ (codes "#", inr (inr (((λ none. cc), leaves, has_none), refl)))
  ]
]

-- ---- entries

-- The entries with the bytes of these streams in place of their own.
abbrev others_of : List Entry → List ℕ → List ℕ → List Entry
others_of [] client server = []
others_of (Nothing ∷ entries) client server = Nothing ∷ others_of entries client server
others_of (Bytes Client bytes ∷ entries) client server = Bytes Client (take (length bytes) client) ∷ others_of entries (drop (length bytes) client) server
others_of (Bytes Server bytes ∷ entries) client server = Bytes Server (take (length bytes) server) ∷ others_of entries client (drop (length bytes) server)
others_of (Mark role ∷ entries) client server = Mark role ∷ others_of entries client server

left_size : (bytes rest stream : List ℕ) → length stream ≡ length (bytes ++ rest) → length (drop (length bytes) stream) ≡ length rest
left_size bytes rest stream size = omega (arith, size, length-append bytes rest, length-drop (length bytes) stream)

taken_size : (bytes rest stream : List ℕ) → length stream ≡ length (bytes ++ rest) → length (take (length bytes) stream) ≡ length bytes
taken_size bytes rest stream size = let sum = length-append bytes rest in length-take-le (length bytes) stream (omega (arith, size, sum))

client_sent : (entries : List Entry) (client server : List ℕ) → length client ≡ length (sent Client entries) → sent Client (others_of entries client server) ≡ client
client_sent [] client server size = sym (no_items client size)
client_sent (Nothing ∷ entries) client server size = client_sent entries client server size
client_sent (Bytes Client bytes ∷ entries) client server size =
    ap (λ (rest : List ℕ). take (length bytes) client ++ rest) (client_sent entries (drop (length bytes) client) server (left_size bytes (sent Client entries) client size)) ∙ take-append-drop (length bytes) client
client_sent (Bytes Server bytes ∷ entries) client server size = client_sent entries client (drop (length bytes) server) size
client_sent (Mark Client ∷ entries) client server size = client_sent entries client server size
client_sent (Mark Server ∷ entries) client server size = client_sent entries client server size

server_sent : (entries : List Entry) (client server : List ℕ) → length server ≡ length (sent Server entries) → sent Server (others_of entries client server) ≡ server
server_sent [] client server size = sym (no_items server size)
server_sent (Nothing ∷ entries) client server size = server_sent entries client server size
server_sent (Bytes Client bytes ∷ entries) client server size = server_sent entries (drop (length bytes) client) server size
server_sent (Bytes Server bytes ∷ entries) client server size =
    ap (λ (rest : List ℕ). take (length bytes) server ++ rest) (server_sent entries client (drop (length bytes) server) (left_size bytes (sent Server entries) server size)) ∙ take-append-drop (length bytes) server
server_sent (Mark Client ∷ entries) client server size = server_sent entries client server size
server_sent (Mark Server ∷ entries) client server size = server_sent entries client server size

-- ---- lines

abbrev SomeLines : List (List ℕ) → List Entry → List Entry → Type 0
SomeLines lines entries others = (redacted : List (List ℕ)) × AreRedactedLines lines entries others redacted

one_more : (line : List ℕ) (lines : List (List ℕ)) (entry other : Entry) (entries others : List Entry) (text : List ℕ) → IsRedactedLineText (without_cr line) entry other text → SomeLines lines entries others → SomeLines (line ∷ lines) (entry ∷ entries) (other ∷ others)
one_more line lines entry other entries others text is rest = ((text ++ cr_of line) ∷ rest.0, ((text, is, refl), rest.1))

some_lines : (lines : List (List ℕ)) (entries : List Entry) (client server : List ℕ) → AreEntries lines entries → length client ≡ length (sent Client entries) → length server ≡ length (sent Server entries)
    → SomeLines lines entries (others_of entries client server)
some_lines [] [] client server given of_client of_server = ([], tt)
some_lines (line ∷ lines) (Nothing ∷ entries) client server given of_client of_server =
    let text = some_nothing (without_cr line) in
    one_more line lines Nothing Nothing entries (others_of entries client server) text.0 text.1 (some_lines lines entries client server given.1 of_client of_server)
some_lines (line ∷ lines) (Bytes Client bytes ∷ entries) client server given of_client of_server =
    let part = take (length bytes) client in
    one_more line lines (Bytes Client bytes) (Bytes Client part) entries (others_of entries (drop (length bytes) client) server) (bytes_prefix Client ++ encode_lower part) (refl, taken_size bytes (sent Client entries) client of_client, refl)
    (some_lines lines entries (drop (length bytes) client) server given.1 (left_size bytes (sent Client entries) client of_client) of_server)
some_lines (line ∷ lines) (Bytes Server bytes ∷ entries) client server given of_client of_server =
    let part = take (length bytes) server in
    one_more line lines (Bytes Server bytes) (Bytes Server part) entries (others_of entries client (drop (length bytes) server)) (bytes_prefix Server ++ encode_lower part) (refl, taken_size bytes (sent Server entries) server of_server, refl)
    (some_lines lines entries client (drop (length bytes) server) given.1 of_client (left_size bytes (sent Server entries) server of_server))
some_lines (line ∷ lines) (Mark Client ∷ entries) client server given of_client of_server =
    one_more line lines (Mark Client) (Mark Client) entries (others_of entries client server) (without_cr line) (refl, refl) (some_lines lines entries client server given.1 of_client of_server)
some_lines (line ∷ lines) (Mark Server ∷ entries) client server given of_client of_server =
    one_more line lines (Mark Server) (Mark Server) entries (others_of entries client server) (without_cr line) (refl, refl) (some_lines lines entries client server given.1 of_client of_server)
some_lines _ _ client server given of_client of_server = absurd given

-- ---- a capture

pub some_capture : (limits : Limits) (lines : List (List ℕ)) (entries : List Entry) → InRange limits → AreAcceptedLines limits lines entries → (redacted : List (List ℕ)) × IsRedactedCapture limits lines redacted
some_capture limits lines entries range taken =
    let given = taken_given limits [] lines entries taken in
    let client = some_redaction_of Client limits range (sent Client entries) (sent_bytes Client lines entries given) in
    let server = some_redaction_of Server limits range (sent Server entries) (sent_bytes Server lines entries given) in
    let of_client = redaction_length Client limits (sent Client entries) client.0 client.1 in
    let of_server = redaction_length Server limits (sent Server entries) server.0 server.1 in
    let rest = some_lines lines entries client.0 server.0 given of_client of_server in
    let others = others_of entries client.0 server.0 in
    let client_is = subst (IsRedaction Client limits (sent Client entries)) (sym (client_sent entries client.0 server.0 of_client)) client.1 in
    let server_is = subst (IsRedaction Server limits (sent Server entries)) (sym (server_sent entries client.0 server.0 of_server)) server.1 in (
      rest.0,
      record {
        entries = entries;
        taken = taken;
        others = others;
        each = rest.1;
        streams = both others client_is server_is;
      },
    )
  where
    both : (others : List Entry) → IsRedaction Client limits (sent Client entries) (sent Client others) → IsRedaction Server limits (sent Server entries) (sent Server others) → (role : Role) → IsRedaction role limits (sent role entries) (sent role others)
    both others client server Client = client
    both others client server Server = server
