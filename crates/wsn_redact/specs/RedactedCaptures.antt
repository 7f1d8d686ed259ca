-- The redaction of a capture: both streams redacted, cut at the same places, in as many lines. Of comments only times,
-- who reset the connection, and the names of extensions are left.
use Rattle.std.specs.Prelude.{◌≡◌, ◌≢◌, ℕ, ◌⊎◌, List, [], ◌∷◌, ◌++◌, length, drop, codes}
use Rattle.hex.specs.Hex.{encode_lower}
use Rattle.wsn_wire.specs.declared.endpoint.Role.{Role, TheVariants.{Client, Server}}
use Rattle.wsn_rules.specs.Limits.{Limits}
use Rattle.wsn_rules.specs.Entries.{Entry, without_cr, bytes_prefix}
use Rattle.wsn_rules.specs.Entries.Entry.{Nothing, Bytes, Mark}
use Rattle.wsn_rules.specs.Sides.{sent}
use Rattle.wsn_rules.specs.ShownCapture.{GivesTime}
use Rattle.wsn_capture.specs.LineFaults.{AreAcceptedLines}
use Rattle.wsn_capture.specs.EndedBy.{reset_comment}
use Rattle.wsn_redact.specs.declared.extension_names.Within.TheVariants.{Name}
use Rattle.wsn_redact.specs.ExtensionNames.{names_in}
use Rattle.wsn_redact.specs.Redaction.{IsRedaction}

-- ---- comments

-- How the comment begins that has the extensions of a handshake's answer.
abbrev pub extensions_prefix : List ℕ
extensions_prefix = codes "# extensions: "

-- A comment that says that an endpoint reset the connection.
abbrev pub IsReset : List ℕ → Type 0
IsReset text = (text ≡ reset_comment Client) ⊎ (text ≡ reset_comment Server)

-- A comment that stays as it is: one that gives a time, or that an endpoint reset the connection.
abbrev pub Stays : List ℕ → Type 0
Stays text = ((seconds : List ℕ) × GivesTime text seconds) ⊎ IsReset text

-- A comment with extensions, given the list of them.
abbrev pub HasExtensions : List ℕ → List ℕ → Type 0
HasExtensions text list = text ≡ extensions_prefix ++ list

-- A comment that says anything else.
abbrev pub SaysElse : List ℕ → Type 0
SaysElse text = (text ≢ []) × (Stays text → ⊥) × ((list : List ℕ) → HasExtensions text list → ⊥)

-- What becomes of the text of a line that gives nothing, without its CR: an empty one stays, and a comment stays, is left
-- with the names of extensions, or becomes `#`.
abbrev pub IsRedactedNothing : List ℕ → List ℕ → Type 0
IsRedactedNothing text redacted =
    (((text ≡ []) ⊎ Stays text) × (redacted ≡ text))
    ⊎ ((list : List ℕ) × HasExtensions text list × (redacted ≡ extensions_prefix ++ names_in Name list))
    ⊎ (SaysElse text × (redacted ≡ codes "#"))

-- ---- lines

-- What becomes of the text of a line with this entry, without its CR, if the redacted line is to have the other entry:
-- as many bytes of the same endpoint, in lower case; an end mark stays.
abbrev pub IsRedactedLineText : List ℕ → Entry → Entry → List ℕ → Type 0
IsRedactedLineText text Nothing Nothing redacted = IsRedactedNothing text redacted
IsRedactedLineText text (Bytes role bytes) (Bytes other others) redacted =
    (other ≡ role) × (length others ≡ length bytes) × (redacted ≡ bytes_prefix role ++ encode_lower others)
IsRedactedLineText text (Mark role) (Mark other) redacted = (other ≡ role) × (redacted ≡ text)
IsRedactedLineText text entry other redacted = ⊥

-- The CR at the end of a line, if there is one.
abbrev pub cr_of : List ℕ → List ℕ
cr_of line = drop (length (without_cr line)) line

-- What becomes of a line; its CR stays.
abbrev pub IsRedactedLine : List ℕ → Entry → Entry → List ℕ → Type 0
IsRedactedLine line entry other redacted =
    (text : List ℕ) × IsRedactedLineText (without_cr line) entry other text × (redacted ≡ text ++ cr_of line)

-- What becomes of lines with these entries, one for each, if the redacted lines are to have the others.
abbrev pub AreRedactedLines : List (List ℕ) → List Entry → List Entry → List (List ℕ) → Type 0
AreRedactedLines [] [] [] [] = Unit {0}
AreRedactedLines (line ∷ lines) (entry ∷ entries) (other ∷ others) (r ∷ redacted) =
    IsRedactedLine line entry other r × AreRedactedLines lines entries others redacted
AreRedactedLines lines entries others redacted = ⊥

-- ---- captures

-- The redacted lines of a capture with these lines: each endpoint's bytes in them are the redaction of its bytes.
pub record IsRedactedCapture (limits : Limits) (lines redacted : List (List ℕ)) : Type 0 where
  pub entries : List Entry
  pub taken : AreAcceptedLines limits lines entries
  pub others : List Entry
  pub each : AreRedactedLines lines entries others redacted
  pub streams : (role : Role) → IsRedaction role limits (sent role entries) (sent role others)
