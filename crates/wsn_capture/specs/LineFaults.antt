-- Why a line isn't accepted after the lines before it. Each fault is defined by itself; a line's first fault counts.
use Rattle.std.specs.Prelude.{◌≡◌, ℕ, ◌+◌, ◌<◌, ◌≤◌, ◌⊎◌, true, List, [], ◌∷◌, ◌++◌, length, codes}
use Rattle.wsn_wire.specs.declared.endpoint.Role.{Role}
use Rattle.wsn_rules.specs.Limits.{Limits}
use Rattle.wsn_capture.specs.declared.line_fault.LineFault.{LineFault, TheVariants.{TooManyLines, TooLong, BadForm, BadHex, AfterEnd, InputLimit}}
use Rattle.wsn_rules.specs.Entries.{without_cr, Entry, IsHex, GivesEntry, bytes_prefix, end_mark}
use Rattle.wsn_rules.specs.Entries.Entry.{Nothing, Bytes}
use Rattle.wsn_rules.specs.Sides.{sent, has_ended}

-- the order of precedence of the faults
abbrev pub fault_order : LineFault → ℕ
fault_order TooManyLines = 0
fault_order TooLong = 1
fault_order BadForm = 2
fault_order BadHex = 3
fault_order AfterEnd = 4
fault_order InputLimit = 5

-- the word that is printed for a fault
abbrev pub fault_word : LineFault → List ℕ
fault_word TooManyLines = codes "too-many-lines"
fault_word TooLong = codes "too-long"
fault_word BadForm = codes "bad-form"
fault_word BadHex = codes "bad-hex"
fault_word AfterEnd = codes "after-end"
fault_word InputLimit = codes "input-limit"

-- A line of bytes of the endpoint, whatever follows the space, or its end mark.
abbrev pub IsOfEndpoint : Role → List ℕ → Type 0
IsOfEndpoint role text = ((digits : List ℕ) × (text ≡ bytes_prefix role ++ digits)) ⊎ (text ≡ end_mark role)

-- The text has none of the forms of a line: it isn't empty, is no comment, and is of no endpoint.
abbrev pub HasNoForm : List ℕ → Type 0
HasNoForm text = (GivesEntry text Nothing → ⊥) × ((role : Role) → IsOfEndpoint role text → ⊥)

-- the maximum length of a line without its CR: a letter, a space and 8,192 digits
abbrev pub line_most : ℕ
line_most = 8194

-- the maximum number of lines of a capture
abbrev pub lines_most : ℕ
lines_most = 1000000

-- The line without its CR has this fault, after lines that gave these entries.
abbrev pub HasFault : Limits → List Entry → List ℕ → LineFault → Type 0
HasFault limits given text TooManyLines = lines_most ≤ length given
HasFault limits given text TooLong = line_most < length text
HasFault limits given text BadForm = HasNoForm text
HasFault limits given text BadHex =
    (role : Role) × (digits : List ℕ) × (text ≡ bytes_prefix role ++ digits)
    × ((bytes : List ℕ) → IsHex digits bytes → ⊥)
HasFault limits given text AfterEnd = (role : Role) × IsOfEndpoint role text × (has_ended role given ≡ true)
HasFault limits given text InputLimit =
    (role : Role) × (bytes : List ℕ) × GivesEntry text (Bytes role bytes)
    × (limits.input < length (sent role given) + length bytes)

-- Of the line's faults this is the first.
pub record IsFirstLineFault (limits : Limits) (given : List Entry) (line : List ℕ) (fault : LineFault) : Type 0 where
  pub held : HasFault limits given (without_cr line) fault
  pub first :
      (other : LineFault) → HasFault limits given (without_cr line) other → fault_order fault ≤ fault_order other

-- The line has no fault, and gives this entry.
pub record IsAcceptedLine (limits : Limits) (given : List Entry) (line : List ℕ) (entry : Entry) : Type 0 where
  pub gives : GivesEntry (without_cr line) entry
  pub none : (fault : LineFault) → HasFault limits given (without_cr line) fault → ⊥

-- After the entries `given` the lines are accepted one by one, and give the entries listed last.
abbrev pub AreAcceptedAfter : Limits → List Entry → List (List ℕ) → List Entry → Type 0
AreAcceptedAfter limits given [] [] = Unit {0}
AreAcceptedAfter limits given (line ∷ lines) (entry ∷ entries) =
    IsAcceptedLine limits given line entry × AreAcceptedAfter limits (given ++ entry ∷ []) lines entries
AreAcceptedAfter limits given lines entries = ⊥

-- The lines are accepted from the first on, and give these entries.
abbrev pub AreAcceptedLines : Limits → List (List ℕ) → List Entry → Type 0
AreAcceptedLines limits lines entries = AreAcceptedAfter limits [] lines entries

-- These lines are accepted, and this is the first fault of the line after them.
pub record IsFaultAfter (limits : Limits) (lines : List (List ℕ)) (line : List ℕ) (fault : LineFault) : Type 0 where
  pub given : List Entry
  pub taken : AreAcceptedLines limits lines given
  pub is : IsFirstLineFault limits given line fault
