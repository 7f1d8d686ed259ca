-- One side of a capture's text: the bytes that an endpoint sent, joined, up to the first line that isn't accepted.
use Rattle.std.specs.Prelude.{ℕ, ◌+◌, ◌*◌, ◌==◌, ◌||◌, nat_le, nat_lt, Bool, if◌then◌else◌, Result, Ok, Err, List, [], ◌∷◌, ◌++◌, length}
use Rattle.hex.specs.Hex.{decode_of}
use Rattle.hex.specs.declared.error.FromHexError.{FromHexError}
use Rattle.wsn_wire.specs.declared.endpoint.Role.{Role, TheVariants.{Client, Server}}
use Rattle.wsn_rules.specs.TextLines.{lines_of}
use Rattle.wsn_rules.specs.Entries.{without_cr, Entry}
use Rattle.wsn_rules.specs.Entries.Entry.{Nothing, Bytes, Mark}
use Rattle.wsn_rules.specs.Sides.{bytes_in, is_mark, has_ended}
use Rattle.wsn_capture.specs.declared.line_fault.LineFault.{LineFault, TheVariants.{TooManyLines, TooLong, BadForm, BadHex, AfterEnd}}
use Rattle.wsn_capture.specs.declared.lines_before.LinesBefore.{LinesBefore}
use Rattle.wsn_capture.specs.LineFaults.{fault_order, line_most, lines_most}

-- ---- the entry of a line, or its first fault

-- Bytes of an endpoint, if its digits were decoded.
abbrev pub decoded_entry : Role → Result (List ℕ) FromHexError → Result Entry LineFault
decoded_entry role (Ok bytes) = Ok (Bytes role bytes)
decoded_entry role (Err e) = Err BadHex

-- One or more pairs of digits of an endpoint.
abbrev pub digits_entry : Role → List ℕ → Result Entry LineFault
digits_entry role [] = Err BadHex
digits_entry role (digit ∷ digits) = decoded_entry role (decode_of (digit ∷ digits))

-- What follows an endpoint's dot: nothing.
abbrev pub dot_entry : Role → List ℕ → Result Entry LineFault
dot_entry role [] = Ok (Mark role)
dot_entry role (b ∷ rest) = Err BadForm

-- What follows an endpoint's letter: a space and digits, or a dot.
abbrev pub endpoint_entry : Role → List ℕ → Result Entry LineFault
endpoint_entry role [] = Err BadForm
endpoint_entry role (b ∷ rest) =
    if b == 32 then digits_entry role rest
    else if b == 46 then dot_entry role rest
    else Err BadForm

-- A line without its CR: empty, a comment after #, or an endpoint's letter C or S and what follows it.
abbrev pub text_entry : List ℕ → Result Entry LineFault
text_entry [] = Ok Nothing
text_entry (b ∷ rest) =
    if b == 35 then Ok Nothing
    else if b == 67 then endpoint_entry Client rest
    else if b == 83 then endpoint_entry Server rest
    else Err BadForm

-- whether the endpoint's end mark is among the lines before
abbrev pub ended_before : Role → LinesBefore → Bool
ended_before Client before = before.client_ended
ended_before Server before = before.server_ended

-- Neither bytes nor an end mark come after the endpoint's end mark.
abbrev pub unless_ended : LinesBefore → Entry → Result Entry LineFault
unless_ended before Nothing = Ok Nothing
unless_ended before (Bytes role bytes) = if ended_before role before then Err AfterEnd else Ok (Bytes role bytes)
unless_ended before (Mark role) = if ended_before role before then Err AfterEnd else Ok (Mark role)

abbrev pub entry_unless_ended : LinesBefore → Result Entry LineFault → Result Entry LineFault
entry_unless_ended before (Ok entry) = unless_ended before entry
entry_unless_ended before (Err fault) = Err fault

-- The entry of a line after the lines before it, or its first fault.
abbrev pub entry_after : LinesBefore → List ℕ → Result Entry LineFault
entry_after before line =
    if nat_le lines_most before.count then Err TooManyLines
    else if nat_lt line_most (length (without_cr line)) then Err TooLong
    else entry_unless_ended before (text_entry (without_cr line))

-- ---- one side

-- the lines before, and one that gives this entry
abbrev pub with_entry : LinesBefore → Entry → LinesBefore
with_entry before entry = record {
  count = before.count + 1;
  client_ended = is_mark Client entry || before.client_ended;
  server_ended = is_mark Server entry || before.server_ended;
}

-- the lines that give these entries
abbrev pub lines_giving : List Entry → LinesBefore
lines_giving given = record {
  count = length given;
  client_ended = has_ended Client given;
  server_ended = has_ended Server given;
}

-- What represents a faulty line in a list of bytes. It is no byte, since it is at least 256, and it differs for each
-- line number and fault.
abbrev pub sentinel : ℕ → LineFault → ℕ
sentinel number fault = 256 + 8 * number + fault_order fault

-- An endpoint's bytes in these lines, joined. They end at the first line that isn't accepted, with its sentinel.
abbrev pub sent_in_lines : Role → LinesBefore → List (List ℕ) → List ℕ
sent_in_lines role before [] = []
sent_in_lines role before (line ∷ lines) =
    elim (entry_after before line) [
      | Ok entry ↦ bytes_in role entry ++ sent_in_lines role (with_entry before entry) lines
      | Err fault ↦ sentinel (before.count + 1) fault ∷ []
    ]

-- An endpoint's side of a text.
abbrev pub sent_in : Role → List ℕ → List ℕ
sent_in role text = sent_in_lines role (lines_giving []) (lines_of text)

-- the maximum number of bytes of a side: 1,000,000 lines of 4,096 bytes
abbrev pub side_most : ℕ
side_most = 4096000000
