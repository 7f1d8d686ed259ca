-- What is noted of the end of a capture and of the times of both endpoints' last bytes, and what it says of the lines.
use Rattle.std.specs.Prelude.{◌≡◌, ℕ, ◌↔◌, Bool, IsTrue, Option, List, slice_get}
use Rattle.wsn_wire.specs.declared.endpoint.Role.{Role, TheVariants.{Client, Server}}
use Rattle.wsn_rules.specs.Entries.{Entry}
use Rattle.wsn_capture.specs.EndedBy.{end_marks, SayReset}
use Rattle.wsn_show.specs.declared.end_notes.EndNotes.{EndNotes}
use Rattle.wsn_rules.specs.ShownCapture.{IsTimeOfLast}
use Rattle.wsn_show.specs.declared.last_times.LastTimes.{LastTimes}

-- The endpoint with the first end mark, if there is one.
abbrev pub first_marked : List Entry → Option Role
first_marked entries = slice_get (end_marks entries) 0

-- What is noted of a comment that an endpoint reset the connection.
abbrev pub noted_reset : Role → EndNotes → Bool
noted_reset Client notes = notes.client_reset
noted_reset Server notes = notes.server_reset

-- This is noted of these lines, which gave these entries.
pub record HasNotedEnd (notes : EndNotes) (lines : List (List ℕ)) (entries : List Entry) : Type 0 where
  pub first : notes.first ≡ first_marked entries
  pub resets : (role : Role) → IsTrue (noted_reset role notes) ↔ SayReset lines role

-- The time that is kept for an endpoint.
abbrev pub last_time : Role → LastTimes → Option (List ℕ)
last_time Client times = times.client
last_time Server times = times.server

-- These are the times of these lines, which gave these entries.
abbrev pub HasNotedTimes : LastTimes → List (List ℕ) → List Entry → Type 0
HasNotedTimes times lines entries = (role : Role) → IsTimeOfLast role lines entries (last_time role times)
