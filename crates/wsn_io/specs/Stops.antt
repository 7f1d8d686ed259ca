-- Stops, and the words that are printed for them.
use Rattle.std.specs.Prelude.{List, ℕ, codes, ◌≡◌, ⊤, Result, Ok, Err}
use Rattle.wsn_io.specs.declared.stop.Stop.{Stop}
use Rattle.wsn_io.specs.declared.stop.Stop.TheVariants as stop
use Rattle.wsn_io.specs.Transfer.{Outgoing, IsWritten, IsPartlyWritten}

-- All these bytes were written; or the result is the stop `Write`, and a prefix of them was written.
abbrev pub IsWrittenOrStops : {A : Type 0} → Outgoing → Outgoing → List ℕ → Result A Stop → Type 0
IsWrittenOrStops before after bytes (Ok done) = IsWritten before after bytes
IsWrittenOrStops before after bytes (Err stopped) = (stopped ≡ stop.Write) × IsPartlyWritten before after bytes

-- The result is a value or the stop `InputLimit`: no read, write or allocation failed.
abbrev pub HasNoFailure : {A : Type 0} → Result A Stop → Type 0
HasNoFailure (Ok answer) = ⊤
HasNoFailure (Err stop.InputLimit) = ⊤
HasNoFailure (Err stopped) = ⊥

-- The words that are printed for a stop.
abbrev pub stop_word : Stop → List ℕ
stop_word stop.Read = codes "read failed"
stop_word stop.InputLimit = codes "input limit"
stop_word stop.Memory = codes "out of memory"
stop_word stop.Write = codes "write failed"
