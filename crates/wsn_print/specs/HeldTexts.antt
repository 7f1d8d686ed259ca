-- Text that is held for a while before it is written.
use Rattle.std.specs.Prelude.{◌≡◌, ◌++◌, List, ℕ, Result, Ok, Err}
use Rattle.wsn_io.specs.Transfer.{Outgoing, IsWritten, IsPartlyWritten}
use Rattle.wsn_io.specs.declared.stop.Stop.{Stop}
use Rattle.wsn_io.specs.declared.stop.Stop.TheVariants as stop

-- A text is added to what is held: as much of both is written as isn't held any more. Or a write fails, when a part of
-- them is written.
abbrev pub IsHeldOrStops : Outgoing → Outgoing → List ℕ → List ℕ → List ℕ → Result (Unit {0}) Stop → Type 0
IsHeldOrStops before after held left text (Ok done) = (front : List ℕ) × (front ++ left ≡ held ++ text) × IsWritten before after front
IsHeldOrStops before after held left text (Err stopped) = (stopped ≡ stop.Write) × IsPartlyWritten before after (held ++ text)
