-- What the call for a capture's side answers.
use Rattle.std.specs.Prelude.{◌≡◌, ◌⊎◌, ◌++◌, ◌∷◌, ℕ, List, []}
use Rattle.wsn_wire.specs.declared.endpoint.Role.{Role}
use Rattle.wsn_io.specs.declared.stop.Stop.TheVariants.{Memory}
use Rattle.wsn_print.specs.FaultText.{line_fault_line, stop_line}
use Rattle.wsn_capture.specs.declared.line_fault.LineFault.{LineFault}
use Rattle.wsn_capture.specs.LineFaults.{fault_word}
use Rattle.wsn_capture.specs.SideTexts.{sent_in, sentinel}
use Rattle.wsn_c.specs.declared.options.Options.{Options}
use Rattle.wsn_c.specs.declared.options.Asked.{Asked}
use Rattle.wsn_c.specs.Asking.{AreInRange, IsAsked}
use Rattle.wsn_job.specs.Calls.{Call, Gives}
use Rattle.wsn_c.specs.Calls.{GivesUsage}

-- The call gives the bytes before the first line that isn't accepted, and reports the line.
pub record GivesFaultyLine (role : Role) (capture : List ℕ) (done : Call) : Type 0 where
  pub sent : List ℕ
  pub number : ℕ
  pub fault : LineFault
  pub before : sent_in role capture ≡ sent ++ sentinel number fault ∷ []
  pub gives : Gives done sent (line_fault_line number (fault_word fault)) 2

-- The call gives the endpoint's side of the capture, whole, or up to a line that isn't accepted. Otherwise memory was
-- refused.
abbrev pub GivesSent : Role → List ℕ → Call → Type 0
GivesSent role capture done =
    Gives done (sent_in role capture) [] 0
    ⊎ GivesFaultyLine role capture done
    ⊎ Gives done [] (stop_line Memory) 2

-- The call gives the side of the endpoint that its options name. Options out of range are reported.
pub record IsSent (options : Options) (capture : List ℕ) (done : Call) : Type 0 where
  pub sent : AreInRange options → (asked : Asked) × IsAsked options asked × GivesSent asked.role capture done
  pub usage : ¬ AreInRange options → GivesUsage done
