-- Two descriptions of the inputs that encode just these events: by their frames, and as recuts.
use Rattle.std.specs.Prelude.{◌≡◌, ℕ, List, []}
use Rattle.wsn_wire.specs.declared.endpoint.Role.{Role}
use Rattle.wsn_wire.specs.Frame.{Frame, stream}
use Rattle.wsn_rules.specs.declared.step.Step.{Step}
use Rattle.wsn_rules.specs.Limits.{Limits}
use Rattle.wsn_rules.specs.Group.{unfinished}
use Rattle.wsn_rules.specs.Accepted.{IsAccepted}
use Rattle.wsn_rules.specs.Meaning.{MeantEvent, meaning}
use Rattle.wsn_rules.specs.Plan.{IsPlan}
use Rattle.wsn_rules.specs.Fitting.{Fits}
use Rattle.wsn_rules.specs.Recut.{recut_bytes}

-- The bytes are accepted and mean the events; they leave no message unfinished and have no tail.
abbrev pub Encode : Role → Limits → List MeantEvent → List ℕ → Type 0
Encode role limits events bytes =
    (fs : List Frame) × IsAccepted role limits bytes fs × (unfinished fs ≡ []) × (bytes ≡ stream fs)
    × (meaning fs ≡ events)

-- The bytes are a recut of the events, by a plan that fits them.
abbrev pub AreRecut : Role → Limits → List MeantEvent → List ℕ → Type 0
AreRecut role limits events bytes =
    (plan : List Step) × IsPlan plan × Fits role limits plan events × (bytes ≡ recut_bytes plan events)
