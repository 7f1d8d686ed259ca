-- What holds of the steps of each plan in memory.
use Rattle.std.specs.Prelude.{◌<◌, ◌^◌, List}
use Rattle.std.specs.List.{AllByRecursion}
use Rattle.wsn_rules.specs.declared.step.Step.{Step}
use Rattle.wsn_rules.specs.Plan.{piece_length}

-- Each length fits 64 bits.
abbrev pub HasLengths : List Step → Type 0
HasLengths = AllByRecursion (λ step. piece_length step < 2 ^ 64)
