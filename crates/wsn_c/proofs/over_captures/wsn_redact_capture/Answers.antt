use Rattle.std.proofs.Common.{refl}
use Rattle.wsn_c.proofs.MemoryRuns.{called}
use Rattle.wsn_c.proofs.over_captures.wsn_redact_capture.Goals as goal

pub returns-in-Some : goal.returns-in-Some
returns-in-Some c =
    called _ _ _ _ c.in-Some.asked c.in-Some.ensures.value (c.in-Some.ensures.in_range.0 refl) c.run_over.ensures
