-- The bytes that came of a plan file when an allocation fails.
use Rattle.std.proofs.Common.{◌≡◌, ℕ, ◌+◌, ◌≤◌, ◌<◌, false, Err, List, ◌++◌, length, take, arith, length-append, length-take-le}
use Rattle.wsn_io.specs.Transfer.{Incoming, IsConsumed}
use Rattle.wsn_io.proofs.Received.{consumed_on, received_of}
use Rattle.wsn_plan_text.specs.declared.plan_fault.PlanFault.TheVariants.{Memory}
use Rattle.wsn_plan_text.specs.declared.plan_files.PlanFileFault.TheVariants.{Faulty}
use Rattle.wsn_plan_text.specs.PlanFiles.{IsPlanFileRead}

-- an allocation failed for the bytes of a read, after those that came before
pub no_memory : (old mid new : Incoming) (text chunk : List ℕ) (n : ℕ) → IsConsumed old mid text →
    IsConsumed mid new (take n chunk) → n ≤ length chunk → length text + n ≤ 67108865 → 0 < n →
    new.failed ≡ false → IsPlanFileRead old new (Err (Faulty Memory))
no_memory old mid new text chunk n before came within few some unfailed =
    let size : length (text ++ take n chunk) ≡ length text + n =
    omega (arith, length-append text (take n chunk), length-take-le n chunk within) in (
      text ++ take n chunk,
      received_of 67108865 old new (text ++ take n chunk) (consumed_on old mid new text (take n chunk) before came) (omega arith),
      (omega arith, unfailed),
    )
