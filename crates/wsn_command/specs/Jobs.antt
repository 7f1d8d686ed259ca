-- What a command may be asked to do.
use Rattle.std.specs.Prelude.{◌≡◌, ◌↔◌, ◌≤◌, ℕ, Option, None, Some, IsSome, replicate, List}
use Rattle.wsn_wire.specs.declared.endpoint.Role.{Role, TheVariants.{Client, Server}}
use Rattle.wsn_command.specs.declared.job.How.{How, TheVariants.{ByPlan, BySize}}
use Rattle.wsn_command.specs.declared.job.Job.{Job, TheVariants.{Judge, Frames, Normal, Redact, Plan, Recut, Payload, ShowStream, Closing, Show, RedactCapture}}

-- The recut is by plan; or by size, with frames of at least one byte, and with a key exactly for a client.
abbrev pub MayRecut : {A : Type 0} → Role → How A → Type 0
MayRecut role (ByPlan plan) = Unit {0}
MayRecut role (BySize size weave key) = (1 ≤ size) × (IsSome key ↔ (role ≡ Client))

-- the key of a recut by size: for a client the key asked for, or zeros; for a server none
abbrev pub key_by_size : Role → Option (List ℕ) → Option (List ℕ)
key_by_size Client None = Some (replicate 4 0)
key_by_size Client (Some key) = Some key
key_by_size Server key = None

-- The job may be run: a recut's frames are as its role requires; other jobs have no condition.
abbrev pub MayRun : {A : Type 0} → Job A → Type 0
MayRun (Recut role limits how) = MayRecut role how
MayRun job = Unit {0}

-- the endpoint whose stream the job reads; a job over a capture reads both streams
abbrev pub job_role : {A : Type 0} → Job A → Option Role
job_role (Judge role limits format) = Some role
job_role (Frames role limits format) = Some role
job_role (Normal role limits) = Some role
job_role (Redact role limits) = Some role
job_role (Plan role limits) = Some role
job_role (Recut role limits how) = Some role
job_role (Payload role limits at) = Some role
job_role (ShowStream role limits style) = Some role
job_role (Closing limits format) = None
job_role (Show limits style) = None
job_role (RedactCapture limits) = None
