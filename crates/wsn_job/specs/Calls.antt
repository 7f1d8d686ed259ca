-- What a library's call answers over bytes in memory, in rooms that its caller lends.
use Rattle.std.specs.Prelude.{◌≡◌, ◌++◌, ℕ, Bool, true, false, List, [], Some, length, take, drop}
use Rattle.std.specs.declared.alloc.Global.{Global}
use Rattle.wsn_io.specs.Transfer.{Incoming, Outgoing}
use Rattle.wsn_command.specs.declared.answered.Ran.{Ran}
use Rattle.wsn_command.specs.declared.job.Job.{Job}
use Rattle.wsn_job.specs.Channels.{channels}
use Rattle.wsn_job.specs.Work.{IsRun}

-- A call's rooms for its text and its message, as it found them and as it leaves them; and its answer: the size of both,
-- whether they fit or not, and the exit status.
pub record Call : Type 0 where
  pub output_before : List ℕ
  pub output_after : List ℕ
  pub message_before : List ℕ
  pub message_after : List ℕ
  pub output_size : ℕ
  pub message_size : ℕ
  pub status : ℕ

-- a room with as much of a text at its front as fits
abbrev pub fitted : List ℕ → List ℕ → List ℕ
fitted text room = take (length room) text ++ drop (length text) room

-- The call gives this text, this message and this exit status.
pub record Gives (done : Call) (text said : List ℕ) (exit : ℕ) : Type 0 where
  pub output : done.output_after ≡ fitted text done.output_before
  pub output_size : done.output_size ≡ length text
  pub message : done.message_after ≡ fitted said done.message_before
  pub message_size : done.message_size ≡ length said
  pub status : done.status ≡ exit

-- an input of these bytes, which are in memory; none has come
abbrev pub input_of : List ℕ → Incoming
input_of bytes = record { remaining = Some bytes; count = 0; failed = false; lent = true }

-- an output that holds these bytes
abbrev pub output_of : List ℕ → Bool → Outgoing
output_of bytes failed = record { written = Some bytes; failed = failed }

-- The command's run over these bytes prints this text on standard output, this message on standard error, and has this
-- exit status; a write to standard error failed or didn't. A write fails only if memory is refused.
pub record IsRunOver (job : Job Global) (bytes text said : List ℕ) (saying_failed : Bool) (exit : ℕ) : Type 0 where
  pub left : Incoming
  pub printing_failed : Bool
  pub ran : Ran
  pub run : IsRun job (channels (input_of bytes) (output_of [] false) (output_of [] false))
      (channels left (output_of text printing_failed) (output_of said saying_failed)) ran
  pub status : exit ≡ ran.status
