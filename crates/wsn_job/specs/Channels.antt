-- The channels of a command's run, before it or after it.
use Rattle.wsn_io.specs.Transfer.{Incoming, Outgoing}

-- The input, standard output and standard error of a command over one input.
pub record Channels : Type 0 where
  pub input : Incoming
  pub output : Outgoing
  pub errors : Outgoing

-- the channels of a command over one input, from each by itself
abbrev pub channels : Incoming → Outgoing → Outgoing → Channels
channels input output errors = record { input = input; output = output; errors = errors }
