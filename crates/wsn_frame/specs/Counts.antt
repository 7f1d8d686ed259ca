-- The counts of complete frames.
use Rattle.std.specs.Prelude.{◌≡◌, List, length, filter}
use Rattle.wsn_wire.specs.Frame.{Frame}
use Rattle.wsn_frame.specs.declared.counts.Counts.{Counts}
use Rattle.wsn_rules.specs.Summary.{ends_message, is_ping, is_pong}

-- The counts are those of the frames: of all, of those that end a message, of the pings and of the pongs.
pub record AreCounts (counts : Counts) (fs : List Frame) : Type 0 where
  pub frames : counts.frames ≡ length fs
  pub messages : counts.messages ≡ length (filter ends_message fs)
  pub pings : counts.pings ≡ length (filter (λ f. is_ping f.op) fs)
  pub pongs : counts.pongs ≡ length (filter (λ f. is_pong f.op) fs)
