-- The counts of a stream that isn't refused. RFC 6455 sections 5.4 to 5.6 and 7.1.5.
use Rattle.std.specs.Prelude.{ℕ, Bool, true, false, ◌&&◌, Option, Some, None, List, [], ◌∷◌, length, filter, if◌then◌else◌}
use Rattle.std.specs.Int.{from_be_bytes, w16}
use Rattle.wsn_wire.specs.declared.opcode.Op.{Op, TheVariants.{Close, Ping, Pong}}
use Rattle.wsn_wire.specs.Frame.{Frame}
use Rattle.wsn_rules.specs.declared.verdict.Summary.{Summary}
use Rattle.wsn_rules.specs.Group.{is_data, unfinished, payload_of}

-- The size in bytes of the open message, if there is one.
abbrev pub size_of_open : List Frame → Option ℕ
size_of_open [] = None
size_of_open (f ∷ group) = Some (length (payload_of (f ∷ group)))

-- [5.4] The frame ends a message: it is a final data frame.
abbrev pub ends_message : Frame → Bool
ends_message f = is_data f && f.fin

-- The opcode is Close.
abbrev pub is_close : Op → Bool
is_close Close = true
is_close _ = false

-- The opcode is Ping.
abbrev pub is_ping : Op → Bool
is_ping Ping = true
is_ping _ = false

-- The opcode is Pong.
abbrev pub is_pong : Op → Bool
is_pong Pong = true
is_pong _ = false

-- [7.1.5] The code in the body of a Close: its first two bytes, the higher first; none if the body is empty.
abbrev pub close_code : List ℕ → Option ℕ
close_code (high ∷ low ∷ reason) = Some (from_be_bytes w16 (high ∷ low ∷ []))
close_code body = None

-- The code of the first Close, or none if it is empty; and none without a Close.
abbrev pub close_of : List Frame → Option (Option ℕ)
close_of [] = None
close_of (f ∷ fs) = if is_close f.op then Some (close_code f.payload) else close_of fs

-- The summary of the frames fs: the bytes used, the bytes after a Close, the size of the open message, the numbers of
-- frames, messages, pings and pongs, and the close.
abbrev pub counted : List Frame → ℕ → ℕ → Summary
counted fs used tail = record {
  used = used;
  tail = tail;
  unfinished = size_of_open (unfinished fs);
  frames = length fs;
  messages = length (filter ends_message fs);
  pings = length (filter (λ f. is_ping f.op) fs);
  pongs = length (filter (λ f. is_pong f.op) fs);
  close = close_of fs;
}
