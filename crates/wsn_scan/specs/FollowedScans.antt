-- A scan that is followed call by call.
use Rattle.std.specs.Prelude.{◌≡◌, ◌≢◌, ℕ, ◌+◌, ◌<◌, ◌≤◌, ◌^◌, ◌↔◌, true, None, IsSome, List, [], ◌++◌, length}
use Rattle.wsn_wire.specs.declared.endpoint.Role.{Role}
use Rattle.wsn_wire.specs.Frame.{Frame, IsBytes, stream}
use Rattle.wsn_rules.specs.BadCharacter.{payload_offset}
use Rattle.wsn_rules.specs.Group.{unfinished, payload_of}
use Rattle.wsn_rules.specs.Lawful.{IsLawful}
use Rattle.wsn_rules.specs.Limits.{Limits}
use Rattle.wsn_scan.specs.declared.part.Part.{Part}
use Rattle.wsn_scan.specs.declared.part.Taken.{Taken}
use Rattle.wsn_scan.specs.declared.part.Taken.TheVariants as taken
use Rattle.wsn_scan.specs.declared.scan.Scan.{Scan}
use Rattle.wsn_scan.specs.Parts.{ContinuesFrame}
use Rattle.wsn_scan.specs.Positions.{Position}
use Rattle.wsn_scan.specs.Scans.{HasScanned, IsAdvance, Unmasks, HasNoRest, room_of, refusal_in}

-- The scan has consumed the bytes that came and has not refused them. It has taken these frames to their ends, and then
-- this position; the bytes `rest` came after these frames.
pub record HasFollowed (role : Role) (limits : Limits) (scan : Scan) (came : List ℕ) (done : List Frame) (at : Position)
    (rest : List ℕ) : Type 0 where
  pub has_scanned : HasScanned role limits scan came done rest at
  pub unrefused : refusal_in scan ≡ None

-- A call of the scan, which got this chunk, consumed n bytes of it and found this. `after` is the chunk after the call.
pub record IsCall (old new : Scan) (chunk after : List ℕ) (n : ℕ) (found : Taken) (part : Part) : Type 0 where
  pub in_bytes : IsBytes chunk
  pub advances : IsAdvance (record {
    before = old;
    after = new;
    chunk = chunk;
    chunk_after = after;
    count = n;
    found = found;
    part = part;
  })
  pub within : n ≤ length chunk
  pub room : room_of new + n ≡ room_of old
  pub untouched : found ≢ taken.Part → found ≢ taken.Refused → after ≡ chunk
  pub whole : found ≡ taken.Part → part.ends ≡ true → HasNoRest new
  pub refused : found ≡ taken.Refused → Unmasks old.stage old chunk after n
  pub reported : IsSome (refusal_in new) ↔ (found ≡ taken.Refused)

-- After the frames fs and the bytes `rest`, the bytes `share` came. The part takes this payload in them, after `before`,
-- and leads to these frames and this position; the bytes `since` came after these frames. The payload is at the end of
-- the bytes. None of the counts is too large.
pub record IsTaken (role : Role) (limits : Limits) (fs : List Frame) (rest before : List ℕ) (part : Part)
    (payload share : List ℕ) (frames : List Frame) (position : Position) (since : List ℕ) : Type 0 where
  pub goes_on : ContinuesFrame fs before part payload frames position
  pub lawful : IsLawful role limits frames
  pub whole : stream fs ++ (rest ++ share) ≡ stream frames ++ since
  pub no_rest : part.ends ≡ true → since ≡ []
  pub sized : payload_offset part.head + length (before ++ payload) ≡ length (stream fs) + (length rest + length share)
  pub small : length (stream fs) + (length rest + length share) < 2 ^ 64
  pub few_frames : length (unfinished fs) + 1 < 2 ^ 64
  pub few_bytes : length (payload_of (unfinished fs)) + length before + length payload < 2 ^ 64
