-- The first or the last of the bytes that came, and the last of those in earlier frames.
use Rattle.std.specs.Prelude.{◌≡◌, ℕ, ◌-◌, List, length, take, drop}
use Rattle.wsn_show.specs.declared.first_bytes.FirstBytes.{FirstBytes}
use Rattle.wsn_show.specs.declared.last_bytes.LastBytes.{LastBytes}
use Rattle.wsn_show.specs.declared.earlier_payload.EarlierPayload.{EarlierPayload}
use Rattle.wsn_rules.specs.BadCharacter.{last_of}

-- These bytes came. Their number is counted, and the first 4,096 are held.
pub record HasFirst (first : FirstBytes) (came : List ℕ) : Type 0 where
  pub count : first.count ≡ length came
  pub held : first.held ≡ take 4096 came

-- These bytes came. Their number is counted, and the last 2,048 are held.
pub record HasLast (last : LastBytes) (came : List ℕ) : Type 0 where
  pub count : last.count ≡ length came
  pub held : last.held ≡ drop (length came - 2048) came

-- These bytes came, and of those that are held the last 48 are the last of them.
abbrev pub HasEarlier : EarlierPayload → List ℕ → Type 0
HasEarlier earlier came = last_of 48 earlier.held ≡ last_of 48 came
