-- What options ask for.
use Rattle.std.specs.Prelude.{◌≡◌, ℕ, ◌==◌, ◌<◌, ◌≤◌, ◌^◌, ◌⊎◌, if◌then◌else◌, None, Some}
use Rattle.wsn_rules.specs.Limits.{Limits}
use Rattle.wsn_rules.specs.declared.without.Without.{Without}
use Rattle.wsn_print.specs.WholeViews.{whole_view}
use Rattle.wsn_c.specs.declared.options.Options.{Options}
use Rattle.wsn_c.specs.declared.options.Asked.{Asked}
use Rattle.wsn_c.specs.Numbers.{role_number, format_number, lengths_number, detail_number, flag_number}

-- Each flag is 0 or 1.
pub record AreFlagsInRange (options : Options) : Type 0 where
  pub pings : options.without_pings ≤ 1
  pub pongs : options.without_pongs ≤ 1
  pub closes : options.without_closes ≤ 1

-- A view of at most 4,096 bytes, or 65,535 for whole payloads.
abbrev pub IsViewInRange : ℕ → Type 0
IsViewInRange view = (view ≤ 4096) ⊎ (view ≡ 65535)

-- the view that is asked for, of a stream under these limits
abbrev pub view_asked : ℕ → Limits → ℕ
view_asked view limits = if view == 65535 then whole_view limits else view

-- Each option has a meaning.
pub record AreInRange (options : Options) : Type 0 where
  pub role : options.role ≤ 1
  pub format : options.format ≤ 1
  pub lengths : options.lengths ≤ 1
  pub detail : options.detail ≤ 1
  pub flags : AreFlagsInRange options
  pub view : IsViewInRange options.view
  pub limit : options.limit ≤ 16777216

-- The options ask for these limits: the number 0 stands for any number of frames, and an input may have 2^40 bytes.
pub record AreLimitsAsked (options : Options) (limits : Limits) : Type 0 where
  pub message : limits.message ≡ options.limit
  pub input : limits.input ≡ 2 ^ 40
  pub any_frames : options.frames ≡ 0 → limits.frames ≡ None
  pub frames : 0 < options.frames → limits.frames ≡ Some options.frames
  pub lengths : options.lengths ≡ lengths_number limits.lengths

-- The options ask for a comparison without these controls.
pub record IsWithoutAsked (options : Options) (without : Without) : Type 0 where
  pub pings : options.without_pings ≡ flag_number without.ping
  pub pongs : options.without_pongs ≡ flag_number without.pong
  pub closes : options.without_closes ≡ flag_number without.close

-- The options ask for this.
pub record IsAsked (options : Options) (asked : Asked) : Type 0 where
  pub role : options.role ≡ role_number asked.role
  pub limits : AreLimitsAsked options asked.limits
  pub without : IsWithoutAsked options asked.without
  pub view : asked.style.view ≡ view_asked options.view asked.limits
  pub detail : options.detail ≡ detail_number asked.style.detail
  pub format : options.format ≡ format_number asked.style.format

-- the program's options by default, for a stream that a client sent
abbrev pub defaults : Options
defaults = record {
  role = 0;
  format = 0;
  lengths = 0;
  detail = 0;
  without_pings = 0;
  without_pongs = 0;
  without_closes = 0;
  view = 48;
  limit = 16777216;
  frames = 0;
}
