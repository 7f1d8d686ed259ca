-- What settings ask for.
use Rattle.std.specs.Prelude.{◌≡◌, ◌==◌, ◌^◌, min, if◌then◌else◌, None, Some}
use Rattle.wsn_wire.specs.declared.endpoint.Role.{Role, TheVariants.{Client, Server}}
use Rattle.wsn_wire.specs.declared.length_encoding.Lengths.TheVariants.{Shortest, Any}
use Rattle.wsn_rules.specs.Limits.{Limits}
use Rattle.wsn_rules.specs.declared.detail.Detail.TheVariants.{Events, Frames}
use Rattle.wsn_print.specs.declared.format.Format.TheVariants.{Json}
use Rattle.wsn_print.specs.declared.style.Style.{Style}
use Rattle.wsn_page.specs.declared.settings.Settings.{Settings}

-- the endpoint that sent the stream
abbrev pub role_asked : Settings → Role
role_asked settings = if settings.role == 0 then Client else Server

-- the limits: 0 means any number of frames in a message, and an input may have 2^40 bytes
abbrev pub limits_asked : Settings → Limits
limits_asked settings = record {
  message = min settings.limit 16777216;
  input = 2 ^ 40;
  frames = if settings.frames == 0 then None else Some settings.frames;
  lengths = if settings.lengths == 0 then Shortest else Any;
}

-- The style that is asked for: JSON objects of events or of frames, with as much of a payload as can be shown.
pub record IsStyleAsked (settings : Settings) (style : Style) : Type 0 where
  pub view : style.view ≡ 4096
  pub detail : style.detail ≡ (if settings.detail == 0 then Events else Frames)
  pub format : style.format ≡ Json
