-- The numbers by which options name roles, formats, encodings of a length, what is shown, and flags.
use Rattle.std.specs.Prelude.{ℕ, Bool, false, true}
use Rattle.wsn_wire.specs.declared.endpoint.Role.{Role, TheVariants.{Client, Server}}
use Rattle.wsn_wire.specs.declared.length_encoding.Lengths.{Lengths, TheVariants.{Shortest, Any}}
use Rattle.wsn_rules.specs.declared.detail.Detail.{Detail, TheVariants.{Events, Frames}}
use Rattle.wsn_print.specs.declared.format.Format.{Format, TheVariants.{Text, People, Json}}

abbrev pub role_number : Role → ℕ
role_number Client = 0
role_number Server = 1

abbrev pub format_number : Format → ℕ
format_number Text = 0
format_number Json = 1
format_number People = 2

abbrev pub lengths_number : Lengths → ℕ
lengths_number Shortest = 0
lengths_number Any = 1

abbrev pub detail_number : Detail → ℕ
detail_number Events = 0
detail_number Frames = 1

abbrev pub flag_number : Bool → ℕ
flag_number false = 0
flag_number true = 1
