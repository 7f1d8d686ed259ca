-- Whom a Close accuses, by the report on a capture. RFC 6455 section 7.4.1.
use Rattle.std.specs.Prelude.{◌≡◌, ◌≢◌, ◌⊎◌, ℕ, true, Option, None, Some}
use Rattle.wsn_wire.specs.declared.endpoint.Role.{Role, TheVariants.{Client, Server}}
use Rattle.wsn_rules.specs.declared.closing_handshake.Report.{Report}
use Rattle.wsn_rules.specs.declared.closing_handshake.Side.{Side, TheVariants.{Closed}}
use Rattle.wsn_rules.specs.ClosingHandshake.{IsRefusedSide, other_endpoint}
use Rattle.wsn_hint.specs.declared.charge.Charge.{Charge, TheVariants.{Protocol, Content, Size}}
use Rattle.wsn_hint.specs.declared.hint.Hint.{Hint, TheVariants.{Accuses}}

-- The code of a Close that says so: a protocol error, data that doesn't fit a message's kind, a message that is too big.
abbrev pub charge_code : Charge → ℕ
charge_code Protocol = 1002
charge_code Content = 1007
charge_code Size = 1009

-- what became of the endpoint's stream
abbrev pub side_in : Role → Report → Side
side_in Client report = report.client
side_in Server report = report.server

-- The endpoint's Close accuses the other one, whose stream isn't refused. It is no echo: it came first, or the Closes
-- differ.
pub record IsAccusing (role : Role) (report : Report) (charge : Charge) : Type 0 where
  pub code : side_in role report ≡ Closed (Some (charge_code charge))
  pub own : (report.first ≡ Some role) ⊎ (report.echo ≢ Some true)
  pub unrefused : ¬ (IsRefusedSide (side_in (other_endpoint role) report))

-- The hint says that an endpoint accuses the other one, the client if both do; there is none only if neither does.
abbrev pub IsAccusingHint : Report → Option Hint → Type 0
IsAccusingHint report None = (role : Role) (charge : Charge) → IsAccusing role report charge → ⊥
IsAccusingHint report (Some (Accuses Client charge)) = IsAccusing Client report charge
IsAccusingHint report (Some (Accuses Server charge)) =
    IsAccusing Server report charge × ((charge : Charge) → IsAccusing Client report charge → ⊥)
IsAccusingHint report (Some hint) = ⊥
