-- Accepted streams. RFC 6455 sections 5.4, 5.5.1 and 7.1.
use Rattle.std.specs.Prelude.{ℕ, List}
use Rattle.wsn_wire.specs.declared.endpoint.Role.{Role}
use Rattle.wsn_wire.specs.Frame.{Frame}
use Rattle.wsn_rules.specs.Limits.{Limits}
use Rattle.wsn_rules.specs.Lawful.{IsLawful}
use Rattle.wsn_rules.specs.AfterClose.{Ends}

-- The bytes begin with these frames, which are lawful, and the stream may end there.
pub record IsAccepted (role : Role) (limits : Limits) (bytes : List ℕ) (fs : List Frame) : Type 0 where
  pub lawful : IsLawful role limits fs
  pub ends : Ends fs bytes
