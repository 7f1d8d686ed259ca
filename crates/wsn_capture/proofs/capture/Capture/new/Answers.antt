use Rattle.std.proofs.Common.{[], arith}
use Rattle.wsn_wire.specs.declared.endpoint.Role.{Role}
use Rattle.wsn_rules.specs.Limits.{Limits}
use Rattle.wsn_scan.specs.declared.scan.Scan.{Scan}
use Rattle.wsn_scan.specs.Positions.{BetweenFrames}
use Rattle.wsn_scan.specs.Scans.{HasScanned}
use Rattle.wsn_capture.specs.Captures.{HasStreamed}
use Rattle.wsn_capture.proofs.capture.Capture.new.Goals as goal

-- a scan that has consumed nothing
none_came : (role : Role) (limits : Limits) (scan : Scan) → HasScanned role limits scan [] [] [] BetweenFrames → HasStreamed role limits scan []
none_came role limits scan new = grind arith

pub returns : goal.returns
returns c = record {
  entries = [];
  accepted = c.new.ensures.accepted;
  noted = c.new.ensures.noted;
  client = none_came _ _ _ c.new-2.ensures;
  server = none_came _ _ _ c.new-3.ensures;
}

pub invariant_of-result : goal.invariant_of-result
invariant_of-result c = record {
  limits = c.args.limits;
  lines = [];
  has = returns c;
}
