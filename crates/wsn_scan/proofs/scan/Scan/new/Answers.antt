use Rattle.std.proofs.Common.{refl, arith}
use Rattle.wsn_rules.proofs.LawfulLists.{lawful_nil, no_close_nil}
use Rattle.wsn_scan.proofs.scan.Scan.new.Goals as goal

pub returns : goal.returns
returns c = record {
  has_consumed = record {
    sender = refl;
    under = refl;
    in_range = c.input.ensures.in_range;
    lawful = lawful_nil c.args.role c.args.limits;
    whole = refl;
    in_bytes = tt;
    room = omega (arith, c.input.ensures.value);
    used = refl;
    counts = c.new.ensures;
    message = refl;
  };
  is_at = (no_close_nil, refl, refl);
}
