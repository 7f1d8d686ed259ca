use Rattle.std.proofs.Common.{[], refl, arith, rules}
use Rattle.wsn_rules.specs.Limits.{InRange}
use Rattle.wsn_show.proofs.ShownChunks.{nothing_shown}
use Rattle.wsn_show.proofs.stream_view.StreamView.new.Goals as goal

pub invariant_of-result : goal.invariant_of-result
invariant_of-result c = record {
  role = c.args.role;
  limits = c.args.limits;
  style = c.args.style;
  came = [];
  has = record {
    sender = refl;
    in_style = refl;
    in_range = let within : InRange c.args.limits = search rules in within;
    input = c.input.ensures.value;
    room = let is = c.input-2.ensures.value in omega (arith, is);
    shown = [];
    has = nothing_shown c.args.style c.args.role c.args.limits c.new.result c.new-2.result c.new.ensures (c.new-2.ensures c.args.style.view c.requires);
  };
}

pub returns : goal.returns
returns c = record {
  sender = refl;
  in_style = refl;
  in_range = let within : InRange c.args.limits = search rules in within;
  input = c.input.ensures.value;
  room = let is = c.input-2.ensures.value in omega (arith, is);
  shown = [];
  has = nothing_shown c.args.style c.args.role c.args.limits c.new.result c.new-2.result c.new.ensures (c.new-2.ensures c.args.style.view c.requires);
}
