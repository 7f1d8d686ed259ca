use Rattle.std.proofs.Common.{rules, ◌≤◌, ◌+◌, arith, length-take-le}
use Rattle.wsn_capture.proofs.SideSources.{keeps_going, taken_from}
use Rattle.wsn_capture.proofs.side_source.SideSource.step.Goals as goal

pub returns : goal.returns
returns g c = record {
  left = let old = c.args.self.now in
      let within : old.start + c.take_from.result ≤ old.end = omega (arith, c.take_from.ensures.within, length-take-le old.end old.chunk (omega arith)) in
      keeps_going old.ended (g.R.Read.remaining old.reader) _ _ _ _ c.requires.going (taken_from old.lines c.take_from.new.self old.chunk old.start old.end c.take_from.result within c.take_from.ensures.left);
  falls = search rules;
}

pub fill-requires : goal.fill-requires
fill-requires g c = record { going = search rules; empty = search rules; ready = search rules }

pub returns-then-self : goal.returns-then-self
returns-then-self g c = record { left = search rules; falls = search rules }

pub shared_ref_as_front-take_from : goal.shared_ref_as_front-take_from
shared_ref_as_front-take_from g c = search rules

pub take_from-requires : goal.take_from-requires
take_from-requires g c = record { some = search rules; ready = search rules; short = search rules; in_line = search rules }

pub overflow_add-self : goal.overflow_add-self
overflow_add-self g c = search rules

pub invariant_of-self : goal.invariant_of-self
invariant_of-self g c = search rules
