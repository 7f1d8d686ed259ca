use Rattle.std.proofs.Common.{◌≡◌, ◌-◌, ◌++◌, ◌∷◌, [], min, replicate, rules}
use Rattle.wsn_wire.specs.declared.length_encoding.Form.TheVariants.{Shortest}
use Rattle.wsn_rules.specs.declared.step.Step.TheVariants.{Piece, Last, Control}
use Rattle.wsn_rules.specs.UniformPlan.{piece_count, ahead}
use Rattle.wsn_plan.specs.Uniform.{message_steps}
use Rattle.wsn_plan.proofs.UniformSteps.{message_pushed, ok_on}
use Rattle.wsn_plan.proofs.uniform_plans.push_message.Goals as goal

pub returns : goal.returns
returns g c = record {
  pushed = let m = c.min-ahead.result in
      let pieces = piece_count c.args.frames.size c.args.bytes in
      let least : m ≡ min pieces (ahead c.args.frames.weave) = cc (c.min-ahead.ensures, c.saturating_sub.ensures, c.from-2.ensures, c.most_ahead.ensures) in
      let first : c.push_times.new.plan ≡ c.args.plan.now ++ replicate m (Piece c.args.frames.size c.args.frames.key Shortest) = cc (c.in_ok-push_times.ensures.pushed, c.from.ensures) in
      let second : c.push_times-2.new.plan ≡ c.push_times.new.plan ++ replicate c.args.controls (Control c.args.frames.key) = c.in_ok-push_times-2.ensures.pushed in
      let third : c.push_times-3.new.plan ≡ c.push_times-2.new.plan ++ replicate (pieces - m) (Piece c.args.frames.size c.args.frames.key Shortest) =
      cc (c.in_ok-push_times-3.ensures.pushed, c.from.ensures, c.saturating_sub.ensures, c.from-2.ensures) in
      ok_on c.push.result (c.push.new.self ≡ c.push_times-3.new.plan ++ Last c.args.frames.key Shortest ∷ []) (c.push.new.self ≡ c.args.plan.now ++ message_steps c.args.frames.size c.args.frames.weave c.args.frames.key c.args.controls c.args.bytes)
      (λ fourth. message_pushed c.args.frames.size c.args.frames.weave c.args.frames.key c.args.plan.now c.push_times.new.plan c.push_times-2.new.plan c.push_times-3.new.plan c.push.new.self c.args.controls c.args.bytes m least first second third fourth)
      c.push.ensures.pushed;
  stop = search rules;
}

pub nonzero_div-pieces : goal.nonzero_div-pieces
nonzero_div-pieces g c = search rules

pub returns-in_err-push_times : goal.returns-in_err-push_times
returns-in_err-push_times g c = record { pushed = search rules; stop = search rules }

pub returns-in_err-push_times-2 : goal.returns-in_err-push_times-2
returns-in_err-push_times-2 g c = record { pushed = search rules; stop = search rules }

pub overflow_sub-pieces : goal.overflow_sub-pieces
overflow_sub-pieces g c = search rules

pub returns-in_err-push_times-3 : goal.returns-in_err-push_times-3
returns-in_err-push_times-3 g c = record { pushed = search rules; stop = search rules }
