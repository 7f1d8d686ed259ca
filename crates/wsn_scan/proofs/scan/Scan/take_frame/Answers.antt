use Rattle.std.proofs.Common.{◌≡◌, sym, subst, rules}
use Rattle.std.specs.Prelude.{IfSome}
use Rattle.wsn_scan.specs.declared.part.Taken.TheVariants as taken
use Rattle.wsn_scan.specs.declared.stage.Stage.{Stage}
use Rattle.wsn_scan.specs.declared.stage.Stage.TheVariants as stages
use Rattle.wsn_scan.specs.Scans.{AdvancesFrom}
use Rattle.wsn_scan.proofs.scan.Scan.take_frame.Goals as goal

pub returns-in-None-clause-taken : goal.returns-in-None-clause-taken
returns-in-None-clause-taken c =
    let between : c.args.self.now.stage ≡ stages.Between = c.is_between.ensures (search rules) in
    subst (λ (stage : Stage). IfSome c.take_frame_after.result (λ count. AdvancesFrom stage c.args.self.now c.take_frame_after.new.self c.args.chunk.now c.take_frame_after.new.chunk count taken.Part c.take_frame_after.new.part))
    (sym between) c.take_frame_after.ensures.taken

pub returns-in_default-clause-taken : goal.returns-in_default-clause-taken
returns-in_default-clause-taken c =
    let between : c.args.self.now.stage ≡ stages.Between = c.is_between.ensures (search rules) in
    subst (λ (stage : Stage). IfSome c.take_frame_within.result (λ count. AdvancesFrom stage c.args.self.now c.take_frame_within.new.self c.args.chunk.now c.take_frame_within.new.chunk count taken.Part c.take_frame_within.new.part))
    (sym between) c.take_frame_within.ensures.taken

pub returns-then-not-is_between-clause-none : goal.returns-then-not-is_between-clause-none
returns-then-not-is_between-clause-none c = search rules

pub take_frame_after-requires-clause-fits : goal.take_frame_after-requires-clause-fits
take_frame_after-requires-clause-fits c = search rules

pub take_frame_after-requires-clause-open : goal.take_frame_after-requires-clause-open
take_frame_after-requires-clause-open c = search rules

pub take_frame_within-requires-clause-fits : goal.take_frame_within-requires-clause-fits
take_frame_within-requires-clause-fits c = search rules

pub take_frame_within-requires-clause-open : goal.take_frame_within-requires-clause-open
take_frame_within-requires-clause-open c = search rules

pub returns-in-None-clause-none : goal.returns-in-None-clause-none
returns-in-None-clause-none c = search rules

pub returns-in_default-clause-none : goal.returns-in_default-clause-none
returns-in_default-clause-none c = search rules

pub returns-then-not-is_between-clause-between : goal.returns-then-not-is_between-clause-between
returns-then-not-is_between-clause-between c = search rules

pub returns-in-None-clause-between : goal.returns-in-None-clause-between
returns-in-None-clause-between c = search rules

pub returns-in_default-clause-between : goal.returns-in_default-clause-between
returns-in_default-clause-between c = search rules

pub returns-in-None-clause-part : goal.returns-in-None-clause-part
returns-in-None-clause-part c = search rules

pub returns-in_default-clause-part : goal.returns-in_default-clause-part
returns-in_default-clause-part c = search rules
