use Rattle.std.proofs.Common.{rules, subst, sym}
use Rattle.wsn_command.specs.declared.job.How.{How}
use Rattle.wsn_plan.specs.Recutting.{IsRecut}
use Rattle.wsn_job.specs.Recuts.{planned_by}
use Rattle.wsn_job.proofs.recuts.recut_input.Goals as goal

pub recut-requires : goal.recut-requires
recut-requires g c = record { readable = search rules; writable = search rules }

pub recut_uniform-requires : goal.recut_uniform-requires
recut_uniform-requires g c = record { readable = search rules; writable = search rules; size = search rules; key = search rules }

pub returns-in-ByPlan : goal.returns-in-ByPlan
returns-in-ByPlan g c =
    subst (λ (how : How g.row.A.Denot). IsRecut c.args.role c.args.limits (planned_by how) c.args.input.now c.recut.new.input c.args.output.now
    c.recut.new.output c.recut.result) (sym c.in-ByPlan.is) c.recut.ensures.recut

pub returns-in-BySize : goal.returns-in-BySize
returns-in-BySize g c =
    subst (λ (how : How g.row.A.Denot). IsRecut c.args.role c.args.limits (planned_by how) c.args.input.now c.recut_uniform.new.input c.args.output.now
    c.recut_uniform.new.output c.recut_uniform.result) (sym c.in-BySize.is) c.recut_uniform.ensures.recut
