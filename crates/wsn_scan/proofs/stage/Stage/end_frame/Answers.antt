use Rattle.std.proofs.Common.{◌∙◌, Some, refl, ap, sym, subst, rules, arith}
use Rattle.std.proofs.lemmas.Grind.{common_steps}
use Rattle.wsn_wire.specs.Frame.{first_byte}
use Rattle.wsn_frame.specs.declared.payload_check.PayloadCheck.{PayloadCheck}
use Rattle.wsn_rules.specs.Group.{unfinished}
use Rattle.wsn_frame.specs.PayloadChecks.{HasChecked}
use Rattle.wsn_scan.proofs.FrameEnds.{close_of-push, close_not_one, is_a_close, ends_with_close}
use Rattle.wsn_scan.proofs.stage.Stage.end_frame.Goals as goal

pub returns-in-Close-clause-stage : goal.returns-in-Close-clause-stage
returns-in-Close-clause-stage c role limits bytes fs f lawful none checked =
    let at = subst (λ (check : PayloadCheck). HasChecked (unfinished fs) (first_byte f.fin f.op) check f.payload) c.in-Close.is checked in
    let is = is_a_close f at.0 in
    let code = c.code.ensures f.payload at.1 (close_not_one role limits fs f lawful is) in
    (ends_with_close fs f is, close_of-push fs f none is ∙ ap Some (sym code), refl)

pub returns-in-Close-clause-reported : goal.returns-in-Close-clause-reported
returns-in-Close-clause-reported c = search rules

pub returns-in-Free-clause-stage : goal.returns-in-Free-clause-stage
returns-in-Free-clause-stage c = grind (arith, common_steps)

pub returns-in-Free-clause-reported : goal.returns-in-Free-clause-reported
returns-in-Free-clause-reported c = search rules
