use Rattle.std.proofs.Common.{sym, subst, rules}
use Rattle.wsn_io.specs.Stops.{IsWrittenOrStops}
use Rattle.wsn_print.specs.declared.format.Format.{Format}
use Rattle.wsn_print.specs.Formats.{report_text}
use Rattle.wsn_print.proofs.format.put_report_as.Goals as goal

pub returns-in-People : goal.returns-in-People
returns-in-People g c = search rules

pub returns-in-Json : goal.returns-in-Json
returns-in-Json g c =
    subst (λ (f : Format). IsWrittenOrStops c.args.to.now c.put_report_object.new.to (report_text f c.args.report.now) c.put_report_object.result)
    (sym c.in-Json.is) c.put_report_object.ensures
