use Rattle.std.proofs.Common.{ℕ, List, ◌++◌, ◌∙◌, ap, refl, subst}
use Rattle.wsn_io.specs.Stops.{IsWrittenOrStops}
use Rattle.wsn_print.specs.ReportText.{report_lines}
use Rattle.wsn_print.specs.PeopleReport.{meaning_lines, people_report}
use Rattle.wsn_print.proofs.Pieces.{first_stops, two_pieces}
use Rattle.wsn_print.proofs.people_reports.put_people_report.Goals as goal

pub returns-in_err-put_report : goal.returns-in_err-put_report
returns-in_err-put_report g c =
    let report = c.args.report.now in
    first_stops c.args.to.now c.put_report.new.to (report_lines report) (meaning_lines report.outcome report) (people_report report)
    c.in_err-put_report.field-0.0 c.from_residual.result refl c.in_err-put_report.ensures c.from_residual.ensures.1

pub returns : goal.returns
returns g c =
    let report = c.args.report.now in
    let means = meaning_lines report.outcome report in
    two_pieces c.args.to.now c.put_report.new.to c.put_line.new.to (report_lines report) means (people_report report)
    c.put_line.result refl c.in_ok-put_report.ensures
    (subst (λ (t : List ℕ). IsWrittenOrStops c.put_report.new.to c.put_line.new.to t c.put_line.result)
    (c.bytes.ensures ∙ c.push_meaning.ensures ∙ ap (λ (lines : List ℕ). lines ++ means) c.new-lines.ensures) c.put_line.ensures)
