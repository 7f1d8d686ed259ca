use Rattle.std.proofs.Common.{◌≡◌, List, ℕ, ◌++◌, ◌∙◌, ap, append_assoc, codes, subst, sym}
use Rattle.wsn_io.specs.Stops.{IsWrittenOrStops}
use Rattle.wsn_rules.specs.declared.closing_handshake.Report.{Report}
use Rattle.wsn_print.specs.NamedReportText.{named_report_line, outcome_columns}
use Rattle.wsn_print.specs.EscapedText.{comment_text}
use Rattle.wsn_print.proofs.Pieces.{first_stops, two_pieces}
use Rattle.wsn_print.proofs.named_reports.put_named_line.Goals as goal

-- the line in its pieces
pieces : (bytes name : List ℕ) (report : Report) → bytes ≡ name → comment_text bytes ++ (outcome_columns report ++ codes "\n") ≡ named_report_line name report
pieces bytes name report is =
    ap (λ (text : List ℕ). comment_text text ++ (outcome_columns report ++ codes "\n")) is
    ∙ sym (append_assoc (comment_text name) (outcome_columns report) (codes "\n"))

pub returns-in_err-put_comment_text : goal.returns-in_err-put_comment_text
returns-in_err-put_comment_text g c =
    first_stops c.args.to.now c.put_comment_text.new.to (comment_text c.as_bytes.result.now) (outcome_columns c.args.report.now ++ codes "\n") (named_report_line c.args.name.now c.args.report.now)
    c.in_err-put_comment_text.field-0.0 c.from_residual.result (pieces c.as_bytes.result.now c.args.name.now c.args.report.now c.as_bytes.ensures.value) c.in_err-put_comment_text.ensures c.from_residual.ensures.1

pub returns : goal.returns
returns g c =
    two_pieces c.args.to.now c.put_comment_text.new.to c.put_line.new.to (comment_text c.as_bytes.result.now) (outcome_columns c.args.report.now ++ codes "\n") (named_report_line c.args.name.now c.args.report.now)
    c.put_line.result (pieces c.as_bytes.result.now c.args.name.now c.args.report.now c.as_bytes.ensures.value) c.in_ok-put_comment_text.ensures
    (subst (λ (t : List ℕ). IsWrittenOrStops c.put_comment_text.new.to c.put_line.new.to t c.put_line.result)
    (c.bytes.ensures ∙ c.push.ensures.text ∙ ap (λ (t : List ℕ). t ++ codes "\n") c.columns_of-line.ensures.text) c.put_line.ensures)
