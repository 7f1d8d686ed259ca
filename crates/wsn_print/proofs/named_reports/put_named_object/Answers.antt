use Rattle.std.proofs.Common.{◌≡◌, List, ℕ, ◌++◌, ◌-◌, ◌∙◌, ap, append_assoc, arith, codes, drop, length, length-drop, subst, sym}
use Rattle.std.proofs.lemmas.List.{take_all}
use Rattle.std.specs.Prelude.{flat_map}
use Rattle.std.specs.Str.{chars}
use Rattle.wsn_io.specs.Stops.{IsWrittenOrStops}
use Rattle.wsn_rules.specs.declared.closing_handshake.Report.{Report}
use Rattle.wsn_print.specs.NamedReportText.{named_report_object}
use Rattle.wsn_print.specs.Objects.{report_object}
use Rattle.wsn_print.specs.EscapedText.{quoted_character}
use Rattle.wsn_print.proofs.Pieces.{first_stops, second_stops, third_stops, four_pieces}
use Rattle.wsn_print.proofs.named_reports.put_named_object.Goals as goal

-- the object in its pieces
pieces : (name : List ℕ) (report : Report) →
    codes "{\"file\":\"" ++ (flat_map quoted_character (chars name) ++ (codes "\"," ++ drop 1 (report_object report))) ≡ named_report_object name report
pieces name report =
    let text : List ℕ = flat_map quoted_character (chars name) in
    let members : List ℕ = drop 1 (report_object report) in
    ap (λ (t : List ℕ). codes "{\"file\":\"" ++ t) (sym (append_assoc (text ++ codes "\"") (codes ",") members ∙ append_assoc text (codes "\"") (codes "," ++ members)))

pub returns-in_err-put_line : goal.returns-in_err-put_line
returns-in_err-put_line g c =
    first_stops c.args.to.now c.put_line.new.to (codes "{\"file\":\"") (flat_map quoted_character (chars c.args.name.now) ++ (codes "\"," ++ drop 1 (report_object c.args.report.now)))
    (named_report_object c.args.name.now c.args.report.now) c.in_err-put_line.field-0.0 c.from_residual.result (pieces c.args.name.now c.args.report.now)
    c.in_err-put_line.ensures c.from_residual.ensures.1

pub returns-in_err-put_quoted_characters : goal.returns-in_err-put_quoted_characters
returns-in_err-put_quoted_characters g c =
    second_stops c.args.to.now c.put_line.new.to c.put_quoted_characters.new.to (codes "{\"file\":\"") (flat_map quoted_character (chars c.args.name.now)) (codes "\"," ++ drop 1 (report_object c.args.report.now))
    (named_report_object c.args.name.now c.args.report.now) c.in_err-put_quoted_characters.field-0.0 c.from_residual-in_err-put_quoted_characters.result (pieces c.args.name.now c.args.report.now)
    c.in_ok-put_line.ensures c.in_err-put_quoted_characters.ensures c.from_residual-in_err-put_quoted_characters.ensures.1

pub returns-in_err-put_line-2 : goal.returns-in_err-put_line-2
returns-in_err-put_line-2 g c =
    third_stops c.args.to.now c.put_line.new.to c.put_quoted_characters.new.to c.put_line-2.new.to (codes "{\"file\":\"") (flat_map quoted_character (chars c.args.name.now)) (codes "\",") (drop 1 (report_object c.args.report.now))
    (named_report_object c.args.name.now c.args.report.now) c.in_err-put_line-2.field-0.0 c.from_residual-in_err-put_line-2.result (pieces c.args.name.now c.args.report.now)
    c.in_ok-put_line.ensures c.in_ok-put_quoted_characters.ensures c.in_err-put_line-2.ensures c.from_residual-in_err-put_line-2.ensures.1

pub returns : goal.returns
returns g c =
    four_pieces c.args.to.now c.put_line.new.to c.put_quoted_characters.new.to c.put_line-2.new.to c.put_line-3.new.to (codes "{\"file\":\"") (flat_map quoted_character (chars c.args.name.now)) (codes "\",") (drop 1 (report_object c.args.report.now))
    (named_report_object c.args.name.now c.args.report.now) c.put_line-3.result (pieces c.args.name.now c.args.report.now)
    c.in_ok-put_line.ensures c.in_ok-put_quoted_characters.ensures c.in_ok-put_line-2.ensures
    (subst (λ (t : List ℕ). IsWrittenOrStops c.put_line-2.new.to c.put_line-3.new.to t c.put_line-3.result)
    (take_all (length c.bytes.result.now - 1) (drop 1 c.bytes.result.now) (omega (arith, length-drop 1 c.bytes.result.now)) ∙ ap (λ (t : List ℕ). drop 1 t) (c.bytes.ensures ∙ c.line_of_report.ensures)) c.put_line-3.ensures)
