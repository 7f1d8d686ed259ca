-- What is printed of an answer in each format, with its LF.
use Rattle.std.specs.Prelude.{ℕ, List, flat_map}
use Rattle.wsn_rules.specs.declared.compared.Compared.{Compared}
use Rattle.wsn_rules.specs.declared.head_info.HeadInfo.{HeadInfo}
use Rattle.wsn_rules.specs.declared.closing_handshake.Report.{Report}
use Rattle.wsn_rules.specs.declared.verdict.Verdict.{Verdict}
use Rattle.wsn_print.specs.declared.format.Format.{Format, TheVariants.{Text, People, Json}}
use Rattle.wsn_print.specs.VerdictText.{verdict_line, comparison_line}
use Rattle.wsn_print.specs.HeadText.{head_line}
use Rattle.wsn_print.specs.ReportText.{report_lines}
use Rattle.wsn_print.specs.PeopleReport.{people_report}
use Rattle.wsn_print.specs.Objects.{verdict_object, frame_object, report_object, comparison_object}

-- A verdict.
abbrev pub verdict_text : Format → Verdict → List ℕ
verdict_text Text = verdict_line
verdict_text People = verdict_line
verdict_text Json = verdict_object

-- A frame's head.
abbrev pub head_text : Format → HeadInfo → List ℕ
head_text Text = head_line
head_text People = head_line
head_text Json = frame_object

-- Heads, in order.
abbrev pub heads_text : Format → List HeadInfo → List ℕ
heads_text format heads = flat_map (head_text format) heads

-- A report.
abbrev pub report_text : Format → Report → List ℕ
report_text Text = report_lines
report_text People = people_report
report_text Json = report_object

-- A comparison.
abbrev pub comparison_text : Format → Compared → List ℕ
comparison_text Text = comparison_line
comparison_text People = comparison_line
comparison_text Json = comparison_object
