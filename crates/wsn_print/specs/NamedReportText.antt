-- The report on one of several captures, in one line, with the name of its file.
use Rattle.std.specs.Prelude.{ℕ, List, ◌++◌, drop, codes}
use Rattle.wsn_rules.specs.declared.closing_handshake.Report.{Report}
use Rattle.wsn_print.specs.declared.format.Format.{Format, TheVariants.{Text, People, Json}}
use Rattle.wsn_print.specs.Objects.{report_object}
use Rattle.wsn_print.specs.ReportText.{side_text, outcome_word}
use Rattle.wsn_print.specs.EscapedText.{comment_text, quoted}

-- The outcome and what became of both streams, each after a tab.
abbrev pub outcome_columns : Report → List ℕ
outcome_columns report =
    codes "\t" ++ outcome_word report.outcome ++ codes "\t" ++ side_text report.client ++ codes "\t"
    ++ side_text report.server

-- The name, with its hidden characters escaped, and these columns.
abbrev pub named_report_line : List ℕ → Report → List ℕ
named_report_line name report = comment_text name ++ outcome_columns report ++ codes "\n"

-- The report's object, with the name as a member before the others.
abbrev pub named_report_object : List ℕ → Report → List ℕ
named_report_object name report =
    codes "{\"file\":" ++ quoted name ++ codes "," ++ drop 1 (report_object report)

-- The report on the capture with this name.
abbrev pub named_report_text : Format → List ℕ → Report → List ℕ
named_report_text Text = named_report_line
named_report_text People = named_report_line
named_report_text Json = named_report_object
