-- The lines of a report, each with its LF.
use Rattle.std.specs.Prelude.{ℕ, Bool, true, false, Option, None, Some, List, ◌++◌, codes}
use Rattle.wsn_wire.specs.declared.endpoint.Role.{Role, TheVariants.{Client, Server}}
use Rattle.wsn_rules.specs.declared.closing_handshake.Side.{Side, TheVariants.{Closed, Refused, Ended, Cut, Running}}
use Rattle.wsn_rules.specs.declared.closing_handshake.Outcome.{Outcome, TheVariants.{Failed, Clean, Complete, Abnormal, Half, Live}}
use Rattle.wsn_rules.specs.declared.closing_handshake.Report.{Report}
use Rattle.wsn_print.specs.Fields.{number_text, refusal_text}

-- What became of the stream that an endpoint sent.
abbrev pub side_text : Side → List ℕ
side_text (Closed code) = codes "closed " ++ number_text code
side_text (Refused refusal) = refusal_text refusal
side_text Ended = codes "ended"
side_text Cut = codes "cut"
side_text Running = codes "running"

-- The endpoint whose Close came first; a dash if there is none.
abbrev pub first_text : Option Role → List ℕ
first_text (Some Client) = codes "client"
first_text (Some Server) = codes "server"
first_text None = codes "-"

-- Whether both Closes have the same code or no code; a dash unless both endpoints sent one.
abbrev pub echo_text : Option Bool → List ℕ
echo_text (Some true) = codes "yes"
echo_text (Some false) = codes "no"
echo_text None = codes "-"

-- The word for an outcome.
abbrev pub outcome_word : Outcome → List ℕ
outcome_word Failed = codes "failed"
outcome_word Clean = codes "clean"
outcome_word Complete = codes "complete"
outcome_word Abnormal = codes "abnormal"
outcome_word Half = codes "half"
outcome_word Live = codes "open"

-- A line of a report: its name, a value, and LF.
abbrev pub report_line : List ℕ → List ℕ → List ℕ
report_line name value = name ++ value ++ codes "\n"

-- The seven lines of a report, in order.
abbrev pub report_lines : Report → List ℕ
report_lines report =
    report_line (codes "client ") (side_text report.client)
    ++ report_line (codes "server ") (side_text report.server)
    ++ report_line (codes "first ") (first_text report.first)
    ++ report_line (codes "echo ") (echo_text report.echo)
    ++ report_line (codes "client-sees ") (number_text report.client_sees)
    ++ report_line (codes "server-sees ") (number_text report.server_sees)
    ++ report_line (codes "outcome ") (outcome_word report.outcome)
