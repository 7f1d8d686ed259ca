-- A report for people: its seven lines, what they mean in sentences, and the command to type next. RFC 6455 sections 5.2,
-- 5.5.1 and 7.1.
use Rattle.std.specs.Prelude.{ℕ, ◌==◌, ◌&&◌, ◌||◌, Bool, true, false, if◌then◌else◌, Option, None, Some, List, [], ◌++◌, codes, decimal}
use Rattle.wsn_wire.specs.declared.endpoint.Role.{Role, TheVariants.{Client, Server}}
use Rattle.wsn_wire.specs.declared.refusal.Reason.{Reason, TheVariants.{ReservedBits, MaskMissing, MaskPresent}}
use Rattle.wsn_wire.specs.Refusal.{number_of, word_of}
use Rattle.wsn_rules.specs.declared.verdict.Refusal.{Refusal}
use Rattle.wsn_rules.specs.declared.closing_handshake.Side.{Side}
use Rattle.wsn_rules.specs.declared.closing_handshake.Side.TheVariants as sides
use Rattle.wsn_rules.specs.declared.closing_handshake.Outcome.{Outcome, TheVariants.{Failed, Clean, Complete, Abnormal, Half, Live}}
use Rattle.wsn_rules.specs.declared.closing_handshake.Report.{Report}
use Rattle.wsn_rules.specs.ClosingHandshake.{other_endpoint}
use Rattle.wsn_print.specs.ReportText.{report_lines}
use Rattle.wsn_print.specs.Sentences.{reason_sentence, exchanged_sentence, ended_words, cut_words, clean_sentence, complete_sentence, open_sentence, inflate_command, exchange_command}

-- ---- words

-- The word for an endpoint.
abbrev pub endpoint_word : Role → List ℕ
endpoint_word Client = codes "client"
endpoint_word Server = codes "server"

-- The code of a Close.
abbrev pub with_code : Option ℕ → List ℕ
with_code None = codes "without a code"
with_code (Some code) = codes "with code " ++ decimal code

-- The line with the command to type next.
abbrev pub next_line : List ℕ → List ℕ
next_line command = codes "Next: " ++ command ++ codes "\n"

-- The same, where `wsn explain` has more on a printed word.
abbrev pub explain_line : List ℕ → List ℕ
explain_line word = next_line (codes "wsn explain " ++ word)

-- ---- refused streams

-- Whether an extension may allow what is refused: compression sets a reserved bit.
abbrev pub may_be_extended : Reason → Bool
may_be_extended reason = number_of reason == number_of ReservedBits

-- How the sentence on a refusal begins.
abbrev pub refusal_opening : Reason → List ℕ
refusal_opening reason = if may_be_extended reason then codes "Without an extension the " else codes "The "

-- Which byte of an endpoint's stream the other endpoint must refuse.
abbrev pub refused_byte : Role → Refusal → List ℕ
refused_byte role refusal =
    refusal_opening refusal.reason ++ endpoint_word (other_endpoint role) ++ codes " must refuse byte "
    ++ decimal refusal.offset ++ codes " of what the " ++ endpoint_word role ++ codes " sent: "

-- Why: the reason, and below it its sentence.
abbrev pub reason_text : Reason → List ℕ
reason_text reason = word_of reason ++ codes "\n(" ++ reason_sentence reason ++ codes ").\n"

-- Both.
abbrev pub refusal_line : Role → Refusal → List ℕ
refusal_line role refusal = refused_byte role refusal ++ reason_text refusal.reason

-- The same of a refused stream; nothing of any other.
abbrev pub refused_line : Role → Side → List ℕ
refused_line role (sides.Refused refusal) = refusal_line role refusal
refused_line role side = []

-- The command that undoes compression, if that may be why a stream is refused.
abbrev pub inflation : Reason → List ℕ
inflation reason = if may_be_extended reason then inflate_command ++ codes ", or " else []

-- The line with what to type at a refusal.
abbrev pub next_at : Reason → List ℕ
next_at reason = next_line (inflation reason ++ codes "wsn explain " ++ word_of reason)

-- What to type at this stream if it is refused, else this line.
abbrev pub next_or : Side → List ℕ → List ℕ
next_or (sides.Refused refusal) line = next_at refusal.reason
next_or side line = line

-- Whether the stream is refused at this offset for this reason.
abbrev pub is_refused_as : Reason → ℕ → Side → Bool
is_refused_as reason offset (sides.Refused refusal) =
    number_of refusal.reason == number_of reason && refusal.offset == offset
is_refused_as reason offset side = false

-- Whether each side is refused at its first frame for the masking of the other.
abbrev pub are_exchanged : Side → Side → Bool
are_exchanged client server = is_refused_as MaskMissing 1 client && is_refused_as MaskPresent 1 server

-- A failed connection: which bytes must be refused, the client's first, and what to type at the first of them.
abbrev pub failed_lines : Side → Side → List ℕ
failed_lines client server =
    if are_exchanged client server then exchanged_sentence ++ codes "\n" ++ next_line exchange_command
    else refused_line Client client ++ refused_line Server server ++ next_or client (next_or server [])

-- ---- closed streams

-- The code of the Close in a stream.
abbrev pub close_code : Side → Option ℕ
close_code (sides.Closed code) = code
close_code side = None

-- The side that closed first, as a report has it.
abbrev pub closer : Option Role → Role
closer (Some role) = role
closer None = Client

-- What became of an endpoint's stream.
abbrev pub side_in : Report → Role → Side
side_in report Client = report.client
side_in report Server = report.server

-- How the second Close answers the first.
abbrev pub answer_words : Option Bool → Option ℕ → List ℕ
answer_words (Some true) code = codes "with the same"
answer_words echo code = with_code code

-- Who closed first and who answered, and how the connection ended.
abbrev pub closed_lines : Role → Report → List ℕ → List ℕ
closed_lines role report sentence =
    codes "The " ++ endpoint_word role ++ codes " closed first, " ++ with_code (close_code (side_in report role))
    ++ codes ", and the " ++ endpoint_word (other_endpoint role) ++ codes " answered "
    ++ answer_words report.echo (close_code (side_in report (other_endpoint role))) ++ codes ".\n" ++ sentence ++ codes "\n"

-- That an endpoint sent a Close.
abbrev pub close_words : Role → Option ℕ → List ℕ
close_words role code = codes "The " ++ endpoint_word role ++ codes " sent a Close " ++ with_code code

-- Who closed, and who didn't answer.
abbrev pub half_lines : Role → Report → List ℕ
half_lines role report =
    close_words role (close_code (side_in report role)) ++ codes "; no answer of the "
    ++ endpoint_word (other_endpoint role) ++ codes " is in the capture.\n" ++ explain_line (codes "half")

-- ---- streams that ended without a Close

-- How an endpoint's direction ended.
abbrev pub direction_line : Role → List ℕ → List ℕ
direction_line role words = codes "The " ++ endpoint_word role ++ codes "'s direction " ++ words ++ codes ", without a Close.\n"

-- How an endpoint's stream ended; nothing of one that didn't.
abbrev pub end_line : Role → Side → List ℕ
end_line role sides.Ended = direction_line role ended_words
end_line role sides.Cut = direction_line role cut_words
end_line role (sides.Closed code) = close_words role code ++ codes ".\n"
end_line role side = []

-- Whether the stream ended inside a frame or a message.
abbrev pub is_cut : Side → Bool
is_cut sides.Cut = true
is_cut side = false

-- The word to explain.
abbrev pub end_word : Side → Side → List ℕ
end_word client server = if is_cut client || is_cut server then codes "cut" else codes "abnormal"

-- How both streams ended, the client's first, and what to type next.
abbrev pub abnormal_lines : Side → Side → List ℕ
abnormal_lines client server =
    end_line Client client ++ end_line Server server ++ explain_line (end_word client server)

-- ---- the report

-- What a report with this outcome means.
abbrev pub meaning_lines : Outcome → Report → List ℕ
meaning_lines Failed report = failed_lines report.client report.server
meaning_lines Clean report = closed_lines (closer report.first) report clean_sentence
meaning_lines Complete report = closed_lines (closer report.first) report complete_sentence
meaning_lines Abnormal report = abnormal_lines report.client report.server
meaning_lines Half report = half_lines (closer report.first) report
meaning_lines Live report = open_sentence ++ codes "\n" ++ explain_line (codes "open")

-- The seven lines, and what they mean.
abbrev pub people_report : Report → List ℕ
people_report report = report_lines report ++ meaning_lines report.outcome report
