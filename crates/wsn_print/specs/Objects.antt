-- The JSON objects of verdicts, frames, reports and comparisons, one a line, each with its LF.
use Rattle.std.specs.Prelude.{ℕ, Bool, true, false, Option, None, Some, List, [], ◌++◌, codes}
use Rattle.hex.specs.Hex.{encode_lower}
use Rattle.wsn_wire.specs.declared.endpoint.Role.{Role, TheVariants.{Client, Server}}
use Rattle.wsn_wire.specs.declared.length_encoding.Form.{Form, TheVariants.{Shortest, Two, Eight}}
use Rattle.wsn_wire.specs.Refusal.{word_of, code_of}
use Rattle.wsn_rules.specs.declared.compared.Compared.{Compared, TheVariants.{Equal, Different, NotAccepted}}
use Rattle.wsn_rules.specs.declared.head_info.HeadInfo.{HeadInfo}
use Rattle.wsn_rules.specs.declared.closing_handshake.Report.{Report}
use Rattle.wsn_rules.specs.declared.closing_handshake.Side.{Side}
use Rattle.wsn_rules.specs.declared.closing_handshake.Side.TheVariants as side
use Rattle.wsn_rules.specs.declared.verdict.Refusal.{Refusal}
use Rattle.wsn_rules.specs.declared.verdict.Summary.{Summary}
use Rattle.wsn_rules.specs.declared.verdict.Verdict.{Verdict, TheVariants.{Accepted, Cut, Refused}}
use Rattle.wsn_print.specs.HeadText.{op_word}
use Rattle.wsn_print.specs.Json.{string_of, number_or_null, boolean, field, string_field, number_field, number_or_null_field}
use Rattle.wsn_print.specs.ReportText.{outcome_word}

-- ---- verdicts

-- The numbers of frames, messages, pings and pongs.
abbrev pub count_fields : Summary → List ℕ
count_fields s =
    number_field (codes "frames") s.frames ++ number_field (codes "messages") s.messages
    ++ number_field (codes "pings") s.pings ++ number_field (codes "pongs") s.pongs

-- The Close: null without one, otherwise an object with its code, null for an empty Close.
abbrev pub close_value : Option (Option ℕ) → List ℕ
close_value None = codes "null"
close_value (Some code) = codes "{\"code\":" ++ number_or_null code ++ codes "}"

-- A refusal: the offset of the offending byte, under this key, the reason, the close code.
abbrev pub refusal_fields : List ℕ → Refusal → List ℕ
refusal_fields key refusal =
    number_field key refusal.offset ++ string_field (codes "reason") (word_of refusal.reason)
    ++ number_field (codes "code") (code_of refusal.reason)

-- The members of a verdict, without the type.
abbrev pub verdict_members : Verdict → List ℕ
verdict_members (Accepted s) =
    codes "\"verdict\":\"accepted\"" ++ number_field (codes "used") s.used ++ number_field (codes "tail") s.tail
    ++ number_or_null_field (codes "unfinished") s.unfinished ++ count_fields s
    ++ field (codes "close") (close_value s.close)
verdict_members (Cut s) =
    codes "\"verdict\":\"cut\"" ++ number_field (codes "used") s.used
    ++ number_or_null_field (codes "unfinished") s.unfinished ++ count_fields s
verdict_members (Refused refusal) = codes "\"verdict\":\"refused\"" ++ refusal_fields (codes "offset") refusal

-- A verdict.
abbrev pub verdict_object : Verdict → List ℕ
verdict_object verdict = codes "{\"type\":\"verdict\"," ++ verdict_members verdict ++ codes "}\n"

-- ---- frames

-- A key's four bytes as a string of eight hexadecimal digits; null without a key.
abbrev pub key_value : Option (List ℕ) → List ℕ
key_value None = codes "null"
key_value (Some key) = string_of (encode_lower key)

-- The word for the form of a length.
abbrev pub form_word : Form → List ℕ
form_word Shortest = codes "shortest"
form_word Two = codes "two"
form_word Eight = codes "eight"

-- FIN, the opcode, the key, and the payload's length with its form.
abbrev pub head_members : HeadInfo → List ℕ
head_members h =
    field (codes "fin") (boolean h.fin) ++ string_field (codes "opcode") (op_word h.op)
    ++ field (codes "key") (key_value h.key) ++ number_field (codes "length") h.len
    ++ string_field (codes "form") (form_word h.form)

-- The head of a frame: its offset, and these members.
abbrev pub frame_fields : HeadInfo → List ℕ
frame_fields h = number_field (codes "offset") h.offset ++ head_members h

-- A frame.
abbrev pub frame_object : HeadInfo → List ℕ
frame_object h = codes "{\"type\":\"frame\"" ++ frame_fields h ++ codes "}\n"

-- ---- reports

-- What became of the stream that an endpoint sent.
abbrev pub side_object : Side → List ℕ
side_object (side.Closed code) = codes "{\"state\":\"closed\"" ++ number_or_null_field (codes "code") code ++ codes "}"
side_object (side.Refused refusal) = codes "{\"state\":\"refused\"" ++ refusal_fields (codes "offset") refusal ++ codes "}"
side_object side.Ended = codes "{\"state\":\"ended\"}"
side_object side.Cut = codes "{\"state\":\"cut\"}"
side_object side.Running = codes "{\"state\":\"running\"}"

-- The endpoint whose Close came first; null if there is none.
abbrev pub first_value : Option Role → List ℕ
first_value (Some Client) = codes "\"client\""
first_value (Some Server) = codes "\"server\""
first_value None = codes "null"

-- Whether both Closes have the same code or no code; null unless both endpoints sent one.
abbrev pub echo_value : Option Bool → List ℕ
echo_value (Some echo) = boolean echo
echo_value None = codes "null"

-- A report.
abbrev pub report_object : Report → List ℕ
report_object report =
    codes "{\"type\":\"report\"" ++ field (codes "client") (side_object report.client)
    ++ field (codes "server") (side_object report.server) ++ field (codes "first") (first_value report.first)
    ++ field (codes "echo") (echo_value report.echo)
    ++ number_or_null_field (codes "client_sees") report.client_sees
    ++ number_or_null_field (codes "server_sees") report.server_sees
    ++ string_field (codes "outcome") (outcome_word report.outcome) ++ codes "}\n"

-- ---- comparisons

-- The word for the answer of a comparison.
abbrev pub answer_word : Compared → List ℕ
answer_word Equal = codes "equal"
answer_word (Different k) = codes "different"
answer_word (NotAccepted false verdict) = codes "first"
answer_word (NotAccepted true verdict) = codes "second"

-- What follows the answer: the index of the first different event, or the verdict of a stream that isn't accepted.
abbrev pub answer_fields : Compared → List ℕ
answer_fields Equal = []
answer_fields (Different k) = number_field (codes "event") k
answer_fields (NotAccepted second verdict) = codes ",\"verdict\":{" ++ verdict_members verdict ++ codes "}"

-- A comparison.
abbrev pub comparison_object : Compared → List ℕ
comparison_object compared =
    codes "{\"type\":\"comparison\"" ++ string_field (codes "answer") (answer_word compared)
    ++ answer_fields compared ++ codes "}\n"
