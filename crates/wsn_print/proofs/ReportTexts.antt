-- The lengths of a report's words, and its lines one after another.
use Rattle.std.proofs.Common.{◌≡◌, ℕ, ◌≤◌, List, [], ◌++◌, length, ap, ◌∙◌, codes, arith}
use Rattle.wsn_wire.specs.declared.refusal.Reason.{Reason}
use Rattle.wsn_wire.specs.declared.refusal.Reason.TheVariants.{ReservedBits, ReservedOpcode, ControlNotFinal, NothingToContinue, MessageOpen, MaskMissing, MaskPresent, ControlTooLong, CloseOneByte, LengthTopBit, LengthNotMinimal, MessageTooBig, CloseCode, CloseReason, TextBad, TextCut, TooManyFrames}
use Rattle.wsn_wire.specs.Refusal.{word_of}
use Rattle.wsn_rules.specs.declared.closing_handshake.Report.{Report}
use Rattle.wsn_print.specs.Fields.{number_text}
use Rattle.wsn_print.specs.ReportText.{report_lines, report_line, side_text, first_text, echo_text, outcome_word}

pub word_short : (reason : Reason) → length (word_of reason) ≤ 19
word_short ReservedBits = omega arith
word_short ReservedOpcode = omega arith
word_short ControlNotFinal = omega arith
word_short NothingToContinue = omega arith
word_short MessageOpen = omega arith
word_short MaskMissing = omega arith
word_short MaskPresent = omega arith
word_short ControlTooLong = omega arith
word_short CloseOneByte = omega arith
word_short LengthTopBit = omega arith
word_short LengthNotMinimal = omega arith
word_short MessageTooBig = omega arith
word_short CloseCode = omega arith
word_short CloseReason = omega arith
word_short TextBad = omega arith
word_short TextCut = omega arith
word_short TooManyFrames = omega arith

-- A line with a word that is this one.
pub worded : (t u name word is : List ℕ) → u ≡ t ++ report_line name word → word ≡ is → u ≡ t ++ report_line name is
worded t u name word is pushed same = pushed ∙ ap (λ (w : List ℕ). t ++ report_line name w) same

-- One line is appended.
push : (t so_far u line : List ℕ) → t ≡ so_far → u ≡ t ++ line → u ≡ so_far ++ line
push t so_far u line is pushed = pushed ∙ ap (λ (bs : List ℕ). bs ++ line) is

seven : (t0 t1 t2 t3 t4 t5 t6 whole a b c d e f g : List ℕ) → t0 ≡ [] → t1 ≡ t0 ++ a → t2 ≡ t1 ++ b → t3 ≡ t2 ++ c → t4 ≡ t3 ++ d → t5 ≡ t4 ++ e → t6 ≡ t5 ++ f → whole ≡ t6 ++ g → whole ≡ a ++ b ++ c ++ d ++ e ++ f ++ g
seven t0 t1 t2 t3 t4 t5 t6 whole a b c d e f g none is_a is_b is_c is_d is_e is_f is_g =
    let to_a = push t0 [] t1 a none is_a in
    let to_b = push t1 a t2 b to_a is_b in
    let to_c = push t2 (a ++ b) t3 c to_b is_c in
    let to_d = push t3 (a ++ b ++ c) t4 d to_c is_d in
    let to_e = push t4 (a ++ b ++ c ++ d) t5 e to_d is_e in
    let to_f = push t5 (a ++ b ++ c ++ d ++ e) t6 f to_e is_f in
    push t6 (a ++ b ++ c ++ d ++ e ++ f) whole g to_f is_g

-- The seven lines, appended one after another.
pub all_lines : (report : Report) (t0 t1 t2 t3 t4 t5 t6 whole : List ℕ) → t0 ≡ []
    → t1 ≡ t0 ++ report_line (codes "client ") (side_text report.client)
    → t2 ≡ t1 ++ report_line (codes "server ") (side_text report.server)
    → t3 ≡ t2 ++ report_line (codes "first ") (first_text report.first)
    → t4 ≡ t3 ++ report_line (codes "echo ") (echo_text report.echo)
    → t5 ≡ t4 ++ report_line (codes "client-sees ") (number_text report.client_sees)
    → t6 ≡ t5 ++ report_line (codes "server-sees ") (number_text report.server_sees)
    → whole ≡ t6 ++ report_line (codes "outcome ") (outcome_word report.outcome)
    → whole ≡ report_lines report
all_lines report t0 t1 t2 t3 t4 t5 t6 whole =
    seven t0 t1 t2 t3 t4 t5 t6 whole
    (report_line (codes "client ") (side_text report.client))
    (report_line (codes "server ") (side_text report.server))
    (report_line (codes "first ") (first_text report.first))
    (report_line (codes "echo ") (echo_text report.echo))
    (report_line (codes "client-sees ") (number_text report.client_sees))
    (report_line (codes "server-sees ") (number_text report.server_sees))
    (report_line (codes "outcome ") (outcome_word report.outcome))
