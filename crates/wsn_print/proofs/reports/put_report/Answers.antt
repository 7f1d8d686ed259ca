use Rattle.std.proofs.Common.{ℕ, List, codes, ◌∙◌, subst, arith}
use Rattle.std.proofs.lemmas.Grind.{common_steps}
use Rattle.wsn_io.specs.Stops.{IsWrittenOrStops}
use Rattle.wsn_print.specs.ReportText.{first_text, echo_text, outcome_word}
use Rattle.wsn_print.proofs.ReportTexts.{all_lines, worded}
use Rattle.wsn_print.proofs.reports.put_report.Goals as goal

pub returns : goal.returns
returns g c =
    let report = c.args.report.now in
    let all = all_lines report c.new-lines.result c.push_side.new.lines c.push_side-2.new.lines
    c.push_word.new.lines c.push_word-2.new.lines c.push_code.new.lines
    c.push_code-2.new.lines c.push_word-3.new.lines
    c.new-lines.ensures c.push_side.ensures.text c.push_side-2.ensures.text
    (worded c.push_side-2.new.lines c.push_word.new.lines (codes "first ") c.first_text.result.now (first_text report.first) c.push_word.ensures.text c.first_text.ensures.text)
    (worded c.push_word.new.lines c.push_word-2.new.lines (codes "echo ") c.echo_text.result.now (echo_text report.echo) c.push_word-2.ensures.text c.echo_text.ensures.text)
    c.push_code.ensures.text c.push_code-2.ensures.text
    (worded c.push_code-2.new.lines c.push_word-3.new.lines (codes "outcome ") c.outcome_word.result.now (outcome_word report.outcome) c.push_word-3.ensures.text c.outcome_word.ensures.word) in
    subst (λ (bs : List ℕ). IsWrittenOrStops c.args.to.now c.put_line.new.to bs c.put_line.result) (◌∙◌ {b = c.push_word-3.new.lines} c.bytes.ensures all) c.put_line.ensures

pub new-lines-requires : goal.new-lines-requires
new-lines-requires g c = grind (arith, common_steps)

pub push_side-requires : goal.push_side-requires
push_side-requires g c = grind (arith, common_steps)

pub push_side-requires-2 : goal.push_side-requires-2
push_side-requires-2 g c = grind (arith, common_steps)

pub push_word-requires : goal.push_word-requires
push_word-requires g c = grind (arith, common_steps)

pub push_word-requires-2 : goal.push_word-requires-2
push_word-requires-2 g c = grind (arith, common_steps)

pub push_code-requires : goal.push_code-requires
push_code-requires g c = grind (arith, common_steps)

pub push_code-requires-2 : goal.push_code-requires-2
push_code-requires-2 g c = grind (arith, common_steps)

pub push_word-requires-3 : goal.push_word-requires-3
push_word-requires-3 g c = grind (arith, common_steps)

pub put_line-requires : goal.put_line-requires
put_line-requires g c = grind (arith, common_steps)

pub bytes-requires : goal.bytes-requires
bytes-requires g c = grind (arith, common_steps)
