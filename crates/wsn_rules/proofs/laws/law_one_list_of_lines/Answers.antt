use Rattle.wsn_rules.proofs.TextLines.{has_lines, same_lines, are_lines_of}
use Rattle.wsn_rules.proofs.laws.law_one_list_of_lines.Goals as goal

pub returns : goal.returns
returns c = record {
  some = has_lines;
  one = same_lines;
  function = are_lines_of;
}
