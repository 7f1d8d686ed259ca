use Rattle.wsn_rules.proofs.OneReport.{all_but_first}
use Rattle.wsn_capture.proofs.laws.law_any_lines.Goals as goal

pub returns : goal.returns
returns c = all_but_first
