use Rattle.wsn_scan.proofs.NextCases.{next_cases}
use Rattle.wsn_scan.proofs.laws.law_next_by_case.Goals as goal

pub returns : goal.returns
returns c = λ role limits bytes fs rest at call has_scanned in_bytes answered. next_cases role limits bytes fs rest at call has_scanned in_bytes answered
