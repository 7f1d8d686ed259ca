use Rattle.wsn_scan.proofs.PositionLaws.{position_in, all_so_far}
use Rattle.wsn_scan.proofs.laws.law_positions.Goals as goal

pub returns-clause-taken : goal.returns-clause-taken
returns-clause-taken c = λ role limits scan bytes fs rest at has_scanned. position_in role limits scan bytes fs rest at has_scanned

pub returns-clause-all : goal.returns-clause-all
returns-clause-all c = λ role limits scan bytes fs rest at head payload has_scanned unrefused is. all_so_far role limits scan bytes fs rest at head payload has_scanned unrefused is

pub returns-clause-room : goal.returns-clause-room
returns-clause-room c = λ role limits scan bytes fs rest at has_scanned. has_scanned.has_consumed.room
