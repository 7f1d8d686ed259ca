use Rattle.std.proofs.Common.{arith}
use Rattle.wsn_print.specs.WholeViews.{whole_view}
use Rattle.wsn_laws.proofs.WholeViews.{text_whole, bytes_whole, control_whole}
use Rattle.wsn_laws.proofs.whole_laws.law_whole_views.Goals as goal

pub returns-clause-text : goal.returns-clause-text
returns-clause-text c limits text few is = text_whole (whole_view limits) text (omega (arith, few)) is

pub returns-clause-binary : goal.returns-clause-binary
returns-clause-binary c limits bytes few = bytes_whole (whole_view limits) bytes (omega (arith, few))

pub returns-clause-control : goal.returns-clause-control
returns-clause-control c limits op body few = control_whole (whole_view limits) op body (omega arith) few
