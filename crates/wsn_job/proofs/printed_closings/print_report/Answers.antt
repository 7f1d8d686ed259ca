use Rattle.std.proofs.Common.{rules}
use Rattle.wsn_job.proofs.printed_closings.print_report.Goals as goal

pub returns-in-Err : goal.returns-in-Err
returns-in-Err g c = search rules

pub read_capture-requires : goal.read_capture-requires
read_capture-requires g c = search rules

pub returns-in_err-read : goal.returns-in_err-read
returns-in_err-read g c = search rules

pub put_report_as-requires : goal.put_report_as-requires
put_report_as-requires g c = search rules

pub returns-in-Ok : goal.returns-in-Ok
returns-in-Ok g c = search rules
