use Rattle.std.proofs.Common.{rules}
use Rattle.std.proofs.lemmas.Str.{IsUtf8-had}
use Rattle.wsn_job.proofs.printed_closings.print_named_report.Goals as goal

pub returns-in-Err : goal.returns-in-Err
returns-in-Err g c = search rules

pub read_capture-requires : goal.read_capture-requires
read_capture-requires g c = search rules

pub returns-in_err-read : goal.returns-in_err-read
returns-in_err-read g c = search rules

pub put_named_report-requires : goal.put_named_report-requires
put_named_report-requires g c = search rules

pub returns-in-Ok : goal.returns-in-Ok
returns-in-Ok g c = search rules

pub put_named_report-requires-text-name : goal.put_named_report-requires-text-name
put_named_report-requires-text-name g c =
    let name = IsUtf8-had c.args.closing.now.name.now c.args.closing.now.text in
    search rules
