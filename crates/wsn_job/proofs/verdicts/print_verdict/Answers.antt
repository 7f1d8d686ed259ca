use Rattle.std.proofs.Common.{rules}
use Rattle.wsn_job.proofs.verdicts.print_verdict.Goals as goal

pub returns-in_err-verdict : goal.returns-in_err-verdict
returns-in_err-verdict g c = search rules

pub returns-in_err-put_verdict_as : goal.returns-in_err-put_verdict_as
returns-in_err-put_verdict_as g c = search rules

pub returns : goal.returns
returns g c = search rules

pub judge-requires : goal.judge-requires
judge-requires g c = search rules

pub put_verdict_as-requires : goal.put_verdict_as-requires
put_verdict_as-requires g c = search rules
