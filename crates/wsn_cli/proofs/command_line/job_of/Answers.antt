use Rattle.std.proofs.Common.{rules}
use Rattle.wsn_cli.proofs.command_line.job_of.Goals as goal

pub returns-in-judge-clause-read : goal.returns-in-judge-clause-read
returns-in-judge-clause-read c = search rules

pub returns-in-closing-clause-read : goal.returns-in-closing-clause-read
returns-in-closing-clause-read c = search rules

pub returns-in-frames-clause-read : goal.returns-in-frames-clause-read
returns-in-frames-clause-read c = search rules

pub returns-in_ok-at-in-payload-clause-read : goal.returns-in_ok-at-in-payload-clause-read
returns-in_ok-at-in-payload-clause-read c = search rules
