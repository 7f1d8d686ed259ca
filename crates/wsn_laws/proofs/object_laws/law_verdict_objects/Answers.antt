use Rattle.wsn_laws.proofs.Verdicts.{one_verdict}
use Rattle.wsn_laws.proofs.StreamVerdicts.{stream_verdict}
use Rattle.wsn_laws.proofs.object_laws.law_verdict_objects.Goals as goal

pub returns-clause-differ : goal.returns-clause-differ
returns-clause-differ c = one_verdict

pub returns-clause-stream : goal.returns-clause-stream
returns-clause-stream c = stream_verdict
