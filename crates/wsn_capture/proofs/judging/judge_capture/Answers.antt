use Rattle.std.proofs.Common.{Ok, Err, sym, ap, rules}
use Rattle.wsn_capture.specs.CaptureAnswers.{without_tails}
use Rattle.wsn_capture.proofs.JudgedCaptures.{failed_alone}
use Rattle.wsn_capture.proofs.judging.judge_capture.Goals as goal

pub read_capture-requires : goal.read_capture-requires
read_capture-requires g c = search rules

pub returns-in-Ok : goal.returns-in-Ok
returns-in-Ok g c = record {
  judged = (c.read_capture.result, sym (ap without_tails c.in-Ok.is), c.read_capture.ensures.judged);
  whole = λ all known unfailed.
      (c.read_capture.result, sym (ap without_tails c.in-Ok.is), c.read_capture.ensures.whole all known unfailed);
  failed = failed_alone c.args.limits c.args.input.now c.read_capture.new.input (Ok c.in-Ok.field-0.report) c.read_capture.result
      (sym (ap without_tails c.in-Ok.is)) c.read_capture.ensures.failed;
}

pub returns-in-Err : goal.returns-in-Err
returns-in-Err g c = record {
  judged = (c.read_capture.result, sym (ap without_tails c.in-Err.is), c.read_capture.ensures.judged);
  whole = λ all known unfailed.
      (c.read_capture.result, sym (ap without_tails c.in-Err.is), c.read_capture.ensures.whole all known unfailed);
  failed = failed_alone c.args.limits c.args.input.now c.read_capture.new.input (Err c.in-Err.stop) c.read_capture.result
      (sym (ap without_tails c.in-Err.is)) c.read_capture.ensures.failed;
}
