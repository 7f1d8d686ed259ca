use Rattle.wsn_scan.proofs.ReaderReports.{reported_of}
use Rattle.wsn_scan.proofs.laws.law_taken_frames.Goals as goal

pub returns : goal.returns
returns c = reported_of
