use Rattle.wsn_capture.proofs.SideLaws.{sentinel_big, sentinel-same}
use Rattle.wsn_capture.proofs.laws.law_sentinel.Goals as goal

pub returns : goal.returns
returns c = record { no_byte = sentinel_big; one = sentinel-same }
