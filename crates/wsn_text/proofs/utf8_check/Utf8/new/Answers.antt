use Rattle.std.proofs.Common.{rules}
use Rattle.wsn_text.proofs.utf8_check.Utf8.new.Goals as goal

pub returns : goal.returns
returns c = search rules
