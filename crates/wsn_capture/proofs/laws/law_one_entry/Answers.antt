use Rattle.wsn_rules.proofs.OneEntry.{one_entry, same_entries}
use Rattle.wsn_capture.proofs.laws.law_one_entry.Goals as goal

pub returns : goal.returns
returns c = record { line = one_entry; lines = same_entries }
