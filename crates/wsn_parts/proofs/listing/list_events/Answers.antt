use Rattle.std.proofs.Common.{[], rules}
use Rattle.wsn_scan.proofs.FedChunks.{takes_none}
use Rattle.wsn_parts.proofs.ListedParts.{lists_none}
use Rattle.wsn_parts.proofs.listing.list_events.Goals as goal

pub returns-then-not-is_idle-clause-listed : goal.returns-then-not-is_idle-clause-listed
returns-then-not-is_idle-clause-listed g c in_bytes = ([], takes_none c.args.scan.now c.args.chunk.now, lists_none c.args.format c.args.output.now c.args.lines.now)

pub returns-then-not-is_idle-clause-within : goal.returns-then-not-is_idle-clause-within
returns-then-not-is_idle-clause-within g c = search rules

pub returns-then-not-is_idle-clause-kept : goal.returns-then-not-is_idle-clause-kept
returns-then-not-is_idle-clause-kept g c = search rules

pub returns-then-not-is_idle-clause-room : goal.returns-then-not-is_idle-clause-room
returns-then-not-is_idle-clause-room g c = search rules

pub list_run-requires : goal.list_run-requires
list_run-requires g c = search rules

pub returns-clause-listed : goal.returns-clause-listed
returns-clause-listed g c = search rules

pub returns-clause-within : goal.returns-clause-within
returns-clause-within g c = search rules

pub returns-clause-kept : goal.returns-clause-kept
returns-clause-kept g c = search rules

pub returns-clause-room : goal.returns-clause-room
returns-clause-room g c = search rules
