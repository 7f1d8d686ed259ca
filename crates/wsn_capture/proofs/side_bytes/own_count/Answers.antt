use Rattle.std.proofs.Common.{rules}
use Rattle.wsn_capture.proofs.side_bytes.own_count.Goals as goal

pub returns-in-Client-Bytes-Client-default : goal.returns-in-Client-Bytes-Client-default
returns-in-Client-Bytes-Client-default c = record { few = search rules; bytes = search rules }

pub returns-in-Server-Bytes-Server-default : goal.returns-in-Server-Bytes-Server-default
returns-in-Server-Bytes-Server-default c = record { few = search rules; bytes = search rules }

pub returns-in_default : goal.returns-in_default
returns-in_default c = record { few = search rules; bytes = search rules }

pub returns-in_default-2 : goal.returns-in_default-2
returns-in_default-2 c = search rules

pub returns-in_default-3 : goal.returns-in_default-3
returns-in_default-3 c = record { few = search rules; bytes = search rules }

pub returns-in_default-4 : goal.returns-in_default-4
returns-in_default-4 c = search rules
