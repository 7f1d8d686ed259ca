use Rattle.std.proofs.Common.{arith, rules}
use Rattle.std.proofs.lemmas.Grind.{elements}
use Rattle.wsn_scan.proofs.scan.Scan.follow.Goals as goal

pub next-requires : goal.next-requires
next-requires c = search rules

pub returns-clause-call : goal.returns-clause-call
returns-clause-call c in_bytes =
    let said = c.next.ensures in
    record {
      in_bytes = in_bytes;
      advances = said.taken;
      within = said.within;
      room = said.room;
      untouched = said.untouched;
      whole = said.whole;
      refused = said.refused;
      reported = said.reported;
    }

pub returns-clause-kept : goal.returns-clause-kept
returns-clause-kept c = search rules

pub returns-clause-start : goal.returns-clause-start
returns-clause-start c = search rules

pub returns-clause-head : goal.returns-clause-head
returns-clause-head c = search rules

pub returns-clause-again : goal.returns-clause-again
returns-clause-again c = search rules

pub returns-clause-in_bytes : goal.returns-clause-in_bytes
returns-clause-in_bytes c = grind (arith, elements)
