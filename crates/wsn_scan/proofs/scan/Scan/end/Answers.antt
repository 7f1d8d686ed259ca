use Rattle.std.proofs.Common.{refl, rules}
use Rattle.wsn_scan.proofs.FrameEnds.{frame_ends}
use Rattle.wsn_scan.proofs.scan.Scan.end.Goals as goal

pub returns-clause-taken : goal.returns-clause-taken
returns-clause-taken c role limits bytes rest wire fs =
    frame_ends role limits c.args.self.now _ bytes rest wire fs c.args.head.now c.args.check.now
    (record {
      sender = refl;
      under = refl;
      room = refl;
      used = c.taken-self.ensures;
      counts = c.add.ensures;
      message = c.update.ensures;
      stage = c.end_frame.ensures.stage;
    })

pub returns-clause-room : goal.returns-clause-room
returns-clause-room c = search rules

pub returns-clause-reported : goal.returns-clause-reported
returns-clause-reported c = search rules

pub update-requires : goal.update-requires
update-requires c = search rules

pub returns-clause-whole : goal.returns-clause-whole
returns-clause-whole c = search rules
