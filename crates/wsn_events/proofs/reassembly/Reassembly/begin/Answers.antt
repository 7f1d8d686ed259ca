use Rattle.wsn_events.proofs.ReassembledFrames.{begins_by, begun_before}
use Rattle.wsn_events.proofs.reassembly.Reassembly.begin.Goals as goal

pub returns-then-part : goal.returns-then-part
returns-then-part g c fs at before few offset is was = begins_by c.args.self.now c.begin_frame.new.self c.args.part.now fs before at c.if-part.true is was (c.begin_frame.ensures fs few offset)

pub returns-else-part : goal.returns-else-part
returns-else-part g c fs at before few offset is was = begun_before c.args.self.now c.args.part.now fs before at c.if-part.false is was
