use Rattle.wsn_print.proofs.FrameObjects.{object_in_order}
use Rattle.wsn_print.proofs.head_lines.put_object_at.Goals as goal

pub returns-clause-written : goal.returns-clause-written
returns-clause-written c = object_in_order c.args.head.now _ _ _ _ c.put-at.ensures.written c.put_offset-at.ensures.written c.put_members.ensures.written
