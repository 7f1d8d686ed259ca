use Rattle.wsn_print.proofs.FrameObjects.{members_in_order}
use Rattle.wsn_print.proofs.frame_members.put_members.Goals as goal

pub returns-clause-written : goal.returns-clause-written
returns-clause-written c =
    members_in_order c.args.head.now _ _ _ _ _ _ _ c.put_fin-at.ensures.written c.put_opcode-at.ensures.written c.put_key_member-at.ensures.written c.put-at.ensures.written
    c.put_number-at.ensures.written c.put_form_and_end.ensures.written
