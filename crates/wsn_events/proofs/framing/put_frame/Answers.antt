use Rattle.std.proofs.Common.{◌≡◌, length, rules}
use Rattle.wsn_wire.specs.Frame.{head_bytes}
use Rattle.wsn_events.proofs.NormalBytes.{frame_is, both_out, head_and_front, front_of_head}
use Rattle.wsn_events.proofs.framing.put_frame.Goals as goal
use Rattle.wsn_events.proofs.framing.put_frame.Goals.{else-put-via-then-put+else-put-2, else-put-via-else-put}

pub returns-then-put-2 : goal.returns-then-put-2
returns-then-put-2 g c payload same =
    let head : c.deref.result.now ≡ head_bytes c.args.frame.now.fin c.args.frame.now.op c.args.frame.now.key c.args.frame.now.form (length c.args.frame.now.wire.now) = search rules in
    both_out c.deref.result.now c.args.frame.now.wire.now _ c.args.to.now (frame_is c.args.frame.now.fin c.args.frame.now.op c.args.frame.now.key c.args.frame.now.form c.deref.result.now c.args.frame.now.wire.now payload head same) (search rules)
    c.put.new.self c.put-then-put.new.self (search rules) (search rules) (search rules) (search rules)

pub returns-else-put : goal.returns-else-put
returns-else-put g c payload same =
    let head : c.deref.result.now ≡ head_bytes c.args.frame.now.fin c.args.frame.now.op c.args.frame.now.key c.args.frame.now.form (length c.args.frame.now.wire.now) = search rules in
    let whole = frame_is c.args.frame.now.fin c.args.frame.now.op c.args.frame.now.key c.args.frame.now.form c.deref.result.now c.args.frame.now.wire.now payload head same in
    elim c.else-put.branch [
      | else-put-via-then-put+else-put-2 w ↦
          rw w.to-is (head_and_front c.deref.result.now c.args.frame.now.wire.now _ c.args.to.now whole (search rules) c.put.new.self w.put-then-put.new.self
          (c.put.ensures.same w.if-put.true) (c.put.ensures.all w.if-put.true) (w.put-then-put.ensures.failed w.if-put-2.false) (w.put-then-put.ensures.prefix w.if-put-2.false))
      | else-put-via-else-put w ↦
          rw w.to-is (front_of_head c.deref.result.now c.args.frame.now.wire.now _ c.args.to.now whole (search rules) c.put.new.self
          (c.put.ensures.failed w.if-put.false) (c.put.ensures.prefix w.if-put.false))
    ]

pub head_as-head-requires : goal.head_as-head-requires
head_as-head-requires g c = record { size = search rules; control = search rules; fits = search rules }

pub deref-requires : goal.deref-requires
deref-requires g c = search rules
