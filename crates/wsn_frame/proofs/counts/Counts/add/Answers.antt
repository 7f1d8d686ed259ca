use Rattle.std.proofs.Common.{◌≡◌, true, false, not, ◌&&◌, sym, ap, arith, rules}
use Rattle.wsn_wire.specs.declared.opcode.Op.{Op}
use Rattle.wsn_wire.specs.declared.opcode.Op.TheVariants.{Ping, Pong}
use Rattle.wsn_wire.specs.Frame.{is_control}
use Rattle.wsn_rules.specs.Summary.{is_ping, is_pong}
use Rattle.wsn_frame.proofs.CountedFrames.{tallies_push, within_frames}
use Rattle.wsn_frame.proofs.CountedKinds.{no_control, final_ends, goes_on, no_message, no_ping, no_pong, one_more, no_more}
use Rattle.wsn_frame.proofs.counts.Counts.add.Goals as goal

pub returns-then-fin : goal.returns-then-fin
returns-then-fin c fs f counts few is_fin is_op =
    let t = c.args.self.now in
    let op = c.args.op in
    let w = within_frames t fs counts in
    let of_data : is_control op ≡ false = search rules in
    let none = no_control op of_data in
    tallies_push t fs f c.args.fin op _ _ _ _ counts is_fin is_op (omega (arith, w.frames, few))
    (omega (arith, w.messages, few, one_more t.messages (not (is_control op) && c.args.fin) (final_ends op c.args.fin of_data c.if-fin.true)))
    (omega (arith, no_more t.pings (is_ping op) none.0)) (omega (arith, no_more t.pongs (is_pong op) none.1))

pub returns-in-Ping : goal.returns-in-Ping
returns-in-Ping c fs f counts few is_fin is_op =
    let t = c.args.self.now in
    let op = c.args.op in
    let w = within_frames t fs counts in
    let is : op ≡ Ping = c.in-Ping.is in
    tallies_push t fs f c.args.fin op _ _ _ _ counts is_fin is_op (omega (arith, w.frames, few))
    (omega (arith, no_more t.messages (not (is_control op) && c.args.fin) (ap (λ (o : Op). not (is_control o) && c.args.fin) is)))
    (omega (arith, w.pings, few, one_more t.pings (is_ping op) (ap is_ping is))) (omega (arith, no_more t.pongs (is_pong op) (ap is_pong is)))

pub returns-in-Pong : goal.returns-in-Pong
returns-in-Pong c fs f counts few is_fin is_op =
    let t = c.args.self.now in
    let op = c.args.op in
    let w = within_frames t fs counts in
    let is : op ≡ Pong = c.in-Pong.is in
    tallies_push t fs f c.args.fin op _ _ _ _ counts is_fin is_op (omega (arith, w.frames, few))
    (omega (arith, no_more t.messages (not (is_control op) && c.args.fin) (ap (λ (o : Op). not (is_control o) && c.args.fin) is)))
    (omega (arith, no_more t.pings (is_ping op) (ap is_ping is))) (omega (arith, w.pongs, few, one_more t.pongs (is_pong op) (ap is_pong is)))

pub returns-else-fin : goal.returns-else-fin
returns-else-fin c fs f counts few is_fin is_op =
    let t = c.args.self.now in
    let op = c.args.op in
    let w = within_frames t fs counts in
    let of_data : is_control op ≡ false = search rules in
    let none = no_control op of_data in
    tallies_push t fs f c.args.fin op _ _ _ _ counts is_fin is_op (omega (arith, w.frames, few))
    (omega (arith, no_more t.messages (not (is_control op) && c.args.fin) (goes_on op c.args.fin of_data c.if-fin.false)))
    (omega (arith, no_more t.pings (is_ping op) none.0)) (omega (arith, no_more t.pongs (is_pong op) none.1))

pub returns-in_default : goal.returns-in_default
returns-in_default c fs f counts few is_fin is_op =
    let t = c.args.self.now in
    let op = c.args.op in
    let w = within_frames t fs counts in
    let of_control : is_control op ≡ true = search rules in
    tallies_push t fs f c.args.fin op _ _ _ _ counts is_fin is_op (omega (arith, w.frames, few))
    (omega (arith, no_more t.messages (not (is_control op) && c.args.fin) (no_message op c.args.fin of_control)))
    (omega (arith, no_more t.pings (is_ping op) (sym (no_ping op c.in_default.not-Ping))))
    (omega (arith, no_more t.pongs (is_pong op) (sym (no_pong op c.in_default.not-Pong))))
