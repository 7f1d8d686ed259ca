use Rattle.std.proofs.Common.{◌≡◌, ◌≤◌, ◌∙◌, ◌&&◌, Bool, true, false, not, cond, refl, sym, ap, arith}
use mir.Val.{bool_byte}
use Rattle.wsn_wire.specs.declared.opcode.Op.{Op}
use Rattle.wsn_wire.specs.Frame.{is_control}
use Rattle.wsn_rules.specs.Summary.{is_ping, is_pong}
use Rattle.wsn_frame.proofs.CountedFrames.{tallies_push, within_frames}
use Rattle.wsn_frame.proofs.CountedKinds.{no_ping, no_pong}
use Rattle.wsn_frame.proofs.counts.Counts.with.Goals as goal
use Rattle.wsn_frame.proofs.counts.Counts.with.Goals.{then-fin, else-fin, in-Ping, in_default, in-Pong, in_default-matches}

byte_of : (b : Bool) → bool_byte b ≡ cond b 1 0
byte_of true = refl
byte_of false = refl

at_most_one : (b : Bool) → cond b 1 0 ≤ 1
at_most_one true = omega arith
at_most_one false = omega arith

and_true : (b : Bool) → b ≡ b && true
and_true true = refl
and_true false = refl

and_false : (b : Bool) → false ≡ b && false
and_false true = refl
and_false false = refl

pub returns : goal.returns
returns c fs f counts few is_fin is_op =
    let op : Op = c.args.op in
    let fin : Bool = c.args.fin in
    let ends : c.if-fin.ends_message ≡ not (is_control op) && fin = elim c.if-fin.branch [
      | then-fin w ↦ w.ends_message-is ∙ ap not w.is_control.ensures ∙ and_true (not (is_control op)) ∙ ap (λ (b : Bool). not (is_control op) && b) (sym w.if-fin.true)
      | else-fin w ↦ w.ends_message-is ∙ w.if-fin.false ∙ and_false (not (is_control op)) ∙ ap (λ (b : Bool). not (is_control op) && b) (sym w.if-fin.false)
    ] in
    let ping : c.match-matches.matches ≡ is_ping op = elim c.match-matches.branch [
      | in-Ping w ↦ w.matches-is ∙ ap is_ping (sym w.in-Ping.is)
      | in_default w ↦ w.matches-is ∙ no_ping op w.in_default.not-Ping
    ] in
    let pong : c.match-matches-2.matches ≡ is_pong op = elim c.match-matches-2.branch [
      | in-Pong w ↦ w.matches-is ∙ ap is_pong (sym w.in-Pong.is)
      | in_default-matches w ↦ w.matches-is ∙ no_pong op w.in_default-matches.not-Pong
    ] in
    let messages_by = c.from.ensures ∙ byte_of c.if-fin.ends_message ∙ ap (λ (b : Bool). cond b 1 0) ends in
    let pings_by = c.from-2.ensures ∙ byte_of c.match-matches.matches ∙ ap (λ (b : Bool). cond b 1 0) ping in
    let pongs_by = c.from-3.ensures ∙ byte_of c.match-matches-2.matches ∙ ap (λ (b : Bool). cond b 1 0) pong in
    let within = within_frames c.args.self fs counts in
    tallies_push c.args.self fs f fin op _ _ _ _ counts is_fin is_op (omega arith)
    (omega (arith, messages_by, at_most_one (not (is_control op) && fin), within.messages, few))
    (omega (arith, pings_by, at_most_one (is_ping op), within.pings, few))
    (omega (arith, pongs_by, at_most_one (is_pong op), within.pongs, few))
