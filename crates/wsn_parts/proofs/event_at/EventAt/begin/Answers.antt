use Rattle.std.proofs.Common.{◌≤◌, ◌<◌, ℕ, refl, subst}
use Rattle.wsn_parts.proofs.KeptEvents.{begins_own, begins_other, begins_before, begins_elsewhere}
use Rattle.wsn_parts.proofs.event_at.EventAt.begin.Goals as goal
use Rattle.wsn_parts.proofs.event_at.EventAt.begin.Goals.{then-self-2-via-then-self-2, then-self-2-via-else-self-2+then-self-end_of}

pub returns-then-self : goal.returns-then-self
returns-then-self c at fs text may k =
    begins_own c.args.self.now at fs c.args.head.now text may k c.joined-self.result c.start_of-start.result
    (record { first = c.joined-self.ensures.first; other = c.joined-self.ensures.other; op = c.start_of-start.ensures.op; offset = c.start_of-start.ensures.offset }) _ refl c.if-self.true

pub returns-then-self-2 : goal.returns-then-self-2
returns-then-self-2 c at fs text may k =
    elim c.then-self-2.branch [
      | then-self-2-via-then-self-2 w ↦
          begins_other c.args.self.now at fs c.args.head.now text may k c.joined-self.result c.start_of-start.result
          (record { first = c.joined-self.ensures.first; other = c.joined-self.ensures.other; op = c.start_of-start.ensures.op; offset = c.start_of-start.ensures.offset }) _ refl c.if-self.false w.if-self-2.true
      | then-self-2-via-else-self-2+then-self-end_of w ↦
          begins_before c.args.self.now at fs c.args.head.now text may k c.joined-self.result c.start_of-start.result
          (record { first = c.joined-self.ensures.first; other = c.joined-self.ensures.other; op = c.start_of-start.ensures.op; offset = c.start_of-start.ensures.offset }) _ refl w.if-self-2.false
          (subst (λ (n : ℕ). n ≤ c.args.self.now.at) (w.end_of.ensures may.few may.size may.key) w.if-self-end_of.true)
    ]

pub returns : goal.returns
returns c at fs text may k =
    begins_elsewhere c.args.self.now at fs c.args.head.now text may k c.joined-self.result c.start_of-start.result
    (record { first = c.joined-self.ensures.first; other = c.joined-self.ensures.other; op = c.start_of-start.ensures.op; offset = c.start_of-start.ensures.offset }) _ refl c.if-self.false c.if-self-2.false
    (subst (λ (n : ℕ). c.args.self.now.at < n) (c.end_of.ensures may.few may.size may.key) c.if-self-end_of.false)
