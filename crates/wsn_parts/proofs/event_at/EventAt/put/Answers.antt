use Rattle.std.proofs.Common.{◌∙◌, [], refl, sym, subst, rules}
use Rattle.std.proofs.lemmas.Bool.{cond-true, cond-false}
use Rattle.std.proofs.KnownBytes.{Appends-nil}
use Rattle.wsn_io.specs.Transfer.{Outgoing, IsWritten, IsPartlyWritten}
use Rattle.wsn_parts.proofs.event_at.EventAt.put.Goals as goal
use Rattle.wsn_parts.proofs.event_at.EventAt.put.Goals.{else-self-via-then-self+else-not-put, else-self-via-else-self}

pub returns-then-not-put-clause-written : goal.returns-then-not-put-clause-written
returns-then-not-put-clause-written g c =
    let front = c.put.ensures.prefix c.if-not-put.true in
    (refl, subst (IsPartlyWritten c.args.output.now c.put.new.self) (sym (cond-true c.args.self.now.own c.args.payload.now [] c.if-self.true)) (c.put.ensures.failed c.if-not-put.true, (front.0, front.2)))

pub returns-then-not-put-clause-own : goal.returns-then-not-put-clause-own
returns-then-not-put-clause-own g c = search rules

pub returns-clause-own : goal.returns-clause-own
returns-clause-own g c = search rules

pub returns-clause-written : goal.returns-clause-written
returns-clause-written g c =
    elim c.else-self.branch [
      | else-self-via-then-self+else-not-put w ↦
          subst (IsWritten c.args.output.now c.else-self.output) (sym (cond-true c.args.self.now.own c.args.payload.now [] w.if-self.true))
          (subst (λ (o : Outgoing). IsWritten c.args.output.now o c.args.payload.now) (sym w.output-is) (w.put.ensures.same w.if-not-put.false ∙ c.requires, w.put.ensures.all w.if-not-put.false))
      | else-self-via-else-self w ↦
          subst (IsWritten c.args.output.now c.else-self.output) (sym (cond-false c.args.self.now.own c.args.payload.now [] w.if-self.false))
          (subst (λ (o : Outgoing). IsWritten c.args.output.now o []) (sym w.output-is) (c.requires, Appends-nil c.args.output.now.written))
    ]
