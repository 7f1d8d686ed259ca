use Rattle.std.proofs.Common.{◌≡◌, ◌∙◌, Bool, Option, Result, Err, List, [], ℕ, ◌++◌, refl, sym, ap, subst}
use Rattle.std.proofs.lemmas.Result.{err_from_is_err_and}
use Rattle.wsn_io.specs.declared.stop.Stop.{Stop}
use Rattle.wsn_scan.specs.Positions.{InFrame}
use Rattle.wsn_parts.specs.declared.answer.EventStart.{EventStart}
use Rattle.wsn_parts.specs.declared.answer.Payload.{Payload}
use Rattle.wsn_parts.specs.declared.event_at.EventAt.{EventAt}
use Rattle.wsn_parts.specs.Following.{KeepsEventAt, BeginsFrame, EndsFrame, TakesPart, own_part}
use Rattle.wsn_parts.proofs.TakenParts.{into_frame, begins_between, within_frame, frame, lawful, frames_are, head_is, whole_frame, ended, so_far}
use Rattle.wsn_parts.proofs.event_at.EventAt.take.Goals as goal
use Rattle.wsn_parts.proofs.event_at.EventAt.take.Goals.{then-part+in_default, else-part, else-part-2-via-then-part-2+else-end, else-part-2-via-else-part-2}

pub returns-in-Some : goal.returns-in-Some
returns-in-Some g c role limits at fs frames from position rest before share since text may is_at t k =
    let there = begins_between c.args.self.now at fs from c.args.part.now before text c.if-part.true is_at k in
    let is = c.in-Some.ensures at fs text may there.0 in
    (is.0, is.1, refl)

pub put-requires : goal.put-requires
put-requires g c = c.requires

pub returns-in_err-put : goal.returns-in_err-put
returns-in_err-put g c role limits at fs frames from position rest before share since text may is_at t k =
    let here : KeepsEventAt c.if-part.self at fs (InFrame c.args.part.now.head before) text =
    elim c.if-part.branch [
      | then-part+in_default w ↦
          let there = begins_between c.args.self.now at fs from c.args.part.now before text w.if-part.true is_at k in
          let kept = subst (λ (o : Option EventStart). BeginsFrame w.begin.new.self at fs c.args.part.now.head text o) w.in_default.is (w.begin.ensures at fs text may there.0) in
          subst (λ (bs : List ℕ). KeepsEventAt c.if-part.self at fs (InFrame c.args.part.now.head bs) text) (sym there.1)
          (subst (λ (s : EventAt). KeepsEventAt s at fs (InFrame c.args.part.now.head []) text) (sym w.self-is) kept)
      | else-part w ↦
          subst (λ (s : EventAt). KeepsEventAt s at fs (InFrame c.args.part.now.head before) text) (sym w.self-is) (into_frame c.args.self.now at fs from c.args.part.now before text w.if-part.false is_at k)
    ] in
    let failed = c.in_err-put.ensures.written in
    let out = err_from_is_err_and c.from_residual.result c.from_residual.ensures.1 in
    let is : c.from_residual.result ≡ Err c.in_err-put.field-0.0 = out.1 ∙ ap Err out.2 in
    subst (λ (r : Result (Option Payload) Stop). TakesPart c.if-part.self at fs c.args.part.now.head frames position text c.args.output.now c.put.new.output r) (sym is)
    (failed.0, (_, failed.1, so_far role limits c.if-part.self at fs frames position rest before share since text c.args.part.now c.args.payload.now t may.offset here (here.frame.2.0 c.in_err-put.ensures.own)))

pub returns-then-end : goal.returns-then-end
returns-then-end g c role limits at fs frames from position rest before share since text may is_at t k =
    let here : KeepsEventAt c.if-part.self at fs (InFrame c.args.part.now.head before) text =
    elim c.if-part.branch [
      | then-part+in_default w ↦
          let there = begins_between c.args.self.now at fs from c.args.part.now before text w.if-part.true is_at k in
          let kept = subst (λ (o : Option EventStart). BeginsFrame w.begin.new.self at fs c.args.part.now.head text o) w.in_default.is (w.begin.ensures at fs text may there.0) in
          subst (λ (bs : List ℕ). KeepsEventAt c.if-part.self at fs (InFrame c.args.part.now.head bs) text) (sym there.1)
          (subst (λ (s : EventAt). KeepsEventAt s at fs (InFrame c.args.part.now.head []) text) (sym w.self-is) kept)
      | else-part w ↦
          subst (λ (s : EventAt). KeepsEventAt s at fs (InFrame c.args.part.now.head before) text) (sym w.self-is) (into_frame c.args.self.now at fs from c.args.part.now before text w.if-part.false is_at k)
    ] in
    let ends = c.if-part-2.true in
    let f = frame role limits c.if-part.self at fs frames position rest before share since text c.args.part.now c.args.payload.now t may.offset here ends in
    let is = c.end.ensures role limits at fs f _ (head_is role limits c.if-part.self at fs frames position rest before share since text c.args.part.now c.args.payload.now t may.offset here ends) may
    (lawful role limits c.if-part.self at fs frames position rest before share since text c.args.part.now c.args.payload.now t may.offset here ends)
    (whole_frame role limits c.if-part.self at fs frames position rest before share since text c.args.part.now c.args.payload.now t may.offset here ends) in (
      _,
      f,
      frames_are role limits c.if-part.self at fs frames position rest before share since text c.args.part.now c.args.payload.now t may.offset here ends,
      subst (λ (b : Bool). EndsFrame c.end.new.self at fs f (text ++ own_part c.if-part.self c.args.payload.now) b) c.if-end.true is,
      c.in_ok-put.ensures.written,
    )

pub returns : goal.returns
returns g c role limits at fs frames from position rest before share since text may is_at t k =
    let here : KeepsEventAt c.if-part.self at fs (InFrame c.args.part.now.head before) text =
    elim c.if-part.branch [
      | then-part+in_default w ↦
          let there = begins_between c.args.self.now at fs from c.args.part.now before text w.if-part.true is_at k in
          let kept = subst (λ (o : Option EventStart). BeginsFrame w.begin.new.self at fs c.args.part.now.head text o) w.in_default.is (w.begin.ensures at fs text may there.0) in
          subst (λ (bs : List ℕ). KeepsEventAt c.if-part.self at fs (InFrame c.args.part.now.head bs) text) (sym there.1)
          (subst (λ (s : EventAt). KeepsEventAt s at fs (InFrame c.args.part.now.head []) text) (sym w.self-is) kept)
      | else-part w ↦
          subst (λ (s : EventAt). KeepsEventAt s at fs (InFrame c.args.part.now.head before) text) (sym w.self-is) (into_frame c.args.self.now at fs from c.args.part.now before text w.if-part.false is_at k)
    ] in
    elim c.else-part-2.branch [
      | else-part-2-via-then-part-2+else-end w ↦
          let ends = w.if-part-2.true in
          let f = frame role limits c.if-part.self at fs frames position rest before share since text c.args.part.now c.args.payload.now t may.offset here ends in
          let is = w.end.ensures role limits at fs f _ (head_is role limits c.if-part.self at fs frames position rest before share since text c.args.part.now c.args.payload.now t may.offset here ends) may
          (lawful role limits c.if-part.self at fs frames position rest before share since text c.args.part.now c.args.payload.now t may.offset here ends)
          (whole_frame role limits c.if-part.self at fs frames position rest before share since text c.args.part.now c.args.payload.now t may.offset here ends) in (
            _,
            subst (λ (s : EventAt). KeepsEventAt s at frames position (text ++ own_part c.if-part.self c.args.payload.now)) (sym w.self-is)
                (ended role limits c.if-part.self at fs frames position rest before share since text c.args.part.now c.args.payload.now t may.offset here ends w.end.new.self
                (subst (λ (b : Bool). EndsFrame w.end.new.self at fs f (text ++ own_part c.if-part.self c.args.payload.now) b) w.if-end.false is)),
            c.in_ok-put.ensures.written,
          )
      | else-part-2-via-else-part-2 w ↦ (
        _,
        subst (λ (s : EventAt). KeepsEventAt s at frames position (text ++ own_part c.if-part.self c.args.payload.now)) (sym w.self-is)
            (within_frame role limits c.if-part.self at fs frames position rest before share since text c.args.part.now c.args.payload.now t may.offset here w.if-part-2.false),
        c.in_ok-put.ensures.written,
      )
    ]
