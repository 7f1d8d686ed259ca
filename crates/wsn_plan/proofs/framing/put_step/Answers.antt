use Rattle.std.proofs.Common.{◌≡◌, ℕ, ◌-◌, List, length, map, drop, ap, subst}
use Rattle.std.proofs.Math.Seq.{map-set_same}
use Rattle.wsn_wire.specs.Frame.{FormFits}
use Rattle.wsn_rules.specs.Meaning.{MeantEvent}
use Rattle.wsn_rules.specs.Plan.{next_text}
use Rattle.wsn_rules.specs.Recut.{next_message}
use Rattle.wsn_plan.specs.Gathering.{kept_meant}
use Rattle.wsn_plan.specs.Walking.{IsApplicable}
use Rattle.wsn_plan.specs.Framing.{EncodesItsLength}
use Rattle.wsn_plan.proofs.NextEvents.{is_within, is_there, first_there, control_is_short}
use Rattle.wsn_plan.proofs.framing.put_step.Goals as goal

pub bounds-events-walk : goal.bounds-events-walk
bounds-events-walk g c =
    let may = subst (IsApplicable c.args.walk.now (map kept_meant c.args.events.now)) c.in-Piece.is c.requires.may in
    is_within c.args.events.now c.args.walk.now.message _ _ (first_there c.args.events.now c.args.walk.now c.requires.placed may.0 may.1).1

pub put_piece-requires : goal.put_piece-requires
put_piece-requires g c = record {
  message = let may = subst (IsApplicable c.args.walk.now (map kept_meant c.args.events.now)) c.in-Piece.is c.requires.may in
      let first = first_there c.args.events.now c.args.walk.now c.requires.placed may.0 may.1 in
      (first.0.kind, may.0, rw (← c.index-events-walk.is) (is_there c.args.events.now c.args.walk.now.message c.index-events-walk.result _ _ c.index-events-walk.is first.1), may.2, (c.requires.held may.0 may.1).1);
  unfailed = c.requires.unfailed;
  form = subst (EncodesItsLength c.args.walk.now (drop c.args.walk.now.event (map kept_meant c.args.events.now))) c.in-Piece.is c.requires.form;
}

pub put_last-requires : goal.put_last-requires
put_last-requires g c = record {
  message = let may = subst (IsApplicable c.args.walk.now (map kept_meant c.args.events.now)) c.in-Last.is c.requires.may in
      let held = c.requires.held may.1 (ap next_text may.3) in
      let form = subst (EncodesItsLength c.args.walk.now (drop c.args.walk.now.event (map kept_meant c.args.events.now))) c.in-Last.is c.requires.form in
      let text : (next_message (drop c.args.walk.now.event (map kept_meant c.args.events.now))).1 ≡ may.1 = ap (λ (left : List MeantEvent). (next_message left).1) may.3 in (
        may.0,
        may.1,
        rw (← c.index-events-walk-in-Last.is) (is_there c.args.events.now c.args.walk.now.event c.index-events-walk-in-Last.result _ _ c.index-events-walk-in-Last.is may.3),
        held.0,
        held.1,
        subst (λ (t : List ℕ). FormFits c.in-Last.form (length t - c.args.walk.now.held)) text form,
      );
  unfailed = c.requires.unfailed;
}

pub put_control-requires : goal.put_control-requires
put_control-requires g c = record {
  control = let may = subst (IsApplicable c.args.walk.now (map kept_meant c.args.events.now)) c.in-Control.is c.requires.may in (
    may.0,
    may.1,
    rw (← c.index-events-walk-in-Control.is) (is_there c.args.events.now c.args.walk.now.event c.index-events-walk-in-Control.result _ _ c.index-events-walk-in-Control.is may.3),
    control_is_short c.args.events.now c.requires.lawful.0 c.args.walk.now.event may.0 may.1 may.2 c.requires.lawful.1 may.3,
  );
  unfailed = c.requires.unfailed;
}

pub returns-in-Piece : goal.returns-in-Piece
returns-in-Piece g c = record {
  put = let may = subst (IsApplicable c.args.walk.now (map kept_meant c.args.events.now)) c.in-Piece.is c.requires.may in
      let first = first_there c.args.events.now c.args.walk.now c.requires.placed may.0 may.1 in
      let there = is_there c.args.events.now c.args.walk.now.message c.index-events-walk.result _ _ c.index-events-walk.is first.1 in
      rw (c.in-Piece.is, first.0.next_kind, first.0.next_text) (c.put_piece.ensures.put first.0.kind may.0 (rw (← c.index-events-walk.is) there));
  same = map-set_same kept_meant c.args.events.now c.args.walk.now.message c.put_piece.new.event c.index-events-walk.result c.put_piece.ensures.same;
}

pub returns-in-Last : goal.returns-in-Last
returns-in-Last g c = record {
  put = let may = subst (IsApplicable c.args.walk.now (map kept_meant c.args.events.now)) c.in-Last.is c.requires.may in
      let there = is_there c.args.events.now c.args.walk.now.event c.index-events-walk-in-Last.result _ _ c.index-events-walk-in-Last.is may.3 in
      rw (c.in-Last.is, may.3) (c.put_last.ensures.put may.0 may.1 (rw (← c.index-events-walk-in-Last.is) there));
  same = map-set_same kept_meant c.args.events.now c.args.walk.now.event c.put_last.new.event c.index-events-walk-in-Last.result c.put_last.ensures.same;
}

pub returns-in-Control : goal.returns-in-Control
returns-in-Control g c = record {
  put = let may = subst (IsApplicable c.args.walk.now (map kept_meant c.args.events.now)) c.in-Control.is c.requires.may in
      let there = is_there c.args.events.now c.args.walk.now.event c.index-events-walk-in-Control.result _ _ c.index-events-walk-in-Control.is may.3 in
      rw (c.in-Control.is, may.3) (c.put_control.ensures.put may.0 may.1 (rw (← c.index-events-walk-in-Control.is) there));
  same = map-set_same kept_meant c.args.events.now c.args.walk.now.event c.put_control.new.event c.index-events-walk-in-Control.result c.put_control.ensures.same;
}

pub bounds-events-walk-in-Last : goal.bounds-events-walk-in-Last
bounds-events-walk-in-Last g c =
    let may = subst (IsApplicable c.args.walk.now (map kept_meant c.args.events.now)) c.in-Last.is c.requires.may in
    is_within c.args.events.now c.args.walk.now.event _ _ may.3

pub bounds-events-walk-in-Control : goal.bounds-events-walk-in-Control
bounds-events-walk-in-Control g c =
    let may = subst (IsApplicable c.args.walk.now (map kept_meant c.args.events.now)) c.in-Control.is c.requires.may in
    is_within c.args.events.now c.args.walk.now.event _ _ may.3
