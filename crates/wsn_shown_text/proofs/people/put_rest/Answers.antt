use Rattle.std.proofs.Common.{◌≡◌, ℕ, List, [], sym, ap, ◌∙◌, subst, rules}
use Rattle.wsn_io.specs.Transfer.{IsWritten}
use Rattle.wsn_io.specs.Stops.{IsWrittenOrStops}
use Rattle.wsn_shown_text.specs.declared.items.Rest.{Rest}
use Rattle.wsn_shown_text.specs.ShownItems.{IsPeopleRest}
use Rattle.wsn_shown_text.proofs.people.put_rest.Goals as goal

pub returns-in-Nothing : goal.returns-in-Nothing
returns-in-Nothing g c = λ text is.
    let none : text ≡ [] = subst (λ (r : Rest). IsPeopleRest c.args.view r text) c.in-Nothing.is is in
    let nothing : IsWritten c.args.to.now c.args.to.now [] = search rules in
    subst (IsWritten c.args.to.now c.args.to.now) (sym none) nothing

pub returns-in-Seen : goal.returns-in-Seen
returns-in-Seen g c = λ text is.
    let seen = subst (λ (r : Rest). IsPeopleRest c.args.view r text) c.in-Seen.is is in
    subst (λ (t : List ℕ). IsWrittenOrStops c.args.to.now c.put_view_and_end.new.to t c.put_view_and_end.result) (sym seen) c.put_view_and_end.ensures

pub returns-in-Evidence : goal.returns-in-Evidence
returns-in-Evidence g c = λ text is.
    let all = subst (λ (r : Rest). IsPeopleRest c.args.view r text) c.in-Evidence.is is in
    subst (λ (t : List ℕ). IsWrittenOrStops c.args.to.now c.put_evidence.new.to t c.put_evidence.result) (sym all.2) (c.put_evidence.ensures all.0 all.1)
