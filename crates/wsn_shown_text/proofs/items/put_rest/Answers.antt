use Rattle.std.proofs.Common.{◌≡◌, ℕ, List, [], sym, ap, ◌∙◌, subst, rules}
use Rattle.wsn_io.specs.Transfer.{IsWritten}
use Rattle.wsn_io.specs.Stops.{IsWrittenOrStops}
use Rattle.wsn_shown_text.specs.declared.fields.Shape.{Shape}
use Rattle.wsn_print.specs.ShownParts.{position_of, character_in}
use Rattle.wsn_shown_text.specs.declared.items.Rest.{Rest}
use Rattle.wsn_shown_text.specs.ShownItems.{IsRest, evidence_in}
use Rattle.wsn_shown_text.proofs.items.put_rest.Goals as goal

pub returns-in-Nothing : goal.returns-in-Nothing
returns-in-Nothing g c = λ text is.
    let none : text ≡ [] = subst (λ (r : Rest). IsRest c.args.shape c.args.view c.args.front.now.role (position_of c.args.front.now.origin) r text) c.in-Nothing.is is in
    let nothing : IsWritten c.args.to.now c.args.to.now [] = search rules in
    subst (IsWritten c.args.to.now c.args.to.now) (sym none) nothing

pub returns-in-Seen : goal.returns-in-Seen
returns-in-Seen g c = λ text is.
    let seen = subst (λ (r : Rest). IsRest c.args.shape c.args.view c.args.front.now.role (position_of c.args.front.now.origin) r text) c.in-Seen.is is in
    subst (λ (t : List ℕ). IsWrittenOrStops c.args.to.now c.put_view_and_end.new.to t c.put_view_and_end.result) (sym seen.0) (c.put_view_and_end.ensures seen.1)

pub returns-in-Line : goal.returns-in-Line
returns-in-Line g c = λ text is.
    let role = c.args.front.now.role in
    let at = position_of c.args.front.now.origin in
    let all = subst (λ (r : Rest). IsRest c.args.shape c.args.view role at r text) c.in-Evidence.is is in
    subst (λ (t : List ℕ). IsWrittenOrStops c.args.to.now c.put_evidence_text.new.to t c.put_evidence_text.result)
    (sym (all.2 ∙ ap (λ (f : Shape). evidence_in f c.args.view role at all.0 (character_in c.in-Evidence.character)) c.in-Line.is)) (c.put_evidence_text.ensures all.0 all.1)

pub returns-in-Object : goal.returns-in-Object
returns-in-Object g c = λ text is.
    let role = c.args.front.now.role in
    let at = position_of c.args.front.now.origin in
    let all = subst (λ (r : Rest). IsRest c.args.shape c.args.view role at r text) c.in-Evidence.is is in
    subst (λ (t : List ℕ). IsWrittenOrStops c.args.to.now c.put_evidence_fields.new.to t c.put_evidence_fields.result)
    (sym (all.2 ∙ ap (λ (f : Shape). evidence_in f c.args.view role at all.0 (character_in c.in-Evidence.character)) c.in-Object.is)) (c.put_evidence_fields.ensures all.0 c.args.front.now.role (position_of c.args.front.now.origin) all.1)
