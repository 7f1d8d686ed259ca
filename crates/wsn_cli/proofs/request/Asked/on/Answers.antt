use Rattle.std.proofs.Common.{Bool, if◌then◌else◌, sym, ap, ◌∙◌}
use Rattle.wsn_cli.specs.declared.request.Asked.{Asked}
use Rattle.wsn_cli.specs.declared.request.Request.{Request}
use Rattle.wsn_cli.specs.Colors.{request_for_people}
use Rattle.wsn_cli.proofs.request.Asked.on.Goals as goal

-- What is asked for, with entries for people or as they are.
abbrev laid_out : Asked → Bool → Asked
laid_out asked for_people = if for_people then record asked { request = request_for_people asked.request } else asked

pub returns-then-is_for_people-clause-is : goal.returns-then-is_for_people-clause-is
returns-then-is_for_people-clause-is c =
    let asked = c.args.self in
    ap (λ (r : Request). record asked { request = r }) c.request_for_people.ensures.is
    ∙ sym (ap (laid_out asked) (sym c.is_for_people.ensures ∙ c.if-is_for_people.true))

pub returns-then-is_for_people-clause-done : goal.returns-then-is_for_people-clause-done
returns-then-is_for_people-clause-done c = c.request_for_people.ensures.done

pub returns-else-is_for_people-clause-is : goal.returns-else-is_for_people-clause-is
returns-else-is_for_people-clause-is c = sym (ap (laid_out c.args.self) (sym c.is_for_people.ensures ∙ c.if-is_for_people.false))

pub returns-else-is_for_people-clause-done : goal.returns-else-is_for_people-clause-done
returns-else-is_for_people-clause-done c = λ can. can
