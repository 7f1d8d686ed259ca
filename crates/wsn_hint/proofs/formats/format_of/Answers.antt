use Rattle.std.proofs.Common.{Option, subst}
use Rattle.wsn_hint.specs.declared.hint.Hint.{Hint}
use Rattle.wsn_hint.specs.Hints.{HintFits, IsFirstFit, marked_hints, written_hints}
use Rattle.wsn_hint.proofs.FirstFits.{first_of_more, first_after}
use Rattle.wsn_hint.proofs.formats.format_of.Goals as goal

pub returns-in-Some : goal.returns-in-Some
returns-in-Some c = λ limits.
    let fits = HintFits limits c.args.first.now in
    first_of_more fits marked_hints written_hints c.in-Some.hint
    (subst (λ (o : Option Hint). IsFirstFit fits marked_hints o) c.in-Some.is (c.marked_format_of.ensures limits))

pub returns-in-None : goal.returns-in-None
returns-in-None c = λ limits.
    let fits = HintFits limits c.args.first.now in
    first_after fits marked_hints written_hints c.written_format_of.result
    (subst (λ (o : Option Hint). IsFirstFit fits marked_hints o) c.in-None.is (c.marked_format_of.ensures limits))
    (c.written_format_of.ensures limits)
