use Rattle.std.proofs.Common.{◌≡◌, Bool, true, false, ◌↔◌, IsTrue, sym, ◌∙◌, subst, true≢false, rules}
use Rattle.wsn_capture.specs.EndedBy.{SayReset}
use Rattle.wsn_show.proofs.EndNotes.{none_early}
use Rattle.wsn_show.proofs.end_notes.EndNotes.ended_by.Goals as goal

pub returns-then-not-has_ended_early : goal.returns-then-not-has_ended_early
returns-then-not-has_ended_early c limits lines entries noted is = λ early.
    let no : c.has_ended_early.result ≡ false = search rules in true≢false (sym (c.has_ended_early.ensures.1 early) ∙ no)

pub returns-in-Some : goal.returns-in-Some
returns-in-Some c limits lines entries noted is =
    let yes : c.has_ended_early.result ≡ true = search rules in (
      c.has_ended_early.ensures.0 yes,
      sym noted.first ∙ c.in-Some.is,
      subst (λ (b : Bool). IsTrue b ↔ SayReset lines c.in-Some.role) (sym c.is_reset_by.ensures) (noted.resets c.in-Some.role),
    )

pub returns-in-None : goal.returns-in-None
returns-in-None c limits lines entries noted is = none_early limits entries c.args.report.now is (sym noted.first ∙ c.in-None.is)
