use Rattle.std.proofs.Common.{rules, subst}
use Rattle.wsn_rules.specs.Limits.{Limits}
use Rattle.wsn_show.specs.Showing.{IsShown}
use Rattle.wsn_page.proofs.MemoryRuns.{shows_over}
use Rattle.wsn_page.proofs.calls.wsn_page_show.Goals as goal

pub returns : goal.returns
returns c =
    let shown = subst (λ (limits : Limits). IsShown limits c.style.result c.lent.result c.show-done.new.input
    c.new-printed.result c.show-done.new.output c.show-done.result) c.limits.ensures c.show-done.ensures in (
      c.style.result,
      c.style.ensures,
      (
        c.text.result.now,
        _,
        _,
        shows_over _ c.style.result c.args.capture.now c.text.result.now c.show-done.new.input c.lent.result
            c.new-printed.result c.show-done.new.output c.show-done.result (search rules) (search rules) (search rules) shown,
        c.give_shown.ensures,
      ),
    )
