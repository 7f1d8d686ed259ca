use Rattle.std.proofs.Common.{rules, subst}
use Rattle.wsn_wire.specs.declared.endpoint.Role.{Role}
use Rattle.wsn_rules.specs.Limits.{Limits}
use Rattle.wsn_show.specs.StreamShows.{IsStreamShown}
use Rattle.wsn_page.specs.Asking.{limits_asked}
use Rattle.wsn_page.proofs.MemoryRuns.{shows_stream_over}
use Rattle.wsn_page.proofs.calls.wsn_page_show_stream.Goals as goal

pub returns : goal.returns
returns c =
    let limits : Limits = limits_asked c.args.settings.now in
    let limited = subst (λ (limits : Limits). IsStreamShown c.role.result limits c.style.result c.lent.result
    c.show_stream-done.new.input c.new-printed.result c.show_stream-done.new.output c.show_stream-done.result)
    c.limits.ensures c.show_stream-done.ensures in
    let shown = subst (λ (role : Role). IsStreamShown role limits c.style.result c.lent.result
    c.show_stream-done.new.input c.new-printed.result c.show_stream-done.new.output c.show_stream-done.result)
    c.role.ensures limited in (
      c.style.result,
      c.style.ensures,
      (
        c.text.result.now,
        _,
        _,
        shows_stream_over _ _ c.style.result c.args.stream.now c.text.result.now c.show_stream-done.new.input c.lent.result
            c.new-printed.result c.show_stream-done.new.output c.show_stream-done.result (search rules) (search rules)
            (search rules) shown,
        c.give_stream.ensures,
      ),
    )
