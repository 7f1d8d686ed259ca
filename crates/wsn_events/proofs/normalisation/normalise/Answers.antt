use Rattle.std.proofs.Common.{◌≡◌, Ok, Err, refl, rules, ap, ◌∙◌}
use Rattle.std.proofs.lemmas.Result.{err_from_is_err_and}
use Rattle.wsn_io.specs.declared.stop.Stop.TheVariants as stop
use Rattle.wsn_events.proofs.Normalising.{as_before, begins, is_done, is_stopped, is_lawful_event, goes_on, write_failed}
use Rattle.wsn_events.proofs.TakenEvents.{taken_written, taken_failed}
use Rattle.wsn_events.proofs.WholeNormalForms.{whole_normal_form}
use Rattle.wsn_events.proofs.normalisation.normalise.Goals as goal

pub loop-source-init : goal.loop-source-init
loop-source-init g c = begins c.args.role c.args.limits c.args.input.now c.args.output.now c.new-source.result c.new-source.ensures c.requires.readable c.requires.writable

pub returns-in_err-event : goal.returns-in_err-event
returns-in_err-event g c =
    let written = c.loop-source.invariant in
    let out = err_from_is_err_and c.from_residual.result c.from_residual.ensures.1 in
    let stops = is_stopped c.args.role c.args.limits c.args.input.now c.args.output.now c.loop-source.input c.next.new.input c.loop-source.output c.loop-source.source c.next.new.self written
    c.in_err-event.field-0.0 (c.in_err-event.ensures.next c.args.role c.args.limits written.came written.given written.has) in
    rw (out.1 ∙ ap Err out.2) (record {
      normalised = stops;
      whole = λ all known. whole_normal_form c.args.role c.args.limits c.args.input.now c.next.new.input c.args.output.now c.loop-source.output (Err c.in_err-event.field-0.0) all stops known;
    })

pub put_event-requires : goal.put_event-requires
put_event-requires g c = record {
  lawful = let written = c.loop-source.invariant in
      is_lawful_event c.args.role c.args.limits c.args.input.now c.args.output.now c.loop-source.input c.next.new.input c.loop-source.output c.loop-source.source c.next.new.self written
      c.in_ok-event.field-0 c.in-Event.event c.in-Event.is (c.in_ok-event.ensures.next c.args.role c.args.limits written.came written.given written.has);
  unfailed = search rules;
}

pub returns-in_err-put_event-in-Event : goal.returns-in_err-put_event-in-Event
returns-in_err-put_event-in-Event g c =
    let written = c.loop-source.invariant in
    let failed = c.in_err-put_event-in-Event.ensures in
    let out = err_from_is_err_and c.from_residual-in_err-put_event-in-Event.result c.from_residual-in_err-put_event-in-Event.ensures.1 in
    let is : c.from_residual-in_err-put_event-in-Event.result ≡ Err stop.Write = rw (out.1 ∙ ap Err out.2) (rw failed.0 refl) in
    let fails = write_failed c.args.role c.args.limits c.args.input.now c.args.output.now c.loop-source.input c.next.new.input c.loop-source.output c.loop-source.source c.next.new.self written
    c.in_ok-event.field-0 c.in-Event.event c.in-Event.is (c.in_ok-event.ensures.next c.args.role c.args.limits written.came written.given written.has)
    c.put_event.new.to failed.1 in
    rw is (record { normalised = fails; whole = λ all known. tt })

pub put_taken-requires : goal.put_taken-requires
put_taken-requires g c = record {
  going = let written = c.loop-source.invariant in
      let with_event = goes_on c.args.role c.args.limits c.args.input.now c.args.output.now c.loop-source.input c.next.new.input c.loop-source.output c.loop-source.source c.next.new.self written
      c.in_ok-event.field-0 c.in-Event.event c.in-Event.is (c.in_ok-event.ensures.next c.args.role c.args.limits written.came written.given written.has)
      c.put_event.new.to c.in_ok-put_event-in-Event.ensures in
      with_event.has.going;
  writable = search rules;
}

pub returns-in_err-put_taken-in-Event : goal.returns-in_err-put_taken-in-Event
returns-in_err-put_taken-in-Event g c =
    let written = c.loop-source.invariant in
    let with_event = goes_on c.args.role c.args.limits c.args.input.now c.args.output.now c.loop-source.input c.next.new.input c.loop-source.output c.loop-source.source c.next.new.self written
    c.in_ok-event.field-0 c.in-Event.event c.in-Event.is (c.in_ok-event.ensures.next c.args.role c.args.limits written.came written.given written.has)
    c.put_event.new.to c.in_ok-put_event-in-Event.ensures in
    let failed = c.in_err-put_taken-in-Event.ensures.put c.args.role c.args.limits with_event.came with_event.given with_event.has in
    let out = err_from_is_err_and c.from_residual-in_err-put_taken-in-Event.result c.from_residual-in_err-put_taken-in-Event.ensures.1 in
    let is : c.from_residual-in_err-put_taken-in-Event.result ≡ Err stop.Write = rw (out.1 ∙ ap Err out.2) (rw failed.written.0 refl) in
    let fails = taken_failed c.args.role c.args.limits c.args.input.now c.args.output.now c.loop-source.input c.next.new.input c.loop-source.output c.loop-source.source c.next.new.self written
    c.in_ok-event.field-0 c.in-Event.event c.in-Event.is (c.in_ok-event.ensures.next c.args.role c.args.limits written.came written.given written.has)
    c.put_event.new.to c.in_ok-put_event-in-Event.ensures c.put_taken.new.output c.put_taken.new.source c.in_err-put_taken-in-Event.field-0.0 failed in
    rw is (record { normalised = fails; whole = λ all known. tt })

pub loop-source-preserved : goal.loop-source-preserved
loop-source-preserved g c =
    let written = c.loop-source.invariant in
    let with_event = goes_on c.args.role c.args.limits c.args.input.now c.args.output.now c.loop-source.input c.next.new.input c.loop-source.output c.loop-source.source c.next.new.self written
    c.in_ok-event.field-0 c.in-Event.event c.in-Event.is (c.in_ok-event.ensures.next c.args.role c.args.limits written.came written.given written.has)
    c.put_event.new.to c.in_ok-put_event-in-Event.ensures in
    let with_taken = taken_written c.args.role c.args.limits c.args.input.now c.next.new.input c.args.output.now c.put_event.new.to c.next.new.self c.put_taken.new.source with_event c.put_taken.new.output
    (c.in_ok-put_taken-in-Event.ensures.put c.args.role c.args.limits with_event.came with_event.given with_event.has) in
    as_before c.args.role c.args.limits c.args.input.now c.args.output.now c.next.new.input c.put_taken.new.output c.put_taken.new.source c.reuse.new.self with_taken (c.reuse.ensures.given c.args.role c.args.limits)

pub same-source-in-Event : goal.same-source-in-Event
same-source-in-Event g c = search rules

pub returns-in-Done : goal.returns-in-Done
returns-in-Done g c =
    let written = c.loop-source.invariant in
    let done = is_done c.args.role c.args.limits c.args.input.now c.args.output.now c.loop-source.input c.next.new.input c.loop-source.output c.loop-source.source c.next.new.self written
    c.in_ok-event.field-0 c.in-Done.verdict c.in-Done.is (c.in_ok-event.ensures.next c.args.role c.args.limits written.came written.given written.has) in
    record {
      normalised = done;
      whole = λ all known. whole_normal_form c.args.role c.args.limits c.args.input.now c.next.new.input c.args.output.now c.loop-source.output (Ok c.in-Done.verdict) all done known;
    }

pub next-requires : goal.next-requires
next-requires g c = search rules

pub same-source : goal.same-source
same-source g c = search rules

pub loop-source-smaller : goal.loop-source-smaller
loop-source-smaller g c = search rules
