use Rattle.std.proofs.Common.{◌≡◌, ℕ, List, [], ◌∷◌, ◌++◌, map, subst, Err, refl, arith, rules, ap, ◌∙◌}
use Rattle.std.proofs.lemmas.Result.{err_from_is_err_and}
use Rattle.wsn_rules.specs.Meaning.{Message}
use Rattle.wsn_io.specs.declared.stop.Stop.TheVariants as stop
use Rattle.wsn_events.specs.declared.source.Next.TheVariants as nexts
use Rattle.wsn_events.specs.declared.turn.Turn.TheVariants as turns
use Rattle.wsn_events.specs.SourceStates.{events_ahead}
use Rattle.wsn_plan.specs.Gathering.{kept_meant}
use Rattle.wsn_plan.proofs.GatheredEvents.{gives_lent, gives_own, given_back, begins, still, lends_at_once, is_done, is_stopped, goes_on, no_memory, goes_on_lent, no_memory_lent}
use Rattle.wsn_plan.proofs.gathering.gather.Goals as goal

pub loop-kind-init : goal.loop-kind-init
loop-kind-init g c =
    rw c.new-events.ensures.items (begins c.args.role c.args.limits c.args.input.now c.new-source.result c.new-source.ensures c.requires.readable)

pub next_turn-requires : goal.next_turn-requires
next_turn-requires g c = search rules

pub returns-in_err-keep_message : goal.returns-in_err-keep_message
returns-in_err-keep_message g c =
    let is : c.from_residual.result ≡ Err stop.Memory = search rules in
    let lends = lends_at_once c.args.role c.args.limits c.args.input.now c.loop-kind.input c.loop-kind.source c.take_message.new.self c.loop-kind.events.items c.loop-kind.invariant c.take_message.result c.take_message.ensures c.in-Some.kind c.in-Some.is in
    rw is (no_memory_lent c.args.role c.args.limits c.args.input.now c.loop-kind.input c.loop-kind.input c.loop-kind.source c.take_message.new.self c.loop-kind.events.items c.loop-kind.invariant (turns.Lent c.in-Some.kind) c.in-Some.kind refl lends)

pub loop-kind-smaller-in-Some : goal.loop-kind-smaller-in-Some
loop-kind-smaller-in-Some g c = c.in-Some.ensures.falls

pub loop-kind-preserved-in-Some : goal.loop-kind-preserved-in-Some
loop-kind-preserved-in-Some g c =
    let lends = lends_at_once c.args.role c.args.limits c.args.input.now c.loop-kind.input c.loop-kind.source c.take_message.new.self c.loop-kind.events.items c.loop-kind.invariant c.take_message.result c.take_message.ensures c.in-Some.kind c.in-Some.is in
    goes_on_lent c.args.role c.args.limits c.args.input.now c.loop-kind.input c.loop-kind.input c.loop-kind.source c.take_message.new.self c.loop-kind.events.items c.loop-kind.invariant (turns.Lent c.in-Some.kind) c.in-Some.kind refl lends c.keep_message.new.events.items
    (subst (λ (bs : List ℕ). map kept_meant c.keep_message.new.events.items ≡ map kept_meant c.loop-kind.events.items ++ Message c.in-Some.kind bs ∷ []) c.taken.ensures c.in_ok-keep_message.ensures.kept)

pub same-source-in-loop-kind : goal.same-source-in-loop-kind
same-source-in-loop-kind g c = search rules

pub returns-in_err-kind : goal.returns-in_err-kind
returns-in_err-kind g c =
    let gathered = still c.args.role c.args.limits c.args.input.now c.loop-kind.input c.loop-kind.source c.take_message.new.self c.loop-kind.events.items c.in_default.ensures.none c.loop-kind.invariant in
    let out = err_from_is_err_and c.from_residual-in_err-kind.result c.from_residual-in_err-kind.ensures.1 in
    let is : c.from_residual-in_err-kind.result ≡ Err c.in_err-kind.field-0.0 = out.1 ∙ ap Err out.2 in
    rw is (is_stopped c.args.role c.args.limits c.args.input.now c.loop-kind.input c.next_turn.new.input c.take_message.new.self c.next_turn.new.self c.loop-kind.events.items gathered c.in_err-kind.field-0.0 (c.in_err-kind.ensures.next c.args.role c.args.limits gathered.came _ gathered.has))

pub same-source : goal.same-source
same-source g c = search rules

pub loop-kind-smaller-in-Continue-branch-4 : goal.loop-kind-smaller-in-Continue-branch-4
loop-kind-smaller-in-Continue-branch-4 g c =
    let falls = c.in_ok-kind.ensures.falls (gives_lent c.in_ok-kind.field-0 c.in-Lent.kind c.in-Lent.is) in
    omega (arith, falls, ap events_ahead c.in_default.ensures.none)

pub loop-kind-preserved-in-Continue-branch-4 : goal.loop-kind-preserved-in-Continue-branch-4
loop-kind-preserved-in-Continue-branch-4 g c =
    let gathered = still c.args.role c.args.limits c.args.input.now c.loop-kind.input c.loop-kind.source c.take_message.new.self c.loop-kind.events.items c.in_default.ensures.none c.loop-kind.invariant in
    goes_on_lent c.args.role c.args.limits c.args.input.now c.loop-kind.input c.next_turn.new.input c.take_message.new.self c.next_turn.new.self c.loop-kind.events.items gathered c.in_ok-kind.field-0 c.in-Lent.kind c.in-Lent.is (c.in_ok-kind.ensures.next c.args.role c.args.limits gathered.came _ gathered.has) c.keep_message-in-Lent.new.events.items
    (subst (λ (bs : List ℕ). map kept_meant c.keep_message-in-Lent.new.events.items ≡ map kept_meant c.loop-kind.events.items ++ Message c.in-Lent.kind bs ∷ []) c.taken-in-Lent.ensures c.in_ok-keep_message-in-Lent.ensures.kept)

pub returns-in_err-keep_message-in-Lent : goal.returns-in_err-keep_message-in-Lent
returns-in_err-keep_message-in-Lent g c =
    let gathered = still c.args.role c.args.limits c.args.input.now c.loop-kind.input c.loop-kind.source c.take_message.new.self c.loop-kind.events.items c.in_default.ensures.none c.loop-kind.invariant in
    let is : c.from_residual-in_err-keep_message-in-Lent.result ≡ Err stop.Memory = search rules in
    rw is (no_memory_lent c.args.role c.args.limits c.args.input.now c.loop-kind.input c.next_turn.new.input c.take_message.new.self c.next_turn.new.self c.loop-kind.events.items gathered c.in_ok-kind.field-0 c.in-Lent.kind c.in-Lent.is (c.in_ok-kind.ensures.next c.args.role c.args.limits gathered.came _ gathered.has))

pub returns-in_err-keep-in-Own-Event : goal.returns-in_err-keep-in-Own-Event
returns-in_err-keep-in-Own-Event g c =
    let gathered = still c.args.role c.args.limits c.args.input.now c.loop-kind.input c.loop-kind.source c.take_message.new.self c.loop-kind.events.items c.in_default.ensures.none c.loop-kind.invariant in
    let is : c.in_ok-kind.field-0 ≡ turns.Own (nexts.Event c.in-Own-Event.event) = cc in
    let out : c.from_residual-in_err-keep-in-Own-Event.result ≡ Err stop.Memory = search rules in
    rw out (no_memory c.args.role c.args.limits c.args.input.now c.loop-kind.input c.next_turn.new.input c.take_message.new.self c.next_turn.new.self c.loop-kind.events.items gathered c.in_ok-kind.field-0 c.in-Own-Event.event is (c.in_ok-kind.ensures.next c.args.role c.args.limits gathered.came _ gathered.has))

pub same-source-in-Own-Event : goal.same-source-in-Own-Event
same-source-in-Own-Event g c = search rules

pub loop-kind-smaller : goal.loop-kind-smaller
loop-kind-smaller g c =
    let is : c.in_ok-kind.field-0 ≡ turns.Own (nexts.Event c.in-Own-Event.event) = cc in
    let falls = c.in_ok-kind.ensures.falls (gives_own c.in_ok-kind.field-0 c.in-Own-Event.event is) in
    omega (arith, falls, c.reuse.ensures.left, ap events_ahead c.in_default.ensures.none)

pub loop-kind-preserved : goal.loop-kind-preserved
loop-kind-preserved g c =
    let gathered = still c.args.role c.args.limits c.args.input.now c.loop-kind.input c.loop-kind.source c.take_message.new.self c.loop-kind.events.items c.in_default.ensures.none c.loop-kind.invariant in
    let is : c.in_ok-kind.field-0 ≡ turns.Own (nexts.Event c.in-Own-Event.event) = cc in
    given_back c.args.role c.args.limits c.args.input.now c.next_turn.new.input c.next_turn.new.self c.reuse.new.self _ c.reuse.ensures
    (goes_on c.args.role c.args.limits c.args.input.now c.loop-kind.input c.next_turn.new.input c.take_message.new.self c.next_turn.new.self c.loop-kind.events.items gathered c.in_ok-kind.field-0 c.in-Own-Event.event is (c.in_ok-kind.ensures.next c.args.role c.args.limits gathered.came _ gathered.has) c.keep.new.events.items c.in_ok-keep-in-Own-Event.ensures.kept)

pub returns-in-Own-Done : goal.returns-in-Own-Done
returns-in-Own-Done g c =
    let gathered = still c.args.role c.args.limits c.args.input.now c.loop-kind.input c.loop-kind.source c.take_message.new.self c.loop-kind.events.items c.in_default.ensures.none c.loop-kind.invariant in
    let is : c.in_ok-kind.field-0 ≡ turns.Own (nexts.Done c.in-Own-Done.verdict) = cc in
    is_done c.args.role c.args.limits c.args.input.now c.loop-kind.input c.next_turn.new.input c.take_message.new.self c.next_turn.new.self c.loop-kind.events.items gathered c.in_ok-kind.field-0 c.in-Own-Done.verdict _ is refl refl (c.in_ok-kind.ensures.next c.args.role c.args.limits gathered.came _ gathered.has)

pub same-source-in-Continue-branch-4 : goal.same-source-in-Continue-branch-4
same-source-in-Continue-branch-4 g c = search rules
