use Rattle.std.proofs.Common.{Option, refl, sym, ◌∙◌, subst, rules}
use Rattle.wsn_rules.specs.Meaning.{MeantEvent}
use Rattle.wsn_events.specs.PayloadExcerpts.{IsLawfulIfAny, meant_payloads, event_given, ArePayloadsKept}
use Rattle.wsn_events.proofs.PayloadParts.{lawful_given}
use Rattle.wsn_events.specs.Turns.{meant_last}
use Rattle.wsn_events.proofs.KeptExcerpts.{keeps_first, keeps_new}
use Rattle.wsn_events.proofs.comparing.keep_first.Goals as goal

pub returns-then-is_some : goal.returns-then-is_some
returns-then-is_some g c = keeps_first c.args.index c.args.first.now.source.now (meant_last c.args.first.now) c.args.second.now.source.now (meant_last c.args.second.now) c.args.difference.now (sym c.is_some.ensures ∙ c.if-is_some.true)

pub excerpt_of-requires : goal.excerpt_of-requires
excerpt_of-requires g c = search rules

pub excerpt_of-requires-2 : goal.excerpt_of-requires-2
excerpt_of-requires-2 g c = search rules

pub payload_of-requires : goal.payload_of-requires
payload_of-requires g c = search rules

pub payload_of-requires-2 : goal.payload_of-requires-2
payload_of-requires-2 g c = search rules

pub between-payloads-requires-clause-one : goal.between-payloads-requires-clause-one
between-payloads-requires-clause-one g c = subst IsLawfulIfAny (sym c.payload_of.ensures) (lawful_given (meant_last c.args.first.now) c.requires.first)

pub between-payloads-requires-clause-other : goal.between-payloads-requires-clause-other
between-payloads-requires-clause-other g c = subst IsLawfulIfAny (sym c.payload_of-2.ensures) (lawful_given (meant_last c.args.second.now) c.requires.second)

pub returns : goal.returns
returns g c =
    let turn = meant_last c.args.first.now in
    let other_turn = meant_last c.args.second.now in
    let payloads =
    subst (λ (e : Option MeantEvent). ArePayloadsKept c.between-payloads.result e (event_given other_turn)) c.payload_of.ensures
    (subst (λ (e : Option MeantEvent). ArePayloadsKept c.between-payloads.result (meant_payloads c.payload_of.result) e) c.payload_of-2.ensures c.between-payloads.ensures) in
    keeps_new c.args.index c.args.first.now.source.now turn c.args.second.now.source.now other_turn c.args.difference.now (record { index = c.args.index; first = c.excerpt_of.result; second = c.excerpt_of-2.result; payloads = c.between-payloads.result }) (sym c.is_some.ensures ∙ c.if-is_some.false) refl c.excerpt_of.ensures c.excerpt_of-2.ensures payloads
