use Rattle.std.proofs.Common.{[], ◌∷◌, ◌++◌}
use Rattle.wsn_rules.specs.ShownStream.{event_offset}
use Rattle.wsn_rules.proofs.OneVerdict.{all_go_on, all_of_verdict}
use Rattle.wsn_parts.proofs.OneEvent.{some_whole, one_whole, never_unfinished, never_before}
use Rattle.wsn_parts.proofs.ElsewhereBegun.{head_of_inside, never_inside}
use Rattle.wsn_parts.proofs.laws.law_payload_of_event.Goals as goal

pub returns-clause-some : goal.returns-clause-some
returns-clause-some c = λ role limits bytes fs before later f verdict is parts final within.
    let all = all_of_verdict role limits bytes fs verdict is in
    some_whole role limits bytes fs before later f verdict is parts final all.lawful all.rest all.whole within

pub returns-clause-one : goal.returns-clause-one
returns-clause-one c = λ role limits bytes payload fs before later f verdict is parts final w.
    let all = all_of_verdict role limits bytes fs verdict is in
    let goes = all_go_on role limits bytes (w.before ++ w.last ∷ []) fs w.later w.lawful w.whole all in
    one_whole role limits bytes fs before later f verdict is parts final all.lawful payload w goes.0 goes.1

pub returns-clause-finished : goal.returns-clause-finished
returns-clause-finished c = λ role limits bytes payload fs before later f verdict other is parts final u.
    never_unfinished role limits bytes fs before later f verdict is parts final (all_of_verdict role limits bytes fs verdict is).lawful other payload u

pub returns-clause-reached : goal.returns-clause-reached
returns-clause-reached c = λ role limits bytes fs before later f verdict other is parts final u.
    never_before role limits bytes fs before later f verdict is parts final (all_of_verdict role limits bytes fs verdict is).lawful other u

pub returns-clause-complete : goal.returns-clause-complete
returns-clause-complete c = λ role limits bytes fs before later f verdict other start is parts final u.
    never_before role limits bytes fs before later f verdict is parts final (all_of_verdict role limits bytes fs verdict is).lawful other u.ends

pub returns-clause-own : goal.returns-clause-own
returns-clause-own c = λ role limits bytes fs before later f verdict start is parts final w.
    let all = all_of_verdict role limits bytes fs verdict is in
    let head = head_of_inside role limits bytes (event_offset before f) start w in
    let goes = all_go_on role limits bytes w.before fs head.rest head.lawful head.whole all in
    never_inside role limits bytes fs before later f parts final all.lawful all.rest all.whole start w goes.0 goes.1
