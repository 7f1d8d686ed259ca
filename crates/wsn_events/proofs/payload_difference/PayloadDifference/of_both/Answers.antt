use Rattle.std.proofs.Common.{rules, ◌≡◌, ℕ, Option, None, Some, List, refl, sym, ap, ◌∙◌, subst}
use Rattle.wsn_print.specs.DifferingPayloads.{place_between}
use Rattle.wsn_events.specs.PayloadExcerpts.{meant_payload, ArePartsKept}
use Rattle.wsn_events.proofs.payload_difference.PayloadDifference.of_both.Goals as goal
use Rattle.wsn_rules.specs.Meaning.{payload_in}

pub returns-in-Some : goal.returns-in-Some
returns-in-Some c =
    let event = meant_payload c.args.one.now in
    let that = meant_payload c.args.other.now in
    let place : Some c.in-Some.place ≡ place_between (payload_in event) (payload_in that) =
    sym c.in-Some.is ∙ c.place_between.ensures.is ∙ ap (λ (bs : List ℕ). place_between bs c.bytes-2.result.now) c.bytes.ensures ∙ ap (λ (bs : List ℕ). place_between (payload_in event) bs) c.bytes-2.ensures in
    subst (λ (p : Option ℕ). ArePartsKept (Some (record { place = c.in-Some.place; first = c.new.result; second = c.new-in-Some.result })) p (Some event) (Some that)) place (refl, c.new.ensures, c.new-in-Some.ensures)

pub returns-in-None : goal.returns-in-None
returns-in-None c =
    let event = meant_payload c.args.one.now in
    let that = meant_payload c.args.other.now in
    let place : None ≡ place_between (payload_in event) (payload_in that) =
    sym c.in-None.is ∙ c.place_between.ensures.is ∙ ap (λ (bs : List ℕ). place_between bs c.bytes-2.result.now) c.bytes.ensures ∙ ap (λ (bs : List ℕ). place_between (payload_in event) bs) c.bytes-2.ensures in
    subst (λ (p : Option ℕ). ArePartsKept None p (Some event) (Some that)) place tt

pub new-requires : goal.new-requires
new-requires c = record { within = search rules; lawful = search rules }

pub new-requires-in-Some : goal.new-requires-in-Some
new-requires-in-Some c = record { within = search rules; lawful = search rules }
