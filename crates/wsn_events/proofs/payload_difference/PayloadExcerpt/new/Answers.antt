use Rattle.std.proofs.Common.{rules, ◌≡◌, ℕ, ◌-◌, List, [], length, take, drop, ap, ◌∙◌, arith}
use Rattle.std.proofs.lemmas.List.{length-take}
use Rattle.wsn_print.specs.DifferingPayloads.{payload_on}
use Rattle.wsn_print.proofs.HeldParts.{rest_is}
use Rattle.wsn_events.specs.PayloadExcerpts.{meant_payload}
use Rattle.wsn_events.proofs.ExcerptViews.{appended}
use Rattle.wsn_events.proofs.PayloadParts.{first_kept}
use Rattle.wsn_events.proofs.payload_difference.PayloadExcerpt.new.Goals as goal
use Rattle.wsn_rules.specs.Meaning.{payload_in}

pub returns : goal.returns
returns c =
    let event = meant_payload c.args.payload.now in
    let from : ℕ = c.view_start-from.result in
    let is = c.view_start-from.ensures.is in
    let all : List ℕ = c.bytes.result.now in
    let rest : List ℕ = take (length all - from) (drop from all) in
    let on : rest ≡ payload_on c.args.place event = rest_is from all ∙ ap (drop from) c.bytes.ensures ∙ ap (λ (k : ℕ). drop k (payload_in event)) is in
    let few = c.min.ensures in
    let none : c.new-held.result.items ≡ [] = c.new-held.ensures in
    let near = c.view_start-from.ensures.near in
    record {
      text = c.is_text.ensures;
      start = is;
      before = ap (λ (k : ℕ). c.args.place - k) is;
      near = omega (arith, near.0, near.1, is);
      size = ap (λ (bs : List ℕ). length bs) on;
      first =
          appended c.try_extend_from_slice-fits.result c.try_extend_from_slice-fits.ensures.variant (omega (arith, few, ap (λ (bs : List ℕ). length bs) none, length-take c.min.result rest)) c.try_extend_from_slice-fits.ensures.ok
          ∙ first_kept c.new-held.result.items rest c.min.result none few
          ∙ ap (take 4107) on;
    }

pub view_start-from-requires : goal.view_start-from-requires
view_start-from-requires c = record { within = search rules; lawful = search rules }

pub slice_bounds-bytes-count : goal.slice_bounds-bytes-count
slice_bounds-bytes-count c = search rules

pub slice_bounds-bytes-start : goal.slice_bounds-bytes-start
slice_bounds-bytes-start c = search rules

pub slice_bounds-bytes-end : goal.slice_bounds-bytes-end
slice_bounds-bytes-end c = search rules

pub new-held-requires : goal.new-held-requires
new-held-requires c = search rules

pub slice_bounds-try_extend_from_slice-end : goal.slice_bounds-try_extend_from_slice-end
slice_bounds-try_extend_from_slice-end c = search rules

pub try_extend_from_slice-fits-requires : goal.try_extend_from_slice-fits-requires
try_extend_from_slice-fits-requires c = search rules

pub overflow_sub-result : goal.overflow_sub-result
overflow_sub-result c = search rules

pub overflow_cast-result : goal.overflow_cast-result
overflow_cast-result c = search rules
