use Rattle.std.proofs.Common.{◌≡◌, ℕ, ◌+◌, ◌-◌, List, Result, Err, length, take, drop, refl, sym, ◌∙◌, subst, ap, rules, arith}
use Rattle.std.proofs.lemmas.Grind.{common_steps}
use Rattle.std.proofs.Math.Seq.{take-length}
use Rattle.std.proofs.lemmas.List.{take-append-drop}
use Rattle.std.proofs.lemmas.Result.{err_from_is_err_and}
use Rattle.std.specs.Result.{MatchResult}
use Rattle.wsn_text.specs.Validated.{Validates, Breaks, Follows}
use Rattle.wsn_text.proofs.Taking.{Shifted, answers_part, answers_before, takes_nothing}
use Rattle.wsn_text.proofs.utf8_check.Utf8.take_chunk.Goals as goal

pub returns-then-chunk-le-FEW-clause-within : goal.returns-then-chunk-le-FEW-clause-within
returns-then-chunk-le-FEW-clause-within c = search rules

pub returns-then-chunk-le-FEW-clause-steps : goal.returns-then-chunk-le-FEW-clause-steps
returns-then-chunk-le-FEW-clause-steps c = search rules

pub take_each-requires : goal.take_each-requires
take_each-requires c = search rules

pub overflow_add-at : goal.overflow_add-at
overflow_add-at c = search rules

pub slice_bounds-take_part-count : goal.slice_bounds-take_part-count
slice_bounds-take_part-count c = search rules

pub slice_bounds-take_part-start : goal.slice_bounds-take_part-start
slice_bounds-take_part-start c = search rules

pub slice_bounds-take_part-end : goal.slice_bounds-take_part-end
slice_bounds-take_part-end c = search rules

pub map_err-requires : goal.map_err-requires
map_err-requires c = grind (arith, common_steps)

pub returns-in_err-map_err-clause-within : goal.returns-in_err-map_err-clause-within
returns-in_err-map_err-clause-within c = search rules

pub loop-at-smaller : goal.loop-at-smaller
loop-at-smaller c = search rules

pub take_part-requires : goal.take_part-requires
take_part-requires c = search rules

pub loop-at-init : goal.loop-at-init
loop-at-init c = (omega arith, c.requires, takes_nothing c.args.self.now c.requires)

pub loop-at-preserved : goal.loop-at-preserved
loop-at-preserved c =
    let at = c.loop-at.at in
    let chunk = c.args.chunk.now in
    let old = c.args.self.now in
    let new = c.take_part.new.self in
    let n = c.min-end.result - at in
    let bytes = take (at + n) chunk in
    let behind : Shifted c.take_part.result c.map_err.result at = search rules in
    let answers : MatchResult c.map_err.result (λ _. Validates old new bytes) (Breaks old new bytes) =
    answers_part old c.loop-at.self new chunk _ at n c.take_part.result c.map_err.result (omega arith) refl c.loop-at.invariant.2 behind c.take_part.ensures.steps in
    let live : (more : List ℕ) × Follows new more = search rules in
    let taken : Validates old new bytes = subst (λ (answer : Result _ ℕ). MatchResult answer (λ _. Validates old new bytes) (Breaks old new bytes)) c.in_ok-map_err.was answers in
    (omega arith, live, subst (λ (m : ℕ). Validates old new (take m chunk)) (omega arith) taken)

pub returns-in_err-map_err-clause-steps : goal.returns-in_err-map_err-clause-steps
returns-in_err-map_err-clause-steps c =
    let at = c.loop-at.at in
    let chunk = c.args.chunk.now in
    let old = c.args.self.now in
    let new = c.take_part.new.self in
    let n = c.min-end.result - at in
    let bytes = take (at + n) chunk in
    let behind : Shifted c.take_part.result c.map_err.result at = search rules in
    let answers : MatchResult c.map_err.result (λ _. Validates old new bytes) (Breaks old new bytes) =
    answers_part old c.loop-at.self new chunk _ at n c.take_part.result c.map_err.result (omega arith) refl c.loop-at.invariant.2 behind c.take_part.ensures.steps in
    let i = c.in_err-map_err.field-0.0 in
    let breaks : Breaks old new bytes i = subst (λ (answer : Result _ ℕ). MatchResult answer (λ _. Validates old new bytes) (Breaks old new bytes)) c.in_err-map_err.was answers in
    let out = err_from_is_err_and c.from_residual.result c.from_residual.ensures.1 in
    let is : c.from_residual.result ≡ Err i = out.1 ∙ ap Err out.2 in
    answers_before old new bytes (drop (at + n) chunk) chunk c.from_residual.result i (sym (take-append-drop (at + n) chunk)) is breaks

pub returns-then-end-chunk-clause-steps : goal.returns-then-end-chunk-clause-steps
returns-then-end-chunk-clause-steps c =
    let at = c.loop-at.at in
    let chunk = c.args.chunk.now in
    let old = c.args.self.now in
    let new = c.take_part.new.self in
    let n = c.min-end.result - at in
    let bytes = take (at + n) chunk in
    let behind : Shifted c.take_part.result c.map_err.result at = search rules in
    let answers : MatchResult c.map_err.result (λ _. Validates old new bytes) (Breaks old new bytes) =
    answers_part old c.loop-at.self new chunk _ at n c.take_part.result c.map_err.result (omega arith) refl c.loop-at.invariant.2 behind c.take_part.ensures.steps in
    let taken : Validates old new bytes = subst (λ (answer : Result _ ℕ). MatchResult answer (λ _. Validates old new bytes) (Breaks old new bytes)) c.in_ok-map_err.was answers in
    let count : at + n ≡ length chunk = omega arith in
    subst (Validates old new) (ap (λ (m : ℕ). take m chunk) count ∙ take-length chunk) taken

pub returns-then-end-chunk-clause-within : goal.returns-then-end-chunk-clause-within
returns-then-end-chunk-clause-within c = search rules
