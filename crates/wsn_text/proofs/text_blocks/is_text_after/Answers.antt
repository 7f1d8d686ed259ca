use Rattle.std.proofs.Common.{◌≡◌, ℕ, ◌+◌, ◌-◌, ◌/◌, ◌%◌, List, [], ◌∷◌, ◌++◌, length, take, drop, replicate, sym, subst, ap, ◌∙◌, append_assoc, rules, arith}
use Rattle.std.proofs.Math.Seq.{take-add, take-length}
use Rattle.std.specs.Str.{IsUtf8}
use Rattle.wsn_text.proofs.TextBlocks.{text_after_zeros}
use Rattle.wsn_text.proofs.text_blocks.is_text_after.Goals as goal

pub slice_bounds-first_block-end : goal.slice_bounds-first_block-end
slice_bounds-first_block-end c = search rules

pub first_block-block-requires : goal.first_block-block-requires
first_block-block-requires c = search rules

pub loop-at-init : goal.loop-at-init
loop-at-init c =
    let bytes = c.args.bytes.now in
    ((length bytes / 64, omega arith), (63 - length (take (length bytes % 64) bytes), [], c.new-checker.ensures, c.first_block-block.ensures))

pub bounds-bytes-at : goal.bounds-bytes-at
bounds-bytes-at c = search rules

pub overflow_add-at : goal.overflow_add-at
overflow_add-at c = search rules

pub loop-at-smaller : goal.loop-at-smaller
loop-at-smaller c = search rules

pub loop-at-preserved : goal.loop-at-preserved
loop-at-preserved c =
    let bytes = c.args.bytes.now in
    let at = c.loop-at.at in
    let left = c.loop-at.invariant.0 in
    let zeros : List ℕ = replicate c.loop-at.invariant.1.0 0 in
    let read = c.loop-at.invariant.1.1 in
    let next : List ℕ = take 64 (drop at bytes) in
    let joined : (read ++ c.loop-at.block) ++ next ≡ zeros ++ (c.args.first ∷ take (at + 64) bytes) =
    ap (λ (front : List ℕ). front ++ next) c.loop-at.invariant.1.3 ∙ append_assoc zeros (c.args.first ∷ take at bytes) next
    ∙ ap (λ (behind : List ℕ). zeros ++ (c.args.first ∷ behind)) (sym (take-add at 64 bytes)) in
    ((left.0 - 1, omega arith), (c.loop-at.invariant.1.0, read ++ c.loop-at.block, c.step-checker.ensures read c.loop-at.invariant.1.2, joined))

pub returns-then-at-bytes : goal.returns-then-at-bytes
returns-then-at-bytes c is_true =
    let bytes = c.args.bytes.now in
    let zeros : List ℕ = replicate c.loop-at.invariant.1.0 0 in
    let read = c.loop-at.invariant.1.1 in
    let end : c.loop-at.at ≡ length bytes = omega arith in
    let whole : take c.loop-at.at bytes ≡ bytes = ap (λ (n : ℕ). take n bytes) end ∙ take-length bytes in
    let all : read ++ c.loop-at.block ≡ zeros ++ (c.args.first ∷ bytes) = c.loop-at.invariant.1.3 ∙ ap (λ (behind : List ℕ). zeros ++ (c.args.first ∷ behind)) whole in
    text_after_zeros c.loop-at.invariant.1.0 (c.args.first ∷ bytes) (subst IsUtf8 all ((c.finish.ensures _ (c.step-checker.ensures read c.loop-at.invariant.1.2)).0 is_true))
