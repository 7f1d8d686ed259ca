-- A complete head after a known byte.
use Rattle.std.proofs.Common.{◌≡◌, ◌+◌, ◌-◌, ◌<◌, ◌≤◌, ℕ, List, [], ◌∷◌, length, take, drop, get_or, length-drop, refl, sym, ap, ◌∙◌, subst, arith, rules}
use Rattle.std.proofs.lemmas.List.{take_rest}
use Rattle.wsn_wire.specs.Frame.{Frame, first_byte}
use Rattle.wsn_rules.specs.Evidence.{EvidentByFirst}
use Rattle.wsn_frame.specs.KeptMessages.{IsOpenMessage}
use Rattle.wsn_frame.specs.PartialHeads.{HasTwoBytes, IsParsed, IsWithin}
use Rattle.wsn_frame.proofs.HeadsAtOnce.{head_prefix}
use Rattle.wsn_frame.proofs.parsing.whole_head_after.Goals as goal

-- The first two bytes and those after them.
two_and_rest : (b s : ℕ) (chunk : List ℕ) → take 1 chunk ≡ b ∷ [] → s ≡ get_or chunk 1 0 → 2 ≤ length chunk → b ∷ s ∷ drop 2 chunk ≡ chunk
two_and_rest b s [] is at many = absurd (omega (arith, many))
two_and_rest b s (x ∷ []) is at many = absurd (omega (arith, many))
two_and_rest b s (x ∷ (y ∷ rest)) is at many = let one : x ∷ [] ≡ b ∷ [] = is in let head : b ≡ x = cc in let next : s ≡ y = at in ap (λ (n : ℕ). n ∷ s ∷ rest) head ∙ ap (λ (n : ℕ). x ∷ n ∷ rest) next

pub bounds-chunk-1 : goal.bounds-chunk-1
bounds-chunk-1 c = search rules

pub slice_bounds-parse_after_two-count : goal.slice_bounds-parse_after_two-count
slice_bounds-parse_after_two-count c = search rules

pub slice_bounds-parse_after_two-start : goal.slice_bounds-parse_after_two-start
slice_bounds-parse_after_two-start c = search rules

pub slice_bounds-parse_after_two-end : goal.slice_bounds-parse_after_two-end
slice_bounds-parse_after_two-end c = search rules

pub returns-in-Whole : goal.returns-in-Whole
returns-in-Whole c =
    let role = c.args.context.now.role in
    let limits = c.args.context.now.limits in
    let chunk = c.args.chunk.now in
    let following = take (length chunk - 2) (drop 2 chunk) in
    let second : ℕ = get_or chunk 1 0 in
    let first = c.in-Ok.first in
    let read = c.in-Ok.ensures.read in
    let long : 14 ≤ length chunk = omega (arith, c.if-chunk-lt-HEAD_MAX.false) in
    let rest : following ≡ drop 2 chunk = take_rest chunk 2 in
    let size : length following ≡ length chunk - 2 = ap length rest ∙ length-drop 2 chunk in
    let whole : c.args.byte ∷ second ∷ drop 2 chunk ≡ chunk = two_and_rest c.args.byte second chunk c.requires refl (omega (arith, long)) in
    let same : first_byte first.fin first.op ∷ second ∷ following ≡ chunk = ap (λ (n : ℕ). n ∷ second ∷ following) (sym read) ∙ ap (λ (bs : List ℕ). c.args.byte ∷ second ∷ bs) rest ∙ whole in
    let byte : second < 256 = let below = c.type_inv.chunk 1 in omega (arith, below) in
    head_prefix role limits c.args.context.now.message (first_byte first.fin first.op ∷ second ∷ following) chunk (2 + length following) c.parse_after_two.result c.in-Whole.size c.in-Whole.head same
    (omega (arith, long, size)) c.parse_after_two.ensures.within
    (λ group is_open. c.parse_after_two.ensures.parsed group second is_open (record {
      in_bytes = (subst (λ (n : ℕ). n < 256) read (omega arith), (byte, tt));
      encoded_is = c.in-Ok-read_second_byte.ensures.field;
      by_first = λ reason row. c.in-Ok.ensures.nothing_evident group is_open reason (subst (λ (n : ℕ). EvidentByFirst limits group reason n) (sym read) row);
      by_second = c.in-Ok-read_second_byte.ensures.nothing_evident;
    }))
    c.in-Whole.is
