use Rattle.std.proofs.Common.{ℕ, ◌-◌, [], length, take, refl, ap, sym, inr, arith}
use Rattle.std.proofs.lemmas.List.{length-take-le}
use Rattle.wsn_text.proofs.unfinished.whole_characters.Goals as goal

pub slice_bounds-result-count : goal.slice_bounds-result-count
slice_bounds-result-count c = c.unfinished_bytes.ensures.within

pub slice_bounds-result-length : goal.slice_bounds-result-length
slice_bounds-result-length c = sym (length-take-le (length c.args.bytes.now - c.unfinished_bytes.result) c.args.bytes.now (omega arith))

pub returns : goal.returns
returns c begins =
    let is = c.unfinished_bytes.ensures.text c.args.bytes.now [] refl (inr refl) begins in
    ap (λ (n : ℕ). take n c.args.bytes.now) (omega (arith, is))
