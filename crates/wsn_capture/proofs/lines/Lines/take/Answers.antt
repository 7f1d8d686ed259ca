use Rattle.std.proofs.Common.{◌≡◌, ℕ, zero, suc, ◌+◌, ◌≤◌, ◌<◌, ◌==◌, true, List, [], ◌∷◌, ◌++◌, length, take, slice_index, inl, inr, sym, ap, ◌∙◌, subst, length-append, take_all, arith, rules}
use Rattle.std.proofs.lemmas.Grind.{common_steps}
use Rattle.wsn_rules.specs.TextLines.{IsLine}
use Rattle.wsn_capture.proofs.lines.Lines.take.Goals as goal

-- bytes before an LF, or of which none is an LF
before_lf : (bytes : List ℕ) (n : ℕ) → ((k : ℕ) → 0 ≤ k → k < n → k < length bytes → (slice_index bytes k == 10) ≡ true → ⊥) → IsLine (take n bytes)
before_lf bytes zero none = tt
before_lf [] (suc n) none = tt
before_lf (b ∷ bytes) (suc n) none = (
  λ is. none 0 (omega arith) (omega arith) (omega arith) (ap (λ (m : ℕ). m == 10) is),
  before_lf bytes n (λ k low high within. none (suc k) (omega arith) (omega arith) (omega arith)),
)

pub returns-in-Some-clause-ends : goal.returns-in-Some-clause-ends
returns-in-Some-clause-ends c = λ ended.
    let front = take c.min.result c.args.chunk.now in
    let few : c.in-Some.end < length front = omega (arith, c.in-Some.ensures.0.high) in
    let one : take (c.in-Some.end + 1) c.args.chunk.now ≡ take c.in-Some.end front ++ 10 ∷ [] = first_of (search rules, grind (arith, common_steps)) in
    let size : length c.add.new.self ≡ length c.args.self.now + length (take c.in-Some.end front) = ap (λ (bs : List ℕ). length bs) c.add.ensures ∙ length-append c.args.self.now (take c.in-Some.end front) in
    let short : length c.add.new.self < 8196 = first_of (search rules, grind (arith, common_steps)) in
    record {
      bytes = take c.in-Some.end front;
      is = c.add.ensures;
      in_line = before_lf front c.in-Some.end (λ k low high within. c.in-Some.ensures.0.before k low high);
      ends = inl (one, short);
    }

pub returns-in-None-clause-goes_on : goal.returns-in-None-clause-goes_on
returns-in-None-clause-goes_on c = λ more.
    let front = take c.min.result c.args.chunk.now in
    let all : take (length front) front ≡ front = take_all (length front) front (omega arith) in
    let same : take (length front) c.args.chunk.now ≡ front = first_of (search rules, grind (arith, common_steps)) in
    let short : length c.add-in-None.new.self < 8196 = first_of (search rules, grind (arith, common_steps)) in
    record {
      is = c.add-in-None.ensures ∙ ap (λ (bs : List ℕ). c.args.self.now ++ bs) (sym same);
      in_line = subst IsLine (all ∙ sym same) (before_lf front (length front) (λ k low high within. c.in-None.ensures k low high));
      short = short;
    }

pub returns-in-None-clause-ends : goal.returns-in-None-clause-ends
returns-in-None-clause-ends c = λ full.
    let front = take c.min.result c.args.chunk.now in
    let all : take (length front) front ≡ front = take_all (length front) front (omega arith) in
    let same : take (length front) c.args.chunk.now ≡ front = first_of (search rules, grind (arith, common_steps)) in
    let size : length c.add-in-None.new.self ≡ 8196 = first_of (search rules, grind (arith, common_steps)) in
    record {
      bytes = front;
      is = c.add-in-None.ensures;
      in_line = subst IsLine all (before_lf front (length front) (λ k low high within. c.in-None.ensures k low high));
      ends = inr (same, size);
    }
