use Rattle.std.proofs.Common.{◌≡◌, ◌<◌, ◌⊎◌, ℕ, Result, Ok, Err, length, inl, inr, refl}
use Rattle.std.specs.Result.{IfErr}
use Rattle.wsn_text.proofs.Taking.{breaks_dead, taken_of, ok_of, first_bad_of, after_bad_of}
use Rattle.wsn_text.proofs.utf8_check.Utf8.feed.Goals as goal

-- ---- no character is unfinished, and the chunk is ASCII

pub returns-then-goes_on_in_ascii-clause-taken : goal.returns-then-goes_on_in_ascii-clause-taken
returns-then-goes_on_in_ascii-clause-taken c = (c.goes_on_in_ascii.ensures c.if-goes_on_in_ascii.true).taken

pub returns-then-goes_on_in_ascii-clause-ok : goal.returns-then-goes_on_in_ascii-clause-ok
returns-then-goes_on_in_ascii-clause-ok c = λ taken has.
    (λ ok. (c.goes_on_in_ascii.ensures c.if-goes_on_in_ascii.true).begins taken has, λ begins. refl)

pub returns-then-goes_on_in_ascii-clause-after_bad :
    goal.returns-then-goes_on_in_ascii-clause-after_bad
returns-then-goes_on_in_ascii-clause-after_bad c =
    after_bad_of c.args.self.now c.args.self.now c.args.chunk.now (Ok _) (c.goes_on_in_ascii.ensures c.if-goes_on_in_ascii.true)

-- ---- a byte before was bad

pub returns-then-is_bad-clause-within : goal.returns-then-is_bad-clause-within
returns-then-is_bad-clause-within c = inl refl

pub returns-then-is_bad-clause-taken : goal.returns-then-is_bad-clause-taken
returns-then-is_bad-clause-taken c = (breaks_dead c.args.self.now c.args.chunk.now (c.is_bad.ensures.bad c.if-is_bad.true)).taken

pub returns-then-is_bad-clause-ok : goal.returns-then-is_bad-clause-ok
returns-then-is_bad-clause-ok c = λ taken has.
    (λ ok. cc, λ begins. absurd ((breaks_dead c.args.self.now c.args.chunk.now (c.is_bad.ensures.bad c.if-is_bad.true)).ends taken has begins))

pub returns-then-is_bad-clause-first_bad : goal.returns-then-is_bad-clause-first_bad
returns-then-is_bad-clause-first_bad c = (breaks_dead c.args.self.now c.args.chunk.now (c.is_bad.ensures.bad c.if-is_bad.true)).first

pub returns-then-is_bad-clause-after_bad : goal.returns-then-is_bad-clause-after_bad
returns-then-is_bad-clause-after_bad c = λ taken has ends. refl

-- ---- the chunk is validated

pub take_chunk-requires : goal.take_chunk-requires
take_chunk-requires c = c.is_bad.ensures.good c.if-is_bad.false

-- An offset in the chunk is one that `feed` may return.
within_of : {T : Type 0} (answer : Result T ℕ) (n : ℕ) → IfErr answer (λ i. i < n) → IfErr answer (λ i. (i ≡ 0) ⊎ (i < n))
within_of (Ok x) n less = tt
within_of (Err i) n less = inr less

pub returns-clause-within : goal.returns-clause-within
returns-clause-within c = within_of c.take_chunk.result (length c.args.chunk.now) c.take_chunk.ensures.within

pub returns-clause-taken : goal.returns-clause-taken
returns-clause-taken c = taken_of c.args.self.now c.take_chunk.new.self c.args.chunk.now c.take_chunk.result c.take_chunk.ensures.steps

pub returns-clause-ok : goal.returns-clause-ok
returns-clause-ok c = ok_of c.args.self.now c.take_chunk.new.self c.args.chunk.now c.take_chunk.result c.take_chunk.ensures.steps

pub returns-clause-first_bad : goal.returns-clause-first_bad
returns-clause-first_bad c = first_bad_of c.args.self.now c.take_chunk.new.self c.args.chunk.now c.take_chunk.result c.take_chunk.ensures.steps

pub returns-clause-after_bad : goal.returns-clause-after_bad
returns-clause-after_bad c = after_bad_of c.args.self.now c.take_chunk.new.self c.args.chunk.now c.take_chunk.result c.take_chunk.ensures.steps
