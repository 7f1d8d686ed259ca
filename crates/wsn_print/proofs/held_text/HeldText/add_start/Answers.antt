use Rattle.std.proofs.Common.{◌≡◌, ◌++◌, ℕ, List, length, take, drop, ap, subst, arith, length-append, length-take-le}
use Rattle.std.specs.Prelude.{flat_map}
use Rattle.wsn_print.specs.Runs.{escaped, escaped_byte}
use Rattle.wsn_print.proofs.RunTexts.{plain_start, few_bytes, both_written, rest_of}
use Rattle.wsn_print.proofs.held_text.HeldText.add_start.Goals as goal

pub returns-then-count-eq-BLOCK-clause-added : goal.returns-then-count-eq-BLOCK-clause-added
returns-then-count-eq-BLOCK-clause-added c =
    let n : ℕ = c.add_plain-count.result in
    let text : List ℕ = c.args.text.now in
    (flat_map (escaped_byte c.args.escapes) (take n text), c.add_plain-count.ensures.added, plain_start c.args.escapes text n c.add_plain-count.ensures.within.1 c.add_plain-count.ensures.plain)

pub returns-clause-added : goal.returns-clause-added
returns-clause-added c =
    let n : ℕ = c.add_plain-count.result in
    let text : List ℕ = c.args.text.now in
    both_written c.args.escapes text (flat_map (escaped_byte c.args.escapes) (take n text)) c.add_first.ensures.added.0 n c.add_first.result c.args.self.now c.add_plain-count.new.self c.add_first.new.self
    c.add_plain-count.ensures.added c.add_first.ensures.added.1
    (plain_start c.args.escapes text n c.add_plain-count.ensures.within.1 c.add_plain-count.ensures.plain)
    (subst (λ (rest : List ℕ). escaped c.args.escapes rest ≡ c.add_first.ensures.added.0 ++ escaped c.args.escapes (drop c.add_first.result rest)) (rest_of n text)
    c.add_first.ensures.added.2)

pub add_first-requires-clause-room : goal.add_first-requires-clause-room
add_first-requires-clause-room c =
    let n : ℕ = c.add_plain-count.result in
    let text : List ℕ = c.args.text.now in
    let known = c.add_plain-count.ensures in
    let plain : List ℕ = flat_map (escaped_byte c.args.escapes) (take n text) in
    omega (
      arith,
      c.requires.room,
      ap (λ (held : List ℕ). length held) known.added,
      length-append c.args.self.now plain,
      few_bytes c.args.escapes (take n text),
      length-take-le n text known.within.1,
      known.within.0,
    )
