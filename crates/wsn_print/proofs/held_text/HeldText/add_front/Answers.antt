use Rattle.std.proofs.Common.{◌≡◌, ◌++◌, ◌≤◌, ℕ, List, length, take, not, ap₂, subst, sym, ◌∙◌, arith, take-take, length-take-le}
use Rattle.std.specs.Prelude.{flat_map}
use Rattle.std.specs.List.{prefix_len}
use Rattle.std.proofs.lemmas.Simd.{leading_from_mask_l}
use Rattle.wsn_print.specs.Runs.{escaped_byte, takes_backslash}
use Rattle.wsn_print.specs.declared.escapes.Escapes.{Escapes}
use Rattle.wsn_print.proofs.RunTexts.{first_pass, unmarked}
use Rattle.wsn_print.proofs.held_text.HeldText.add_front.Goals as goal

-- The first bytes of a block without a mark are copied.
copied_front : (escapes : Escapes) (text : List ℕ) (n : ℕ) → 16 ≤ length text → n ≤ 16
    → prefix_len (λ x. not (takes_backslash escapes x)) (take 16 text) ≡ length (take 16 text)
    → flat_map (escaped_byte escapes) (take n text) ≡ take n text
copied_front escapes text n long short none =
    let size : length (take 16 text) ≡ 16 = length-take-le 16 text long in
    let first : prefix_len (λ x. not (takes_backslash escapes x)) (take n (take 16 text)) ≡ n = first_pass (λ x. not (takes_backslash escapes x)) (take 16 text) n (omega (arith, none, size, short)) in
    let alone : prefix_len (λ x. not (takes_backslash escapes x)) (take n text) ≡ n = subst (λ (xs : List ℕ). prefix_len (λ x. not (takes_backslash escapes x)) xs ≡ n) (take-take n 16 text short) first in
    unmarked escapes (take n text) (alone ∙ sym (length-take-le n text (omega (arith, long, short))))

pub put_front-self-inside-requires-clause-front : goal.put_front-self-inside-requires-clause-front
put_front-self-inside-requires-clause-front c = omega (arith, length-take-le 16 c.args.text.now c.requires.long)

pub returns-clause-plain : goal.returns-clause-plain
returns-clause-plain c = λ i below. c.plain_at_start.ensures.plain i (omega arith)

pub returns-clause-added : goal.returns-clause-added
returns-clause-added c =
    c.put_front-self-inside.ensures.written
    ∙ ap₂ (λ (held more : List ℕ). held ++ more) c.self.view_is
    (take-take c.min-count.result 16 c.args.text.now (omega arith)
    ∙ sym (copied_front c.args.escapes c.args.text.now c.min-count.result c.requires.long (omega arith) (leading_from_mask_l (takes_backslash c.args.escapes) (take 16 c.args.text.now) (omega (arith, c.marks.ensures)))))

pub returns-then-marks-ne0-clause-plain : goal.returns-then-marks-ne0-clause-plain
returns-then-marks-ne0-clause-plain c = λ i below. c.plain_at_start.ensures.plain i (omega arith)
