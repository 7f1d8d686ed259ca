use Rattle.std.proofs.Common.{◌++◌, ℕ, List, ap, ◌∙◌, arith}
use Rattle.std.specs.Prelude.{flat_map}
use Rattle.wsn_print.specs.Runs.{escaped_byte}
use Rattle.wsn_print.proofs.PlainStarts.{plain_in_text}
use Rattle.wsn_print.proofs.RunTexts.{starts_alike}
use Rattle.wsn_print.proofs.held_text.HeldText.add_plain.Goals as goal

pub returns-then-text-lt-BLOCK-clause-plain : goal.returns-then-text-lt-BLOCK-clause-plain
returns-then-text-lt-BLOCK-clause-plain c =
    plain_in_text c.put_slice-end.new.text c.args.text.now c.put_slice-end.result c.add_front.result c.put_slice-end.ensures.written c.put_slice-end.ensures.rest (omega arith)
    c.add_front.ensures.plain

pub returns-then-text-lt-BLOCK-clause-added : goal.returns-then-text-lt-BLOCK-clause-added
returns-then-text-lt-BLOCK-clause-added c =
    c.add_front.ensures.added
    ∙ ap (λ (more : List ℕ). c.args.self.now ++ flat_map (escaped_byte c.args.escapes) more)
    (starts_alike c.put_slice-end.new.text c.args.text.now c.put_slice-end.result c.add_front.result c.put_slice-end.ensures.written c.add_front.ensures.few)
