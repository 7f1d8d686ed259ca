use Rattle.std.proofs.Common.{rules, ◌++◌, ◌∙◌, take, ℕ, List, ap}
use Rattle.wsn_print.proofs.PutParts.{digits_in_block}
use Rattle.std.proofs.lemmas.Fmt.{length-decimal-le}
use Rattle.wsn_print.proofs.parts.put_long_number.Goals as goal

pub write_digits-start-requires : goal.write_digits-start-requires
write_digits-start-requires c = search (rules, length-decimal-le 20)

pub returns-clause-written : goal.returns-clause-written
returns-clause-written c =
    c.put_front.ensures.written
    ∙ ap (λ (bs : List ℕ). take c.args.at c.args.text.now ++ bs) (digits_in_block 20 c.write_digits-start.result c.write_digits-start.new.buf _ _ c.write_digits-start.ensures.start c.write_digits-start.ensures.written)
