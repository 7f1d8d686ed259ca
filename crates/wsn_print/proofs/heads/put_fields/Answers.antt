use Rattle.wsn_print.proofs.PutParts.{fields_of_parts}
use Rattle.wsn_print.proofs.heads.put_fields.Goals as goal

pub returns-clause-written : goal.returns-clause-written
returns-clause-written c =
    fields_of_parts c.args.head.now _ _ _ _ _ _ _ c.put_fin-at.ensures.written c.put_op-at.ensures.written c.put_key-at.ensures.written
    c.put-at.ensures.written c.put_number-at.ensures.written c.put_form.ensures.written
