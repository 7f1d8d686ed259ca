use Rattle.wsn_print.proofs.PutParts.{line_of_parts}
use Rattle.wsn_print.proofs.head_lines.put_head_at.Goals as goal

pub returns-clause-written : goal.returns-clause-written
returns-clause-written c = line_of_parts c.args.head.now _ _ _ c.put_offset-at.ensures.written c.put_fields.ensures.written
