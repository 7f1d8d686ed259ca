use Rattle.std.proofs.Common.{◌/◌, ◌%◌}
use Rattle.wsn_print.proofs.RunTexts.{escape_written}
use Rattle.wsn_print.proofs.held_text.put_unit.Goals as goal

pub returns-clause-written : goal.returns-clause-written
returns-clause-written c =
    escape_written _ _ _ _ (c.args.number / 256) (c.args.number % 256) c.put-at.ensures.written c.put_hex-at.ensures.written c.put_hex.ensures.written
