use Rattle.std.proofs.Common.{arith}
use Rattle.std.proofs.lemmas.Grind.{common_steps}
use Rattle.wsn_capture.proofs.SideEntries.{no_form_text}
use Rattle.wsn_capture.proofs.line_form.entry_of.Goals as goal

pub returns-in-None : goal.returns-in-None
returns-in-None c = no_form_text c.args.text.now c.in-None.ensures

pub returns-in_err-count-in-Some-Bytes : goal.returns-in_err-count-in-Some-Bytes
returns-in_err-count-in-Some-Bytes c = grind (arith, common_steps)
