use Rattle.std.proofs.Common.{rules}
use Rattle.wsn_rules.specs.NormalForm.{op_of}
use Rattle.wsn_events.proofs.NormalBytes.{normal_written}
use Rattle.wsn_events.proofs.normal_form.put_message.Goals as goal

pub returns : goal.returns
returns g c =
    normal_written c.args.role (op_of c.args.kind) c.op_of.result c.key_of.result c.args.text.now c.args.to.now c.put_frame.new.to c.put_frame.result c.op_of.ensures.op c.key_of.ensures c.put_frame.ensures

pub put_frame-requires : goal.put_frame-requires
put_frame-requires g c = record { unfailed = search rules; size = search rules; control = search rules; fits = search rules }
