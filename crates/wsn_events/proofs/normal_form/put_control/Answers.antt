use Rattle.std.proofs.Common.{refl, rules}
use Rattle.wsn_events.proofs.NormalBytes.{normal_written}
use Rattle.wsn_events.proofs.normal_form.put_control.Goals as goal

pub returns : goal.returns
returns g c =
    normal_written c.args.role c.args.op c.args.op c.key_of.result c.args.body.now c.args.to.now c.put_frame.new.to c.put_frame.result refl c.key_of.ensures c.put_frame.ensures

pub put_frame-requires : goal.put_frame-requires
put_frame-requires g c = record { unfailed = search rules; size = search rules; control = search rules; fits = search rules }
