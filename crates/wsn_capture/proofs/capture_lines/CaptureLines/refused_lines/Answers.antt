use Rattle.wsn_wire.specs.declared.endpoint.Role.TheVariants.{Client, Server}
use Rattle.wsn_capture.proofs.capture_lines.CaptureLines.refused_lines.Goals as goal

pub returns : goal.returns
returns c = λ limits given noted. ((noted Client).1, (noted Server).1)
