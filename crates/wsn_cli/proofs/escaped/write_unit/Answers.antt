use Rattle.std.proofs.Common.{◌/◌, ◌%◌, ap, arith, ◌∙◌}
use Rattle.std.specs.Fmt.{digits_output, styled_digits_output}
use Rattle.hex.specs.Hex.{encode_with}
use Rattle.wsn_cli.proofs.HexDigits.{styled_byte}
use Rattle.wsn_cli.proofs.escaped.write_unit.Goals as goal

pub returns : goal.returns
unfolding encode_with
returns g c =
    let high = ap (styled_digits_output c.in_radix.result) c.laid_out.ensures ∙ styled_byte (digits_output c.in_radix.result) (c.args.unit / 256) (omega (arith, c.requires)) c.in_radix.ensures in
    let low = ap (styled_digits_output c.in_radix-2.result) c.laid_out-2.ensures ∙ styled_byte (digits_output c.in_radix-2.result) (c.args.unit % 256) (omega arith) c.in_radix-2.ensures in
    rw (high, low) at c.write.ensures.writes
