use Rattle.std.proofs.Common.{◌≡◌, ◌<◌, true, [], ◌∷◌, ap, sym, refl, arith, ◌∙◌}
use Rattle.std.specs.Fmt.{digits_output, styled_digits_output}
use Rattle.std.proofs.Output.{has_written_of_eq}
use Rattle.std.proofs.lemmas.Bool.Decides.{nat_tests}
use Rattle.std.specs.Char.{is_control}
use Rattle.hex.specs.Hex.{encode_lower}
use Rattle.wsn_cli.specs.ErrorWords.{escaped_character}
use Rattle.wsn_cli.proofs.HexDigits.{styled_byte}
use Rattle.wsn_cli.proofs.escaped.write_character.Goals as goal

pub returns-then-is_control : goal.returns-then-is_control
returns-then-is_control g c =
    let is : is_control c.args.c ≡ true = sym c.is_control.ensures ∙ c.if-is_control.true in
    let small : c.args.c < 256 = grind (arith, nat_tests, is) in
    let shown : escaped_character c.args.c ≡ 92 ∷ 120 ∷ encode_lower (c.args.c ∷ []) = rw is refl in
    let byte = ap (styled_digits_output c.in_radix.result) c.laid_out.ensures ∙ styled_byte (digits_output c.in_radix.result) c.args.c small c.in_radix.ensures in
    let wrote = rw byte at c.write.ensures.writes in
    λ plain ok. has_written_of_eq _ _ _ _ _ (sym shown) (wrote plain ok)
