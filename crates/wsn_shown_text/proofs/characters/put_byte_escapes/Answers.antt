use Rattle.std.proofs.Common.{◌≡◌, ℕ, List, get_or, ◌∙◌, subst, refl, rules, arith}
use Rattle.std.proofs.lemmas.Grind.{common_steps}
use Rattle.wsn_io.specs.Transfer.{IsWritten, IsPartlyWritten}
use Rattle.wsn_io.specs.declared.stop.Stop.TheVariants as stop
use Rattle.wsn_shown_text.specs.CharacterText.{byte_escape}
use Rattle.wsn_print.proofs.Pieces.{each_stopped, each_written}
use Rattle.wsn_shown_text.proofs.characters.put_byte_escapes.Goals as goal

pub loop-b-init : goal.loop-b-init
loop-b-init g c = search rules

pub bytes-requires : goal.bytes-requires
bytes-requires g c = search rules

pub put_line-requires : goal.put_line-requires
put_line-requires g c = c.loop-b.invariant.0

pub returns-in_err-put_line : goal.returns-in_err-put_line
returns-in_err-put_line g c =
    let x = get_or c.args.bytes.now c.loop-b.b-index 0 in
    let e = c.in_err-put_line.field-0.0 in
    let put = subst (λ (t : List ℕ). (e ≡ stop.Write) × IsPartlyWritten c.loop-b.to c.put_line.new.to t) (c.bytes.ensures ∙ c.byte_escape.ensures) c.in_err-put_line.ensures in
    each_stopped byte_escape c.args.bytes.now c.loop-b.b-index x 0 c.args.to.now c.loop-b.to c.put_line.new.to e c.from_residual.result c.loop-b-test.true refl c.loop-b.invariant put c.from_residual.ensures.1

pub loop-b-preserved : goal.loop-b-preserved
loop-b-preserved g c =
    let x = get_or c.args.bytes.now c.loop-b.b-index 0 in
    let put = subst (IsWritten c.loop-b.to c.put_line.new.to) (c.bytes.ensures ∙ c.byte_escape.ensures) c.in_ok-put_line.ensures in
    each_written byte_escape c.args.bytes.now c.loop-b.b-index x 0 c.args.to.now c.loop-b.to c.put_line.new.to c.loop-b-test.true refl c.loop-b.invariant put

pub returns : goal.returns
returns g c = grind (arith, common_steps)
