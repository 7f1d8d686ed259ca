use Rattle.std.proofs.Common.{◌≡◌, ℕ, ◌+◌, ◌-◌, List, length, take, drop, ap, sym, ◌∙◌, subst, arith, length-drop}
use Rattle.std.proofs.KnownBytes.{Appends-nil}
use Rattle.std.proofs.lemmas.List.{length-take}
use Rattle.hex.specs.Hex.{encode_with, encode_lower}
use Rattle.wsn_io.specs.Transfer.{IsWritten, IsPartlyWritten}
use Rattle.wsn_io.specs.declared.stop.Stop.TheVariants as stop
use Rattle.wsn_io.proofs.PutTexts.{put_both}
use Rattle.wsn_shown_text.proofs.HeldViews.{all_digits, more_digits}
use Rattle.wsn_print.proofs.HeldParts.{rest_is}
use Rattle.wsn_print.proofs.Pieces.{second_stops}
use Rattle.wsn_shown_text.proofs.line_views.put_hex.Goals as goal

pub loop-done-init : goal.loop-done-init
unfolding encode_with
loop-done-init g c = (omega arith, (c.requires, Appends-nil c.args.to.now.written))

pub hex_of-requires : goal.hex_of-requires
hex_of-requires g c =
    omega (arith, ap length c.front_of-next.ensures, length-take 32 (take (length c.args.bytes.now - c.loop-done.done) (drop c.loop-done.done c.args.bytes.now)))

pub returns-in_err-put_line : goal.returns-in_err-put_line
returns-in_err-put_line g c =
    let bytes = c.args.bytes.now in
    let next = c.front_of-next.result.now in
    let done = c.loop-done.done in
    let is = c.front_of-next.ensures ∙ ap (take 32) (rest_is c.loop-done.done c.args.bytes.now) in
    let e = c.in_err-put_line.field-0.0 in
    let put = subst (λ (t : List ℕ). (e ≡ stop.Write) × IsPartlyWritten c.loop-done.to c.put_line.new.to t) (c.bytes.ensures ∙ c.hex_of.ensures) c.in_err-put_line.ensures in
    second_stops c.args.to.now c.loop-done.to c.put_line.new.to (encode_lower (take done bytes)) (encode_lower next) (encode_lower (drop (done + length next) bytes)) (encode_lower bytes) e c.from_residual.result
    (all_digits bytes next done 32 is) c.loop-done.invariant.1 put c.from_residual.ensures.1

pub loop-done-preserved : goal.loop-done-preserved
loop-done-preserved g c =
    let bytes = c.args.bytes.now in
    let next = c.front_of-next.result.now in
    let done = c.loop-done.done in
    let is = c.front_of-next.ensures ∙ ap (take 32) (rest_is c.loop-done.done c.args.bytes.now) in
    let put = subst (IsWritten c.loop-done.to c.put_line.new.to) (c.bytes.ensures ∙ c.hex_of.ensures) c.in_ok-put_line.ensures in (
      omega (arith, ap length is, length-take 32 (drop done bytes), length-drop done bytes),
      subst (IsWritten c.args.to.now c.put_line.new.to) (sym (more_digits bytes next done 32 is))
          (put_both c.args.to.now c.loop-done.to c.put_line.new.to (encode_lower (take done bytes)) (encode_lower next) c.loop-done.invariant.1 put),
    )
