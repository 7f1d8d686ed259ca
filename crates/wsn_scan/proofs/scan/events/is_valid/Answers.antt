use Rattle.std.proofs.Common.{◌∙◌, ℕ, List, [], length, refl, sym, subst, arith}
use Rattle.wsn_wire.specs.Frame.{Frame, first_byte}
use Rattle.wsn_wire.proofs.FrameLemmas.{first_byte_fields}
use Rattle.wsn_frame.specs.declared.payload_check.PayloadCheck.TheVariants.{Free}
use Rattle.wsn_frame.specs.PayloadChecks.{HasChecked}
use Rattle.wsn_scan.proofs.FreePayloads.{free_passes, is_free}
use Rattle.wsn_scan.proofs.scan.events.is_valid.Goals as goal

pub take-requires : goal.take-requires
take-requires c = c.requires.some

pub returns-in-Text : goal.returns-in-Text
returns-in-Text c = λ yes final group none continued begun.
    let first : ℕ = first_byte c.args.first.fin c.args.first.op in
    let checked = c.new.ensures group none continued begun in (
      c.new.result,
      c.take.new.self,
      checked,
      c.take.ensures.taken yes group first (length c.args.payload.now) [] checked ((first_byte_fields c.args.first.fin c.args.first.op).fin_is ∙ final)
          ((λ last. omega arith), (λ all. refl)) (omega arith),
    )

pub returns-in_default : goal.returns-in_default
returns-in_default c = λ yes final group none continued begun.
    let first : ℕ = first_byte c.args.first.fin c.args.first.op in
    let checked = subst (λ (gs : List Frame). HasChecked gs first Free []) (sym none)
    (is_free c.args.first.fin c.args.first.op c.in_default.not-Text c.requires.no_close) in
    (Free, Free, checked, free_passes group first (length c.args.payload.now) c.args.payload.now checked)
