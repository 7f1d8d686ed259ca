use Rattle.std.proofs.Common.{◌≡◌, ℕ, List, ◌++◌, refl, subst}
use Rattle.wsn_io.specs.Transfer.{IsWritten, IsPartlyWritten}
use Rattle.wsn_io.specs.declared.stop.Stop.TheVariants as stop
use Rattle.wsn_shown_text.specs.Views.{view_in}
use Rattle.wsn_shown_text.specs.EntryFormats.{seen_in, end_in}
use Rattle.wsn_print.proofs.Pieces.{first_stops, two_pieces}
use Rattle.wsn_shown_text.proofs.seen.put_apart.Goals as goal

pub returns-in_err-put_line : goal.returns-in_err-put_line
returns-in_err-put_line g c = λ readable.
    let line : List ℕ = c.args.line.now in
    let rest = seen_in c.args.shape c.args.limit (view_in c.args.view.now) ++ end_in c.args.shape in
    first_stops c.args.to.now c.put_line.new.to line rest (line ++ rest) c.in_err-put_line.field-0.0 c.from_residual.result refl
    (subst (λ (t : List ℕ). (c.in_err-put_line.field-0.0 ≡ stop.Write) × IsPartlyWritten c.args.to.now c.put_line.new.to t) c.bytes.ensures c.in_err-put_line.ensures) c.from_residual.ensures.1

pub returns : goal.returns
returns g c = λ readable.
    let line : List ℕ = c.args.line.now in
    let rest = seen_in c.args.shape c.args.limit (view_in c.args.view.now) ++ end_in c.args.shape in
    two_pieces c.args.to.now c.put_line.new.to c.put_view_and_end.new.to line rest (line ++ rest) c.put_view_and_end.result refl
    (subst (IsWritten c.args.to.now c.put_line.new.to) c.bytes.ensures c.in_ok-put_line.ensures) (c.put_view_and_end.ensures readable)
