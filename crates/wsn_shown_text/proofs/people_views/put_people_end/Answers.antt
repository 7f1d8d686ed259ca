use Rattle.std.proofs.Common.{◌≡◌, ℕ, ◌≢◌, Bool, nat_lt, if◌then◌else◌, Option, None, Some, List, [], ◌∷◌, ◌++◌, length, replicate, codes, decimal, refl, sym, ap, ◌∙◌, subst, append_assoc, append-nil, rules}
use Rattle.wsn_io.specs.Transfer.{IsWritten, IsPartlyWritten}
use Rattle.wsn_io.specs.declared.stop.Stop.TheVariants as stop
use Rattle.wsn_io.specs.Stops.{IsWrittenOrStops}
use Rattle.wsn_print.proofs.Pieces.{first_stops, two_pieces}
use Rattle.wsn_shown_text.specs.PeopleText.{people_end}
use Rattle.wsn_shown_text.specs.ShownText.{end_text}
use Rattle.wsn_shown_text.proofs.PeopleTexts.{end_is, no_end}
use Rattle.wsn_shown_text.proofs.people_views.put_people_end.Goals as goal

pub returns-then-bytes-eq0 : goal.returns-then-bytes-eq0
returns-then-bytes-eq0 g c = λ e is.
    let nothing : IsWritten c.args.to.now c.args.to.now [] = search rules in
    subst (IsWritten c.args.to.now c.args.to.now) (no_end c.args.limit e (sym c.bytes.ensures.is ∙ c.if-bytes-eq0.true)) nothing

pub returns-in_err-put_line : goal.returns-in_err-put_line
returns-in_err-put_line g c = λ e is.
    let n = c.args.limit in
    let some : n ≢ 0 = λ none. c.if-bytes-eq0.false (c.bytes.ensures.is ∙ none) in
    first_stops c.args.to.now c.put_line.new.to (codes "  ") (end_text n e) (people_end n e) c.in_err-put_line.field-0.0 c.from_residual.result
    (end_is n e some) (c.in_err-put_line.ensures) c.from_residual.ensures.1

pub returns : goal.returns
returns g c = λ e is.
    let n = c.args.limit in
    let some : n ≢ 0 = λ none. c.if-bytes-eq0.false (c.bytes.ensures.is ∙ none) in
    two_pieces c.args.to.now c.put_line.new.to c.put_end_text.new.to (codes "  ") (end_text n e) (people_end n e) c.put_end_text.result
    (end_is n e some) (c.in_ok-put_line.ensures) (c.put_end_text.ensures.text e is)
