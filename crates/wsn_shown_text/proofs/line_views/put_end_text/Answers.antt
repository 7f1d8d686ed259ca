use Rattle.std.proofs.Common.{ℕ, List, [], if◌then◌else◌, codes, sym, ap, ◌∙◌, subst}
use Rattle.hex.specs.Hex.{encode_lower}
use Rattle.wsn_io.specs.Stops.{IsWrittenOrStops}
use Rattle.wsn_shown_text.specs.ShownText.{end_text}
use Rattle.wsn_shown_text.specs.Views.{end_in}
use Rattle.wsn_shown_text.proofs.HeldViews.{no_end, end_is}
use Rattle.wsn_print.proofs.Pieces.{first_stops, two_pieces}
use Rattle.wsn_shown_text.proofs.line_views.put_end_text.Goals as goal

pub returns-then-bytes-eq0-clause-text : goal.returns-then-bytes-eq0-clause-text
returns-then-bytes-eq0-clause-text g c = λ e is.
    subst (λ (t : List ℕ). IsWrittenOrStops c.args.to.now c.put_line.new.to t c.put_line.result) (no_end c.args.limit e (sym c.bytes.ensures.is ∙ c.if-bytes-eq0.true)) c.put_line.ensures

pub returns-in_err-put_if-clause-text : goal.returns-in_err-put_if-clause-text
returns-in_err-put_if-clause-text g c = λ e is.
    let end = end_in c.args.end.now in
    first_stops c.args.to.now c.put_if.new.to (if end.more then codes ".." else []) (encode_lower end.bytes) (end_text c.args.limit e) c.in_err-put_if.field-0.0 c.from_residual.result
    (end_is c.args.limit end (λ none. c.if-bytes-eq0.false (c.bytes.ensures.is ∙ none)) ∙ ap (end_text c.args.limit) is) c.in_err-put_if.ensures c.from_residual.ensures.1

pub returns-clause-text : goal.returns-clause-text
returns-clause-text g c = λ e is.
    let end = end_in c.args.end.now in
    two_pieces c.args.to.now c.put_if.new.to c.put_hex.new.to (if end.more then codes ".." else []) (encode_lower end.bytes) (end_text c.args.limit e) c.put_hex.result
    (end_is c.args.limit end (λ none. c.if-bytes-eq0.false (c.bytes.ensures.is ∙ none)) ∙ ap (end_text c.args.limit) is) c.in_ok-put_if.ensures c.put_hex.ensures
