use Rattle.std.proofs.Common.{codes, ◌∙◌, sym, rules}
use Rattle.wsn_print.specs.EscapedText.{quoted}
use Rattle.wsn_shown_text.specs.ShownText.{reason_text}
use Rattle.wsn_shown_text.proofs.HeldViews.{reason_is}
use Rattle.wsn_print.proofs.Pieces.{first_stops, two_pieces}
use Rattle.wsn_shown_text.proofs.line_views.put_reason.Goals as goal

pub returns-in_err-put_line-clause-text : goal.returns-in_err-put_line-clause-text
returns-in_err-put_line-clause-text g c = λ utf8.
    first_stops c.args.to.now c.put_line.new.to (codes " ") (quoted c.args.reason.now) (reason_text c.args.reason.now) c.in_err-put_line.field-0.0 c.from_residual.result (reason_is c.args.reason.now (sym c.is_empty.ensures ∙ c.if-is_empty.false)) (c.in_err-put_line.ensures) c.from_residual.ensures.1

pub returns-clause-text : goal.returns-clause-text
returns-clause-text g c = λ utf8.
    two_pieces c.args.to.now c.put_line.new.to c.put_quoted.new.to (codes " ") (quoted c.args.reason.now) (reason_text c.args.reason.now) c.put_quoted.result (reason_is c.args.reason.now (sym c.is_empty.ensures ∙ c.if-is_empty.false)) (c.in_ok-put_line.ensures) (c.put_quoted.ensures.text utf8)

pub returns-then-is_empty-clause-text : goal.returns-then-is_empty-clause-text
returns-then-is_empty-clause-text g c = search rules

pub returns-then-is_empty-clause-unfailed : goal.returns-then-is_empty-clause-unfailed
returns-then-is_empty-clause-unfailed g c = search rules

pub put_line-requires : goal.put_line-requires
put_line-requires g c = search rules

pub returns-in_err-put_line-clause-unfailed : goal.returns-in_err-put_line-clause-unfailed
returns-in_err-put_line-clause-unfailed g c = search rules

pub put_quoted-requires : goal.put_quoted-requires
put_quoted-requires g c = search rules

pub returns-clause-unfailed : goal.returns-clause-unfailed
returns-clause-unfailed g c = search rules
