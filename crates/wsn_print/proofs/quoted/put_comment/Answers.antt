use Rattle.std.proofs.Common.{codes, refl, rules}
use Rattle.wsn_print.specs.EscapedText.{comment_text, comment_line}
use Rattle.wsn_print.proofs.Pieces.{first_stops, two_pieces}
use Rattle.wsn_print.proofs.quoted.put_comment.Goals as goal

pub returns-in_err-put_comment_text : goal.returns-in_err-put_comment_text
returns-in_err-put_comment_text g c =
    first_stops c.args.to.now c.put_comment_text.new.to (comment_text c.args.text.now) (codes "\n") (comment_line c.args.text.now) c.in_err-put_comment_text.field-0.0 c.from_residual.result refl (c.in_err-put_comment_text.ensures) c.from_residual.ensures.1

pub returns : goal.returns
returns g c =
    two_pieces c.args.to.now c.put_comment_text.new.to c.put_line.new.to (comment_text c.args.text.now) (codes "\n") (comment_line c.args.text.now) c.put_line.result refl (c.in_ok-put_comment_text.ensures) (c.put_line.ensures)

pub put_comment_text-requires : goal.put_comment_text-requires
put_comment_text-requires g c = search rules

pub put_line-requires : goal.put_line-requires
put_line-requires g c = search rules
