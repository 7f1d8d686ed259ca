-- A text continues, or a Close's body.
use Rattle.std.proofs.lemmas.Result.{err_from_is_err_and}
use Rattle.std.proofs.Common.{◌≡◌, Err, rules, ap, ◌∙◌}
use Rattle.wsn_frame.proofs.PayloadRows.{EndsWith, text_checked, text_refused, body_goes_on}
use Rattle.wsn_frame.proofs.payload_check.PayloadCheck.feed.Goals as goal
use Rattle.wsn_frame.proofs.payload_check.PayloadCheck.feed.Goals.{then-fin, else-fin}

pub returns-in_err-utf8-in-Text-clause-checked : goal.returns-in_err-utf8-in-Text-clause-checked
returns-in_err-utf8-in-Text-clause-checked c =
    let out = err_from_is_err_and c.from_residual.result c.from_residual.ensures.1 in
    let is : c.from_residual.result ≡ Err c.in_err-utf8-in-Text.field-0.0 = out.1 ∙ ap Err out.2 in
    let both : EndsWith c.if-fin.feed_text c.args.fin c.args.last = elim c.if-fin.branch [ then-fin w ↦ search rules | else-fin w ↦ search rules ] in
    rw is (rw c.in-Text.is (text_refused c.in-Text.utf8 c.in_err-utf8-in-Text.field-0.0 c.args.chunk.now c.if-fin.feed_text c.args.fin c.args.last both c.in_err-utf8-in-Text.ensures.taken))

pub returns-in_ok-utf8-in-Text-clause-checked : goal.returns-in_ok-utf8-in-Text-clause-checked
returns-in_ok-utf8-in-Text-clause-checked c =
    let both : EndsWith c.if-fin.feed_text c.args.fin c.args.last = elim c.if-fin.branch [ then-fin w ↦ search rules | else-fin w ↦ search rules ] in
    rw c.in-Text.is (text_checked c.in-Text.utf8 c.in_ok-utf8-in-Text.utf8 c.args.chunk.now c.if-fin.feed_text c.args.fin c.args.last both c.in_ok-utf8-in-Text.ensures.taken)

pub returns-in-Close-clause-checked : goal.returns-in-Close-clause-checked
returns-in-Close-clause-checked c = rw c.in-Close.is (body_goes_on c.in-Close.body c.args.chunk.now c.args.fin c.args.last c.feed.result c.feed.ensures.checked)
