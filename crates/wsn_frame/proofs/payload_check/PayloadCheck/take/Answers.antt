-- A text continues, or a Close's body.
use Rattle.std.proofs.Common.{Ok, Err, rules}
use Rattle.wsn_frame.proofs.PayloadRows.{EndsWith, text_checked, text_refused, body_goes_on}
use Rattle.wsn_frame.proofs.payload_check.PayloadCheck.take.Goals as goal
use Rattle.wsn_frame.proofs.payload_check.PayloadCheck.take.Goals.{then-fin, else-fin}

pub returns-in-Ok-clause-taken : goal.returns-in-Ok-clause-taken
returns-in-Ok-clause-taken c =
    let both : EndsWith c.if-fin.feed_text c.args.fin c.args.last = elim c.if-fin.branch [ then-fin w ↦ search rules | else-fin w ↦ search rules ] in
    λ fed. rw c.in-Text.is (text_checked c.in-Text.utf8 c.in-Ok.fed c.args.chunk.now c.if-fin.feed_text c.args.fin c.args.last both c.in-Ok.ensures.taken)

pub returns-in-Err-clause-evident : goal.returns-in-Err-clause-evident
returns-in-Err-clause-evident c =
    let both : EndsWith c.if-fin.feed_text c.args.fin c.args.last = elim c.if-fin.branch [ then-fin w ↦ search rules | else-fin w ↦ search rules ] in
    λ fed group first total before.
    rw c.in-Text.is (λ checked final at_end within. (c.in-Err.field-0, text_refused c.in-Text.utf8 c.in-Err.field-0 c.args.chunk.now c.if-fin.feed_text c.args.fin c.args.last both c.in-Err.ensures.taken group first total before checked final at_end within))

pub returns-in-Ok-feed-clause-taken : goal.returns-in-Ok-feed-clause-taken
returns-in-Ok-feed-clause-taken c = λ fed.
    rw c.in-Close.is (body_goes_on c.in-Close.body c.args.chunk.now c.args.fin c.args.last (Ok c.in-Ok-feed.check) c.in-Ok-feed.ensures.checked)

pub returns-in-Err-feed-clause-evident : goal.returns-in-Err-feed-clause-evident
returns-in-Err-feed-clause-evident c = λ fed group first total before.
    rw c.in-Close.is (λ checked final at_end within. (c.in-Err-feed.field-0, body_goes_on c.in-Close.body c.args.chunk.now c.args.fin c.args.last (Err c.in-Err-feed.field-0) c.in-Err-feed.ensures.checked group first total before checked final at_end within))
