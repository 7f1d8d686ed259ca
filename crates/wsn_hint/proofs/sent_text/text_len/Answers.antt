use Rattle.std.proofs.Common.{refl}
use Rattle.wsn_hint.proofs.HeadsSent.{text_after}
use Rattle.wsn_hint.proofs.sent_text.text_len.Goals as goal

pub returns-in-Some : goal.returns-in-Some
returns-in-Some g c sent known =
    let skipped = c.if-not-skip.ensures refl in
    text_after sent skipped.0 c.args.side.now.remaining c.skip.new.input.remaining c.args.start c.args.most c.in-Some.len known skipped.1 skipped.2 c.in-Some.ensures
