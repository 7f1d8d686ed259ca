use Rattle.wsn_hint.proofs.CommentLines.{word_found}
use Rattle.wsn_hint.proofs.comments.has_word.Goals as goal

pub returns : goal.returns
returns c = rw c.is_some.ensures (word_found c.args.line.now c.args.word.now c.find.result c.find.ensures)
