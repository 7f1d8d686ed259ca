use Rattle.wsn_laws.proofs.CommentLines.{one_comment}
use Rattle.wsn_laws.proofs.quoted_laws.law_comment_lines.Goals as goal

pub returns : goal.returns
returns c = one_comment
