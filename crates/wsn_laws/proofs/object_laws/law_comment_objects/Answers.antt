use Rattle.wsn_laws.proofs.Comments.{one_comment}
use Rattle.wsn_laws.proofs.object_laws.law_comment_objects.Goals as goal

pub returns : goal.returns
returns c = one_comment
