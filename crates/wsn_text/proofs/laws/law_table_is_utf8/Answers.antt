use Rattle.wsn_text.proofs.Scalars.{text_is_utf8}
use Rattle.wsn_text.proofs.laws.law_table_is_utf8.Goals as goal

pub returns : goal.returns
returns c = text_is_utf8
