use Rattle.wsn_shown_text.proofs.VisibleTexts.{quoted_text_visible}
use Rattle.wsn_laws.proofs.quoted_laws.law_quoted_is_visible.Goals as goal

pub returns : goal.returns
returns c = quoted_text_visible
