use Rattle.wsn_text.proofs.Ascii.{ascii_text}
use Rattle.wsn_text.proofs.laws.law_ascii_is_text.Goals as goal

pub returns : goal.returns
returns c = ascii_text
