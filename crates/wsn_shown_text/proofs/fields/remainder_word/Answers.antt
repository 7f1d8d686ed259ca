use Rattle.std.proofs.Common.{rules}
use Rattle.wsn_shown_text.proofs.fields.remainder_word.Goals as goal

pub returns-in-Tail-clause-word : goal.returns-in-Tail-clause-word
returns-in-Tail-clause-word c = search rules
