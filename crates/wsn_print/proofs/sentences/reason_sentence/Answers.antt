use Rattle.std.proofs.Common.{rules}
use Rattle.wsn_print.proofs.sentences.reason_sentence.Goals as goal

pub returns-in-TextCut-clause-text : goal.returns-in-TextCut-clause-text
returns-in-TextCut-clause-text c = search rules
