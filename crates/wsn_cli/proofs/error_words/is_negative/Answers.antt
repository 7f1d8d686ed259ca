use Rattle.wsn_cli.proofs.NegativeNumbers.{unsigned}
use Rattle.wsn_cli.proofs.error_words.is_negative.Goals as goal

pub returns-in-None : goal.returns-in-None
unfolding lib.Utf8.encode
returns-in-None c = unsigned c.args.word.now c.in-None.ensures.cases
