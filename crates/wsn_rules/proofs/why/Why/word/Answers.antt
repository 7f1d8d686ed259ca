use Rattle.std.proofs.Common.{rules}
use Rattle.wsn_rules.proofs.why.Why.word.Goals as goal

pub returns-in-TooManyPieces-clause-word : goal.returns-in-TooManyPieces-clause-word
returns-in-TooManyPieces-clause-word c = search rules

pub returns-in-KeyMismatch-clause-word : goal.returns-in-KeyMismatch-clause-word
returns-in-KeyMismatch-clause-word c = search rules

pub returns-in-KeyMismatch-clause-short : goal.returns-in-KeyMismatch-clause-short
returns-in-KeyMismatch-clause-short c = search rules

pub returns-in-StepsLeft-clause-word : goal.returns-in-StepsLeft-clause-word
returns-in-StepsLeft-clause-word c = search rules

pub returns-in-StepsLeft-clause-short : goal.returns-in-StepsLeft-clause-short
returns-in-StepsLeft-clause-short c = search rules

pub returns-in-NoMessage-clause-word : goal.returns-in-NoMessage-clause-word
returns-in-NoMessage-clause-word c = search rules

pub returns-in-NoMessage-clause-short : goal.returns-in-NoMessage-clause-short
returns-in-NoMessage-clause-short c = search rules

pub returns-in-PieceTooLong-clause-word : goal.returns-in-PieceTooLong-clause-word
returns-in-PieceTooLong-clause-word c = search rules

pub returns-in-PieceTooLong-clause-short : goal.returns-in-PieceTooLong-clause-short
returns-in-PieceTooLong-clause-short c = search rules

pub returns-in-TooManyPieces-clause-short : goal.returns-in-TooManyPieces-clause-short
returns-in-TooManyPieces-clause-short c = search rules

pub returns-in-NotAControl-clause-word : goal.returns-in-NotAControl-clause-word
returns-in-NotAControl-clause-word c = search rules

pub returns-in-NotAControl-clause-short : goal.returns-in-NotAControl-clause-short
returns-in-NotAControl-clause-short c = search rules

pub returns-in-NotAMessage-clause-word : goal.returns-in-NotAMessage-clause-word
returns-in-NotAMessage-clause-word c = search rules

pub returns-in-NotAMessage-clause-short : goal.returns-in-NotAMessage-clause-short
returns-in-NotAMessage-clause-short c = search rules

pub returns-in-WrongForm-clause-word : goal.returns-in-WrongForm-clause-word
returns-in-WrongForm-clause-word c = search rules

pub returns-in-WrongForm-clause-short : goal.returns-in-WrongForm-clause-short
returns-in-WrongForm-clause-short c = search rules

pub returns-in-EventsLeft-clause-word : goal.returns-in-EventsLeft-clause-word
returns-in-EventsLeft-clause-word c = search rules

pub returns-in-EventsLeft-clause-short : goal.returns-in-EventsLeft-clause-short
returns-in-EventsLeft-clause-short c = search rules
