use Rattle.wsn_laws.proofs.Escapes.{some_surrogates, one_pair, one_scalar, clef}
use Rattle.wsn_laws.proofs.object_laws.law_surrogates_are_a_character.Goals as goal

pub returns-clause-pair : goal.returns-clause-pair
returns-clause-pair c = some_surrogates

pub returns-clause-one_pair : goal.returns-clause-one_pair
returns-clause-one_pair c = one_pair

pub returns-clause-character : goal.returns-clause-character
returns-clause-character c = one_scalar

pub returns-clause-clef : goal.returns-clause-clef
returns-clause-clef c = clef
