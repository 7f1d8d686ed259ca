use Rattle.wsn_laws.proofs.JsonTexts.{quoted_is_json, one_text}
use Rattle.wsn_laws.proofs.quoted_laws.law_quoted_is_json.Goals as goal

pub returns-clause-is : goal.returns-clause-is
returns-clause-is c = quoted_is_json

pub returns-clause-one : goal.returns-clause-one
returns-clause-one c = one_text
