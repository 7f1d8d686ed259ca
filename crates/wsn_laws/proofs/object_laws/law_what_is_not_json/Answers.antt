use Rattle.std.proofs.Common.{[], ◌∷◌, refl}
use Rattle.wsn_laws.proofs.RefusedTexts.{object_ends, object_not_cut, no_empty, no_bare_name, no_colon, no_value, no_last_comma, no_digits, no_raw_line_feed, no_lone_surrogate, no_turned_surrogates, no_surrogate_and_letter}
use Rattle.wsn_laws.proofs.object_laws.law_what_is_not_json.Goals as goal

pub returns-clause-object_ends : goal.returns-clause-object_ends
returns-clause-object_ends c = object_ends

pub returns-clause-empty : goal.returns-clause-empty
returns-clause-empty c = no_empty

pub returns-clause-bare_name : goal.returns-clause-bare_name
returns-clause-bare_name c = no_bare_name

pub returns-clause-without_colon : goal.returns-clause-without_colon
returns-clause-without_colon c = no_colon

pub returns-clause-without_value : goal.returns-clause-without_value
returns-clause-without_value c = no_value

pub returns-clause-last_comma : goal.returns-clause-last_comma
returns-clause-last_comma c = no_last_comma

pub returns-clause-leading_zero : goal.returns-clause-leading_zero
returns-clause-leading_zero c = λ value. no_digits value 48 (49 ∷ []) refl (refl, tt) refl

pub returns-clause-plus : goal.returns-clause-plus
returns-clause-plus c = λ value. no_digits value 43 (49 ∷ []) refl (refl, tt) refl

pub returns-clause-bare_point : goal.returns-clause-bare_point
returns-clause-bare_point c = λ value. no_digits value 49 (46 ∷ []) refl (refl, tt) refl

pub returns-clause-bare_fraction : goal.returns-clause-bare_fraction
returns-clause-bare_fraction c = λ value. no_digits value 46 (53 ∷ []) refl (refl, tt) refl

pub returns-clause-bare_exponent : goal.returns-clause-bare_exponent
returns-clause-bare_exponent c = λ value. no_digits value 49 (101 ∷ []) refl (refl, tt) refl

pub returns-clause-line_feed : goal.returns-clause-line_feed
returns-clause-line_feed c = no_raw_line_feed

pub returns-clause-lone_surrogate : goal.returns-clause-lone_surrogate
returns-clause-lone_surrogate c = no_lone_surrogate

pub returns-clause-turned_surrogates : goal.returns-clause-turned_surrogates
returns-clause-turned_surrogates c = no_turned_surrogates

pub returns-clause-surrogate_and_letter : goal.returns-clause-surrogate_and_letter
returns-clause-surrogate_and_letter c = no_surrogate_and_letter

pub returns-clause-same_name : goal.returns-clause-same_name
returns-clause-same_name c = λ name value other others distinct. distinct.0.0 refl

pub returns-clause-object_not_cut : goal.returns-clause-object_not_cut
returns-clause-object_not_cut c = object_not_cut
