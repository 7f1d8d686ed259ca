use Rattle.std.proofs.Common.{◌≡◌, ◌<◌, ◌^◌, true, subst, length, rules}
use Rattle.std.specs.Char.{is_ascii_digit}
use Rattle.std.specs.List.{list_all}
use Rattle.std.specs.Result.{OkIff}
use Rattle.std.specs.Str.Parse.{digits_value}
use Rattle.std.proofs.lemmas.Str.Parse.{parse_digits}
use Rattle.wsn_cli.proofs.NegativeNumbers.{numerals, parsed, unparsed}
use Rattle.wsn_cli.proofs.error_words.is_positive.Goals as goal

pub returns-in-Ok : goal.returns-in-Ok
returns-in-Ok c =
    let ds = c.args.digits.now in
    let all : list_all is_ascii_digit ds ≡ true = search rules in
    let known = subst (λ r. OkIff r ((0 < length ds) × (digits_value 10 ds < 2 ^ 128)) (digits_value 10 ds)) c.in-Ok.is (parse_digits numerals 128 ds c.parse.result c.parse.ensures.value.0 all) in
    parsed ds c.in-Ok.number all known.0.1 known.1

pub returns-in-Err : goal.returns-in-Err
returns-in-Err c =
    let ds = c.args.digits.now in
    let all : list_all is_ascii_digit ds ≡ true = search rules in
    unparsed ds (subst (λ r. OkIff r ((0 < length ds) × (digits_value 10 ds < 2 ^ 128)) (digits_value 10 ds)) c.in-Err.is (parse_digits numerals 128 ds c.parse.result c.parse.ensures.value.0 all))
