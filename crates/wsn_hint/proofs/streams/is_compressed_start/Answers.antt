use Rattle.std.proofs.Common.{◌≡◌, ℕ, ◌+◌, List, [], ◌∷◌, drop, sym, ap, ◌∙◌, subst, arith}
use Rattle.std.specs.Prelude.{get_or}
use Rattle.wsn_rules.specs.Verdict.{IsUnrefused}
use Rattle.wsn_hint.proofs.EarlyVerdicts.{two_at_front}
use Rattle.wsn_hint.proofs.streams.is_compressed_start.Goals as goal

pub returns-in-Some-clause-compressed : goal.returns-in-Some-clause-compressed
returns-in-Some-clause-compressed c is =
    let first = c.args.first.now in
    let second = get_or first 1 0 in
    record {
      plain = c.in-Some.plain;
      second = second;
      rest = drop 2 first;
      is = two_at_front first c.in-len2-up.len_at_least ∙ ap (λ (head : ℕ). head ∷ second ∷ drop 2 first) c.in-Some.ensures.plain.0;
      of_data = c.in-Some.ensures.plain.1;
      unrefused = c.is_lawful_start.ensures.unrefused is;
    }

pub returns-in-Some-clause-given : goal.returns-in-Some-clause-given
returns-in-Some-clause-given c = λ some begins.
    let second = get_or c.args.first.now 1 0 in
    let second_is : second ≡ begins.second = ap (λ (bs : List ℕ). get_or bs 1 0) begins.is in
    let plain_is : begins.plain ≡ c.in-Some.plain = omega (arith, ap (λ (bs : List ℕ). get_or bs 0 0) begins.is, c.in-Some.ensures.plain.0) in
    c.is_lawful_start.ensures.given some
    (subst (λ (plain : ℕ). IsUnrefused c.args.role c.args.limits (plain ∷ second ∷ [])) plain_is
    (subst (λ (byte : ℕ). IsUnrefused c.args.role c.args.limits (begins.plain ∷ byte ∷ [])) (sym second_is) begins.unrefused))

pub returns-in-None-clause-given : goal.returns-in-None-clause-given
returns-in-None-clause-given c = λ some begins.
    absurd (c.without_compression.ensures.none c.in-None.is begins.plain begins.of_data (ap (λ (bs : List ℕ). get_or bs 0 0) begins.is))
