use Rattle.std.proofs.Common.{◌≡◌, ◌-◌, ◌++◌, ℕ, List, [], suc, chars, codes, sym, ap, ◌∙◌, rules, arith, append_assoc, append-nil}
use Rattle.std.specs.Str.Iter.{chars_rest}
use Rattle.std.proofs.Output.{has_written_append, has_written_of_eq}
use Rattle.std.proofs.lemmas.Bool.Decides.{nat_tests}
use Rattle.std.proofs.lemmas.List.{nil_from_length}
use Rattle.std.proofs.lemmas.Str.{chars-nil, chars_past_char, IsUtf8-past_char}
use Rattle.wsn_cli.specs.ErrorWords.{escaped_character, escaped_characters}
use Rattle.wsn_cli.proofs.EscapedCharacters.{escaped_end, escaped_cut, escaped_more}
use Rattle.wsn_cli.proofs.escaped.EscapedDisplay.fmt.Goals as goal

pub returns-then-left-eq0-clause-writes : goal.returns-then-left-eq0-clause-writes
returns-then-left-eq0-clause-writes g c =
    λ plain ok.
    let text = c.loop-c.invariant.0 in
    let now = c.loop-c.invariant.1 plain in
    let none : c.loop-c.left ≡ 0 = grind (arith, nat_tests, c.if-left-eq0.true) in
    let later = chars (chars_rest c.next.new.self) in
    let begun = chars_past_char (chars_rest c.loop-c.c-iterator) (chars_rest c.next.new.self) c.in-Some.c text c.in-Some.ensures.steps.0 in
    let last : escaped_characters c.loop-c.left (chars (chars_rest c.loop-c.c-iterator)) ≡ codes ".." =
    ap (λ (n : ℕ). escaped_characters n (chars (chars_rest c.loop-c.c-iterator))) none ∙ ap (escaped_characters 0) begun ∙ escaped_cut c.in-Some.c later in
    has_written_of_eq _ _ _ _ _ (ap (λ (t : List ℕ). now.0 ++ t) (sym last) ∙ now.2)
    (has_written_append _ _ _ _ _ _ now.1 (c.write_str.ensures.writes now.1.plain ok))

pub loop-c-preserved : goal.loop-c-preserved
loop-c-preserved g c =
    let text = c.loop-c.invariant.0 in
    let step = c.in-Some.ensures.steps.0 in
    let later = chars (chars_rest c.next.new.self) in
    let begun = chars_past_char (chars_rest c.loop-c.c-iterator) (chars_rest c.next.new.self) c.in-Some.c text step in
    let some : c.loop-c.left ≡ suc (c.loop-c.left - 1) = grind (arith, nat_tests, c.if-left-eq0.false) in
    let more : escaped_characters c.loop-c.left (chars (chars_rest c.loop-c.c-iterator)) ≡ escaped_character c.in-Some.c ++ escaped_characters (c.loop-c.left - 1) later =
    ap (λ (n : ℕ). escaped_characters n (chars (chars_rest c.loop-c.c-iterator))) some ∙ ap (escaped_characters (suc (c.loop-c.left - 1))) begun ∙ escaped_more (c.loop-c.left - 1) c.in-Some.c later in (
      IsUtf8-past_char (chars_rest c.loop-c.c-iterator) (chars_rest c.next.new.self) c.in-Some.c text step,
      λ plain.
          let now = c.loop-c.invariant.1 plain in (
            now.0 ++ escaped_character c.in-Some.c,
            has_written_append _ _ _ _ _ _ now.1 (search rules),
            append_assoc now.0 (escaped_character c.in-Some.c) (escaped_characters (c.loop-c.left - 1) later)
                ∙ ap (λ (t : List ℕ). now.0 ++ t) (sym more) ∙ now.2,
          ),
    )

pub returns-clause-writes : goal.returns-clause-writes
returns-clause-writes g c =
    λ plain _.
    let now = c.loop-c.invariant.1 plain in
    let none : chars (chars_rest c.loop-c.c-iterator) ≡ [] = ap chars (nil_from_length (chars_rest c.loop-c.c-iterator) c.in-None.ensures.steps.0.0) ∙ chars-nil in
    let last : escaped_characters c.loop-c.left (chars (chars_rest c.loop-c.c-iterator)) ≡ [] =
    ap (escaped_characters c.loop-c.left) none ∙ escaped_end c.loop-c.left in
    has_written_of_eq _ _ _ _ _ (sym (append-nil now.0) ∙ ap (λ (t : List ℕ). now.0 ++ t) (sym last) ∙ now.2) now.1
