use Rattle.std.proofs.Common.{Option, None, Some, [], ◌∷◌, inr, subst, refl}
use Rattle.std.proofs.lemmas.Bool.{iff_false}
use Rattle.wsn_hint.specs.declared.hint.Hint.{Hint}
use Rattle.wsn_hint.specs.declared.hint.Hint.TheVariants.{Stream, Json, SmallLetters, OtherText, Binary, Blanks}
use Rattle.wsn_hint.specs.Hints.{HintFits, IsFirstFit, capture_hints, format_hints}
use Rattle.wsn_hint.proofs.FirstFits.{fits_of_first, first_of_more, first_after, first_before, first_at, first_past}
use Rattle.wsn_hint.proofs.LineStarts.{small_begins_no_line, no_line_has_no_blanks}
use Rattle.wsn_hint.proofs.captures.capture_hint_of.Goals as goal

pub returns-in-Some-clause-first : goal.returns-in-Some-clause-first
returns-in-Some-clause-first c = λ limits.
    let fits = HintFits limits c.args.first.now in
    first_of_more fits format_hints (Stream ∷ Json ∷ SmallLetters ∷ OtherText ∷ Binary ∷ Blanks ∷ []) c.in-Some.hint
    (subst (λ (o : Option Hint). IsFirstFit fits format_hints o) c.in-Some.is (c.format_of.ensures limits))

pub returns-in-Some-clause-fits : goal.returns-in-Some-clause-fits
returns-in-Some-clause-fits c = λ limits.
    fits_of_first (HintFits limits c.args.first.now) capture_hints (Some c.in-Some.hint) (returns-in-Some-clause-first c limits)

pub returns-in-None-clause-first : goal.returns-in-None-clause-first
returns-in-None-clause-first c = λ limits.
    let fits = HintFits limits c.args.first.now in
    let later = Json ∷ SmallLetters ∷ OtherText ∷ Binary ∷ Blanks ∷ [] in
    first_after fits format_hints (Stream ∷ later) (Some Stream)
    (subst (λ (o : Option Hint). IsFirstFit fits format_hints o) c.in-None.is (c.format_of.ensures limits))
    (first_at fits Stream later c.is_stream.result c.is_stream.ensures c.if-is_stream.true)

pub returns-in-None-2-clause-first : goal.returns-in-None-2-clause-first
returns-in-None-2-clause-first c = λ limits.
    let fits = HintFits limits c.args.first.now in
    let later = Json ∷ SmallLetters ∷ OtherText ∷ Binary ∷ Blanks ∷ [] in
    first_after fits format_hints (Stream ∷ later) c.file_hint.result
    (subst (λ (o : Option Hint). IsFirstFit fits format_hints o) c.in-None.is (c.format_of.ensures limits))
    (first_past fits Stream later c.file_hint.result c.is_stream.result c.is_stream.ensures c.if-is_stream.false
    (first_before fits (Json ∷ SmallLetters ∷ OtherText ∷ Binary ∷ []) (Blanks ∷ []) c.file_hint.result (c.file_hint.ensures limits)
    (inr (no_line_has_no_blanks c.args.first.now (c.begins_no_line.ensures.0 c.if-begins_no_line.true), refl))))

pub returns-in-None-2-clause-fits : goal.returns-in-None-2-clause-fits
returns-in-None-2-clause-fits c = λ limits.
    fits_of_first (HintFits limits c.args.first.now) capture_hints c.file_hint.result (returns-in-None-2-clause-first c limits)

pub returns-in-None-3-clause-first : goal.returns-in-None-3-clause-first
returns-in-None-3-clause-first c = λ limits.
    let first = c.args.first.now in
    let fits = HintFits limits first in
    let of_file = Json ∷ SmallLetters ∷ OtherText ∷ Binary ∷ [] in
    let later = Json ∷ SmallLetters ∷ OtherText ∷ Binary ∷ Blanks ∷ [] in
    let a_line = iff_false c.begins_no_line.ensures c.if-begins_no_line.false in
    let none_of_file : IsFirstFit fits of_file None =
    inr (λ json. a_line json.0, inr (λ small. a_line (small_begins_no_line first small), inr (λ text. a_line text.0, inr (λ binary. a_line binary.0, refl)))) in
    first_after fits format_hints (Stream ∷ later) c.line_hint.result
    (subst (λ (o : Option Hint). IsFirstFit fits format_hints o) c.in-None.is (c.format_of.ensures limits))
    (first_past fits Stream later c.line_hint.result c.is_stream.result c.is_stream.ensures c.if-is_stream.false
    (first_after fits of_file (Blanks ∷ []) c.line_hint.result none_of_file (c.line_hint.ensures limits)))

pub returns-in-None-3-clause-fits : goal.returns-in-None-3-clause-fits
returns-in-None-3-clause-fits c = λ limits.
    fits_of_first (HintFits limits c.args.first.now) capture_hints c.line_hint.result (returns-in-None-3-clause-first c limits)
