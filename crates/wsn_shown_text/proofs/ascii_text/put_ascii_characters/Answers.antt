use Rattle.std.proofs.Common.{◌≡◌, ◌++◌, ℕ, List, [], chars, sym, ap, ◌∙◌, subst, append_assoc, append-nil}
use Rattle.std.specs.Prelude.{flat_map}
use Rattle.std.specs.Str.{IsUtf8}
use Rattle.std.specs.Str.Iter.{chars_rest}
use Rattle.std.proofs.KnownBytes.{Appends-nil}
use Rattle.std.proofs.lemmas.List.{nil_from_length}
use Rattle.std.proofs.lemmas.Str.{chars-nil, chars_past_char, IsUtf8-past_char}
use Rattle.wsn_io.specs.Transfer.{IsWritten, IsPartlyWritten}
use Rattle.wsn_io.specs.declared.stop.Stop.TheVariants as stop
use Rattle.wsn_io.proofs.PutTexts.{put_both}
use Rattle.wsn_shown_text.specs.AsciiText.{ascii_character}
use Rattle.wsn_print.proofs.Pieces.{second_stops}
use Rattle.wsn_shown_text.proofs.ascii_text.put_ascii_characters.Goals as goal

pub loop-c-init : goal.loop-c-init
loop-c-init g c =
    let rest : chars_rest c.into_iter-c-iterator.result ≡ c.args.text.now = ap chars_rest c.into_iter-c-iterator.ensures.into_iter_gives ∙ c.chars-c-items.ensures.rest in
    ([], (c.requires, Appends-nil c.args.to.now.written), subst IsUtf8 (sym rest) c.utf8.text, ap (λ (text : List ℕ). flat_map ascii_character (chars text)) rest)

pub put_line-requires : goal.put_line-requires
put_line-requires g c = c.loop-c.invariant.1.0

pub returns-in_err-put_line : goal.returns-in_err-put_line
returns-in_err-put_line g c =
    let so_far = c.loop-c.invariant in
    let later = chars (chars_rest c.next.new.self) in
    let whole = ap (λ (cs : List ℕ). so_far.0 ++ flat_map ascii_character cs) (sym (chars_past_char (chars_rest c.loop-c.c-iterator) (chars_rest c.next.new.self) c.in-Some.c so_far.2 c.in-Some.ensures.steps.0)) ∙ so_far.3 in
    let put = subst (λ (t : List ℕ). (c.in_err-put_line.field-0.0 ≡ stop.Write) × IsPartlyWritten c.loop-c.to c.put_line.new.to t) (c.bytes.ensures ∙ c.ascii_character.ensures) c.in_err-put_line.ensures in
    second_stops c.args.to.now c.loop-c.to c.put_line.new.to so_far.0 (ascii_character c.in-Some.c) (flat_map ascii_character later) (flat_map ascii_character (chars c.args.text.now)) c.in_err-put_line.field-0.0 c.from_residual.result whole so_far.1 put c.from_residual.ensures.1

pub loop-c-preserved : goal.loop-c-preserved
loop-c-preserved g c =
    let so_far = c.loop-c.invariant in
    let later = chars (chars_rest c.next.new.self) in
    let step = c.in-Some.ensures.steps.0 in
    let put = subst (IsWritten c.loop-c.to c.put_line.new.to) (c.bytes.ensures ∙ c.ascii_character.ensures) c.in_ok-put_line.ensures in (
      so_far.0 ++ ascii_character c.in-Some.c,
      put_both c.args.to.now c.loop-c.to c.put_line.new.to so_far.0 (ascii_character c.in-Some.c) so_far.1 put,
      IsUtf8-past_char (chars_rest c.loop-c.c-iterator) (chars_rest c.next.new.self) c.in-Some.c so_far.2 step,
      append_assoc so_far.0 (ascii_character c.in-Some.c) (flat_map ascii_character later)
          ∙ ap (λ (cs : List ℕ). so_far.0 ++ flat_map ascii_character cs) (sym (chars_past_char (chars_rest c.loop-c.c-iterator) (chars_rest c.next.new.self) c.in-Some.c so_far.2 step)) ∙ so_far.3,
    )

pub returns : goal.returns
returns g c =
    let so_far = c.loop-c.invariant in
    let none : chars (chars_rest c.loop-c.c-iterator) ≡ [] = ap chars (nil_from_length (chars_rest c.loop-c.c-iterator) c.in-None.ensures.steps.0.0) ∙ chars-nil in
    let all : so_far.0 ≡ flat_map ascii_character (chars c.args.text.now) = sym (append-nil so_far.0) ∙ ap (λ (cs : List ℕ). so_far.0 ++ flat_map ascii_character cs) (sym none) ∙ so_far.3 in
    subst (IsWritten c.args.to.now c.loop-c.to) all so_far.1
