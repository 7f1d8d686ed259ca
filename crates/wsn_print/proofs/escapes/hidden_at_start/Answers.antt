use Rattle.std.proofs.Common.{◌≡◌, ℕ, List, true, false, get_or, sym, ap, ◌∙◌, arith}
use Rattle.wsn_print.specs.EscapedText.{is_continuation}
use Rattle.wsn_print.specs.Runs.{hidden_from}
use Rattle.wsn_print.proofs.RunCharacters.{two, three, four, of_one, of_two, of_three, of_four, of_none, of_no_second, of_no_third, of_no_fourth, found_within, found_character}
use Rattle.wsn_print.proofs.escapes.hidden_at_start.Goals as goal

pub returns-in-0-to-127-clause-found : goal.returns-in-0-to-127-clause-found
returns-in-0-to-127-clause-found c =
    let text : List ℕ = c.args.text.now in
    let number : c.from.result ≡ get_or text 0 0 = omega arith in
    c.hidden_from.ensures ∙ ap (λ (n : ℕ). hidden_from 0 n 0) number
    ∙ sym (of_one (get_or text 0 0) (get_or text 1 0) (get_or text 2 0) (get_or text 3 0) (omega arith))

pub returns-in-0-to-127-clause-within : goal.returns-in-0-to-127-clause-within
returns-in-0-to-127-clause-within c =
    found_within c.args.text.now c.hidden_from.result c.requires (returns-in-0-to-127-clause-found c)

pub returns-in-0-to-127-clause-character : goal.returns-in-0-to-127-clause-character
returns-in-0-to-127-clause-character c =
    let text : List ℕ = c.args.text.now in
    found_character (get_or text 0 0) (get_or text 1 0) (get_or text 2 0) (get_or text 3 0) c.hidden_from.result (returns-in-0-to-127-clause-found c)

pub returns-in-194-to-223-clause-found : goal.returns-in-194-to-223-clause-found
returns-in-194-to-223-clause-found c =
    let text : List ℕ = c.args.text.now in
    let b : ℕ = get_or text 0 0 in
    let second : ℕ = get_or text 1 0 in
    let number : c.with_bits.result ≡ two b second = omega arith in
    let one : is_continuation second ≡ true = sym (c.continues.ensures ∙ ap is_continuation c.byte_at-second.ensures) ∙ c.if-continues.true in
    c.hidden_from-in-194-to-223.ensures ∙ ap (λ (n : ℕ). hidden_from 0x80 n 1) number
    ∙ sym (of_two b second (get_or text 2 0) (get_or text 3 0) (omega arith) (omega arith) one)

pub returns-in-194-to-223-clause-within : goal.returns-in-194-to-223-clause-within
returns-in-194-to-223-clause-within c =
    found_within c.args.text.now c.hidden_from-in-194-to-223.result c.requires (returns-in-194-to-223-clause-found c)

pub returns-in-194-to-223-clause-character : goal.returns-in-194-to-223-clause-character
returns-in-194-to-223-clause-character c =
    let text : List ℕ = c.args.text.now in
    found_character (get_or text 0 0) (get_or text 1 0) (get_or text 2 0) (get_or text 3 0) c.hidden_from-in-194-to-223.result (returns-in-194-to-223-clause-found c)

pub returns-in-224-to-239-clause-found : goal.returns-in-224-to-239-clause-found
returns-in-224-to-239-clause-found c =
    let text : List ℕ = c.args.text.now in
    let b : ℕ = get_or text 0 0 in
    let second : ℕ = get_or text 1 0 in
    let third : ℕ = get_or text 2 0 in
    let number : c.with_bits-in-224-to-239.result ≡ three b second third = omega arith in
    let one : is_continuation second ≡ true = sym (c.continues-then-this-lt240.ensures ∙ ap is_continuation c.byte_at-second.ensures) ∙ c.if-continues-2.true in
    let also : is_continuation third ≡ true = sym (c.continues-then-continues-2.ensures ∙ ap is_continuation c.byte_at-third.ensures) ∙ c.if-continues-3.true in
    c.hidden_from-in-224-to-239.ensures ∙ ap (λ (n : ℕ). hidden_from 0x800 n 2) number
    ∙ sym (of_three b second third (get_or text 3 0) (omega arith) (omega arith) one also)

pub returns-in-224-to-239-clause-within : goal.returns-in-224-to-239-clause-within
returns-in-224-to-239-clause-within c =
    found_within c.args.text.now c.hidden_from-in-224-to-239.result c.requires (returns-in-224-to-239-clause-found c)

pub returns-in-224-to-239-clause-character : goal.returns-in-224-to-239-clause-character
returns-in-224-to-239-clause-character c =
    let text : List ℕ = c.args.text.now in
    found_character (get_or text 0 0) (get_or text 1 0) (get_or text 2 0) (get_or text 3 0) c.hidden_from-in-224-to-239.result (returns-in-224-to-239-clause-found c)

pub returns-in-240-to-244-clause-found : goal.returns-in-240-to-244-clause-found
returns-in-240-to-244-clause-found c =
    let text : List ℕ = c.args.text.now in
    let b : ℕ = get_or text 0 0 in
    let second : ℕ = get_or text 1 0 in
    let third : ℕ = get_or text 2 0 in
    let fourth : ℕ = get_or text 3 0 in
    let number : c.with_bits-in-240-to-244-2.result ≡ four b second third fourth = omega arith in
    let one : is_continuation second ≡ true = sym (c.continues-then-this-lt245.ensures ∙ ap is_continuation c.byte_at-second.ensures) ∙ c.if-continues-4.true in
    let also : is_continuation third ≡ true = sym (c.continues-then-continues-4.ensures ∙ ap is_continuation c.byte_at-third.ensures) ∙ c.if-continues-5.true in
    let last : is_continuation fourth ≡ true = sym (c.continues-then-continues-5.ensures ∙ ap is_continuation c.byte_at-fourth.ensures) ∙ c.if-continues-6.true in
    c.hidden_from-in-240-to-244.ensures ∙ ap (λ (n : ℕ). hidden_from 0x10000 n 3) number
    ∙ sym (of_four b second third fourth (omega arith) (omega arith) one also last)

pub returns-in-240-to-244-clause-within : goal.returns-in-240-to-244-clause-within
returns-in-240-to-244-clause-within c =
    found_within c.args.text.now c.hidden_from-in-240-to-244.result c.requires (returns-in-240-to-244-clause-found c)

pub returns-in-240-to-244-clause-character : goal.returns-in-240-to-244-clause-character
returns-in-240-to-244-clause-character c =
    let text : List ℕ = c.args.text.now in
    found_character (get_or text 0 0) (get_or text 1 0) (get_or text 2 0) (get_or text 3 0) c.hidden_from-in-240-to-244.result (returns-in-240-to-244-clause-found c)

pub returns-in_default-clause-found : goal.returns-in_default-clause-found
returns-in_default-clause-found c =
    let text : List ℕ = c.args.text.now in
    of_none (get_or text 0 0) (get_or text 1 0) (get_or text 2 0) (get_or text 3 0) (omega arith) (λ least. omega arith)

pub returns-in_default-2-clause-found : goal.returns-in_default-2-clause-found
returns-in_default-2-clause-found c =
    let text : List ℕ = c.args.text.now in
    let isnt : is_continuation (get_or text 1 0) ≡ false = sym (c.continues.ensures ∙ ap is_continuation c.byte_at-second.ensures) ∙ c.if-continues.false in
    of_no_second (get_or text 0 0) (get_or text 1 0) (get_or text 2 0) (get_or text 3 0) (omega arith) isnt

pub returns-in_default-3-clause-found : goal.returns-in_default-3-clause-found
returns-in_default-3-clause-found c =
    let text : List ℕ = c.args.text.now in
    let isnt : is_continuation (get_or text 2 0) ≡ false = sym (c.continues-then-continues-2.ensures ∙ ap is_continuation c.byte_at-third.ensures) ∙ c.if-continues-3.false in
    of_no_third (get_or text 0 0) (get_or text 1 0) (get_or text 2 0) (get_or text 3 0) (omega arith) isnt

pub returns-in_default-4-clause-found : goal.returns-in_default-4-clause-found
returns-in_default-4-clause-found c =
    let text : List ℕ = c.args.text.now in
    let isnt : is_continuation (get_or text 1 0) ≡ false = sym (c.continues-then-this-lt240.ensures ∙ ap is_continuation c.byte_at-second.ensures) ∙ c.if-continues-2.false in
    of_no_second (get_or text 0 0) (get_or text 1 0) (get_or text 2 0) (get_or text 3 0) (omega arith) isnt

pub returns-in_default-5-clause-found : goal.returns-in_default-5-clause-found
returns-in_default-5-clause-found c =
    let text : List ℕ = c.args.text.now in
    let isnt : is_continuation (get_or text 3 0) ≡ false = sym (c.continues-then-continues-5.ensures ∙ ap is_continuation c.byte_at-fourth.ensures) ∙ c.if-continues-6.false in
    of_no_fourth (get_or text 0 0) (get_or text 1 0) (get_or text 2 0) (get_or text 3 0) (omega arith) isnt

pub returns-in_default-6-clause-found : goal.returns-in_default-6-clause-found
returns-in_default-6-clause-found c =
    let text : List ℕ = c.args.text.now in
    let isnt : is_continuation (get_or text 2 0) ≡ false = sym (c.continues-then-continues-4.ensures ∙ ap is_continuation c.byte_at-third.ensures) ∙ c.if-continues-5.false in
    of_no_third (get_or text 0 0) (get_or text 1 0) (get_or text 2 0) (get_or text 3 0) (omega arith) isnt

pub returns-in_default-7-clause-found : goal.returns-in_default-7-clause-found
returns-in_default-7-clause-found c =
    let text : List ℕ = c.args.text.now in
    let isnt : is_continuation (get_or text 1 0) ≡ false = sym (c.continues-then-this-lt245.ensures ∙ ap is_continuation c.byte_at-second.ensures) ∙ c.if-continues-4.false in
    of_no_second (get_or text 0 0) (get_or text 1 0) (get_or text 2 0) (get_or text 3 0) (omega arith) isnt

pub returns-in_default-8-clause-found : goal.returns-in_default-8-clause-found
returns-in_default-8-clause-found c =
    let text : List ℕ = c.args.text.now in
    of_none (get_or text 0 0) (get_or text 1 0) (get_or text 2 0) (get_or text 3 0) (omega arith) (λ least. omega arith)
