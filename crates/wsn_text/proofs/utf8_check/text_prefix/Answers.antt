use Rattle.std.proofs.Common.{ℕ, ◌≤◌, length, take, sym, subst, arith, rules}
use Rattle.wsn_text.specs.Utf8.{IsText}
use Rattle.wsn_text.proofs.Boundaries.{text_of_all, text_of_valid, ends_after_valid}
use Rattle.wsn_text.proofs.utf8_check.text_prefix.Goals as goal

pub returns-in-Ok-clause-text : goal.returns-in-Ok-clause-text
returns-in-Ok-clause-text c = text_of_all c.args.bytes.now c.in-Ok.text.now c.last_character.result c.last_character.ensures.0 c.in-Ok.ensures.cases.0 c.in-Ok.ensures.cases.1

pub returns-in-Err-clause-text : goal.returns-in-Err-clause-text
returns-in-Err-clause-text c =
    let bytes = c.args.bytes.now in
    subst (λ (n : ℕ). (n ≤ length bytes) × IsText (take n bytes)) (sym c.valid_up_to.ensures)
    (text_of_valid bytes c.last_character.result c.in-Err.bad.valid_up_to c.last_character.ensures.0 c.in-Err.ensures.cases.1)

pub returns-in-Err-clause-most : goal.returns-in-Err-clause-most
returns-in-Err-clause-most c far =
    let is = c.valid_up_to.ensures in
    let cut = c.last_character.ensures in
    ends_after_valid c.args.bytes.now c.last_character.result c.in-Err.bad.valid_up_to cut.0 (omega arith) c.in-Err.ensures.cases.1

pub slice_bounds-from_utf8-end : goal.slice_bounds-from_utf8-end
slice_bounds-from_utf8-end c = search rules

pub returns-in-Ok-clause-most : goal.returns-in-Ok-clause-most
returns-in-Ok-clause-most c = search rules
