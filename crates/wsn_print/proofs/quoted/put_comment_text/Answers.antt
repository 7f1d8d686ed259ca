use Rattle.std.proofs.Common.{◌≡◌, ℕ, ◌==◌, ◌<◌, Bool, true, false, if◌then◌else◌, List, length, ap, sym, ◌∙◌, subst, arith}
use Rattle.std.specs.Prelude.{flat_map}
use Rattle.std.specs.Str.{chars, IsUtf8}
use Rattle.std.specs.Str.Lossy.{utf8_valid_len}
use Rattle.std.proofs.lemmas.Str.{utf8_valid_len-IsUtf8}
use Rattle.std.proofs.lemmas.Bool.Decides.{nat_tests}
use Rattle.wsn_io.specs.Stops.{IsWrittenOrStops}
use Rattle.wsn_print.specs.EscapedText.{comment_character, comment_byte, comment_text}
use Rattle.wsn_print.proofs.quoted.put_comment_text.Goals as goal

same : (n m : ℕ) → n ≡ m → (n == m) ≡ true
same n m is = grind (arith, nat_tests)

less : (n m : ℕ) → n < m → (n == m) ≡ false
less n m is = grind (arith, nat_tests)

of_text : (text : List ℕ) → IsUtf8 text → flat_map comment_character (chars text) ≡ comment_text text
of_text text utf8 =
    sym (ap (λ (b : Bool). if b then flat_map comment_character (chars text) else flat_map comment_byte text) (same (utf8_valid_len text) (length text) (utf8_valid_len-IsUtf8 text utf8)))

of_bytes : (text : List ℕ) → utf8_valid_len text < length text → flat_map comment_byte text ≡ comment_text text
of_bytes text short =
    sym (ap (λ (b : Bool). if b then flat_map comment_character (chars text) else flat_map comment_byte text) (less (utf8_valid_len text) (length text) short))

pub returns-in-Ok : goal.returns-in-Ok
returns-in-Ok g c =
    let text = ap (λ (t : List ℕ). flat_map comment_character (chars t)) c.in-Ok.ensures.cases.0 ∙ of_text c.args.text.now c.in-Ok.ensures.cases.1 in
    subst (λ (t : List ℕ). IsWrittenOrStops c.args.to.now c.put_comment_characters.new.to t c.put_comment_characters.result) text c.put_comment_characters.ensures

pub returns-in-Err : goal.returns-in-Err
returns-in-Err g c =
    let short : utf8_valid_len c.args.text.now < length c.args.text.now = subst (λ (n : ℕ). n < length c.args.text.now) c.in-Err.ensures.valid_len c.in-Err.ensures.cases.1.short in
    subst (λ (t : List ℕ). IsWrittenOrStops c.args.to.now c.put_comment_bytes.new.to t c.put_comment_bytes.result) (of_bytes c.args.text.now short) c.put_comment_bytes.ensures
