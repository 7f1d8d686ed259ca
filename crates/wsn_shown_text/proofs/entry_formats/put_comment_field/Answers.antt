use Rattle.std.proofs.Common.{◌≡◌, ℕ, ◌==◌, ◌<◌, Bool, true, false, if◌then◌else◌, List, length, codes, ap, sym, subst, arith, rules}
use Rattle.std.specs.Str.{IsUtf8}
use Rattle.std.specs.Str.Lossy.{utf8_valid_len}
use Rattle.std.proofs.lemmas.Str.{utf8_valid_len-IsUtf8}
use Rattle.std.proofs.lemmas.Bool.Decides.{nat_tests}
use Rattle.wsn_io.specs.Stops.{IsWrittenOrStops}
use Rattle.wsn_print.specs.Json.{field}
use Rattle.wsn_print.specs.EscapedText.{quoted}
use Rattle.wsn_shown_text.specs.ShownObjects.{hex_field, comment_field}
use Rattle.wsn_shown_text.proofs.entry_formats.put_comment_field.Goals as goal

same : (n m : ℕ) → n ≡ m → (n == m) ≡ true
same n m is = grind (arith, nat_tests)

less : (n m : ℕ) → n < m → (n == m) ≡ false
less n m is = grind (arith, nat_tests)

of_text : (text : List ℕ) → IsUtf8 text → field (codes "text") (quoted text) ≡ comment_field text
of_text text utf8 =
    sym (ap (λ (b : Bool). if b then field (codes "text") (quoted text) else hex_field text) (same (utf8_valid_len text) (length text) (utf8_valid_len-IsUtf8 text utf8)))

of_bytes : (text : List ℕ) → utf8_valid_len text < length text → hex_field text ≡ comment_field text
of_bytes text short =
    sym (ap (λ (b : Bool). if b then field (codes "text") (quoted text) else hex_field text) (less (utf8_valid_len text) (length text) short))

pub put_text_field-requires : goal.put_text_field-requires
put_text_field-requires g c = search rules

pub put_hex_field-requires : goal.put_hex_field-requires
put_hex_field-requires g c = search rules

pub returns-in-Ok : goal.returns-in-Ok
returns-in-Ok g c =
    let utf8 : IsUtf8 c.args.text.now = c.in-Ok.ensures.cases.1 in
    subst (λ (t : List ℕ). IsWrittenOrStops c.args.to.now c.put_text_field.new.to t c.put_text_field.result) (of_text c.args.text.now utf8) (c.put_text_field.ensures.text utf8)

pub returns-in-Err : goal.returns-in-Err
returns-in-Err g c =
    let short : utf8_valid_len c.args.text.now < length c.args.text.now = subst (λ (n : ℕ). n < length c.args.text.now) c.in-Err.ensures.valid_len c.in-Err.ensures.cases.1.short in
    subst (λ (t : List ℕ). IsWrittenOrStops c.args.to.now c.put_hex_field.new.to t c.put_hex_field.result) (of_bytes c.args.text.now short) c.put_hex_field.ensures
