-- Views with which nothing of a payload is left out.
use Rattle.std.proofs.Common.{◌≡◌, ℕ, ◌*◌, ◌+◌, ◌/◌, ◌<◌, ◌≤◌, ◌==◌, nat_lt, true, false, inl, inr, if◌then◌else◌, List, [], ◌∷◌, length, take, refl, ap, ◌∙◌, arith}
use Rattle.std.specs.Str.{IsAscii, IsUtf8}
use Rattle.std.specs.Str.Lossy.{utf8_valid_len}
use Rattle.std.proofs.lemmas.Bool.{cases_Bool, and_parts, le-ltb, cond-true, cond-false}
use Rattle.std.proofs.lemmas.Bool.Decides.{nat_tests}
use Rattle.std.proofs.lemmas.List.{take_all}
use Rattle.std.proofs.lemmas.Str.{IsUtf8-from_ascii, utf8_valid_len-IsUtf8}
use Rattle.std.proofs.lemmas.Str.Ascii.{IsAscii-nil, IsAscii-cons}
use Rattle.wsn_wire.specs.declared.opcode.Op.{Op}
use Rattle.wsn_wire.specs.declared.opcode.Op.TheVariants as ops
use Rattle.wsn_print.specs.EscapedText.{is_from}
use Rattle.wsn_print.specs.ShownParts.{text_part}
use Rattle.wsn_shown_text.specs.Views.{PayloadView, is_printable, view_of_text, view_of_bytes, view_of_body, view_of_close, view_of_control}
use Rattle.wsn_shown_text.specs.Views.Shown.{Text, Hex, Code, NoCode}
use Rattle.wsn_shown_text.proofs.HeldViews.{as_view}

none_more : (a b : ℕ) → b ≤ a → nat_lt a b ≡ false
none_more a b less = le-ltb a b less

pub text_whole : (n : ℕ) (text : List ℕ) → length text ≤ n → IsUtf8 text → view_of_text n text ≡ as_view (Text text) false
text_whole n text few is =
    let part : text_part n text ≡ length text = ap utf8_valid_len (take_all n text few) ∙ utf8_valid_len-IsUtf8 text is in
    ap (λ (k : ℕ). as_view (Text (take k text)) (nat_lt k (length text))) part
    ∙ ap (λ (bs : List ℕ). as_view (Text bs) (nat_lt (length text) (length text))) (take_all (length text) text (omega arith))
    ∙ ap (as_view (Text text)) (none_more (length text) (length text) (omega arith))

pub bytes_whole : (n : ℕ) (bytes : List ℕ) → length bytes ≤ n / 2 → view_of_bytes n bytes ≡ as_view (Hex bytes) false
bytes_whole n bytes few =
    ap (λ (bs : List ℕ). as_view (Hex bs) (nat_lt (n / 2) (length bytes))) (take_all (n / 2) bytes few)
    ∙ ap (as_view (Hex bytes)) (none_more (n / 2) (length bytes) few)

-- ---- controls

below_128 : (b : ℕ) → is_from 0x20 0x7e b ≡ true → b < 128
below_128 b test = grind (arith, nat_tests, test)

ascii_of : (bytes : List ℕ) → is_printable bytes ≡ true → IsAscii bytes
ascii_of [] test = IsAscii-nil
ascii_of (b ∷ bytes) test =
    let parts = and_parts (is_from 0x20 0x7e b) (is_printable bytes) test in
    IsAscii-cons b bytes (below_128 b parts.0) (ascii_of bytes parts.1)

body_whole : (n : ℕ) (body : List ℕ) → length body ≤ n / 2 → (view_of_body n body).more ≡ false
body_whole n body few =
    elim (cases_Bool (is_printable body)) [
      | inl printable ↦
          ap (λ (view : PayloadView). view.more)
          (cond-true (is_printable body) (view_of_text n body) (view_of_bytes n body) printable ∙ text_whole n body (omega (arith, few)) (IsUtf8-from_ascii body (ascii_of body printable)))
      | inr bytes ↦ ap (λ (view : PayloadView). view.more) (cond-false (is_printable body) (view_of_text n body) (view_of_bytes n body) bytes ∙ bytes_whole n body few)
    ]

not_zero : (n : ℕ) → 0 < n → (n == 0) ≡ false
not_zero n some = grind (arith, nat_tests)

close_whole : (n : ℕ) (body : List ℕ) → 0 < n → (view_of_close n body).more ≡ false
close_whole n [] some = refl
close_whole n (high ∷ []) some = refl
close_whole n (high ∷ low ∷ reason) some =
    ap (λ (view : PayloadView). view.more) (cond-false (n == 0) (as_view NoCode true) (as_view (Code (high * 256 + low) reason) false) (not_zero n some))

pub control_whole : (n : ℕ) (op : Op) (body : List ℕ) → 250 ≤ n → length body ≤ 125 → (view_of_control n op body).more ≡ false
control_whole n ops.Close body long few = close_whole n body (omega (arith, long))
control_whole n ops.Continue body long few = body_whole n body (omega (arith, long, few))
control_whole n ops.Text body long few = body_whole n body (omega (arith, long, few))
control_whole n ops.Binary body long few = body_whole n body (omega (arith, long, few))
control_whole n ops.Ping body long few = body_whole n body (omega (arith, long, few))
control_whole n ops.Pong body long few = body_whole n body (omega (arith, long, few))
