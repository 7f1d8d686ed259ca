-- The views of bytes of which a part is held.
use Rattle.std.proofs.Common.{◌≡◌, ◌≢◌, ℕ, suc, zero, ◌+◌, ◌*◌, ◌-◌, ◌<◌, ◌≤◌, inl, inr, Bool, true, false, nat_lt, ◌==◌, ◌&&◌, if◌then◌else◌, List, [], ◌∷◌, ◌++◌, length, take, drop, get_or, refl, sym, ap, ◌∙◌, codes, append_assoc, arith, length-drop}
use Rattle.std.proofs.Math.Seq.{take-length, take-add}
use Rattle.std.proofs.lemmas.List.{length-take, length-take-le, take-take, take-append-drop, drop-drop}
use Rattle.std.proofs.lemmas.Bool.Decides.{nat_tests}
use Rattle.std.proofs.lemmas.Str.{utf8_valid_len_le}
use Rattle.std.specs.Str.Lossy.{utf8_valid_len}
use Rattle.hex.specs.Hex.{encode_with, encode_lower, lower_digits}
use Rattle.wsn_shown_text.specs.Views.{Shown, PayloadView, EndView, view_of_close}
use Rattle.wsn_shown_text.specs.Views.Shown.{Hex, Code, NoCode}
use Rattle.wsn_shown_text.specs.ShownText.{seen_text, view_text, end_text, reason_text}
use Rattle.wsn_print.specs.EscapedText.{quoted}
use Rattle.wsn_print.specs.ShownParts.{text_part, HoldsFirst, HoldsLast}

-- All bytes are held.
pub all_held : (n : ℕ) (all : List ℕ) → HoldsFirst n all all
all_held n all = (sym (take-length all), inr refl)

-- The first bytes of those that are held.
pub take_held : (n : ℕ) (all held : List ℕ) → HoldsFirst n all held → take n held ≡ take n all
take_held n all held (first, inl enough) = ap (take n) first ∙ take-take n (length held) all enough
take_held n all held (first, inr whole) =
    ap (take n) (first ∙ ap (λ (k : ℕ). take k all) whole ∙ take-length all)

-- The last bytes of those that are held.
pub drop_held : (n : ℕ) (all held : List ℕ) → HoldsLast n all held → drop (length held - n) held ≡ drop (length all - n) all
drop_held n all held (last, inl enough) =
    let size : length held ≡ length all - (length all - length held) = ap length last ∙ length-drop (length all - length held) all in
    let sum : (length all - length held) + (length held - n) ≡ length all - n = omega arith in
    ap (drop (length held - n)) last
    ∙ drop-drop (length held - n) (length all - length held) all
    ∙ ap (λ (k : ℕ). drop k all) sum
drop_held n all held (last, inr whole) =
    let none : length all - length held ≡ 0 = omega arith in
    let same : held ≡ all = last ∙ ap (λ (k : ℕ). drop k all) none in
    ap (λ (bytes : List ℕ). drop (length bytes - n) bytes) same

-- What is enough for a view is enough for a shorter one.
pub holds_fewer : (m n : ℕ) (all held : List ℕ) → m ≤ n → HoldsLast n all held → HoldsLast m all held
holds_fewer m n all held less (last, inl enough) = (last, inl (omega (arith, less, enough)))
holds_fewer m n all held less (last, inr whole) = (last, inr whole)

-- The characters of a text that are shown.
pub shown_part : (n : ℕ) (all held : List ℕ) → HoldsFirst n all held → take (utf8_valid_len (take n held)) (take n held) ≡ take (text_part n all) all
shown_part n all held holds =
    let u : ℕ = utf8_valid_len (take n all) in
    let few : utf8_valid_len (take n all) ≤ n = omega (arith, utf8_valid_len_le (take n all), length-take n all) in
    ap (λ (bytes : List ℕ). take (utf8_valid_len bytes) bytes) (take_held n all held holds) ∙ take-take (utf8_valid_len (take n all)) n all few

pub shown_size : (n : ℕ) (all : List ℕ) → length (take (text_part n all) all) ≡ text_part n all
shown_size n all =
    let few : utf8_valid_len (take n all) ≤ length all = omega (arith, utf8_valid_len_le (take n all), length-take n all) in
    length-take-le (utf8_valid_len (take n all)) all few

-- A view of this.
abbrev pub as_view : Shown → Bool → PayloadView
as_view shown more = record { shown = shown; more = more }

-- The first characters of a text.
pub characters_view : (f : List ℕ → Shown) (most size : ℕ) (all shown : List ℕ) → size ≡ length all → shown ≡ take (text_part most all) all
    → as_view (f shown) (nat_lt (length shown) size) ≡ as_view (f (take (text_part most all) all)) (nat_lt (text_part most all) (length all))
characters_view f most size all shown is_size is =
    ap (λ (bytes : List ℕ). as_view (f bytes) (nat_lt (length bytes) size)) is
    ∙ ap (λ (k : ℕ). as_view (f (take (text_part most all) all)) (nat_lt k size)) (shown_size most all)
    ∙ ap (λ (k : ℕ). as_view (f (take (text_part most all) all)) (nat_lt (text_part most all) k)) is_size

-- The first bytes.
pub bytes_view : (most size : ℕ) (all held front : List ℕ) → size ≡ length all → HoldsFirst most all held → front ≡ take most held
    → as_view (Hex front) (nat_lt most size) ≡ as_view (Hex (take most all)) (nat_lt most (length all))
bytes_view most size all held front is_size holds is =
    ap (λ (bytes : List ℕ). as_view (Hex bytes) (nat_lt most size)) (is ∙ take_held most all held holds)
    ∙ ap (λ (k : ℕ). as_view (Hex (take most all)) (nat_lt most k)) is_size

-- The last bytes.
abbrev pub as_end : List ℕ → Bool → EndView
as_end bytes more = record { bytes = bytes; more = more }

pub last_view : (most size : ℕ) (all held last : List ℕ) → size ≡ length all → HoldsLast most all held → last ≡ drop (length held - most) held
    → as_end last (nat_lt most size) ≡ as_end (drop (length all - most) all) (nat_lt most (length all))
last_view most size all held last is_size holds is =
    ap (λ (bytes : List ℕ). as_end bytes (nat_lt most size)) (is ∙ drop_held most all held holds)
    ∙ ap (λ (k : ℕ). as_end (drop (length all - most) all) (nat_lt most k)) is_size

-- The quoted reason of a Close.
pub reason_is : (reason : List ℕ) → (length reason == 0) ≡ false → codes " " ++ quoted reason ≡ reason_text reason
reason_is [] some = cc
reason_is (b ∷ reason) some = refl

-- ---- hexadecimal

pub encode_append : (t xs ys : List ℕ) → encode_with t (xs ++ ys) ≡ encode_with t xs ++ encode_with t ys
unfolding encode_with
encode_append t [] ys = refl
encode_append t (x ∷ xs) ys = simp (encode_append t xs ys)

take_taken : (n : ℕ) (xs : List ℕ) → take (length (take n xs)) xs ≡ take n xs
take_taken zero xs = refl
take_taken (suc n) [] = refl
take_taken (suc n) (x ∷ xs) = ap (λ (ys : List ℕ). x ∷ ys) (take_taken n xs)

-- The digits of the bytes so far, and of the next ones.
pub more_digits : (bytes next : List ℕ) (done n : ℕ) → next ≡ take n (drop done bytes) → encode_lower (take (done + length next) bytes) ≡ encode_lower (take done bytes) ++ encode_lower next
more_digits bytes next done n is =
    let rest : take (length next) (drop done bytes) ≡ next =
    ap (λ (ys : List ℕ). take (length ys) (drop done bytes)) is ∙ take_taken n (drop done bytes) ∙ sym is in
    ap encode_lower (take-add done (length next) bytes ∙ ap (λ (ys : List ℕ). take done bytes ++ ys) rest)
    ∙ encode_append lower_digits (take done bytes) next

-- The digits of the bytes so far, of the next ones, and of the others.
pub all_digits : (bytes next : List ℕ) (done n : ℕ) → next ≡ take n (drop done bytes)
    → encode_lower (take done bytes) ++ (encode_lower next ++ encode_lower (drop (done + length next) bytes)) ≡ encode_lower bytes
all_digits bytes next done n is =
    sym (append_assoc (encode_lower (take done bytes)) (encode_lower next) (encode_lower (drop (done + length next) bytes)))
    ∙ ap (λ (ys : List ℕ). ys ++ encode_lower (drop (done + length next) bytes)) (sym (more_digits bytes next done n is))
    ∙ sym (encode_append lower_digits (take (done + length next) bytes) (drop (done + length next) bytes))
    ∙ ap encode_lower (take-append-drop (done + length next) bytes)

pub not_zero : (n : ℕ) → n ≢ 0 → (n == 0) ≡ false
not_zero n some = grind (arith, nat_tests)

-- A view of 0 bytes of what isn't empty, and any other.
pub hidden : (n : ℕ) (view : PayloadView) → (n == 0 && view.more) ≡ true → codes "-" ≡ view_text n view
hidden n view test = sym (ap (λ (b : Bool). if b then codes "-" else seen_text view) test)

pub seen : (n : ℕ) (view : PayloadView) → (n == 0 && view.more) ≡ false → seen_text view ≡ view_text n view
seen n view test = sym (ap (λ (b : Bool). if b then codes "-" else seen_text view) test)

pub no_end : (n : ℕ) (end : EndView) → n ≡ 0 → codes "-" ≡ end_text n end
no_end n end none = ap (λ (k : ℕ). end_text k end) (sym none)

pub end_is : (n : ℕ) (end : EndView) → n ≢ 0 → (if end.more then codes ".." else []) ++ encode_lower end.bytes ≡ end_text n end
end_is n end some =
    sym (ap (λ (b : Bool). if b then codes "-" else ((if end.more then codes ".." else []) ++ encode_lower end.bytes)) (not_zero n some))

pub code_is : (n : ℕ) (body : List ℕ) → n ≢ 0 → 2 ≤ length body
    → as_view (Code (get_or body 0 0 * 256 + get_or body 1 0) (drop 2 body)) false ≡ view_of_close n body
code_is n [] some two = absurd (omega arith)
code_is n (high ∷ []) some two = absurd (omega arith)
code_is n (high ∷ low ∷ reason) some two =
    sym (ap (λ (b : Bool). if b then as_view NoCode true else as_view (Code (high * 256 + low) reason) false) (not_zero n some))

pub code_unseen : (n : ℕ) (body : List ℕ) → n ≡ 0 → 2 ≤ length body → as_view NoCode true ≡ view_of_close n body
code_unseen n [] none two = absurd (omega arith)
code_unseen n (high ∷ []) none two = absurd (omega arith)
code_unseen n (high ∷ low ∷ reason) none two = ap (λ (k : ℕ). view_of_close k (high ∷ low ∷ reason)) (sym none)

pub no_code : (n : ℕ) (body : List ℕ) → length body < 2 → as_view NoCode false ≡ view_of_close n body
no_code n [] short = refl
no_code n (high ∷ []) short = refl
no_code n (high ∷ low ∷ reason) short = absurd (omega arith)
