-- A part of a payload, replaced.
use Rattle.std.proofs.Common.{◌≡◌, ℕ, ◌+◌, ◌-◌, ◌≤◌, ◌⊎◌, Bool, true, false, List, [], ◌∷◌, ◌++◌, length, take, drop, if◌then◌else◌, inl, inr, refl, sym, ap, ◌∙◌, append-nil, append_assoc, length-append, arith, get_or}
use Rattle.std.specs.Prelude.{Result, Ok, Err, IsOk, ◌↔◌}
use Rattle.std.specs.Result.{is_err}
use Rattle.std.proofs.lemmas.Bool.{cases_lt}
use Rattle.std.proofs.lemmas.List.{take_all, drop_all, take-append-le, drop-append-le, take-append-drop, get_or_at}
use Rattle.wsn_wire.specs.declared.opcode.Op.{Op}
use Rattle.wsn_wire.specs.declared.opcode.Op.TheVariants.{Close, Ping, Pong}
use Rattle.wsn_redact.specs.StandIns.{single_stand_in, stood, due_after, due_at}
use Rattle.std.specs.List.{slice_index}
use Rattle.wsn_redact.specs.Redaction.{zeros_for}
use Rattle.wsn_redact.specs.RedactedParts.{replaced}
use Rattle.wsn_redact.proofs.StoodTexts.{stood-append, length-stood}
use Rattle.wsn_redact.proofs.RedactedPayloads.{length-zeros, zeros-append, length_of}

-- A result that is no error.
pub err_or_ok : {T E : Type 0} (result : Result T E) (bad : Bool) (P : Type 0) → bad ≡ is_err result → (IsOk result ↔ P) → (bad ≡ false ↔ P)
err_or_ok (Ok x) bad P is ok = (λ good. ok.0 refl, λ p. is)
err_or_ok (Err e) bad P is ok = (λ good. let both : false ≡ true = sym good ∙ is in absurd cc, λ p. let both : false ≡ true = ok.1 p in absurd cc)

-- As many bytes as are wanted, or all.
pub split_at_count : (n k : ℕ) (bytes : List ℕ) → (n ≡ k) ⊎ ((n ≡ length bytes) × (length bytes ≤ k)) → (take n bytes ≡ take k bytes) × (drop n bytes ≡ drop k bytes)
split_at_count n k bytes (inl same) = (ap (λ (m : ℕ). take m bytes) same, ap (λ (m : ℕ). drop m bytes) same)
split_at_count n k bytes (inr all) =
    let size = all.0 in
    let few = all.1 in (
      take_all n bytes (omega (arith, size)) ∙ sym (take_all k bytes few),
      drop_all n bytes (omega (arith, size)) ∙ sym (drop_all k bytes few),
    )

pub length-replaced : (op : Op) (text : Bool) (due : List ℕ) (done : ℕ) (payload : List ℕ) → length (replaced op text due done payload) ≡ length payload
length-replaced Close text due done payload =
    length-append (take (2 - done) payload) (stood due (drop (2 - done) payload)) ∙ ap (λ (n : ℕ). length (take (2 - done) payload) + n) (length-stood due (drop (2 - done) payload))
    ∙ sym (length-append (take (2 - done) payload) (drop (2 - done) payload)) ∙ ap (λ (bs : List ℕ). length bs) (take-append-drop (2 - done) payload)
length-replaced Ping text due done payload = length-zeros payload
length-replaced Pong text due done payload = length-zeros payload
length-replaced _ text due done payload = length_of text (stood due payload) (zeros_for payload) (length payload) (length-stood due payload) (length-zeros payload)

-- With one byte more.
record IsPushed (front all : List ℕ) : Type 0 where
  last : ℕ
  is : all ≡ front ++ last ∷ []

data_push : (text : Bool) (due front : List ℕ) (b : ℕ) → IsPushed (if text then stood due front else zeros_for front) (if text then stood due (front ++ b ∷ []) else zeros_for (front ++ b ∷ []))
data_push true due front b = record { last = slice_index (due_at (due_after due front) b) 0; is = stood-append due front (b ∷ []) }
data_push false due front b = record { last = 0; is = zeros-append front (b ∷ []) }

body_push : (due front : List ℕ) (k b : ℕ) → IsPushed (take k front ++ stood due (drop k front)) (take k (front ++ b ∷ []) ++ stood due (drop k (front ++ b ∷ [])))
body_push due front k b =
    elim (cases_lt (length front) k) [
      | inl short ↦
          let all : take k (front ++ b ∷ []) ≡ front ++ b ∷ [] = take_all k (front ++ b ∷ []) (omega (arith, short, length-append front (b ∷ []))) in
          let none : drop k (front ++ b ∷ []) ≡ [] = drop_all k (front ++ b ∷ []) (omega (arith, short, length-append front (b ∷ []))) in
          let own : take k front ≡ front = take_all k front (omega (arith, short)) in
          let own_none : drop k front ≡ [] = drop_all k front (omega (arith, short)) in
          record {
            last = b;
            is = (λ i. all i ++ stood due (none i)) ∙ append-nil (front ++ b ∷ []) ∙ ap (λ (bs : List ℕ). bs ++ b ∷ []) (sym ((λ i. own i ++ stood due (own_none i)) ∙ append-nil front));
          }
      | inr long ↦
          let first : take k (front ++ b ∷ []) ≡ take k front = take-append-le k front (b ∷ []) long in
          let rest : drop k (front ++ b ∷ []) ≡ drop k front ++ b ∷ [] = drop-append-le k front (b ∷ []) long in
          let last = slice_index (due_at (due_after due (drop k front)) b) 0 in
          record {
            last = last;
            is = (λ i. first i ++ stood due (rest i)) ∙ ap (λ (bs : List ℕ). take k front ++ bs) (stood-append due (drop k front) (b ∷ [])) ∙ sym (append_assoc (take k front) (stood due (drop k front)) (last ∷ []));
          }
    ]

pub replaced_push : (op : Op) (text : Bool) (due : List ℕ) (done : ℕ) (front : List ℕ) (b : ℕ) → (last : ℕ) × (replaced op text due done (front ++ b ∷ []) ≡ replaced op text due done front ++ last ∷ [])
replaced_push Close text due done front b = let p = body_push due front (2 - done) b in (p.last, p.is)
replaced_push Ping text due done front b = (0, zeros-append front (b ∷ []))
replaced_push Pong text due done front b = (0, zeros-append front (b ∷ []))
replaced_push _ text due done front b = let p = data_push text due front b in (p.last, p.is)

-- The last byte of a part.
pub last_at : (bytes front : List ℕ) (last end : ℕ) → bytes ≡ front ++ last ∷ [] → end + 1 ≡ length bytes → get_or bytes end 0 ≡ last
last_at bytes front last end is at =
    let size = ap (λ (bs : List ℕ). length bs) is in
    let same : length front ≡ end = omega (arith, size, at, length-append front (last ∷ [])) in
    ap (λ (bs : List ℕ). get_or bs end 0) is ∙ get_or_at front last [] 0 end same

-- A part up to an offending byte, which is put in its place if the text goes wrong there.
pub refused : (op : Op) (text : Bool) (due : List ℕ) (done : ℕ) (wrong : Bool) (front : List ℕ) (last x : ℕ) (bytes middle after : List ℕ) → bytes ≡ front ++ last ∷ [] → middle ≡ replaced op text due done bytes → x ≡ last
    → (wrong ≡ true → (f : List ℕ) (b : ℕ) → middle ≡ f ++ b ∷ [] → after ≡ f ++ single_stand_in x ∷ []) → (wrong ≡ false → after ≡ middle)
    → after ≡ (if wrong then replaced op text due done front ++ single_stand_in last ∷ [] else replaced op text due done (front ++ last ∷ []))
refused op text due done true front last x bytes middle after is mid same on_wrong on_right =
    let p = replaced_push op text due done front last in
    on_wrong refl (replaced op text due done front) p.0 (mid ∙ ap (λ (bs : List ℕ). replaced op text due done bs) is ∙ p.1) ∙ ap (λ (b : ℕ). replaced op text due done front ++ single_stand_in b ∷ []) same
refused op text due done false front last x bytes middle after is mid same on_wrong on_right = on_right refl ∙ mid ∙ ap (λ (bs : List ℕ). replaced op text due done bs) is
