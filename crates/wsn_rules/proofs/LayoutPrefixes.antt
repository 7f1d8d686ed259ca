-- Bytes begin with a complete layout, or end inside a frame.
use Rattle.std.proofs.Common.{◌≡◌, ◌≢◌, ℕ, zero, suc, ◌+◌, ◌-◌, ◌<◌, List, [], ◌∷◌, ◌++◌, ◌⊎◌, length, take, drop, refl, sym, ap, ◌∙◌, subst, inl, inr, append_assoc, arith}
use Rattle.wsn_text.proofs.Numbers.{less_or_not}
use Rattle.std.proofs.lemmas.List.{take-append-drop, length-take-le, length-append}
use Rattle.wsn_wire.specs.Frame.{IsBytes}
use Rattle.wsn_wire.specs.ReceivedHead.{HasLayout, len_form_at, length_count, encoded_length, key_count}
use Rattle.wsn_wire.proofs.FrameLemmas.{IsBytes-append, IsBytes-left}
use Rattle.wsn_rules.specs.Verdict.{EndsWithinFrame}
use Rattle.wsn_rules.proofs.Prefixes.{nil-cons, nil-parts}

pub zeros : ℕ → List ℕ
zeros zero = []
zeros (suc n) = 0 ∷ zeros n

pub length-zeros : (n : ℕ) → length (zeros n) ≡ n
unfolding zeros
length-zeros zero = refl
length-zeros (suc n) = ap suc (length-zeros n)

pub zeros_bytes : (n : ℕ) → IsBytes (zeros n)
unfolding zeros
zeros_bytes zero = tt
zeros_bytes (suc n) = (omega arith, zeros_bytes n)

-- The bytes begin with n bytes, or fewer than n have come.
pub record Front (n : ℕ) (bytes : List ℕ) : Type 0 where
  pub front : List ℕ
  pub following : List ℕ
  pub whole : bytes ≡ front ++ following
  pub count : length front ≡ n

pub record Missing (n : ℕ) (bytes : List ℕ) : Type 0 where
  pub missing : List ℕ
  pub some : missing ≢ []
  pub in_bytes : IsBytes missing
  pub count : length (bytes ++ missing) ≡ n

unfoldable pub front_or_missing : (n : ℕ) (bytes : List ℕ) → Front n bytes ⊎ Missing n bytes
front_or_missing n bytes =
    elim (less_or_not (length bytes) n) [
      | inr long ↦ inl (record { front = take n bytes; following = drop n bytes; whole = sym (take-append-drop n bytes); count = length-take-le n bytes long })
      | inl short ↦ inr (record {
        missing = zeros (n - length bytes);
        some = λ none. no_zeros (n - length bytes) (omega arith) (ap (λ (bs : List ℕ). length bs) none);
        in_bytes = zeros_bytes (n - length bytes);
        count = length-append bytes (zeros (n - length bytes)) ∙ ap (λ (m : ℕ). length bytes + m) (length-zeros (n - length bytes)) ∙ filled (length bytes) short;
      })
    ]
  where
    no_zeros : (m : ℕ) → 0 < m → length (zeros m) ≡ 0 → ⊥
    no_zeros m some none = omega (arith, length-zeros m)

    filled : (k : ℕ) → k < n → k + (n - k) ≡ n
    filled k less = omega arith

-- The bytes begin with a complete layout.
pub record BeginsWithLayout (rest : List ℕ) : Type 0 where
  pub bytes : List ℕ
  pub following : List ℕ
  pub whole : rest ≡ bytes ++ following
  pub layout : HasLayout bytes
  pub some : 0 < length bytes

pub some_left : (xs ys : List ℕ) → xs ≢ [] → xs ++ ys ≢ []
some_left xs ys some none = some (nil-parts xs ys (sym none)).0

unfoldable pub layout_of : (first second : ℕ) (len key payload : List ℕ) (bytes : List ℕ) → bytes ≡ first ∷ second ∷ (len ++ (key ++ payload)) → IsBytes bytes →
    length len ≡ length_count (len_form_at second) → length key ≡ key_count second → length payload ≡ encoded_length (len_form_at second) len → HasLayout bytes
layout_of first second len key payload bytes whole in_bytes len_count key_counted payload_count = record {
  first = first;
  second = second;
  len = len;
  key = key;
  payload = payload;
  whole = whole;
  in_bytes = in_bytes;
  len_count = len_count;
  key_counted = key_counted;
  payload_count = payload_count;
}

unfoldable pub layout_or_within : (rest : List ℕ) → IsBytes rest → BeginsWithLayout rest ⊎ EndsWithinFrame rest
layout_or_within [] all = inr (0 ∷ 0 ∷ [], (λ e. nil-cons 0 (0 ∷ []) (sym e)), layout_of 0 0 [] [] [] (0 ∷ 0 ∷ []) refl (omega arith, (omega arith, tt)) refl refl refl)
layout_or_within (first ∷ []) all = inr (0 ∷ [], (λ e. nil-cons 0 [] (sym e)), layout_of first 0 [] [] [] (first ∷ 0 ∷ []) refl (all.0, (omega arith, tt)) refl refl refl)
layout_or_within (first ∷ second ∷ rest) all =
    elim (front_or_missing (length_count (len_form_at second)) rest) [
      | inr m ↦
          let key = zeros (key_count second) in
          let len = rest ++ m.missing in
          let payload = zeros (encoded_length (len_form_at second) (rest ++ m.missing)) in
          let added = m.missing ++ (zeros (key_count second) ++ zeros (encoded_length (len_form_at second) (rest ++ m.missing))) in
          inr (
            added,
            some_left m.missing (zeros (key_count second) ++ zeros (encoded_length (len_form_at second) (rest ++ m.missing))) m.some,
            layout_of first second (rest ++ m.missing) (zeros (key_count second)) (zeros (encoded_length (len_form_at second) (rest ++ m.missing))) (first ∷ second ∷ (rest ++ added))
                (ap (λ (bs : List ℕ). first ∷ second ∷ bs) (sym (append_assoc rest m.missing (zeros (key_count second) ++ zeros (encoded_length (len_form_at second) (rest ++ m.missing))))))
                (all.0, (all.1.0, IsBytes-append rest added all.1.1 (IsBytes-append m.missing _ m.in_bytes (IsBytes-append _ _ (zeros_bytes (key_count second)) (zeros_bytes (encoded_length (len_form_at second) (rest ++ m.missing)))))))
                m.count (length-zeros (key_count second)) (length-zeros (encoded_length (len_form_at second) (rest ++ m.missing))),
          )
      | inl p ↦ after_length p.front p.following p.whole p.count
    ]
  where
    after_length : (len following : List ℕ) → rest ≡ len ++ following → length len ≡ length_count (len_form_at second) → BeginsWithLayout (first ∷ second ∷ rest) ⊎ EndsWithinFrame (first ∷ second ∷ rest)
    after_length len following is len_count =
        elim (front_or_missing (key_count second) following) [
          | inr m ↦
              let payload = zeros (encoded_length (len_form_at second) len) in
              let added = m.missing ++ zeros (encoded_length (len_form_at second) len) in
              let joined : rest ++ added ≡ len ++ ((following ++ m.missing) ++ zeros (encoded_length (len_form_at second) len)) =
              ap (λ (bs : List ℕ). bs ++ added) is ∙ append_assoc len following added ∙ ap (λ (bs : List ℕ). len ++ bs) (sym (append_assoc following m.missing (zeros (encoded_length (len_form_at second) len)))) in
              inr (
                added,
                some_left m.missing (zeros (encoded_length (len_form_at second) len)) m.some,
                layout_of first second len (following ++ m.missing) (zeros (encoded_length (len_form_at second) len)) (first ∷ second ∷ (rest ++ added))
                    (ap (λ (bs : List ℕ). first ∷ second ∷ bs) joined)
                    (all.0, (all.1.0, IsBytes-append rest added all.1.1 (IsBytes-append m.missing _ m.in_bytes (zeros_bytes (encoded_length (len_form_at second) len)))))
                    len_count m.count (length-zeros (encoded_length (len_form_at second) len)),
              )
          | inl p ↦ after_key len p.front p.following (is ∙ ap (λ (bs : List ℕ). len ++ bs) p.whole) len_count p.count
        ]
      where
        after_key : (len key following : List ℕ) → rest ≡ len ++ (key ++ following) → length len ≡ length_count (len_form_at second) → length key ≡ key_count second → BeginsWithLayout (first ∷ second ∷ rest) ⊎ EndsWithinFrame (first ∷ second ∷ rest)
        after_key len key following is len_count key_counted =
            elim (front_or_missing (encoded_length (len_form_at second) len) following) [
              | inr m ↦
                  let joined : rest ++ m.missing ≡ len ++ (key ++ (following ++ m.missing)) =
                  ap (λ (bs : List ℕ). bs ++ m.missing) is ∙ append_assoc len (key ++ following) m.missing ∙ ap (λ (bs : List ℕ). len ++ bs) (append_assoc key following m.missing) in
                  inr (
                    m.missing,
                    m.some,
                    layout_of first second len key (following ++ m.missing) (first ∷ second ∷ (rest ++ m.missing))
                        (ap (λ (bs : List ℕ). first ∷ second ∷ bs) joined)
                        (all.0, (all.1.0, IsBytes-append rest m.missing all.1.1 m.in_bytes))
                        len_count key_counted m.count,
                  )
              | inl p ↦
                  let parted : rest ≡ (len ++ (key ++ p.front)) ++ p.following =
                  is ∙ ap (λ (bs : List ℕ). len ++ (key ++ bs)) p.whole ∙ ap (λ (bs : List ℕ). len ++ bs) (sym (append_assoc key p.front p.following)) ∙ sym (append_assoc len (key ++ p.front) p.following) in
                  inl (record {
                    bytes = first ∷ second ∷ (len ++ (key ++ p.front));
                    following = p.following;
                    whole = ap (λ (bs : List ℕ). first ∷ second ∷ bs) parted;
                    layout = layout_of first second len key p.front (first ∷ second ∷ (len ++ (key ++ p.front))) refl
                        (all.0, (all.1.0, IsBytes-left (len ++ (key ++ p.front)) p.following (subst IsBytes parted all.1.1)))
                        len_count key_counted p.count;
                    some = omega arith;
                  })
            ]
