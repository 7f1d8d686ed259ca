-- Text that is read by blocks, after zeros.
use Rattle.std.proofs.Common.{◌≡◌, ℕ, ◌-◌, ◌<◌, List, [], ◌∷◌, ◌++◌, length, set, take, drop, replicate, ◌∙◌, ap, append_assoc, append-nil, arith}
use Rattle.std.proofs.lemmas.List.{take-replicate, length-drop, length-set, drop_all}
use Rattle.std.proofs.lemmas.Simd.{length-replicate}
use Rattle.std.proofs.lemmas.Grind.{take-set_at}
use Rattle.std.specs.Str.{IsUtf8}
use Rattle.simdutf8.proofs.StepsLemmas.{IsUtf8-after_ascii, IsAscii-replicate}
use Rattle.wsn_text.specs.Utf8.{IsText}
use Rattle.wsn_text.proofs.Scalars.{text_is_utf8}

pub text_after_zeros : (n : ℕ) (bytes : List ℕ) → IsUtf8 (replicate n 0 ++ bytes) → IsText bytes
text_after_zeros n bytes utf8 = (text_is_utf8 bytes).1 ((IsUtf8-after_ascii (replicate n 0) bytes (IsAscii-replicate n 0 (omega arith))).0 utf8)

-- A byte and the bytes after it, put at the end of a block of zeros.
pub filled : (first : ℕ) (bytes : List ℕ) (block : List ℕ) → length bytes < 64 → block ≡ set (replicate 64 0) (64 - length bytes - 1) first
    → take (64 - length bytes) block ++ (bytes ++ drop (64 - (64 - length bytes)) (drop (64 - length bytes) block)) ≡ replicate (63 - length bytes) 0 ++ (first ∷ bytes)
filled first bytes block short is =
    let at = 64 - length bytes in
    let zeros : List ℕ = replicate 64 0 in
    let all : length zeros ≡ 64 = length-replicate {A = ℕ} 64 0 in
    let size : length block ≡ 64 = ap length is ∙ length-set zeros (at - 1) first ∙ all in
    let behind : drop (64 - at) (drop at block) ≡ [] = drop_all (64 - at) (drop at block) (omega (arith, length-drop at block, size)) in
    let count : at - 1 ≡ 63 - length bytes = omega arith in
    let before : take (at - 1) zeros ≡ replicate (63 - length bytes) 0 = take-replicate {X = ℕ} (at - 1) 64 0 (omega arith) ∙ ap (λ (n : ℕ). replicate {A = ℕ} n 0) count in
    let front : take at block ≡ replicate (63 - length bytes) 0 ++ (first ∷ []) =
    ap (take at) is ∙ take-set_at zeros (at - 1) at first (omega arith) (omega (arith, all)) ∙ ap (λ (z : List ℕ). z ++ (first ∷ [])) before in
    let joined : (replicate (63 - length bytes) 0 ++ (first ∷ [])) ++ bytes ≡ replicate (63 - length bytes) 0 ++ (first ∷ bytes) = append_assoc (replicate {A = ℕ} (63 - length bytes) 0) (first ∷ []) bytes in
    rw (front, behind, append-nil) joined
