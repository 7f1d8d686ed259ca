-- Pairs of digits that are decoded one after another, without an early exit.
use Rattle.std.proofs.Common.{◌≡◌, ℕ, ◌+◌, ◌*◌, ◌<◌, ◌≤◌, ◌&&◌, Bool, true, false, List, length, take, drop, slice_index, slice_set, Option, Some, is_some, unwrap_or, Result, Ok, Err, sym, ◌∙◌, arith}
use Rattle.std.specs.Prelude.{MatchBool}
use Rattle.hex.specs.Hex.{decode_of, decode_pairs, digit_or_error, hex_digit_value, is_hex_digit, pair_value, ◌>>=◌}
use Rattle.hex.specs.declared.error.FromHexError.{FromHexError}
use Rattle.hex.proofs.Pairs.{prepend, decode_step, decode_err, decode_done}
use Rattle.wsn_capture.specs.LineEntries.{HasNoHex}

-- The first `i` pairs are digits and their bytes are decoded, or one of the digits isn't valid.
abbrev pub AreDecoded : Bool → List ℕ → List ℕ → ℕ → Type 0
AreDecoded true digits bytes i =
    decode_pairs 0 digits ≡ prepend (take i bytes) (decode_pairs (2 * i) (drop (2 * i) digits))
AreDecoded false digits bytes i = (e : FromHexError) × (decode_pairs 0 digits ≡ Err e)

-- the byte of two digits, by their values
abbrev pub pair_of : ℕ → ℕ → ℕ → Option ℕ → Option ℕ → Result ℕ FromHexError
pair_of high low i h l = digit_or_error high i h >>= (λ v. digit_or_error low (i + 1) l >>= (λ w. Ok (v * 16 + w)))

by_values : (h l : Option ℕ) (digits bytes : List ℕ) (i : ℕ) → 2 * i + 1 < length digits → i < length bytes
    → pair_value (slice_index digits (2 * i)) (slice_index digits (2 * i + 1)) (2 * i) ≡ pair_of (slice_index digits (2 * i)) (slice_index digits (2 * i + 1)) (2 * i) h l
    → AreDecoded true digits bytes i
    → AreDecoded (is_some h && is_some l) digits (slice_set bytes i (unwrap_or h 0 * 16 + unwrap_or l 0)) (i + 1)
by_values (Some v) (Some w) digits bytes i fits room is so_far = decode_step digits bytes i (v * 16 + w) fits room is so_far
by_values _ _ digits bytes i fits room is so_far = (_, decode_err digits bytes i _ fits is so_far)

-- one more pair
pub decoded_more : (valid : Bool) (digits bytes : List ℕ) (i : ℕ) → 2 * i + 1 < length digits → i < length bytes
    → AreDecoded valid digits bytes i
    → AreDecoded (valid && is_hex_digit (slice_index digits (2 * i)) && is_hex_digit (slice_index digits (2 * i + 1))) digits
    (slice_set bytes i (unwrap_or (hex_digit_value (slice_index digits (2 * i))) 0 * 16 + unwrap_or (hex_digit_value (slice_index digits (2 * i + 1))) 0)) (i + 1)
decoded_more valid digits bytes i fits room so_far = grind (arith, by_values)

-- one more pair, by what the code found of its digits
pub decoded_step : (valid : Bool) (digits bytes : List ℕ) (i : ℕ) (a b : Bool) (v w : ℕ) → 2 * i + 1 < length digits → i < length bytes
    → a ≡ is_hex_digit (slice_index digits (2 * i)) → b ≡ is_hex_digit (slice_index digits (2 * i + 1))
    → v ≡ unwrap_or (hex_digit_value (slice_index digits (2 * i))) 0 → w ≡ unwrap_or (hex_digit_value (slice_index digits (2 * i + 1))) 0
    → AreDecoded valid digits bytes i
    → AreDecoded (valid && a && b) digits (slice_set bytes i (v * 16 + w)) (i + 1)
decoded_step valid digits bytes i a b v w fits room is_a is_b is_v is_w so_far = grind (arith, decoded_more)

even : (digits : List ℕ) (n : ℕ) → length digits ≡ 2 * n → decode_of digits ≡ decode_pairs 0 digits
even digits n size = grind (arith)

no_hex : (digits : List ℕ) (e : FromHexError) → decode_of digits ≡ Err e → HasNoHex digits
no_hex digits e is bytes hex = let both : Ok bytes ≡ Err e = sym hex.1 ∙ is in cc

-- all pairs
pub decoded_all : (valid : Bool) (digits bytes : List ℕ) (i : ℕ) → length digits ≡ 2 * length bytes → length bytes ≤ i
    → AreDecoded valid digits bytes i → MatchBool valid (decode_of digits ≡ Ok bytes) (HasNoHex digits)
decoded_all valid digits bytes i size all so_far = grind (arith, even, decode_done, no_hex)
