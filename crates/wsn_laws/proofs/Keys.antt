-- A key as a string of hexadecimal digits.
use Rattle.std.proofs.Common.{◌≡◌, ℕ, zero, suc, ◌/◌, ◌%◌, ◌<◌, Bool, true, false, ◌&&◌, Option, None, Some, Ok, List, [], ◌∷◌, length, get_or, refl, sym, ap, ◌∙◌, arith}
use Rattle.std.specs.Prelude.{IfSome}
use Rattle.std.proofs.lemmas.Bool.{and_parts}
use Rattle.hex.specs.Hex as hex
use Rattle.hex.specs.Hex.{encode_with, encode_lower, decode_of, lower_digits}
use Rattle.hex.proofs.HexLemmas.{decode_of-encode_lower}
use Rattle.wsn_wire.specs.Frame.{IsBytes}
use Rattle.wsn_print.specs.Objects.{key_value}
use Rattle.wsn_laws.specs.JsonText.{Value, Null, String}
use Rattle.wsn_laws.proofs.Strings.{is_unescaped, are_unescaped}
use Rattle.wsn_laws.proofs.Written.{IsPlainValue}
use Rattle.wsn_laws.proofs.Members.{IsWritten, word_is}

abbrev pub key_json : Option (List ℕ) → Value
key_json None = Null
key_json (Some key) = String (encode_lower key)

pub key_is : (key : Option (List ℕ)) → IsWritten (key_json key) (key_value key)
key_is None = record { is = λ rest. refl }
key_is (Some key) = word_is (encode_lower key)

-- ---- no digit needs an escape

digit_at : (digits : List ℕ) (i : ℕ) → are_unescaped digits ≡ true → i < length digits → is_unescaped (get_or digits i 0) ≡ true
digit_at [] i are small = absurd (omega arith)
digit_at (d ∷ digits) zero are small = (and_parts (is_unescaped d) (are_unescaped digits) are).0
digit_at (d ∷ digits) (suc i) are small = digit_at digits i (and_parts (is_unescaped d) (are_unescaped digits) are).1 (omega arith)

digit : (d : ℕ) → d < 16 → is_unescaped (get_or lower_digits d 0) ≡ true
digit d small = digit_at lower_digits d refl small

both : (a b : Bool) → a ≡ true → b ≡ true → (a && b) ≡ true
both true b is also = also
both false b is also = absurd cc

pub plain_digits : (bytes : List ℕ) → IsBytes bytes → are_unescaped (encode_lower bytes) ≡ true
unfolding encode_with
plain_digits [] are = refl
plain_digits (b ∷ bytes) are =
    let fits : b < 256 = are.0 in
    let low : are_unescaped (get_or lower_digits (b % 16) 0 ∷ encode_lower bytes) ≡ true =
    both (is_unescaped (get_or lower_digits (b % 16) 0)) (are_unescaped (encode_lower bytes)) (digit (b % 16) (omega arith)) (plain_digits bytes are.1) in
    both (is_unescaped (get_or lower_digits (b / 16) 0)) (are_unescaped (get_or lower_digits (b % 16) 0 ∷ encode_lower bytes)) (digit (b / 16) (omega arith)) low

pub key_plain : (key : Option (List ℕ)) → IfSome key IsBytes → IsPlainValue (key_json key)
key_plain None are = tt
key_plain (Some key) are = plain_digits key are

-- ---- the digits determine the bytes

by_place : (bytes : List ℕ) → IsBytes bytes → hex.IsBytes bytes
by_place [] all i = omega arith
by_place (byte ∷ bytes) all zero = all.0
by_place (byte ∷ bytes) all (suc i) = by_place bytes all.1 i

pub one_bytes : (bytes other : List ℕ) → IsBytes bytes → IsBytes other → encode_lower bytes ≡ encode_lower other → bytes ≡ other
one_bytes bytes other are also same =
    let read : Ok bytes ≡ Ok other =
    sym (decode_of-encode_lower bytes (by_place bytes are)) ∙ ap decode_of same ∙ decode_of-encode_lower other (by_place other also) in
    cc

pub one_key : (key other : Option (List ℕ)) → IfSome key IsBytes → IfSome other IsBytes → key_json key ≡ key_json other → key ≡ other
one_key None None are also same = refl
one_key None (Some other) are also same = absurd cc
one_key (Some key) None are also same = absurd cc
one_key (Some key) (Some other) are also same =
    let digits : encode_lower key ≡ encode_lower other = cc in
    ap Some (one_bytes key other are also digits)
