-- The first faults of lines that are written out.
use Rattle.std.proofs.Common.{◌≡◌, ◌≢◌, ℕ, ◌+◌, ◌<◌, ◌≤◌, false, true, Result, Ok, Err, List, ◌∷◌, ◌++◌, length, inl, sym, ap, ◌∙◌, arith}
use Rattle.hex.specs.Hex.{decode_of}
use Rattle.hex.specs.declared.error.FromHexError.{FromHexError}
use Rattle.wsn_wire.specs.declared.endpoint.Role.{Role}
use Rattle.wsn_rules.specs.Limits.{Limits}
use Rattle.wsn_rules.specs.Entries.{Entry, IsHex, GivesEntry, without_cr, bytes_prefix, end_mark}
use Rattle.wsn_rules.specs.Entries.Entry.{Nothing, Bytes, Mark}
use Rattle.wsn_rules.specs.Sides.{sent, has_ended}
use Rattle.wsn_rules.proofs.Prefixes.{head_same}
use Rattle.wsn_capture.specs.declared.line_fault.LineFault.TheVariants.{TooManyLines, TooLong, BadForm, BadHex, AfterEnd, InputLimit}
use Rattle.wsn_capture.specs.LineFaults.{HasNoForm, IsFirstLineFault, IsAcceptedLine, lines_most, line_most}
use Rattle.wsn_capture.proofs.OneFault.{NoneBefore, none_at_first, none_further, none_at_all, no_side, same_side, nothing_bad, bytes_formed, bytes_taken, mark_formed, mark_taken}

-- a line that begins with neither an endpoint's letter nor # has no form
pub no_form : (b : ℕ) (rest : List ℕ) → b ≢ 35 → b ≢ 67 → b ≢ 83 → HasNoForm (b ∷ rest)
no_form b rest no_comment no_client no_server = grind (arith, no_side, head_same)

-- digits that decode to an error encode no bytes
abbrev pub is_error : Result (List ℕ) FromHexError → Type 0
is_error (Ok bytes) = ⊥
is_error (Err e) = Unit {0}

pub no_hex : (digits : List ℕ) → is_error (decode_of digits) → (bytes : List ℕ) → IsHex digits bytes → ⊥
no_hex digits bad bytes hex = grind arith

module _ (limits : Limits) (given : List Entry) (line : List ℕ) where
  pub first_of_many : lines_most ≤ length given → IsFirstLineFault limits given line TooManyLines
  first_of_many many = record { held = many; first = λ other held. none_at_first limits given (without_cr line) 0 other held (omega arith) }

  after_many : length given < lines_most → NoneBefore limits given (without_cr line) 0 1
  after_many few = grind (arith, none_further, none_at_first)

  pub first_of_long : length given < lines_most → line_most < length (without_cr line) → IsFirstLineFault limits given line TooLong
  first_of_long few long = record { held = long; first = λ other held. after_many few other held (omega arith) }

module _ (limits : Limits) (given : List Entry) (line : List ℕ) (few : length given < lines_most) (short : length (without_cr line) ≤ line_most) where
  after_long : NoneBefore limits given (without_cr line) 0 2
  after_long = none_further limits given (without_cr line) 0 1 (after_many limits given line few) (λ long. omega (arith, short, long))

  pub first_of_form : HasNoForm (without_cr line) → IsFirstLineFault limits given line BadForm
  first_of_form none = record { held = none; first = λ other held. after_long other held (omega arith) }

  pub first_of_hex : (role : Role) (digits : List ℕ) → without_cr line ≡ bytes_prefix role ++ digits → ((bytes : List ℕ) → IsHex digits bytes → ⊥) → IsFirstLineFault limits given line BadHex
  first_of_hex role digits is none = record {
    held = (role, digits, is, none);
    first = λ other held. none_further limits given (without_cr line) 0 2 after_long (λ bad. bad.1 role (inl (digits, is))) other held (omega arith);
  }

  pub first_of_bytes : (role : Role) (digits bytes : List ℕ) → without_cr line ≡ bytes_prefix role ++ digits → IsHex digits bytes → has_ended role given ≡ true → IsFirstLineFault limits given line AfterEnd
  first_of_bytes role digits bytes is hex over = record {
    held = (role, inl (digits, is), over);
    first = λ other held. bytes_formed limits given (without_cr line) 0 role digits bytes is hex after_long other held (omega arith);
  }

  pub first_of_mark : (role : Role) → without_cr line ≡ end_mark role → has_ended role given ≡ true → IsFirstLineFault limits given line AfterEnd
  first_of_mark role is over = grind (arith, mark_formed, after_long)

  pub first_of_limit : (role : Role) (digits bytes : List ℕ) → without_cr line ≡ bytes_prefix role ++ digits → IsHex digits bytes → has_ended role given ≡ false → limits.input < length (sent role given) + length bytes → IsFirstLineFault limits given line InputLimit
  first_of_limit role digits bytes is hex going more = record {
    held = (role, bytes, (digits, is, hex), more);
    first = λ other held. none_further limits given (without_cr line) 0 4
        (bytes_formed limits given (without_cr line) 0 role digits bytes is hex after_long)
        (λ bad. let same = same_side role bad.0 (without_cr line) digits is bad.1 in let both : true ≡ false = sym (ap (λ (r : Role). has_ended r given) same ∙ bad.2) ∙ going in cc)
        other held (omega arith);
  }

  pub takes_nothing : GivesEntry (without_cr line) Nothing → IsAcceptedLine limits given line Nothing
  takes_nothing is = grind (arith, none_at_all, nothing_bad, after_long)

  pub takes_bytes : (role : Role) (digits bytes : List ℕ) → without_cr line ≡ bytes_prefix role ++ digits → IsHex digits bytes → has_ended role given ≡ false → length (sent role given) + length bytes ≤ limits.input → IsAcceptedLine limits given line (Bytes role bytes)
  takes_bytes role digits bytes is hex going room = record {
    gives = (digits, is, hex);
    none = λ fault held.
        let less = none_at_all limits given (without_cr line) 0
        (bytes_taken limits given (without_cr line) 0 role digits bytes is hex (bytes_formed limits given (without_cr line) 0 role digits bytes is hex after_long) going room) fault held in
        omega (arith, less);
  }

  pub takes_mark : (role : Role) → without_cr line ≡ end_mark role → has_ended role given ≡ false → IsAcceptedLine limits given line (Mark role)
  takes_mark role is going = grind (arith, none_at_all, mark_taken, mark_formed, after_long)
