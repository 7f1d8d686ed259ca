-- A line's entry or first fault, as a function, is what the definitions of entries and faults say.
use Rattle.std.proofs.Common.{◌≡◌, ◌≢◌, ℕ, ◌+◌, ◌<◌, ◌≤◌, ◌==◌, Bool, true, false, cond, Result, Ok, Err, List, [], ◌∷◌, ◌++◌, length, inl, inr, refl, sym, ap, ◌∙◌, subst, arith}
use Rattle.std.specs.Prelude.{nat_le, nat_lt, ⊤}
use Rattle.std.proofs.lemmas.Bool.{cases_eq}
use Rattle.std.proofs.lemmas.Bool.Decides.{nat_tests}
use Rattle.wsn_wire.specs.declared.endpoint.Role.{Role}
use Rattle.wsn_wire.specs.declared.endpoint.Role.TheVariants.{Client, Server}
use Rattle.wsn_rules.specs.Limits.{Limits}
use Rattle.wsn_rules.specs.Entries.{without_cr, Entry, IsHex, GivesEntry, bytes_prefix, end_mark}
use Rattle.wsn_rules.specs.Entries.Entry.{Nothing, Bytes, Mark}
use Rattle.wsn_rules.specs.Sides.{sent, has_ended}
use Rattle.wsn_capture.specs.declared.line_fault.LineFault.{LineFault}
use Rattle.wsn_capture.specs.declared.line_fault.LineFault.TheVariants.{TooManyLines, TooLong, BadForm, BadHex, AfterEnd, InputLimit}
use Rattle.wsn_capture.specs.declared.lines_before.LinesBefore.{LinesBefore}
use Rattle.wsn_capture.specs.LineFaults.{fault_order, IsOfEndpoint, HasNoForm, HasFault, IsFirstLineFault, IsAcceptedLine, line_most, lines_most}
use Rattle.wsn_capture.specs.LineEntries.{HasNoHex}
use Rattle.wsn_capture.specs.SideTexts.{digits_entry, dot_entry, endpoint_entry, text_entry, ended_before, unless_ended, entry_unless_ended, entry_after, lines_giving}
use Rattle.hex.proofs.HexLemmas.{decode_of-ok}
use Rattle.wsn_rules.proofs.OneEntry.{letter_of, front_is, mark_is}
use Rattle.wsn_capture.proofs.OneFault.{hex_or_not, true_or_false, taken_or_faulty}

-- ---- tests of bytes and numbers

then_eq : {A : Type 0} (b n : ℕ) (x y : A) → b ≡ n → cond (b == n) x y ≡ x
then_eq b n x y is = let test : (b == n) ≡ true = grind (arith, nat_tests) in ap (λ (t : Bool). cond t x y) test

else_eq : {A : Type 0} (b n : ℕ) (x y : A) → b ≢ n → cond (b == n) x y ≡ y
else_eq b n x y other = let test : (b == n) ≡ false = grind (arith, nat_tests) in ap (λ (t : Bool). cond t x y) test

then_le : {A : Type 0} (m n : ℕ) (x y : A) → m ≤ n → cond (nat_le m n) x y ≡ x
then_le m n x y is = let test : nat_le m n ≡ true = grind (arith, nat_tests) in ap (λ (t : Bool). cond t x y) test

else_le : {A : Type 0} (m n : ℕ) (x y : A) → n < m → cond (nat_le m n) x y ≡ y
else_le m n x y is = let test : nat_le m n ≡ false = grind (arith, nat_tests) in ap (λ (t : Bool). cond t x y) test

then_lt : {A : Type 0} (m n : ℕ) (x y : A) → m < n → cond (nat_lt m n) x y ≡ x
then_lt m n x y is = let test : nat_lt m n ≡ true = grind (arith, nat_tests) in ap (λ (t : Bool). cond t x y) test

else_lt : {A : Type 0} (m n : ℕ) (x y : A) → n ≤ m → cond (nat_lt m n) x y ≡ y
else_lt m n x y is = let test : nat_lt m n ≡ false = grind (arith, nat_tests) in ap (λ (t : Bool). cond t x y) test

-- ---- the entry of a text

pub nothing_text : (text : List ℕ) → GivesEntry text Nothing → text_entry text ≡ Ok Nothing
nothing_text text is = grind arith

digits_text : (role : Role) (digits : List ℕ) → text_entry (bytes_prefix role ++ digits) ≡ digits_entry role digits
digits_text role digits = grind arith

pub mark_text : (role : Role) → text_entry (end_mark role) ≡ Ok (Mark role)
mark_text role = grind arith

hex_digits : (role : Role) (digits bytes : List ℕ) → IsHex digits bytes → digits_entry role digits ≡ Ok (Bytes role bytes)
hex_digits role digits bytes is = grind arith

other_digits : (role : Role) (digits : List ℕ) → HasNoHex digits → digits_entry role digits ≡ Err BadHex
other_digits role digits none = grind arith

pub hex_text : (role : Role) (digits bytes : List ℕ) → IsHex digits bytes → text_entry (bytes_prefix role ++ digits) ≡ Ok (Bytes role bytes)
hex_text role digits bytes is = digits_text role digits ∙ hex_digits role digits bytes is

pub no_hex_text : (role : Role) (digits : List ℕ) → HasNoHex digits → text_entry (bytes_prefix role ++ digits) ≡ Err BadHex
no_hex_text role digits none = digits_text role digits ∙ other_digits role digits none

-- what follows an endpoint's letter, if the line has no form
no_endpoint : (role : Role) (rest : List ℕ) → HasNoForm (letter_of role ∷ rest) → endpoint_entry role rest ≡ Err BadForm
no_endpoint role [] none = refl
no_endpoint role (b ∷ rest) none =
    elim (cases_eq b 32) [
      | inl space ↦ absurd (none.1 role (inl (rest, ap (λ (n : ℕ). letter_of role ∷ n ∷ rest) space ∙ sym (front_is role rest))))
      | inr no_space ↦ else_eq b 32 (digits_entry role rest) (cond (b == 46) (dot_entry role rest) (Err BadForm)) no_space ∙ after_dot rest none
    ]
  where
    after_dot : (rest : List ℕ) → HasNoForm (letter_of role ∷ b ∷ rest) → cond (b == 46) (dot_entry role rest) (Err BadForm) ≡ Err BadForm
    after_dot [] none =
        elim (cases_eq b 46) [
          | inl dot ↦ absurd (none.1 role (inr (ap (λ (n : ℕ). letter_of role ∷ n ∷ []) dot ∙ sym (mark_is role))))
          | inr no_dot ↦ else_eq b 46 (Ok (Mark role)) (Err BadForm) no_dot
        ]
    after_dot (c ∷ rest) none = by_test (b == 46)
      where
        by_test : (t : Bool) → cond t (dot_entry role (c ∷ rest)) (Err BadForm) ≡ Err BadForm
        by_test t = grind arith

pub no_form_text : (text : List ℕ) → HasNoForm text → text_entry text ≡ Err BadForm
no_form_text [] none = absurd (none.0 (inl refl))
no_form_text (b ∷ rest) none =
    elim (cases_eq b 35) [
      | inl hash ↦ absurd (none.0 (inr (rest, ap (λ (n : ℕ). n ∷ rest) hash)))
      | inr no_hash ↦ else_eq b 35 (Ok Nothing) (cond (b == 67) (endpoint_entry Client rest) (cond (b == 83) (endpoint_entry Server rest) (Err BadForm))) no_hash
          ∙ elim (cases_eq b 67) [
            | inl client ↦ then_eq b 67 (endpoint_entry Client rest) (cond (b == 83) (endpoint_entry Server rest) (Err BadForm)) client
                ∙ no_endpoint Client rest (subst (λ (n : ℕ). HasNoForm (n ∷ rest)) client none)
            | inr no_client ↦ else_eq b 67 (endpoint_entry Client rest) (cond (b == 83) (endpoint_entry Server rest) (Err BadForm)) no_client
                ∙ elim (cases_eq b 83) [
                  | inl server ↦ then_eq b 83 (endpoint_entry Server rest) (Err BadForm) server
                      ∙ no_endpoint Server rest (subst (λ (n : ℕ). HasNoForm (n ∷ rest)) server none)
                  | inr no_server ↦ else_eq b 83 (endpoint_entry Server rest) (Err BadForm) no_server
                ]
          ]
    ]

-- ---- a line after the lines before it

module _ (before : LinesBefore) (line : List ℕ) where
  pub too_many_lines : lines_most ≤ before.count → entry_after before line ≡ Err TooManyLines
  too_many_lines many = then_le lines_most before.count (Err TooManyLines) (cond (nat_lt line_most (length (without_cr line))) (Err TooLong) (entry_unless_ended before (text_entry (without_cr line)))) many

  not_too_many : before.count < lines_most → entry_after before line ≡ cond (nat_lt line_most (length (without_cr line))) (Err TooLong) (entry_unless_ended before (text_entry (without_cr line)))
  not_too_many few = else_le lines_most before.count (Err TooManyLines) (cond (nat_lt line_most (length (without_cr line))) (Err TooLong) (entry_unless_ended before (text_entry (without_cr line)))) few

  pub too_long_line : before.count < lines_most → line_most < length (without_cr line) → entry_after before line ≡ Err TooLong
  too_long_line few long = not_too_many few ∙ then_lt line_most (length (without_cr line)) (Err TooLong) (entry_unless_ended before (text_entry (without_cr line))) long

  pub entry_by_text : (entry : Result Entry LineFault) → before.count < lines_most → length (without_cr line) ≤ line_most → text_entry (without_cr line) ≡ entry
      → entry_after before line ≡ entry_unless_ended before entry
  entry_by_text entry few short is = grind (arith, not_too_many, else_lt)

pub ended_lines_giving : (role : Role) (given : List Entry) → ended_before role (lines_giving given) ≡ has_ended role given
ended_lines_giving role given = grind arith

module _ (before : LinesBefore) (role : Role) where
  pub bytes_ended : (bytes : List ℕ) → ended_before role before ≡ true → unless_ended before (Bytes role bytes) ≡ Err AfterEnd
  bytes_ended bytes over = ap (λ (t : Bool). cond t (Err AfterEnd) (Ok (Bytes role bytes))) over

  pub bytes_going : (bytes : List ℕ) → ended_before role before ≡ false → unless_ended before (Bytes role bytes) ≡ Ok (Bytes role bytes)
  bytes_going bytes going = ap (λ (t : Bool). cond t (Err AfterEnd) (Ok (Bytes role bytes))) going

  pub mark_ended : ended_before role before ≡ true → unless_ended before (Mark role) ≡ Err AfterEnd
  mark_ended over = ap (λ (t : Bool). cond t (Err AfterEnd) (Ok (Mark role))) over

  pub mark_going : ended_before role before ≡ false → unless_ended before (Mark role) ≡ Ok (Mark role)
  mark_going going = ap (λ (t : Bool). cond t (Err AfterEnd) (Ok (Mark role))) going

-- bytes that the digits of a line encode are at most 4,096
pub few_bytes : (role : Role) (text digits bytes : List ℕ) → length text ≤ line_most → text ≡ bytes_prefix role ++ digits → IsHex digits bytes → length bytes ≤ 4096
few_bytes role fact digits bytes short is hex = grind (arith, front_is, decode_of-ok)

-- The endpoints' streams leave room for one more line.
abbrev pub HasRoom : Limits → List Entry → Type 0
HasRoom limits given = length given < lines_most → (role : Role) → length (sent role given) + 4096 ≤ limits.input

module _ (limits : Limits) (given : List Entry) (line : List ℕ) where
  abbrev text : List ℕ
  text = without_cr line

  abbrev before : LinesBefore
  before = lines_giving given

  -- The line has this fault.
  abbrev Has : LineFault → Type 0
  Has fault = HasFault limits given (without_cr line) fault

  few_lines : (Has TooManyLines → ⊥) → length given < lines_most
  few_lines none = omega (arith, none)

  pub short_line : (Has TooLong → ⊥) → length (without_cr line) ≤ line_most
  short_line none = omega (arith, none)

  by_text : (entry : Result Entry LineFault) → (Has TooManyLines → ⊥) → (Has TooLong → ⊥) → text_entry text ≡ entry → entry_after before line ≡ entry_unless_ended before entry
  by_text entry few short is = entry_by_text before line entry (few_lines few) (short_line short) is

  -- whether an endpoint has ended
  going_before : (role : Role) → IsOfEndpoint role text → (Has AfterEnd → ⊥) → ended_before role before ≡ false
  going_before role of none =
      elim (true_or_false (has_ended role given)) [
        | inl over ↦ absurd (none (role, of, over))
        | inr going ↦ ended_lines_giving role given ∙ going
      ]

  -- an entry that the line gives
  pub read_entry : (entry : Entry) → GivesEntry text entry → text_entry text ≡ Ok entry
  read_entry entry is = grind (arith, nothing_text, hex_text, mark_text)

  going_entry : (entry : Entry) → GivesEntry text entry → (Has AfterEnd → ⊥) → unless_ended before entry ≡ Ok entry
  going_entry entry is none = grind (arith, bytes_going, going_before, mark_going)

  given_entry : (entry : Entry) → GivesEntry text entry → (Has TooManyLines → ⊥) → (Has TooLong → ⊥) → (Has AfterEnd → ⊥) → entry_after (lines_giving given) line ≡ Ok entry
  given_entry entry is few short going = by_text (Ok entry) few short (read_entry entry is) ∙ going_entry entry is going

  pub accepted_entry : (entry : Entry) → IsAcceptedLine limits given line entry → entry_after (lines_giving given) line ≡ Ok entry
  accepted_entry entry is = given_entry entry is.gives (is.none TooManyLines) (is.none TooLong) (is.none AfterEnd)

  -- ---- the first fault

  module _ (fault : LineFault) (is : IsFirstLineFault limits given line fault) where
    -- no fault comes before it
    none : (other : LineFault) → fault_order other < fault_order fault → Has other → ⊥
    none other earlier held = let le = is.first other held in omega (arith, earlier, le)

  over_entry : (role : Role) → IsOfEndpoint role text → has_ended role given ≡ true → (is : IsFirstLineFault limits given line AfterEnd) → entry_after (lines_giving given) line ≡ Err AfterEnd
  over_entry role (inl of) over is =
      elim (hex_or_not of.0) [
        | inl hex ↦
            by_text (Ok (Bytes role hex.0)) (none AfterEnd is TooManyLines (omega arith)) (none AfterEnd is TooLong (omega arith)) (read_entry (Bytes role hex.0) (of.0, of.1, hex.1))
            ∙ bytes_ended before role hex.0 (ended_lines_giving role given ∙ over)
        | inr bad ↦ absurd (none AfterEnd is BadHex (omega arith) (role, of.0, of.1, bad))
      ]
  over_entry role (inr mark) over is =
      by_text (Ok (Mark role)) (none AfterEnd is TooManyLines (omega arith)) (none AfterEnd is TooLong (omega arith)) (read_entry (Mark role) mark)
      ∙ mark_ended before role (ended_lines_giving role given ∙ over)

  -- Each fault but the input limit's is that of `entry_after`, which knows no limits.
  abbrev Reads : LineFault → Type 0
  Reads InputLimit =
      (role : Role) × (bytes : List ℕ) × (entry_after (lines_giving given) line ≡ Ok (Bytes role bytes)) × GivesEntry (without_cr line) (Bytes role bytes)
      × (limits.input < length (sent role given) + length bytes)
  Reads fault = entry_after (lines_giving given) line ≡ Err fault

  pub read_fault : (fault : LineFault) → IsFirstLineFault limits given line fault → Reads fault
  read_fault TooManyLines is = too_many_lines before line is.held
  read_fault TooLong is = too_long_line before line (few_lines (none TooLong is TooManyLines (omega arith))) is.held
  read_fault BadForm is =
      by_text (Err BadForm) (none BadForm is TooManyLines (omega arith)) (none BadForm is TooLong (omega arith)) (no_form_text text is.held)
  read_fault BadHex is =
      by_text (Err BadHex) (none BadHex is TooManyLines (omega arith)) (none BadHex is TooLong (omega arith))
      (ap text_entry is.held.2 ∙ no_hex_text is.held.0 is.held.1 is.held.3)
  read_fault AfterEnd is = over_entry is.held.0 is.held.1 is.held.2 is
  read_fault InputLimit is = (
    is.held.0,
    is.held.1,
    given_entry (Bytes is.held.0 is.held.1) is.held.2 (none InputLimit is TooManyLines (omega arith)) (none InputLimit is TooLong (omega arith)) (none InputLimit is AfterEnd (omega arith)),
    is.held.2,
    is.held.3,
  )

  -- ---- what the entry says

  -- An endpoint's bytes are within its limit.
  abbrev pub FitsInput : Entry → Type 0
  FitsInput (Bytes role bytes) = length (sent role given) + length bytes ≤ limits.input
  FitsInput entry = ⊤

  over_limit : (entry : Entry) (role : Role) (bytes : List ℕ) → entry ≡ Bytes role bytes → FitsInput entry → limits.input < length (sent role given) + length bytes → ⊥
  over_limit entry role bytes is fits more = let within : length (sent role given) + length bytes ≤ limits.input = subst FitsInput is fits in omega (arith, within, more)

  by_fault : (entry : Entry) → entry_after (lines_giving given) line ≡ Ok entry → FitsInput entry → (fault : LineFault) → Reads fault → ⊥
  by_fault entry is fits fault reads = grind (arith, over_limit)

  pub entry_accepted : (entry : Entry) → entry_after (lines_giving given) line ≡ Ok entry → FitsInput entry → IsAcceptedLine limits given line entry
  entry_accepted entry is fits =
      elim (taken_or_faulty limits given line) [
        | inl taken ↦ let same : taken.0 ≡ entry = cc (accepted_entry taken.0 taken.1, is) in subst (IsAcceptedLine limits given line) same taken.1
        | inr bad ↦ absurd (by_fault entry is fits bad.0 (read_fault bad.0 bad.1))
      ]

  same_fault_read : (fault other : LineFault) → entry_after (lines_giving given) line ≡ Err fault → Reads other → fault ≡ other
  same_fault_read fault other is reads = grind arith

  pub fault_first : (fault : LineFault) → entry_after (lines_giving given) line ≡ Err fault → IsFirstLineFault limits given line fault
  fault_first fault is =
      elim (taken_or_faulty limits given line) [
        | inl taken ↦ absurd (cc (accepted_entry taken.0 taken.1, is))
        | inr bad ↦ subst (IsFirstLineFault limits given line) (sym (same_fault_read fault bad.0 is (read_fault bad.0 bad.1))) bad.1
      ]

  limit_read : (fault : LineFault) (role : Role) (bytes : List ℕ) → entry_after (lines_giving given) line ≡ Ok (Bytes role bytes) → Reads fault → fault ≡ InputLimit
  limit_read fault role bytes is reads = grind arith

  -- bytes past the limit
  pub entry_limited : (role : Role) (bytes : List ℕ) → entry_after (lines_giving given) line ≡ Ok (Bytes role bytes) → limits.input < length (sent role given) + length bytes → IsFirstLineFault limits given line InputLimit
  entry_limited role bytes is more =
      elim (taken_or_faulty limits given line) [
        | inl taken ↦
            let same : taken.0 ≡ Bytes role bytes = cc (accepted_entry taken.0 taken.1, is) in
            absurd (taken.1.none InputLimit (role, bytes, subst (GivesEntry (without_cr line)) same taken.1.gives, more))
        | inr bad ↦ subst (IsFirstLineFault limits given line) (limit_read bad.0 role bytes is (read_fault bad.0 bad.1)) bad.1
      ]

  -- ---- lines that leave room

  -- a line's bytes are within the limit
  pub fits_line : (entry : Entry) → HasRoom limits given → entry_after (lines_giving given) line ≡ Ok entry → FitsInput entry
  fits_line entry room is =
      elim (taken_or_faulty limits given line) [
        | inl taken ↦ let same : taken.0 ≡ entry = cc (accepted_entry taken.0 taken.1, is) in subst FitsInput same (of_taken taken.0 taken.1)
        | inr bad ↦ of_fault bad.0 bad.1 (read_fault bad.0 bad.1)
      ]
    where
      of_bytes : (role : Role) (bytes : List ℕ) → (Has TooManyLines → ⊥) → (Has TooLong → ⊥) → GivesEntry text (Bytes role bytes) → length (sent role given) + length bytes ≤ limits.input
      of_bytes role bytes few short gives =
          omega (arith, few_bytes role text gives.0 bytes (short_line short) gives.1 gives.2, room (few_lines few) role)

      of_taken : (entry : Entry) → IsAcceptedLine limits given line entry → FitsInput entry
      of_taken (Bytes role bytes) taken = of_bytes role bytes (taken.none TooManyLines) (taken.none TooLong) taken.gives
      of_taken _ taken = tt

      of_fault : (fault : LineFault) → IsFirstLineFault limits given line fault → Reads fault → FitsInput entry
      of_fault InputLimit first reads =
          let within = of_bytes reads.0 reads.1 (none InputLimit first TooManyLines (omega arith)) (none InputLimit first TooLong (omega arith)) reads.3 in
          absurd (omega (arith, within, reads.4))
      of_fault _ first reads = absurd (cc (is, reads))

  pub first_fault : HasRoom limits given → (fault : LineFault) → IsFirstLineFault limits given line fault → entry_after (lines_giving given) line ≡ Err fault
  first_fault room InputLimit is =
      let reads = read_fault InputLimit is in
      absurd (omega (arith, fits_line (Bytes reads.0 reads.1) room reads.2, reads.4))
  first_fault room TooManyLines is = read_fault TooManyLines is
  first_fault room TooLong is = read_fault TooLong is
  first_fault room BadForm is = read_fault BadForm is
  first_fault room BadHex is = read_fault BadHex is
  first_fault room AfterEnd is = read_fault AfterEnd is
