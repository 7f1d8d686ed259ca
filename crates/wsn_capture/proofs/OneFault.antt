-- A line is accepted, or has one first fault.
use Rattle.std.proofs.Common.{◌≡◌, ◌≢◌, ℕ, zero, suc, ◌+◌, ◌<◌, ◌≤◌, ◌⊎◌, Bool, true, false, Result, Ok, Err, List, [], ◌∷◌, ◌++◌, length, inl, inr, refl, sym, ap, ◌∙◌, subst, arith}
use Rattle.std.proofs.lemmas.Bool.{cases_eq, cases_lt}
use Rattle.hex.specs.Hex.{decode_of}
use Rattle.hex.specs.declared.error.FromHexError.{FromHexError}
use Rattle.wsn_wire.specs.declared.endpoint.Role.{Role}
use Rattle.wsn_wire.specs.declared.endpoint.Role.TheVariants.{Client, Server}
use Rattle.wsn_rules.specs.Limits.{Limits}
use Rattle.wsn_rules.proofs.Prefixes.{head_same, tail_same}
use Rattle.wsn_capture.specs.declared.line_fault.LineFault.{LineFault}
use Rattle.wsn_capture.specs.declared.line_fault.LineFault.TheVariants.{TooManyLines, TooLong, BadForm, BadHex, AfterEnd, InputLimit}
use Rattle.wsn_rules.specs.Entries.{without_cr, Entry, IsHex, GivesEntry, bytes_prefix, end_mark}
use Rattle.wsn_rules.specs.Entries.Entry.{Nothing, Bytes, Mark}
use Rattle.wsn_rules.specs.Sides.{sent, has_ended}
use Rattle.wsn_capture.specs.LineFaults.{fault_order, IsOfEndpoint, HasNoForm, HasFault, IsFirstLineFault, IsAcceptedLine, lines_most, line_most}
use Rattle.wsn_rules.proofs.OneEntry.{letter_of, front_is, mark_is, not_nothing, same_bytes_line, not_mark, same_mark, one_given}

-- ---- the order of the faults

abbrev fault_at : ℕ → LineFault
fault_at zero = TooManyLines
fault_at (suc zero) = TooLong
fault_at (suc (suc zero)) = BadForm
fault_at (suc (suc (suc zero))) = BadHex
fault_at (suc (suc (suc (suc zero)))) = AfterEnd
fault_at (suc (suc (suc (suc (suc n))))) = InputLimit

at_its_place : (fault : LineFault) → fault_at (fault_order fault) ≡ fault
at_its_place fault = grind arith

placed : (fault : LineFault) → fault_order fault < 6
placed fault = grind arith

pub same_fault : (fault other : LineFault) → fault_order fault ≡ fault_order other → fault ≡ other
same_fault fault other same = sym (at_its_place fault) ∙ ap fault_at same ∙ at_its_place other

pub one_first_fault : (limits : Limits) (given : List Entry) (line : List ℕ) (fault other : LineFault) → IsFirstLineFault limits given line fault → IsFirstLineFault limits given line other → fault ≡ other
one_first_fault limits given line fault other is also = grind (arith, same_fault)

-- The faults from the number `from` on.
module _ (limits : Limits) (given : List Entry) (text : List ℕ) (from : ℕ) where
  -- No fault comes before this number.
  abbrev pub NoneBefore : ℕ → Type 0
  NoneBefore n = (other : LineFault) → HasFault limits given text other → from ≤ fault_order other → n ≤ fault_order other

  pub none_at_first : NoneBefore from
  none_at_first other held le = le

  pub none_further : (n : ℕ) → NoneBefore n → (HasFault limits given text (fault_at n) → ⊥) → NoneBefore (suc n)
  none_further n before none other held le = grind (arith, at_its_place)

  -- the text has none of these faults
  pub none_at_all : NoneBefore 6 → (other : LineFault) → HasFault limits given text other → fault_order other < from
  none_at_all before other held = grind (arith, placed)

-- ---- the form of a line

-- The forms of a line without its CR.
pub data Form (text : List ℕ) : Type 0 where
  GivesNothing : GivesEntry text Nothing → Form text
  OfBytes : (role : Role) (digits : List ℕ) → text ≡ bytes_prefix role ++ digits → Form text
  IsMark : (role : Role) → text ≡ end_mark role → Form text
  NoForm : HasNoForm text → Form text

-- a line that begins with no endpoint's letter is of no endpoint
pub no_side : (b : ℕ) (rest : List ℕ) → b ≢ 67 → b ≢ 83 → (role : Role) → IsOfEndpoint role (b ∷ rest) → ⊥
no_side b rest no_client no_server role is = grind (arith, letter_of, head_same, front_is, mark_is)

-- a line has a form only if its endpoint's letter is followed by a space, or by a dot alone
pub second_byte : (role : Role) (rest : List ℕ) → ((digits : List ℕ) → rest ≡ 32 ∷ digits → ⊥) → (rest ≡ 46 ∷ [] → ⊥) → HasNoForm (letter_of role ∷ rest)
second_byte role rest no_bytes no_mark = grind (arith, not_nothing, letter_of, tail_same, front_is, mark_is)

of_letter : (role : Role) (rest : List ℕ) → Form (letter_of role ∷ rest)
of_letter role [] = NoForm (second_byte role [] (λ digits is. cc is) (λ is. cc is))
of_letter role (c ∷ rest) =
    elim (cases_eq c 32) [
      | inl space ↦ OfBytes role rest (ap (λ (n : ℕ). letter_of role ∷ n ∷ rest) space ∙ sym (front_is role rest))
      | inr no_space ↦ elim (cases_eq c 46) [
        | inl dot ↦ after_dot rest dot
        | inr no_dot ↦ NoForm (second_byte role (c ∷ rest) (λ digits is. no_space (head_same _ _ _ _ is)) (λ is. no_dot (head_same _ _ _ _ is)))
      ]
    ]
  where
    after_dot : (rest : List ℕ) → c ≡ 46 → Form (letter_of role ∷ c ∷ rest)
    after_dot [] dot = IsMark role (ap (λ (n : ℕ). letter_of role ∷ n ∷ []) dot ∙ sym (mark_is role))
    after_dot (d ∷ rest) dot =
        NoForm (second_byte role (c ∷ d ∷ rest) (λ digits is. let space : 46 ≡ 32 = sym dot ∙ head_same _ _ _ _ is in omega (arith, space))
        (λ is. let none : d ∷ rest ≡ [] = tail_same _ _ _ _ is in cc))

pub form_of : (text : List ℕ) → Form text
form_of [] = GivesNothing (inl refl)
form_of (b ∷ rest) =
    elim (cases_eq b 35) [
      | inl mark ↦ GivesNothing (inr (rest, ap (λ (n : ℕ). n ∷ rest) mark))
      | inr no_comment ↦ elim (cases_eq b 67) [
        | inl client ↦ subst (λ (n : ℕ). Form (n ∷ rest)) (sym client) (of_letter Client rest)
        | inr no_client ↦ elim (cases_eq b 83) [
          | inl server ↦ subst (λ (n : ℕ). Form (n ∷ rest)) (sym server) (of_letter Server rest)
          | inr no_server ↦ NoForm (something no_comment, no_side b rest no_client no_server)
        ]
      ]
    ]
  where
    something : b ≢ 35 → GivesEntry (b ∷ rest) Nothing → ⊥
    something other fact = grind (arith, head_same)

-- ---- every line is accepted or has a fault

pub hex_or_not : (digits : List ℕ) → ((bytes : List ℕ) × IsHex digits bytes) ⊎ ((bytes : List ℕ) → IsHex digits bytes → ⊥)
hex_or_not [] = inr (λ bytes is. is.0 refl)
hex_or_not (d ∷ digits) = by_result (decode_of (d ∷ digits)) refl
  where
    by_result : (r : Result (List ℕ) FromHexError) → decode_of (d ∷ digits) ≡ r → ((bytes : List ℕ) × IsHex (d ∷ digits) bytes) ⊎ ((bytes : List ℕ) → IsHex (d ∷ digits) bytes → ⊥)
    by_result (Ok bytes) is = inl (bytes, ((λ none. cc none), is))
    by_result (Err e) is = inr (λ bytes hex. let both : Ok bytes ≡ Err e = sym hex.1 ∙ is in cc)

pub true_or_false : (b : Bool) → (b ≡ true) ⊎ (b ≡ false)
true_or_false b = grind arith

-- a line is of one endpoint
pub same_side : (role other : Role) (text digits : List ℕ) → text ≡ bytes_prefix role ++ digits → IsOfEndpoint other text → role ≡ other
same_side role other text digits is fact = grind (arith, same_bytes_line, not_mark)

pub same_side_marked : (role other : Role) (text : List ℕ) → text ≡ end_mark role → IsOfEndpoint other text → role ≡ other
same_side_marked role other text is fact = grind (arith, not_mark, same_mark)

module _ (limits : Limits) (given : List Entry) (text : List ℕ) (from : ℕ) where
  -- a text that gives nothing has none of the faults from BadForm on
  pub nothing_bad : GivesEntry text Nothing → NoneBefore limits given text from 2 → NoneBefore limits given text from 6
  nothing_bad is before = grind (arith, none_further, not_nothing, front_is, one_given, mark_is)

  -- bytes that digits encode have a form
  pub bytes_formed : (role : Role) (digits bytes : List ℕ) → text ≡ bytes_prefix role ++ digits → IsHex digits bytes → NoneBefore limits given text from 2 → NoneBefore limits given text from 4
  bytes_formed role digits bytes is hex before =
      none_further limits given text from 3 (none_further limits given text from 2 before
      (λ bad. bad.1 role (inl (digits, is))))
      (λ bad. bad.3 bytes (subst (λ (ds : List ℕ). IsHex ds bytes) (same_bytes_line role bad.0 digits bad.1 (sym is ∙ bad.2)).1 hex))

  -- they have no fault if their endpoint hasn't ended and has room
  pub bytes_taken : (role : Role) (digits bytes : List ℕ) → text ≡ bytes_prefix role ++ digits → IsHex digits bytes → NoneBefore limits given text from 4 → has_ended role given ≡ false
      → length (sent role given) + length bytes ≤ limits.input → NoneBefore limits given text from 6
  bytes_taken role digits bytes is hex before going room = grind (arith, none_further, same_side, one_given)

  -- an end mark has no fault if its endpoint hasn't ended
  pub mark_formed : (role : Role) → text ≡ end_mark role → NoneBefore limits given text from 2 → NoneBefore limits given text from 4
  mark_formed role is before = grind (arith, none_further, not_mark)

  pub mark_taken : (role : Role) → text ≡ end_mark role → NoneBefore limits given text from 4 → has_ended role given ≡ false → NoneBefore limits given text from 6
  mark_taken role is before going = grind (arith, none_further, same_side_marked, one_given)

module _ (limits : Limits) (given : List Entry) (text : List ℕ) where
  -- the text is accepted, or its first fault is known
  abbrev pub IsDecided : Type 0
  IsDecided = ((entry : Entry) × GivesEntry text entry × ((fault : LineFault) → HasFault limits given text fault → fault_order fault < 0))
      ⊎ ((fault : LineFault) × HasFault limits given text fault × NoneBefore limits given text 0 (fault_order fault))

  by_form : NoneBefore limits given text 0 2 → Form text → IsDecided
  by_form before (GivesNothing is) = inl (Nothing, is, none_at_all limits given text 0 (nothing_bad limits given text 0 is before))
  by_form before (OfBytes role digits is) =
      elim (hex_or_not digits) [
        | inr none ↦ inr (BadHex, (role, digits, is, none), none_further limits given text 0 2 before (λ bad. bad.1 role (inl (digits, is))))
        | inl hex ↦
            let formed = bytes_formed limits given text 0 role digits hex.0 is hex.1 before in
            elim (true_or_false (has_ended role given)) [
              | inl over ↦ inr (AfterEnd, (role, inl (digits, is), over), formed)
              | inr going ↦ elim (cases_lt limits.input (length (sent role given) + length hex.0)) [
                | inl more ↦ inr (
                  InputLimit,
                  (role, hex.0, (digits, is, hex.1), more),
                  none_further limits given text 0 4 formed
                      (λ bad. let same = same_side role bad.0 text digits is bad.1 in let both : true ≡ false = sym (ap (λ (r : Role). has_ended r given) same ∙ bad.2) ∙ going in cc),
                )
                | inr room ↦ inl (Bytes role hex.0, (digits, is, hex.1), none_at_all limits given text 0 (bytes_taken limits given text 0 role digits hex.0 is hex.1 formed going (omega (arith, room))))
              ]
            ]
      ]
  by_form before (IsMark role is) =
      let formed = mark_formed limits given text 0 role is before in
      elim (true_or_false (has_ended role given)) [
        | inl over ↦ inr (AfterEnd, (role, inr is, over), formed)
        | inr going ↦ inl (Mark role, is, none_at_all limits given text 0 (mark_taken limits given text 0 role is formed going))
      ]
  by_form before (NoForm none) = inr (BadForm, none, before)

  pub decided : IsDecided
  decided =
      elim (cases_lt (length given) lines_most) [
        | inr many ↦ inr (TooManyLines, (omega (arith, many)), none_at_first limits given text 0)
        | inl few ↦
            let first = none_further limits given text 0 0 (none_at_first limits given text 0) (λ many. omega (arith, few, many)) in
            elim (cases_lt line_most (length text)) [
              | inl long ↦ inr (TooLong, long, first)
              | inr short ↦ by_form (none_further limits given text 0 1 first (λ long. omega (arith, short, long))) (form_of text)
            ]
      ]

pub taken_or_faulty : (limits : Limits) (given : List Entry) (line : List ℕ) → ((entry : Entry) × IsAcceptedLine limits given line entry) ⊎ ((fault : LineFault) × IsFirstLineFault limits given line fault)
taken_or_faulty limits given line =
    elim (decided limits given (without_cr line)) [
      | inl taken ↦ inl (taken.0, record { gives = taken.1; none = λ fault held. let less = taken.2 fault held in omega (arith, less) })
      | inr faulty ↦ inr (faulty.0, record { held = faulty.1; first = λ other held. faulty.2 other held (omega arith) })
    ]
