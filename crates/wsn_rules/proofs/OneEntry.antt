-- A line has at most one of the forms of a line, and gives at most one entry.
use Rattle.std.proofs.Common.{◌≡◌, ℕ, Ok, List, [], ◌∷◌, ◌++◌, inl, inr, refl, sym, ap, ◌∙◌, arith}
use Rattle.hex.specs.Hex.{decode_of}
use Rattle.wsn_wire.specs.declared.endpoint.Role.{Role}
use Rattle.wsn_wire.specs.declared.endpoint.Role.TheVariants.{Client, Server}
use Rattle.wsn_rules.specs.Entries.{without_cr, Entry, GivesEntry, IsEntry, AreEntries, bytes_prefix, end_mark}
use Rattle.wsn_rules.specs.Entries.Entry.{Nothing, Bytes, Mark}
use Rattle.wsn_rules.proofs.Prefixes.{head_same, tail_same}

-- the letter of an endpoint
abbrev pub letter_of : Role → ℕ
letter_of Client = 67
letter_of Server = 83

pub front_is : (role : Role) (digits : List ℕ) → bytes_prefix role ++ digits ≡ letter_of role ∷ 32 ∷ digits
front_is Client digits = refl
front_is Server digits = refl

pub mark_is : (role : Role) → end_mark role ≡ letter_of role ∷ 46 ∷ []
mark_is Client = refl
mark_is Server = refl

pub same_letter : (role other : Role) → letter_of role ≡ letter_of other → role ≡ other
same_letter Client Client is = refl
same_letter Client Server is = absurd (omega arith)
same_letter Server Client is = absurd (omega arith)
same_letter Server Server is = refl

no_comment : (role : Role) (rest comment : List ℕ) → letter_of role ∷ rest ≡ 35 ∷ comment → ⊥
no_comment Client rest comment is = let first = head_same _ _ _ _ is in omega (arith, first)
no_comment Server rest comment is = let first = head_same _ _ _ _ is in omega (arith, first)

-- an endpoint's line isn't one that gives nothing
pub not_nothing : (role : Role) (rest text : List ℕ) → text ≡ letter_of role ∷ rest → GivesEntry text Nothing → ⊥
not_nothing role rest text is (inl empty) = let both : [] ≡ letter_of role ∷ rest = sym empty ∙ is in cc
not_nothing role rest text is (inr comment) = no_comment role rest comment.0 (sym is ∙ comment.1)

-- equal lines of bytes have one endpoint and the same digits
pub same_bytes_line : (role other : Role) (digits others : List ℕ) → bytes_prefix role ++ digits ≡ bytes_prefix other ++ others → (role ≡ other) × (digits ≡ others)
same_bytes_line role other digits others is =
    let both : letter_of role ∷ 32 ∷ digits ≡ letter_of other ∷ 32 ∷ others = sym (front_is role digits) ∙ is ∙ front_is other others in
    (same_letter role other (head_same _ _ _ _ both), tail_same _ _ _ _ (tail_same _ _ _ _ both))

-- no end mark begins as a line of bytes does
pub not_mark : (role other : Role) (digits : List ℕ) → bytes_prefix role ++ digits ≡ end_mark other → ⊥
not_mark role other digits is =
    let both : letter_of role ∷ 32 ∷ digits ≡ letter_of other ∷ 46 ∷ [] = sym (front_is role digits) ∙ is ∙ mark_is other in
    let second : 32 ≡ 46 = head_same _ _ _ _ (tail_same _ _ _ _ both) in
    omega (arith, second)

pub same_mark : (role other : Role) → end_mark role ≡ end_mark other → role ≡ other
same_mark role other is = same_letter role other (head_same _ _ _ _ (sym (mark_is role) ∙ is ∙ mark_is other))

pub one_given : (text : List ℕ) (entry other : Entry) → GivesEntry text entry → GivesEntry text other → entry ≡ other
one_given text Nothing Nothing is also = refl
one_given text Nothing (Bytes role bytes) is also = absurd (not_nothing role (32 ∷ also.0) text (also.1 ∙ front_is role also.0) is)
one_given text Nothing (Mark role) is also = absurd (not_nothing role (46 ∷ []) text (also ∙ mark_is role) is)
one_given text (Bytes role bytes) Nothing is also = absurd (not_nothing role (32 ∷ is.0) text (is.1 ∙ front_is role is.0) also)
one_given text (Bytes role bytes) (Bytes other others) is also =
    let same = same_bytes_line role other is.0 also.0 (sym is.1 ∙ also.1) in
    let encoded : Ok bytes ≡ Ok others = sym is.2.1 ∙ ap decode_of same.1 ∙ also.2.1 in
    cc (same.0, encoded)
one_given text (Bytes role bytes) (Mark other) is also = absurd (not_mark role other is.0 (sym is.1 ∙ also))
one_given text (Mark role) Nothing is also = absurd (not_nothing role (46 ∷ []) text (is ∙ mark_is role) also)
one_given text (Mark role) (Bytes other others) is also = absurd (not_mark other role also.0 (sym also.1 ∙ is))
one_given text (Mark role) (Mark other) is also = ap Mark (same_mark role other (sym is ∙ also))

pub one_entry : (line : List ℕ) (entry other : Entry) → IsEntry line entry → IsEntry line other → entry ≡ other
one_entry line = one_given (without_cr line)

pub same_entries : (lines : List (List ℕ)) (entries others : List Entry) → AreEntries lines entries → AreEntries lines others → entries ≡ others
same_entries [] [] [] are also = refl
same_entries [] [] (other ∷ others) are also = absurd also
same_entries [] (entry ∷ entries) others are also = absurd are
same_entries (line ∷ lines) [] others are also = absurd are
same_entries (line ∷ lines) (entry ∷ entries) [] are also = absurd also
same_entries (line ∷ lines) (entry ∷ entries) (other ∷ others) are also =
    let first = one_entry line entry other are.0 also.0 in
    let rest = same_entries lines entries others are.1 also.1 in
    cc (first, rest)
