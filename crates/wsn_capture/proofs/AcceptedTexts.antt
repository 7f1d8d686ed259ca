-- Lines that are accepted one by one.
use Rattle.std.proofs.Common.{◌≡◌, ℕ, Result, Err, List, [], ◌∷◌, ◌++◌, length, refl, sym, subst, append_assoc, append-nil, arith}
use Rattle.std.specs.Prelude.{IfErr}
use Rattle.wsn_rules.specs.Limits.{Limits}
use Rattle.wsn_rules.specs.Entries.{Entry, AreEntries}
use Rattle.wsn_capture.specs.LineFaults.{IsAcceptedLine, AreAcceptedAfter}

-- ---- results

pub if_this : {T E : Type 0} (P : E → Type 0) {r : Result T E} {e : E} → r ≡ Err e → P e → IfErr r P
if_this P is p = subst (λ (r : _). IfErr r P) (sym is) p

-- ---- lines

pub taken_given : (limits : Limits) (before : List Entry) (lines : List (List ℕ)) (entries : List Entry) → AreAcceptedAfter limits before lines entries → AreEntries lines entries
taken_given limits before [] [] are = tt
taken_given limits before (line ∷ lines) (entry ∷ entries) are = (are.0.gives, taken_given limits (before ++ entry ∷ []) lines entries are.1)
taken_given limits before _ _ are = absurd are

pub as_many : (limits : Limits) (before : List Entry) (lines : List (List ℕ)) (entries : List Entry) → AreAcceptedAfter limits before lines entries → length entries ≡ length lines
as_many limits before [] [] are = refl
as_many limits before (line ∷ lines) (entry ∷ entries) are = let rest = as_many limits (before ++ entry ∷ []) lines entries are.1 in omega (arith, rest)
as_many limits before _ _ are = absurd are

pub taken_push : (limits : Limits) (before : List Entry) (lines : List (List ℕ)) (entries : List Entry) (line : List ℕ) (entry : Entry) → AreAcceptedAfter limits before lines entries → IsAcceptedLine limits (before ++ entries) line entry
    → AreAcceptedAfter limits before (lines ++ line ∷ []) (entries ++ entry ∷ [])
taken_push limits before [] [] line entry are is = (subst (λ (es : List Entry). IsAcceptedLine limits es line entry) (append-nil before) is, tt)
taken_push limits before (l ∷ lines) (e ∷ entries) line entry are is =
    (are.0, taken_push limits (before ++ e ∷ []) lines entries line entry are.1 (subst (λ (es : List Entry). IsAcceptedLine limits es line entry) (sym (append_assoc before (e ∷ []) entries)) is))
taken_push limits before _ _ line entry are is = absurd are

-- the last of the lines is accepted after those before it
pub accepted_last : (limits : Limits) (before : List Entry) (lines : List (List ℕ)) (entries : List Entry) (line : List ℕ) (entry : Entry) → AreAcceptedAfter limits before (lines ++ line ∷ []) (entries ++ entry ∷ []) → IsAcceptedLine limits (before ++ entries) line entry
accepted_last limits before [] [] line entry are = subst (λ (es : List Entry). IsAcceptedLine limits es line entry) (sym (append-nil before)) are.0
accepted_last limits before [] (e ∷ []) line entry are = absurd are.1
accepted_last limits before [] (e ∷ f ∷ entries) line entry are = absurd are.1
accepted_last limits before (l ∷ []) [] line entry are = absurd are.1
accepted_last limits before (l ∷ m ∷ lines) [] line entry are = absurd are.1
accepted_last limits before (l ∷ lines) (e ∷ entries) line entry are =
    subst (λ (es : List Entry). IsAcceptedLine limits es line entry) (append_assoc before (e ∷ []) entries) (accepted_last limits (before ++ e ∷ []) lines entries line entry are.1)
