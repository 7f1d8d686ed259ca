-- Where two lists of events differ first, and that this stays so as the lists grow.
use Rattle.std.proofs.Common.{◌≡◌, ◌≢◌, ℕ, ◌<◌, zero, suc, Some, List, [], ◌∷◌, ◌++◌, length, take, slice_get, refl, sym, ap, arith}
use Rattle.std.proofs.Math.Seq.{take-append_seam}
use Rattle.std.proofs.lemmas.List.{take-append-le, take_all}
use Rattle.std.proofs.lemmas.Option.{slice_get_past}
use Rattle.wsn_rules.specs.Meaning.{MeantEvent}
use Rattle.wsn_rules.specs.SameMeaning.{DifferAt}

-- ---- the element at an index

get_within : {X : Type 0} → (xs ys : List X) (k : ℕ) → k < length xs → slice_get (xs ++ ys) k ≡ slice_get xs k
get_within [] ys k within = absurd (omega arith)
get_within (x ∷ xs) ys zero within = refl
get_within (x ∷ xs) ys (suc k) within = get_within xs ys k (omega arith)

get_end : {X : Type 0} → (xs : List X) (y : X) → slice_get (xs ++ y ∷ []) (length xs) ≡ Some y
get_end [] y = refl
get_end (x ∷ xs) y = get_end xs y

get_front : {X : Type 0} → (xs : List X) (j k : ℕ) → k < j → slice_get (take j xs) k ≡ slice_get xs k
get_front xs zero k below = absurd (omega arith)
get_front (x ∷ xs) (suc j) (suc k) below = get_front xs j k (omega arith)
get_front _ (suc j) _ below = refl

-- ---- the first difference

pub differ_sym : (k : ℕ) (events others : List MeantEvent) → DifferAt k events others → DifferAt k others events
differ_sym k events others differ = record { alike = sym differ.alike; there = λ same. differ.there (sym same) }

-- more events of the first list
pub differ_more : (k : ℕ) (events others more : List MeantEvent) → k < length events → DifferAt k events others → DifferAt k (events ++ more) others
differ_more k events others more within differ = grind (arith, take-append-le, get_within)

-- two events that differ, after the same events
pub differ_next : (events : List MeantEvent) (event other : MeantEvent) → event ≢ other → DifferAt (length events) (events ++ event ∷ []) (events ++ other ∷ [])
differ_next events event other unlike = grind (arith, take-append_seam, get_end)

-- an event where the other list ends
pub differ_end : (events : List MeantEvent) (event : MeantEvent) → DifferAt (length events) (events ++ event ∷ []) events
differ_end events event = grind (arith, take-append_seam, take_all, get_end, slice_get_past)

-- the lists were the same to their ends, and one round adds these events
pub differ_first : (given events other_given others more others_more : List MeantEvent) (index : ℕ) → events ≡ given ++ more → others ≡ other_given ++ others_more
    → given ≡ other_given → length given ≡ index → DifferAt (length given) (given ++ more) (given ++ others_more) → DifferAt index events others
differ_first given events other_given others more others_more index is others_is same size differ = grind arith

-- ---- the laws

pub differ_not_equal : (k : ℕ) (events others : List MeantEvent) → DifferAt k events others → events ≢ others
differ_not_equal k events others differ same = differ.there (ap (λ (es : List MeantEvent). slice_get es k) same)

not_before : (k j : ℕ) (events others : List MeantEvent) → DifferAt k events others → DifferAt j events others → k < j → ⊥
not_before k j events others differ later below = grind (arith, get_front)

pub differ_once : (k j : ℕ) (events others : List MeantEvent) → DifferAt k events others → DifferAt j events others → k ≡ j
differ_once k j events others differ also = grind (arith, not_before)
