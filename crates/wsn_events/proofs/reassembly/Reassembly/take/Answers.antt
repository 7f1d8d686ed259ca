use Rattle.std.proofs.Common.{◌≡◌, ℕ, List, [], ◌∷◌, ◌++◌, suc, true, length, nat_eq, refl, append-nil, sym, ap, ◌∙◌, subst, rules, arith}
use Rattle.wsn_events.specs.Reassembly.{IsInFrame}
use Rattle.std.proofs.lemmas.Bool.{eqb-true}
use Rattle.std.proofs.lemmas.Grind.{common_steps}
use Rattle.wsn_events.proofs.reassembly.Reassembly.take.Goals as goal

nothing_in : (xs : List ℕ) → nat_eq (length xs) 0 ≡ true → xs ≡ []
nothing_in [] is = refl
nothing_in (x ∷ xs) is = let none : suc (length xs) ≡ 0 = eqb-true (suc (length xs)) 0 is in absurd cc

pub returns-then-is_control : goal.returns-then-is_control
returns-then-is_control g c = record { taken = grind (arith, common_steps); refused = search rules }

pub try_extend_from_slice-fits-requires : goal.try_extend_from_slice-fits-requires
try_extend_from_slice-fits-requires g c = search rules

pub returns : goal.returns
returns g c = record { taken = grind (arith, common_steps); refused = search rules }

pub returns-then-is_empty-clause-taken : goal.returns-then-is_empty-clause-taken
returns-then-is_empty-clause-taken g c fs op before is within =
    let empty : c.args.payload.now ≡ [] = nothing_in c.args.payload.now (sym c.is_empty.ensures ∙ c.if-is_empty.true) in
    subst (λ (bs : List ℕ). IsInFrame c.args.self.now fs op bs) (sym (append-nil before) ∙ ap (λ (bs : List ℕ). before ++ bs) (sym empty)) within

pub returns-then-is_empty-clause-refused : goal.returns-then-is_empty-clause-refused
returns-then-is_empty-clause-refused g c = search rules
