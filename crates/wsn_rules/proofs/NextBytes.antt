-- A refusal, or its absence, from the prefixes of the bytes after some frames.
use Rattle.std.proofs.Common.{◌≡◌, ℕ, ◌+◌, ◌<◌, ◌≤◌, List, ◌++◌, length, take, sym, subst, inl, inr, arith}
use Rattle.std.proofs.lemmas.Bool.{cases_order}
use Rattle.std.proofs.lemmas.List.{take_at, take-append-le}
use Rattle.wsn_wire.specs.declared.endpoint.Role.{Role}
use Rattle.wsn_wire.specs.declared.refusal.Reason.{Reason}
use Rattle.wsn_wire.specs.Frame.{Frame, stream}
use Rattle.wsn_wire.specs.Refusal.{IsFirstEvident}
use Rattle.wsn_rules.specs.Limits.{Limits}
use Rattle.wsn_rules.specs.Group.{unfinished}
use Rattle.wsn_rules.specs.Lawful.{IsLawful}
use Rattle.wsn_rules.specs.AfterClose.{HasNoClose}
use Rattle.wsn_rules.specs.Evidence.{Evidence}
use Rattle.wsn_rules.specs.Verdict.{IsEvidentAt, ComesFirst, IsRefused}
use Rattle.wsn_rules.proofs.LeastEvident.{evident_front, ShownFront}

-- No prefix of the bytes is evidence for a refusal.
abbrev pub ShowNothing : Role → Limits → List Frame → List ℕ → Type 0
ShowNothing role limits group bytes = (m : ℕ) (r : Reason) → m ≤ length bytes → Evidence role limits group r (take m bytes) → ⊥

module _ (role : Role) (limits : Limits) (fs : List Frame) where
  pub nothing_evident : (bytes rest : List ℕ) → bytes ≡ stream fs ++ rest → ShowNothing role limits (unfinished fs) rest → (p : ℕ) (r : Reason) → IsEvidentAt role limits bytes fs p r → ⊥
  nothing_evident bytes rest whole none p r is_evident =
      let front = evident_front role limits bytes fs rest whole p r is_evident in
      none front.count r front.within front.evidence

  -- After the frames, the bytes `seen` are the first evidence, and the reason is the first for which they are.
  pub refused_at : (bytes seen later : List ℕ) (offset : ℕ) (reason : Reason) → bytes ≡ stream fs ++ (seen ++ later) → offset + 1 ≡ length (stream fs) + length seen →
      IsLawful role limits fs → HasNoClose fs →
      ((m : ℕ) (r : Reason) → m < length seen → Evidence role limits (unfinished fs) r (take m seen) → ⊥) →
      IsFirstEvident (λ r. Evidence role limits (unfinished fs) r seen) reason → IsRefused role limits bytes fs offset reason
  refused_at bytes seen later offset reason whole at lawful no_close earlier first = record {
    lawful = lawful;
    no_close = no_close;
    is_evident = record { seen = seen; later = later; whole = whole; at_offset = at; evidence = first.is_evident };
    least = λ p r is_evident. least p r (evident_front role limits bytes fs (seen ++ later) whole p r is_evident);
  }
    where
      same_place : (p count : ℕ) → p + 1 ≡ length (stream fs) + count → count ≡ length seen → offset ≡ p
      same_place p count at_p same = omega arith

      least : (p : ℕ) (r : Reason) → ShownFront role limits bytes fs (seen ++ later) whole p r → ComesFirst offset reason p r
      least p r front =
          elim (cases_order front.count (length seen)) [
            | inl same ↦
                let is_seen : take front.count (seen ++ later) ≡ seen = take_at seen later front.count (sym same) in
                inr (same_place p front.count front.at_offset same, first.least r (subst (λ (bs : List ℕ). Evidence role limits (unfinished fs) r bs) is_seen front.evidence))
            | inr other ↦ elim other [
              | inl less ↦
                  let is_front : take front.count (seen ++ later) ≡ take front.count seen = take-append-le front.count seen later (omega (arith, less)) in
                  absurd (earlier front.count r less (subst (λ (bs : List ℕ). Evidence role limits (unfinished fs) r bs) is_front front.evidence))
              | inr more ↦ inl (omega (arith, front.at_offset))
            ]
          ]
