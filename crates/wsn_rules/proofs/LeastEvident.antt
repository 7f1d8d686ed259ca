-- Of all evidence in the bytes after a list of frames, the offset and reason with precedence; or there is none.
use Rattle.std.proofs.Common.{◌≡◌, ℕ, zero, suc, ◌+◌, ◌-◌, ◌<◌, ◌≤◌, List, ◌++◌, ◌⊎◌, length, take, drop, refl, sym, ap, ◌∙◌, subst, inl, inr, arith, if◌then◌else◌}
use Rattle.std.specs.Prelude.{◌==◌}
use Rattle.std.proofs.lemmas.Bool.{cases_order}
use Rattle.wsn_text.proofs.Numbers.{less_or_not, same_or_not}
use Rattle.std.proofs.lemmas.List.{take-append-drop, length-take-le, length-append, take_at}
use Rattle.wsn_wire.specs.declared.endpoint.Role.{Role}
use Rattle.wsn_wire.specs.declared.refusal.Reason.{Reason}
use Rattle.wsn_wire.specs.declared.refusal.Reason.TheVariants.{ReservedBits, ReservedOpcode, ControlNotFinal, NothingToContinue, MessageOpen, MaskMissing, MaskPresent, ControlTooLong, CloseOneByte, LengthTopBit, LengthNotMinimal, MessageTooBig, CloseCode, CloseReason, TextBad, TextCut, TooManyFrames}
use Rattle.wsn_wire.specs.Frame.{Frame, stream}
use Rattle.wsn_rules.specs.Limits.{Limits}
use Rattle.wsn_rules.specs.Group.{unfinished}
use Rattle.wsn_wire.specs.Refusal.{number_of}
use Rattle.wsn_rules.specs.Evidence.{Evidence}
use Rattle.wsn_rules.specs.Evidence.Evidence.{ByFirst, BySecond, ByLength, ByPayload}
use Rattle.wsn_rules.specs.Verdict.{IsEvidentAt, ComesFirst}
use Rattle.wsn_rules.proofs.Prefixes.{append_cancel}
use Rattle.wsn_rules.proofs.DecidedRows.{Decided}
use Rattle.wsn_rules.proofs.DecidedEvidence.{evidence_decided}

-- ---- the least number below n for which P holds

abbrev pub LeastBelow : (ℕ → Type 0) → ℕ → Type 0
LeastBelow P n = (k : ℕ) × (k < n) × P k × ((j : ℕ) → j < k → P j → ⊥)

unfoldable pub least_or_none : (P : ℕ → Type 0) → ((k : ℕ) → Decided (P k)) → (n : ℕ) → LeastBelow P n ⊎ ((k : ℕ) → k < n → P k → ⊥)
least_or_none P decided zero = inr (λ k below. absurd (omega arith))
least_or_none P decided (suc n) =
    elim (least_or_none P decided n) [
      | inl p ↦ inl (p.0, omega (arith, p.1), p.2, p.3)
      | inr none ↦ elim (decided n) [
        | inl here ↦ inl (n, omega arith, here, none)
        | inr not ↦ inr (λ k below holds. elim (less_or_not k n) [
          | inl less ↦ none k less holds
          | inr from ↦ let last : k ≡ n = omega arith in not (subst P last holds)
        ])
      ]
    ]

-- ---- the reason with a number

unfoldable pub reason_at : ℕ → Reason
reason_at n =
    if n == 1 then ReservedBits else (if n == 2 then ReservedOpcode else (if n == 3 then ControlNotFinal else (if n == 4 then NothingToContinue else
    (if n == 5 then MessageOpen else (if n == 6 then MaskMissing else (if n == 7 then MaskPresent else (if n == 8 then ControlTooLong else
    (if n == 9 then CloseOneByte else (if n == 10 then LengthTopBit else (if n == 11 then LengthNotMinimal else (if n == 12 then MessageTooBig else
    (if n == 13 then CloseCode else (if n == 14 then CloseReason else (if n == 15 then TextBad else (if n == 16 then TextCut else TooManyFrames)))))))))))))))

pub reason_at-number_of : (r : Reason) → reason_at (number_of r) ≡ r
unfolding reason_at
reason_at-number_of ReservedBits = refl
reason_at-number_of _ = refl

-- A number has one reason.
pub same_number : (r s : Reason) → number_of r ≡ number_of s → r ≡ s
same_number r s e = sym (reason_at-number_of r) ∙ ap reason_at e ∙ reason_at-number_of s

pub number_below : (r : Reason) → number_of r < 18
number_below ReservedBits = omega arith
number_below _ = omega arith

-- ---- the least reason for which bytes are evidence

pub evidence_is_some : (role : Role) (limits : Limits) (group : List Frame) (reason : Reason) (seen : List ℕ) → Evidence role limits group reason seen → 0 < length seen
evidence_is_some role limits group reason seen (ByFirst first is row) = subst (λ (bs : List ℕ). 0 < length bs) (sym is) (omega arith)
evidence_is_some role limits group reason seen (BySecond first second is row) = subst (λ (bs : List ℕ). 0 < length bs) (sym is) (omega arith)
evidence_is_some role limits group reason seen (ByLength first second len is count row) = subst (λ (bs : List ℕ). 0 < length bs) (sym is) (omega arith)
evidence_is_some role limits group reason seen (ByPayload p row) = subst (λ (bs : List ℕ). 0 < length bs) (sym p.whole) (omega arith)

module _ (role : Role) (limits : Limits) (group : List Frame) where
  abbrev pub LeastReason : List ℕ → Type 0
  LeastReason seen = (r : Reason) × Evidence role limits group r seen × ((s : Reason) → Evidence role limits group s seen → number_of r ≤ number_of s)

  pub Numbered : List ℕ → ℕ → Type 0
  Numbered seen n = (r : Reason) × (number_of r ≡ n) × Evidence role limits group r seen

  unfoldable pub numbered : (seen : List ℕ) (n : ℕ) → Decided (Numbered seen n)
  unfolding Numbered
  numbered seen n =
      elim (same_or_not (number_of (reason_at n)) n) [
        | inr other ↦ inr (λ p. other (ap (λ (m : ℕ). number_of (reason_at m)) (sym p.1) ∙ ap number_of (reason_at-number_of p.0) ∙ p.1))
        | inl same ↦ elim (evidence_decided role limits group (reason_at n) seen) [
          | inl e ↦ inl (reason_at n, same, e)
          | inr not ↦ inr (λ p. not (subst (λ (r : Reason). Evidence role limits group r seen) (sym (reason_at-number_of p.0) ∙ ap reason_at p.1) p.2))
        ]
      ]

  unfoldable pub least_reason : (seen : List ℕ) → LeastReason seen ⊎ ((s : Reason) → Evidence role limits group s seen → ⊥)
  unfolding Numbered
  least_reason seen =
      elim (least_or_none (Numbered seen) (numbered seen) 18) [
        | inr none ↦ inr (λ s e. none (number_of s) (number_below s) (s, refl, e))
        | inl p ↦ inl (p.2.0, p.2.2, λ s e. from_least p.0 p.2.0 s p.2.1 (λ less. p.3 (number_of s) less (s, refl, e)))
      ]
    where
      from_least : (k : ℕ) (r s : Reason) → number_of r ≡ k → (number_of s < k → ⊥) → number_of r ≤ number_of s
      from_least k r s is least = elim (less_or_not (number_of s) k) [ inl less ↦ absurd (least less) | inr from ↦ omega arith ]

  -- ---- prefixes of the rest

  pub FrontShowsSome : List ℕ → ℕ → Type 0
  FrontShowsSome rest m = (r : Reason) × Evidence role limits group r (take m rest)

  unfoldable pub front_decided : (rest : List ℕ) (m : ℕ) → Decided (FrontShowsSome rest m)
  unfolding FrontShowsSome
  front_decided rest m =
      elim (least_reason (take m rest)) [
        | inl p ↦ inl (p.0, p.1)
        | inr none ↦ inr (λ p. none p.0 p.1)
      ]

  -- The shortest prefix that is evidence, and the least reason for which it is.
  pub record LeastFront (rest : List ℕ) : Type 0 where
    pub count : ℕ
    pub within : count ≤ length rest
    pub reason : Reason
    pub evidence : Evidence role limits group reason (take count rest)
    pub least_reason_is : (s : Reason) → Evidence role limits group s (take count rest) → number_of reason ≤ number_of s
    pub shorter : (m : ℕ) (s : Reason) → m < count → Evidence role limits group s (take m rest) → ⊥

  unfoldable pub least_front : (rest : List ℕ) → LeastFront rest ⊎ ((m : ℕ) (s : Reason) → m ≤ length rest → Evidence role limits group s (take m rest) → ⊥)
  unfolding FrontShowsSome
  least_front rest =
      elim (least_or_none (FrontShowsSome rest) (front_decided rest) (suc (length rest))) [
        | inr none ↦ inr (λ m s within e. none m (omega arith) (s, e))
        | inl p ↦ elim (least_reason (take p.0 rest)) [
          | inr none ↦ absurd (none p.2.0 p.2.1)
          | inl q ↦ inl (record { count = p.0; within = omega (arith, p.1); reason = q.0; evidence = q.1; least_reason_is = q.2; shorter = λ m s less e. p.3 m less (s, e) })
        ]
      ]

-- ---- the evidence after the frames fs

module _ (role : Role) (limits : Limits) (bytes : List ℕ) (fs : List Frame) (rest : List ℕ) (whole : bytes ≡ stream fs ++ rest) where
  -- Evidence is a prefix of the rest.
  pub record ShownFront (offset : ℕ) (reason : Reason) : Type 0 where
    pub count : ℕ
    pub within : count ≤ length rest
    pub at_offset : offset + 1 ≡ length (stream fs) + count
    pub evidence : Evidence role limits (unfinished fs) reason (take count rest)

  pub evident_front : (offset : ℕ) (reason : Reason) → IsEvidentAt role limits bytes fs offset reason → ShownFront offset reason
  evident_front offset reason s =
      let is_rest : rest ≡ s.seen ++ s.later = append_cancel (stream fs) rest (s.seen ++ s.later) (sym whole ∙ s.whole) in
      let all : length rest ≡ length s.seen + length s.later = ap (λ (bs : List ℕ). length bs) is_rest ∙ length-append s.seen s.later in
      let front : take (length s.seen) rest ≡ s.seen = ap (λ (bs : List ℕ). take (length s.seen) bs) is_rest ∙ take_at s.seen s.later (length s.seen) refl in
      record {
        count = length s.seen;
        within = omega arith;
        at_offset = s.at_offset;
        evidence = subst (λ (bs : List ℕ). Evidence role limits (unfinished fs) reason bs) (sym front) s.evidence;
      }

  pub front_evident : (offset count : ℕ) (reason : Reason) → count ≤ length rest → offset + 1 ≡ length (stream fs) + count → Evidence role limits (unfinished fs) reason (take count rest) → IsEvidentAt role limits bytes fs offset reason
  front_evident offset count reason within at e = record {
    seen = take count rest;
    later = drop count rest;
    whole = whole ∙ ap (λ (bs : List ℕ). stream fs ++ bs) (sym (take-append-drop count rest));
    at_offset = at ∙ ap (λ (n : ℕ). length (stream fs) + n) (sym (length-take-le count rest within));
    evidence = e;
  }

  -- The offset and the reason with precedence.
  pub record LeastEvident : Type 0 where
    pub offset : ℕ
    pub reason : Reason
    pub is_evident : IsEvidentAt role limits bytes fs offset reason
    pub least : (p : ℕ) (r : Reason) → IsEvidentAt role limits bytes fs p r → ComesFirst offset reason p r

  unfoldable pub least_evident : LeastEvident ⊎ ((p : ℕ) (r : Reason) → IsEvidentAt role limits bytes fs p r → ⊥)
  least_evident =
      elim (least_front role limits (unfinished fs) rest) [
        | inr none ↦ inr (λ p r s. let front = evident_front p r s in none front.count r front.within front.evidence)
        | inl q ↦ inl (from_front q)
      ]
    where
      from_front : LeastFront role limits (unfinished fs) rest → LeastEvident
      from_front q =
          let took : length (take q.count rest) ≡ q.count = length-take-le q.count rest q.within in
          let some : 0 < length (take q.count rest) = evidence_is_some role limits (unfinished fs) q.reason (take q.count rest) q.evidence in
          let at : length (stream fs) + q.count - 1 + 1 ≡ length (stream fs) + q.count = omega arith in
          record {
            offset = length (stream fs) + q.count - 1;
            reason = q.reason;
            is_evident = front_evident (length (stream fs) + q.count - 1) q.count q.reason q.within at q.evidence;
            least = λ p r s. comes_first q (length (stream fs) + q.count - 1) at p r (evident_front p r s);
          }
        where
          comes_first : (q : LeastFront role limits (unfinished fs) rest) (offset : ℕ) → offset + 1 ≡ length (stream fs) + q.count → (p : ℕ) (r : Reason) → ShownFront p r → ComesFirst offset q.reason p r
          comes_first q offset at p r front =
              elim (cases_order front.count q.count) [
                | inl same ↦ inr (places offset p q.count front.count at front.at_offset same, q.least_reason_is r (subst (λ (n : ℕ). Evidence role limits (unfinished fs) r (take n rest)) same front.evidence))
                | inr other ↦ elim other [
                  | inl less ↦ absurd (q.shorter front.count r less front.evidence)
                  | inr more ↦ inl (omega (arith, front.at_offset))
                ]
              ]
            where
              places : (offset p m n : ℕ) → offset + 1 ≡ length (stream fs) + m → p + 1 ≡ length (stream fs) + n → n ≡ m → offset ≡ p
              places offset p m n at_offset at_p same = omega arith
