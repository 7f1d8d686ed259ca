-- Evidence at an offset stays evidence, whatever bytes follow.
use Rattle.std.proofs.Common.{◌≡◌, ℕ, ◌+◌, ◌≤◌, List, ◌++◌, length, take, drop, sym, ap, ◌∙◌, inl, inr, append_assoc, arith}
use Rattle.std.proofs.lemmas.Bool.{cases_lt}
use Rattle.std.proofs.lemmas.List.{take-append-drop, take-take, take_at, take-append-le, length-append, length-take-le}
use Rattle.wsn_wire.specs.declared.endpoint.Role.{Role}
use Rattle.wsn_wire.specs.declared.refusal.Reason.{Reason}
use Rattle.wsn_wire.specs.Frame.{Frame, stream}
use Rattle.wsn_rules.specs.Limits.{Limits}
use Rattle.wsn_rules.specs.Verdict.{IsEvidentAt, IsRefused, IsVerdict}
use Rattle.wsn_rules.specs.declared.verdict.Verdict.{Verdict}
use Rattle.wsn_rules.specs.declared.verdict.Verdict.TheVariants.{Refused}
use Rattle.wsn_rules.proofs.OneVerdict.{one_verdict}

module _ (role : Role) (limits : Limits) (fs : List Frame) where
  -- The offset is within the bytes.
  pub place_within : (bytes : List ℕ) (offset : ℕ) (reason : Reason) → IsEvidentAt role limits bytes fs offset reason → offset + 1 ≤ length bytes
  place_within bytes offset reason s =
      let all : length bytes ≡ length (stream fs) + (length s.seen + length s.later) =
      ap (λ (bs : List ℕ). length bs) s.whole ∙ length-append (stream fs) (s.seen ++ s.later) ∙ ap (λ (n : ℕ). length (stream fs) + n) (length-append s.seen s.later) in
      omega (arith, s.at_offset)

  pub evident_alike : (bytes other : List ℕ) (offset : ℕ) (reason : Reason) → take (offset + 1) other ≡ take (offset + 1) bytes → IsEvidentAt role limits bytes fs offset reason → IsEvidentAt role limits other fs offset reason
  evident_alike bytes other offset reason same s =
      let up_to : length (stream fs ++ s.seen) ≡ offset + 1 = length-append (stream fs) s.seen ∙ sym s.at_offset in
      let front : take (offset + 1) bytes ≡ stream fs ++ s.seen =
      ap (λ (bs : List ℕ). take (offset + 1) bs) (s.whole ∙ sym (append_assoc (stream fs) s.seen s.later)) ∙ take_at (stream fs ++ s.seen) s.later (offset + 1) up_to in
      record {
        seen = s.seen;
        later = drop (offset + 1) other;
        whole = sym (take-append-drop (offset + 1) other) ∙ ap (λ (bs : List ℕ). bs ++ drop (offset + 1) other) (same ∙ front) ∙ append_assoc (stream fs) s.seen (drop (offset + 1) other);
        at_offset = s.at_offset;
        evidence = s.evidence;
      }

  shorter_alike : (bytes other : List ℕ) (m n : ℕ) → m ≤ n → take n other ≡ take n bytes → take m other ≡ take m bytes
  shorter_alike bytes other m n le same = sym (take-take m n other le) ∙ ap (λ (bs : List ℕ). take m bs) same ∙ take-take m n bytes le

  -- Bytes that agree up to the offset are refused alike.
  pub refused_alike : (bytes other : List ℕ) (offset : ℕ) (reason : Reason) → take (offset + 1) other ≡ take (offset + 1) bytes → IsRefused role limits bytes fs offset reason → IsRefused role limits other fs offset reason
  refused_alike bytes other offset reason same r = record {
    lawful = r.lawful;
    no_close = r.no_close;
    is_evident = evident_alike bytes other offset reason same r.is_evident;
    least = λ p s is_evident. elim (cases_lt offset p) [
      | inl later ↦ inl later
      | inr within ↦ r.least p s (evident_alike other bytes p s (sym (shorter_alike bytes other (p + 1) (offset + 1) (omega arith) same)) is_evident)
    ];
  }

  pub stays_refused : (bytes more : List ℕ) (offset : ℕ) (reason : Reason) → IsRefused role limits bytes fs offset reason → IsRefused role limits (bytes ++ more) fs offset reason
  stays_refused bytes more offset reason r =
      refused_alike bytes (bytes ++ more) offset reason (take-append-le (offset + 1) bytes more (place_within bytes offset reason r.is_evident)) r

  -- No input that begins with the bytes up to the offset has another verdict.
  pub refused_whatever_follows : (bytes more : List ℕ) (offset : ℕ) (reason : Reason) → IsRefused role limits bytes fs offset reason → (gs : List Frame) (v : Verdict) → IsVerdict role limits (take (offset + 1) bytes ++ more) gs v → (gs ≡ fs) × (v ≡ Refused (record { offset = offset; reason = reason }))
  refused_whatever_follows bytes more offset reason r gs v is =
      let within = place_within bytes offset reason r.is_evident in
      let count : length (take (offset + 1) bytes) ≡ offset + 1 = length-take-le (offset + 1) bytes within in
      let alike = refused_alike bytes (take (offset + 1) bytes ++ more) offset reason (take_at (take (offset + 1) bytes) more (offset + 1) count) r in
      let same = one_verdict role limits (take (offset + 1) bytes ++ more) fs gs (Refused (record { offset = offset; reason = reason })) v alike is in
      (sym same.0, sym same.1)
