-- A chunk that is redacted call by call.
use Rattle.std.proofs.Common.{◌≡◌, ℕ, ◌+◌, ◌<◌, ◌≤◌, ◌^◌, Option, None, Some, List, ◌++◌, length, take, inl, inr, refl, sym, ap, ◌∙◌, subst, arith}
use Rattle.std.specs.Prelude.{IsSome}
use Rattle.std.proofs.lemmas.List.{take-take}
use Rattle.wsn_wire.specs.declared.endpoint.Role.{Role}
use Rattle.wsn_rules.specs.declared.verdict.Refusal.{Refusal}
use Rattle.wsn_rules.specs.Limits.{Limits}
use Rattle.wsn_scan.specs.declared.part.Part.{Part}
use Rattle.wsn_scan.specs.declared.part.Taken.{Taken}
use Rattle.wsn_scan.specs.declared.part.Taken.TheVariants as taken
use Rattle.wsn_scan.specs.declared.scan.Scan.{Scan}
use Rattle.wsn_scan.specs.FollowedScans.{IsCall}
use Rattle.wsn_scan.specs.Scans.{refusal_in, room_of}
use Rattle.wsn_scan.proofs.FollowedScans.{reached}
use Rattle.wsn_scan.proofs.ReaderSteps.{refusal_by}
use Rattle.wsn_redact.specs.declared.redacted_payload.Redactor.{Redactor}
use Rattle.wsn_redact.specs.Redaction.{zeros_for}
use Rattle.wsn_redact.specs.RedactedParts.{Rewrites, IsRedacting, HasRefused, HasRedacted, IsRunningFor}
use Rattle.wsn_redact.proofs.RedactedSteps.{quiet, closed, part_step}
use Rattle.wsn_redact.proofs.RedactedEnds.{refused_some, refused_step}

none_and_some : (refusal : Option Refusal) → refusal ≡ None → IsSome refusal → ⊥
none_and_some None none some = let both : _ = some in cc
none_and_some (Some r) none some = cc

-- What has come hasn't been refused, or has.
pub unrefused_of : (role : Role) (limits : Limits) (scan : Scan) (kept : Redactor) (came written : List ℕ) → refusal_in scan ≡ None → HasRedacted role limits scan kept came written → IsRedacting role limits scan kept came written
unrefused_of role limits scan kept came written none (inl h) = h
unrefused_of role limits scan kept came written none (inr h) = let both : None ≡ Some h.refusal = sym none ∙ h.reported in absurd cc

pub refused_of : (role : Role) (limits : Limits) (scan : Scan) (kept : Redactor) (came written : List ℕ) → IsSome (refusal_in scan) → HasRedacted role limits scan kept came written → HasRefused role limits scan came written
refused_of role limits scan kept came written some (inl h) = absurd (none_and_some (refusal_in scan) h.followed.unrefused some)
refused_of role limits scan kept came written some (inr h) = h

module _ (role : Role) (limits : Limits) (old new : Scan) (chunk after : List ℕ) (n : ℕ) (part : Part) (came : List ℕ) (kept : Redactor) (written : List ℕ) (h : IsRedacting role limits old kept came written) where
  -- A call consumes bytes.
  pub some_taken : (found : Taken) → IsCall old new chunk after n found part → 0 < length chunk → 0 < n
  some_taken taken.More call some = let all = (reached role limits old new chunk after n taken.More part came h.frames h.position h.rest h.followed call).1 in omega (arith, all, some)
  some_taken taken.Part call some = (reached role limits old new chunk after n taken.Part part came h.frames h.position h.rest h.followed call).1.0 some
  some_taken taken.Closed call some = let all = (reached role limits old new chunk after n taken.Closed part came h.frames h.position h.rest h.followed call).1 in omega (arith, all, some)
  some_taken taken.Refused call some =
      let r = refusal_by (refusal_in new) (call.reported.1 refl) in
      refused_some role limits old new chunk after n part came kept written h r.0 r.1 call

  -- What was written for them.
  pub call_step : (found : Taken) (next : Redactor) (out : List ℕ) → 0 < length chunk → length after ≡ length chunk → IsCall old new chunk after n found part
      → (found ≡ taken.Part → (part.start ≤ n) × (take part.start after ≡ take part.start chunk)) → Rewrites kept next (refusal_in new) found part (take n after) out
      → HasRedacted role limits new next (came ++ take n chunk) (written ++ out)
  call_step taken.More next out some sized call start rewrites =
      inl (subst (λ (k : Redactor). IsRedacting role limits new k (came ++ take n chunk) (written ++ out)) (sym rewrites.0)
      (subst (λ (bs : List ℕ). IsRedacting role limits new kept (came ++ take n chunk) (written ++ bs)) (sym rewrites.1) (quiet role limits old new chunk after n came kept written h part (some_taken taken.More call some) call)))
  call_step taken.Closed next out some sized call start rewrites =
      let same : after ≡ chunk = call.untouched (λ is. cc) (λ is. cc) in
      inl (subst (λ (k : Redactor). IsRedacting role limits new k (came ++ take n chunk) (written ++ out)) (sym rewrites.0)
      (closed role limits old new chunk after n came kept written h part out (some_taken taken.Closed call some) call (rewrites.1 ∙ ap (λ (bs : List ℕ). zeros_for (take n bs)) same)))
  call_step taken.Part next out some sized call start rewrites =
      let s = start refl in
      let front : take part.start (take n after) ≡ take part.start chunk = take-take part.start n after s.0 ∙ s.1 in
      inl (subst (λ (bs : List ℕ). IsRedacting role limits new next (came ++ take n chunk) (written ++ bs)) (sym (rewrites.2 ∙ ap (λ (bs : List ℕ). bs ++ rewrites.0) front))
      (part_step role limits old new chunk after n came kept written h part call s.0 sized next rewrites.0 rewrites.1))
  call_step taken.Refused next out some sized call start rewrites =
      let r = refusal_by (refusal_in new) (call.reported.1 refl) in
      let both = rewrites r.0 r.1 in
      inr (refused_step role limits old new chunk after n part came kept written h r.0 r.1 call sized out both.0 both.1)

-- A running scan has room for the chunk.
pub fits : (n : ℕ) (scan : Scan) (kept : Redactor) → IsRunningFor n scan kept → refusal_in scan ≡ None → n ≤ room_of scan
fits n scan kept b none =
    let h = unrefused_of b.role b.limits scan kept b.came b.written none b.has_redacted in
    let room = h.followed.has_scanned.has_consumed.room in
    let within = b.within in
    omega (arith, room, within)

pub small : (n m : ℕ) (scan : Scan) (kept : Redactor) → IsRunningFor n scan kept → refusal_in scan ≡ None → m ≤ n → kept.done + m < 2 ^ 64
small n m scan kept b none few =
    let h = unrefused_of b.role b.limits scan kept b.came b.written none b.has_redacted in
    let input = h.followed.has_scanned.has_consumed.in_range.input in
    let within = b.within in
    let done = h.few in
    omega (arith, input, within, done, few)
