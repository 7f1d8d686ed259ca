-- The verdict at each stage of a scan.
use Rattle.std.proofs.Common.{◌≡◌, ◌≢◌, ℕ, ◌+◌, ◌-◌, ◌⊎◌, Bool, false, cond, Option, None, Some, List, [], ◌∷◌, ◌++◌, length, inl, inr, refl, sym, ap, ◌∙◌, subst, arith, length-append, append-nil}
use Rattle.wsn_wire.specs.declared.endpoint.Role.{Role}
use Rattle.wsn_wire.specs.declared.opcode.Op.{Op}
use Rattle.wsn_wire.specs.declared.opcode.Op.TheVariants.{Continue, Text, Binary, Close, Ping, Pong}
use Rattle.wsn_wire.specs.declared.refusal.Reason.{Reason}
use Rattle.wsn_wire.specs.Frame.{Frame, first_byte, key_bytes, stream}
use Rattle.wsn_wire.proofs.FrameLemmas.{fronts_agree}
use Rattle.wsn_frame.specs.declared.kept_message.OpenMessage.{OpenMessage}
use Rattle.wsn_rules.specs.declared.verdict.Verdict.TheVariants.{Accepted, Cut}
use Rattle.wsn_scan.specs.declared.scan.Scan.{Scan}
use Rattle.wsn_scan.specs.declared.stage.Inside.{Inside}
use Rattle.wsn_scan.specs.declared.stage.Stage.{Stage}
use Rattle.wsn_rules.specs.Limits.{Limits}
use Rattle.wsn_rules.specs.Group.{unfinished}
use Rattle.wsn_rules.specs.AfterClose.{HasNoClose, EndsWithClose}
use Rattle.wsn_rules.specs.Summary.{size_of_open, is_close, close_code, close_of, counted}
use Rattle.wsn_rules.specs.Verdict.{IsEvidentAt, EndsWithinFrame, IsVerdict}
use Rattle.wsn_rules.specs.Evidence.{HasNoEvidence}
use Rattle.wsn_frame.specs.KeptMessages.{IsOpenMessage}
use Rattle.wsn_scan.specs.Scans.{IsInPayload, HasScannedAt, taken_of, size_of_message, summary_of, verdict_between}
use Rattle.wsn_scan.specs.Positions.{Position}
use Rattle.wsn_rules.proofs.LeastEvident.{evidence_is_some}
use Rattle.wsn_rules.proofs.LayoutPrefixes.{layout_or_within}

size_kept : (m : Option OpenMessage) (group : List Frame) → IsOpenMessage m group → size_of_message m ≡ size_of_open group
size_kept None group is = ap size_of_open (sym is)
size_kept (Some m) [] keeps = absurd (keeps.some refl)
size_kept (Some m) (f ∷ group) keeps = ap Some keeps.size

pub other_op : (op : Op) → (op ≡ Close → ⊥) → is_close op ≡ false
other_op Continue other = refl
other_op Text other = refl
other_op Binary other = refl
other_op Close other = absurd (other refl)
other_op Ping other = refl
other_op Pong other = refl

-- frames without a Close count none
pub close_of_none : (fs : List Frame) → HasNoClose fs → close_of fs ≡ None
close_of_none [] none = refl
close_of_none (f ∷ fs) none =
    ap (λ (b : Bool). cond b (Some (close_code f.payload)) (close_of fs)) (other_op f.op (none [] fs f refl))
    ∙ close_of_none fs (λ before after g is. none (f ∷ before) after g (ap (λ (gs : List Frame). f ∷ gs) is))

-- what is valid so far in the rest is valid so far in the whole
pub nothing_evident : (role : Role) (limits : Limits) (bytes rest : List ℕ) (fs : List Frame) → bytes ≡ stream fs ++ rest → HasNoEvidence role limits (unfinished fs) rest
    → (p : ℕ) (r : Reason) → IsEvidentAt role limits bytes fs p r → ⊥
nothing_evident role limits bytes rest fs whole has_no_evidence p r is_evident =
    let same = fronts_agree (stream fs) (stream fs) rest (is_evident.seen ++ is_evident.later) refl (sym whole ∙ is_evident.whole) in
    has_no_evidence.none is_evident.seen is_evident.later r same.1 is_evident.evidence

pub nothing_without_evidence : (role : Role) (limits : Limits) (group : List Frame) → HasNoEvidence role limits group []
nothing_without_evidence role limits group = record {
  none = λ seen later r is is_evident.
      let empty : 0 ≡ length seen + length later = ap (λ (bs : List ℕ). length bs) is ∙ length-append seen later in
      absurd (omega (arith, evidence_is_some role limits group r seen is_evident));
}

-- no bytes end within a frame: all of it is missing
pub nothing_within : EndsWithinFrame []
nothing_within =
    elim (layout_or_within [] tt) [
      | inl begins ↦
          let empty : 0 ≡ length begins.bytes + length begins.following = ap (λ (bs : List ℕ). length bs) begins.whole ∙ length-append begins.bytes begins.following in
          absurd (omega (arith, begins.some))
      | inr within ↦ within
    ]

module _ (role : Role) (limits : Limits) (scan : Scan) (bytes rest : List ℕ) (fs : List Frame) (at : Position) (stage : Stage) (has_scanned : HasScannedAt role limits scan stage bytes fs rest at) where
  taken_is : taken_of scan ≡ length bytes
  taken_is = let input : scan.context.limits.input ≡ limits.input = ap (λ (b : Limits). b.input) has_scanned.has_consumed.under in let room = has_scanned.has_consumed.room in omega arith

  counted_is : (used tail : ℕ) (close : Option (Option ℕ)) → close ≡ close_of fs → summary_of scan used tail close ≡ counted fs used tail
  counted_is used tail close is =
      λ i. record {
        used = used;
        tail = tail;
        unfinished = size_kept scan.context.message (unfinished fs) has_scanned.has_consumed.message i;
        frames = has_scanned.has_consumed.counts.frames i;
        messages = has_scanned.has_consumed.counts.messages i;
        pings = has_scanned.has_consumed.counts.pings i;
        pongs = has_scanned.has_consumed.counts.pongs i;
        close = is i;
      }

  pub closed_verdict : (code : Option ℕ) → EndsWithClose fs → close_of fs ≡ Some code → IsVerdict role limits bytes fs (Accepted (summary_of scan scan.used (taken_of scan - scan.used) (Some code)))
  closed_verdict code ends is = (
    record { lawful = has_scanned.has_consumed.lawful; ends = inr (ends, (rest, has_scanned.has_consumed.whole)) },
    counted_is scan.used (taken_of scan - scan.used) (Some code) (sym is) ∙ ap (λ (n : ℕ). counted fs n (taken_of scan - n)) has_scanned.has_consumed.used ∙ ap (λ (n : ℕ). counted fs (length (stream fs)) (n - length (stream fs))) taken_is,
  )

  pub cut_verdict : HasNoClose fs → HasNoEvidence role limits (unfinished fs) rest → EndsWithinFrame rest → (rest ≢ []) ⊎ (unfinished fs ≢ []) → IsVerdict role limits bytes fs (Cut (summary_of scan (taken_of scan) 0 None))
  cut_verdict none has_no_evidence within more = (
    record { lawful = has_scanned.has_consumed.lawful; no_close = none; rest = rest; whole = has_scanned.has_consumed.whole; within = within; has_no_evidence = nothing_evident role limits bytes rest fs has_scanned.has_consumed.whole has_no_evidence; more = more },
    counted_is (taken_of scan) 0 None (sym (close_of_none fs none)) ∙ ap (λ (n : ℕ). counted fs n 0) taken_is,
  )

  pub between_verdict : HasNoClose fs → rest ≡ [] → IsVerdict role limits bytes fs (verdict_between scan scan.context.message)
  between_verdict none is = by_message scan.context.message has_scanned.has_consumed.message
    where
      by_message : (m : Option OpenMessage) → IsOpenMessage m (unfinished fs) → IsVerdict role limits bytes fs (verdict_between scan m)
      by_message None closed =
          let whole : bytes ≡ stream fs = has_scanned.has_consumed.whole ∙ ap (λ (bs : List ℕ). stream fs ++ bs) is ∙ append-nil (stream fs) in
          let all : length bytes ≡ length (stream fs) = ap length whole in
          let no_tail : 0 ≡ length bytes - length (stream fs) = omega arith in (
            record { lawful = has_scanned.has_consumed.lawful; ends = inl (none, closed, whole) },
            counted_is (taken_of scan) 0 None (sym (close_of_none fs none)) ∙ ap (λ (n : ℕ). counted fs n 0) (taken_is ∙ all) ∙ ap (λ (n : ℕ). counted fs (length (stream fs)) n) no_tail,
          )
      by_message (Some m) keeps =
          cut_verdict none (subst (HasNoEvidence role limits (unfinished fs)) (sym is) (nothing_without_evidence role limits (unfinished fs)))
          (subst EndsWithinFrame (sym is) nothing_within) (inr keeps.some)

-- a whole head is some bytes
pub some_payload : (role : Role) (limits : Limits) (group : List Frame) (inside : Inside) (rest payload : List ℕ) → IsInPayload role limits group inside rest payload → rest ≢ []
some_payload role limits group inside rest payload p none =
    let tail = p.holds.is_head.lengths ++ key_bytes inside.head.key in
    let both : first_byte inside.head.first.fin inside.head.first.op ∷ p.holds.is_head.second ∷ (tail ++ p.wire) ≡ [] = sym (p.holds.whole ∙ ap (λ (bs : List ℕ). bs ++ p.wire) p.holds.is_head.whole) ∙ none in
    cc
