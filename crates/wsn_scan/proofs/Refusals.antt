-- A refusal at its offending byte, whatever follows.
use Rattle.std.proofs.Common.{refl, ◌≡◌, ◌≢◌, ℕ, ◌+◌, ◌-◌, ◌<◌, ◌≤◌, List, [], ◌++◌, length, take, drop, sym, ap, ◌∙◌, arith, append_assoc, length-append, length-drop, take-append-drop}
use Rattle.wsn_wire.specs.declared.endpoint.Role.{Role}
use Rattle.wsn_wire.specs.declared.refusal.Reason.{Reason}
use Rattle.wsn_wire.specs.Frame.{Frame, IsBytes, stream}
use Rattle.wsn_wire.proofs.FrameLemmas.{IsBytes-append}
use Rattle.wsn_scan.specs.declared.stage.Stage.TheVariants as stages
use Rattle.wsn_scan.specs.declared.scan.Scan.{Scan}
use Rattle.wsn_rules.specs.Limits.{Limits}
use Rattle.wsn_rules.specs.Group.{unfinished}
use Rattle.wsn_rules.specs.Lawful.{IsLawful}
use Rattle.wsn_rules.specs.AfterClose.{HasNoClose}
use Rattle.wsn_rules.specs.Evidence.{Evidence}
use Rattle.wsn_rules.specs.Verdict.{IsRefused}
use Rattle.wsn_frame.specs.PartialHeads.{IsEvidentLast}
use Rattle.wsn_rules.specs.declared.head_info.HeadInfo.{HeadInfo}
use Rattle.wsn_rules.specs.Heads.{IsBegun}
use Rattle.wsn_scan.specs.Scans.{HasConsumed, HasScanned, refusal_of}
use Rattle.wsn_scan.specs.Positions.{Position, InFrame, begun_at, IsPayloadPrefix}
use Rattle.wsn_scan.proofs.HeadsReported.{begun_stays}
use Rattle.wsn_rules.proofs.NextBytes.{refused_at}

-- the bytes up to the offset are refused, and stay so
pub refused_here : (role : Role) (limits : Limits) (bytes seen later : List ℕ) (fs : List Frame) (offset : ℕ) (reason : Reason) → IsLawful role limits fs → HasNoClose fs
    → bytes ≡ stream fs ++ seen → offset + 1 ≡ length bytes → IsEvidentLast role limits (unfinished fs) reason seen → IsRefused role limits (bytes ++ later) fs offset reason
refused_here role limits bytes seen later fs offset reason lawful none whole at is_evident =
    refused_at role limits fs (bytes ++ later) seen later offset reason (ap (λ (bs : List ℕ). bs ++ later) whole ∙ append_assoc (stream fs) seen later)
    (at ∙ ap length whole ∙ length-append (stream fs) seen) lawful none earlier (record { is_evident = is_evident.is_evident; least = is_evident.least })
  where
    some : (m : ℕ) → m < length seen → drop m seen ≢ []
    some m less none_left = let left : length (drop m seen) ≡ 0 = ap length none_left in absurd (omega (arith, length-drop m seen))

    earlier : (m : ℕ) (r : Reason) → m < length seen → Evidence role limits (unfinished fs) r (take m seen) → ⊥
    earlier m r less evidence = is_evident.before (take m seen) (drop m seen) r (some m less) (sym (take-append-drop m seen)) evidence

-- The scan refuses, at a position with all heads.
pub refuses : (role : Role) (limits : Limits) (old : Scan) (bytes rest last : List ℕ) (fs : List Frame) (at : Position) (count : ℕ) (reason : Reason) → HasConsumed role limits old bytes fs rest → HasNoClose fs
    → length last ≡ count → count ≤ old.room → IsBytes last → 0 < count → IsEvidentLast role limits (unfinished fs) reason (rest ++ last)
    → IsBegun role limits fs (rest ++ last) (begun_at at) → ((head : HeadInfo) (payload : List ℕ) → at ≡ InFrame head payload → IsPayloadPrefix fs (bytes ++ last) head payload)
    → HasScanned role limits (record old { room = old.room - count; stage = stages.Refused (refusal_of old count reason) }) (bytes ++ last) fs (rest ++ last) at
refuses role limits old bytes rest last fs at count reason has_consumed none size fits in_bytes some is_evident is_begun payload =
    let whole : bytes ++ last ≡ stream fs ++ (rest ++ last) = ap (λ (bs : List ℕ). bs ++ last) has_consumed.whole ∙ append_assoc (stream fs) rest last in
    let same_input : old.context.limits.input ≡ limits.input = ap (λ (b : Limits). b.input) has_consumed.under in
    let room = has_consumed.room in
    let joined = length-append bytes last in
    let offset : old.context.limits.input - (old.room - count) - 1 + 1 ≡ length (bytes ++ last) = omega arith in
    let refused : (later : List ℕ) → IsRefused role limits ((bytes ++ last) ++ later) fs (old.context.limits.input - (old.room - count) - 1) reason =
    λ later. refused_here role limits (bytes ++ last) (rest ++ last) later fs (old.context.limits.input - (old.room - count) - 1) reason has_consumed.lawful none whole offset is_evident in
    record {
      has_consumed = record {
        sender = has_consumed.sender;
        under = has_consumed.under;
        in_range = has_consumed.in_range;
        lawful = has_consumed.lawful;
        whole = whole;
        in_bytes = IsBytes-append bytes last has_consumed.in_bytes in_bytes;
        room = omega arith;
        used = has_consumed.used;
        counts = has_consumed.counts;
        message = has_consumed.message;
      };
      is_at = record {
        refused = refused;
        offset = offset;
        heads = λ later. record {
          rest = (rest ++ last) ++ later;
          begun = begun_at at;
          lawful = has_consumed.lawful;
          whole = ap (λ (bs : List ℕ). bs ++ later) whole ∙ append_assoc (stream fs) (rest ++ last) later;
          is_begun = begun_stays role limits fs (rest ++ last) later reason (begun_at at) is_evident.is_evident is_begun;
          all = refl;
        };
        payload = payload;
      };
    }
