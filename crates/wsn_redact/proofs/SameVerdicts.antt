-- The redaction of a stream has the same verdict, with the same counts.
use Rattle.std.proofs.Common.{◌≡◌, ℕ, suc, ◌-◌, Bool, true, false, Option, Some, List, [], ◌∷◌, ◌++◌, length, take, drop, if◌then◌else◌, refl, sym, ap, ◌∙◌, arith}
use Rattle.std.specs.Prelude.{filter}
use Rattle.wsn_wire.specs.declared.endpoint.Role.{Role}
use Rattle.wsn_wire.specs.declared.opcode.Op.{Op}
use Rattle.wsn_wire.specs.declared.opcode.Op.TheVariants.{Close}
use Rattle.wsn_wire.specs.Frame.{Frame, IsBytes, stream}
use Rattle.wsn_rules.specs.declared.verdict.Verdict.{Verdict}
use Rattle.wsn_rules.specs.declared.verdict.Verdict.TheVariants.{Accepted, Cut, Refused}
use Rattle.wsn_rules.specs.Limits.{Limits}
use Rattle.wsn_rules.specs.Group.{unfinished}
use Rattle.wsn_rules.specs.Lawful.{IsLawful}
use Rattle.wsn_rules.specs.Summary.{size_of_open, ends_message, is_close, is_ping, is_pong, close_code, close_of, counted}
use Rattle.wsn_rules.specs.Verdict.{IsVerdict}
use Rattle.wsn_redact.specs.StandIns.{stood}
use Rattle.wsn_redact.specs.Redaction.{with_payload, redacted_payload, redacted_frames, IsRedaction}
use Rattle.wsn_redact.proofs.OneRedaction.{frames_length, redaction_length}
use Rattle.wsn_redact.proofs.RedactedPayloads.{are_redacted}
use Rattle.wsn_redact.proofs.RedactedVerdicts.{SameGroup, frames_stay_lawful, stays_accepted}
use Rattle.wsn_redact.proofs.CutStays.{cut_stays}
use Rattle.wsn_redact.proofs.RefusedStays.{refused_stays}

-- ---- the counts

-- A Close keeps its code.
code_stays : (body : List ℕ) → close_code (take 2 body ++ stood [] (drop 2 body)) ≡ close_code body
code_stays [] = refl
code_stays (b ∷ []) = refl
code_stays (b ∷ c ∷ reason) = refl

first_close_stays : (before fs : List Frame) → close_of (redacted_frames before fs) ≡ close_of fs
first_close_stays before [] = refl
first_close_stays before (f ∷ fs) = by (first_close_stays (before ++ f ∷ []) fs) f.op
  where
    by : close_of (redacted_frames (before ++ f ∷ []) fs) ≡ close_of fs → (op : Op) → ◌≡◌ {A = Option (Option ℕ)} (if is_close op then Some (close_code (redacted_payload (unfinished before) op f.payload)) else close_of (redacted_frames (before ++ f ∷ []) fs)) (if is_close op then Some (close_code f.payload) else close_of fs)
    by rest Close = ap (λ (c : Option ℕ). Some c) (code_stays f.payload)
    by rest _ = rest

length_stays : (before fs : List Frame) → length (redacted_frames before fs) ≡ length fs
length_stays before [] = refl
length_stays before (f ∷ fs) = ap suc (length_stays (before ++ f ∷ []) fs)

count_stays : (passes : Frame → Bool) → ((f : Frame) (payload : List ℕ) → passes (with_payload f payload) ≡ passes f) → (before fs : List Frame) → length (filter passes (redacted_frames before fs)) ≡ length (filter passes fs)
count_stays passes same before [] = refl
count_stays passes same before (f ∷ fs) =
    let g = with_payload f (redacted_payload (unfinished before) f.op f.payload) in
    let gs = redacted_frames (before ++ f ∷ []) fs in
    ap (λ (c : Bool). length (if c then g ∷ filter passes gs else filter passes gs)) (same f g.payload) ∙ by g gs (count_stays passes same (before ++ f ∷ []) fs) (passes f)
  where
    by : (g : Frame) (gs : List Frame) → length (filter passes gs) ≡ length (filter passes fs) → (c : Bool) → length (if c then g ∷ filter passes gs else filter passes gs) ≡ length (if c then f ∷ filter passes fs else filter passes fs)
    by g gs rest true = ap suc rest
    by g gs rest false = rest

open_stays : (group redacted : List Frame) → SameGroup group redacted → size_of_open redacted ≡ size_of_open group
open_stays [] [] same = refl
open_stays [] (y ∷ ys) same = let count = same.count in absurd (omega (arith, count))
open_stays (x ∷ xs) [] same = let count = same.count in absurd (omega (arith, count))
open_stays (x ∷ xs) (y ∷ ys) same = ap (λ (n : ℕ). Some n) same.size

module _ (role : Role) (limits : Limits) where
  counts_stay : (fs : List Frame) → IsLawful role limits fs → (used tail : ℕ) → counted (redacted_frames [] fs) used tail ≡ counted fs used tail
  counts_stay fs lawful used tail =
      let gs = redacted_frames [] fs in
      let size = open_stays (unfinished fs) (unfinished gs) (frames_stay_lawful role limits fs lawful).same in
      let frames = length_stays [] fs in
      let messages = count_stays ends_message (λ f payload. refl) [] fs in
      let pings = count_stays (λ f. is_ping f.op) (λ f payload. refl) [] fs in
      let pongs = count_stays (λ f. is_pong f.op) (λ f payload. refl) [] fs in
      let close = first_close_stays [] fs in
      λ i. record { used = used; tail = tail; unfinished = size i; frames = frames i; messages = messages i; pings = pings i; pongs = pongs i; close = close i }

  -- ---- the verdict

  pub verdict_stays : (bytes redacted : List ℕ) (fs : List Frame) (v : Verdict) → IsBytes bytes → IsVerdict role limits bytes fs v → IsRedaction role limits bytes redacted → IsVerdict role limits redacted (redacted_frames [] fs) v
  verdict_stays bytes redacted fs (Accepted s) in_bytes is r =
      let gs = redacted_frames [] fs in
      let streams : length (stream gs) ≡ length (stream fs) = frames_length [] fs gs (are_redacted role limits [] fs is.0.lawful) in
      let size : length redacted ≡ length bytes = redaction_length role limits bytes redacted r in (
        stays_accepted role limits bytes redacted fs is.0 r,
        is.1 ∙ (λ i. counted fs (sym streams i) (sym size i - sym streams i)) ∙ sym (counts_stay fs is.0.lawful (length (stream gs)) (length redacted - length (stream gs))),
      )
  verdict_stays bytes redacted fs (Cut s) in_bytes is r =
      let size : length redacted ≡ length bytes = redaction_length role limits bytes redacted r in (
        cut_stays role limits bytes redacted fs is.0 r,
        is.1 ∙ (λ i. counted fs (sym size i) 0) ∙ sym (counts_stay fs is.0.lawful (length redacted) 0),
      )
  verdict_stays bytes redacted fs (Refused q) in_bytes is r = refused_stays role limits bytes redacted fs q.offset q.reason in_bytes is r
