-- What a call of a reader of frames reads and returns, step by step.
use Rattle.std.specs.Prelude.{◌⊎◌}
use Rattle.std.proofs.Common.{◌≡◌, ℕ, ◌+◌, ◌≤◌, false, Option, None, Some, Result, Ok, Err, List, [], ◌++◌, length, sym, subst, inl, inr, append_assoc, append-nil}
use Rattle.wsn_wire.specs.declared.endpoint.Role.{Role}
use Rattle.wsn_wire.specs.Frame.{Frame}
use Rattle.wsn_io.specs.Transfer.{Incoming, IsConsumed}
use Rattle.wsn_io.proofs.Received.{consumed_none, consumed_on}
use Rattle.wsn_rules.specs.declared.verdict.Refusal.{Refusal}
use Rattle.wsn_rules.specs.declared.verdict.Verdict.{Verdict}
use Rattle.wsn_rules.specs.declared.verdict.Verdict.TheVariants.{Accepted, Cut, Refused}
use Rattle.wsn_rules.specs.Limits.{Limits}
use Rattle.wsn_rules.specs.Verdict.{IsRefused}
use Rattle.wsn_scan.specs.declared.part.Part.{Part}
use Rattle.wsn_scan.specs.declared.part.Taken.{Taken}
use Rattle.wsn_scan.specs.declared.part.Taken.TheVariants as taken
use Rattle.wsn_scan.specs.declared.frame_reader.FrameReader.{FrameReader}
use Rattle.wsn_io.specs.declared.stop.Stop.{Stop}
use Rattle.wsn_scan.specs.Positions.{Position}
use Rattle.wsn_scan.specs.FrameReaders.{HasTaken, IsReading}
use Rattle.wsn_scan.specs.ReadParts.{ReadsOn, IsNextPart, IsJudgedAt, StepsOn, IsUsed, IsFilled, HasRefused}
use Rattle.wsn_scan.specs.Scans.{refusal_judged}

-- A call has read these bytes more and taken nothing yet.
pub record HasRead (role : Role) (limits : Limits) (old new : Incoming) (reader : FrameReader) (came : List ℕ) (fs : List Frame) (at : Position) : Type 0 where
  pub more : List ℕ
  pub consumed : IsConsumed old new more
  pub has_taken : HasTaken role limits reader (came ++ more) fs at

-- the verdict of a scan that has refused
pub refused_as : (verdict : Verdict) (refusal : Refusal) → refusal_judged verdict ≡ Some refusal → verdict ≡ Refused refusal
refused_as (Accepted summary) refusal is = absurd cc
refused_as (Cut summary) refusal is = absurd cc
refused_as (Refused held) refusal is = cc

module _ (role : Role) (limits : Limits) (old : Incoming) (came : List ℕ) (fs : List Frame) (at : Position) where
  pub begins : (reader : FrameReader) → HasTaken role limits reader came fs at → HasRead role limits old old reader came fs at
  begins reader has_taken = record { more = []; consumed = consumed_none old; has_taken = subst (λ (bs : List ℕ). HasTaken role limits reader bs fs at) (sym (append-nil came)) has_taken }

  module _ (mid : Incoming) (reader : FrameReader) (read : HasRead role limits old mid reader came fs at) where
    -- it returns without reading more
    pub answers : (next : FrameReader) (part : Part) (result : Result (Option Verdict) Stop) → IsNextPart role limits mid next part (came ++ read.more) fs at result → ReadsOn role limits old mid next part came fs at result
    answers next part result is = record { more = read.more; consumed = read.consumed; few = read.has_taken.buffered.few; next = is }

    pub refused_done : (next : FrameReader) (verdict : Verdict) (refused : HasRefused role limits next (came ++ read.more) fs at) → refusal_judged verdict ≡ Some refused.refusal → mid.failed ≡ false
        → IsJudgedAt role limits mid (came ++ read.more) fs at verdict
    refused_done next verdict refused judged unfailed =
        let refusal = refused.refusal in
        let by = refused.refused_by in
        let is_done : IsJudgedAt role limits mid (came ++ read.more) fs at (Refused refusal) = (
          (fs, by.refused, by.soon, by.within, unfailed),
          subst (λ (bs : List ℕ). IsRefused role limits bs fs refusal.offset refusal.reason) (append-nil (came ++ read.more)) (by.refused []),
          by.all_taken,
        ) in
        subst (λ (v : Verdict). IsJudgedAt role limits mid (came ++ read.more) fs at v) (sym (refused_as verdict refusal judged)) is_done

    -- one read more
    module _ (new : Incoming) (next : FrameReader) where
      both : (more : List ℕ) → IsConsumed mid new more → IsConsumed old new (read.more ++ more)
      both more consumed = consumed_on old mid new read.more more read.consumed consumed

      pub fills : IsFilled role limits mid new next (came ++ read.more) fs at (Ok None) → HasRead role limits old new next came fs at
      fills filled = record {
        more = read.more ++ filled.more;
        consumed = both filled.more filled.consumed;
        has_taken = subst (λ (bs : List ℕ). HasTaken role limits next bs fs at) (append_assoc came read.more filled.more) filled.next.0;
      }

      joined : (part : Part) (result : Result (Option Verdict) Stop) (filled : IsFilled role limits mid new next (came ++ read.more) fs at result) → IsNextPart role limits new next part ((came ++ read.more) ++ filled.more) fs at result
          → ReadsOn role limits old new next part came fs at result
      joined part result filled is =
          let all = append_assoc came read.more filled.more in
          record {
            more = read.more ++ filled.more;
            consumed = both filled.more filled.consumed;
            few = subst (λ (bs : List ℕ). length bs ≤ limits.input + 1) all filled.few;
            next = subst (λ (bs : List ℕ). IsNextPart role limits new next part bs fs at result) all is;
          }

      pub ends : (part : Part) (verdict : Verdict) → IsFilled role limits mid new next (came ++ read.more) fs at (Ok (Some verdict)) → ReadsOn role limits old new next part came fs at (Ok (Some verdict))
      ends part verdict filled = joined part (Ok (Some verdict)) filled filled.next

      pub halts : (part : Part) (halted : Stop) → IsFilled role limits mid new next (came ++ read.more) fs at (Err halted) → ReadsOn role limits old new next part came fs at (Err halted)
      halts part halted filled = joined part (Err halted) filled filled.next

pub reading_of : (role : Role) (limits : Limits) (reader : FrameReader) (came : List ℕ) (fs : List Frame) (at : Position) → HasTaken role limits reader came fs at → IsReading reader
reading_of role limits reader came fs at has_taken = record { role = role; limits = limits; came = came; frames = fs; position = at; has_taken = has_taken }

-- ---- a call of the scan that took nothing

pub used_by : (role : Role) (limits : Limits) (reader : FrameReader) (part : Part) (came : List ℕ) (fs : List Frame) (at : Position) (found : Taken) → (found ≡ taken.More) ⊎ (found ≡ taken.Closed)
    → StepsOn role limits reader part came fs at found → IsUsed role limits reader came fs at
used_by role limits reader part came fs at found (inl more) steps = subst (λ (m : Taken). StepsOn role limits reader part came fs at m) more steps
used_by role limits reader part came fs at found (inr closed) steps = subst (λ (m : Taken). StepsOn role limits reader part came fs at m) closed steps
