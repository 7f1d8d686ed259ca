-- The plan of the frames of an input that comes in chunks.
use Rattle.std.proofs.Common.{◌≡◌, ◌≢◌, ℕ, ◌+◌, ◌≤◌, Option, None, Some, Result, Ok, Err, List, [], ◌++◌, length, refl, sym, ap, ◌∙◌, subst, append-nil, arith}
use Rattle.std.proofs.lemmas.List.{take_all}
use Rattle.std.specs.Io.KnownBytes.{Consumes}
use Rattle.wsn_wire.specs.declared.endpoint.Role.{Role}
use Rattle.wsn_wire.specs.Frame.{Frame}
use Rattle.wsn_io.specs.Transfer.{Incoming}
use Rattle.wsn_io.specs.declared.stop.Stop.{Stop}
use Rattle.wsn_io.specs.declared.stop.Stop.TheVariants as stop
use Rattle.wsn_rules.specs.declared.head_info.HeadInfo.{HeadInfo}
use Rattle.wsn_rules.specs.declared.step.Step.{Step}
use Rattle.wsn_rules.specs.declared.verdict.Refusal.{Refusal}
use Rattle.wsn_rules.specs.declared.verdict.Summary.{Summary}
use Rattle.wsn_rules.specs.declared.verdict.Verdict.{Verdict}
use Rattle.wsn_rules.specs.declared.verdict.Verdict.TheVariants.{Accepted, Cut, Refused}
use Rattle.wsn_rules.specs.Group.{unfinished}
use Rattle.wsn_rules.specs.Limits.{Limits}
use Rattle.wsn_rules.specs.Recut.{plan_of}
use Rattle.wsn_rules.specs.Summary.{size_of_open}
use Rattle.wsn_rules.specs.Verdict.{IsRefused, IsVerdict}
use Rattle.wsn_scan.specs.declared.chunk_reader.ChunkReader.{ChunkReader}
use Rattle.wsn_scan.specs.declared.scan.Scan.{Scan}
use Rattle.wsn_scan.specs.ChunkReaders.{HasCome, IsEndOf, IsHaltOf, StopsAt}
use Rattle.wsn_scan.specs.Feeding.{IsRunning}
use Rattle.wsn_scan.specs.Judging.{IsStopped, IsWithinLimit, chunk_size}
use Rattle.wsn_scan.specs.Positions.{Position, BetweenFrames}
use Rattle.wsn_scan.specs.Scans.{HasScanned, refusal_in, refusal_judged}
use Rattle.wsn_scan.proofs.ChunksSoFar.{received, within_limit}
use Rattle.wsn_scan.proofs.JudgedInputs.{HasRead, begins as read_none, stopped, ended, goes_on, refuses_input}
use Rattle.wsn_scan.proofs.WholeInputs.{of_all}
use Rattle.wsn_plan.specs.declared.planning.PlanAnswer.{PlanAnswer}
use Rattle.wsn_plan.specs.declared.planning.PlanAnswer.TheVariants.{Plan, NotAccepted, Unfinished}
use Rattle.wsn_plan.specs.Gathering.{HasWholeFrame}
use Rattle.wsn_plan.specs.Planning.{IsPlanFor, IsPlanOf, IsPlanned, IsPlannedWhole, IsAnswerWith, HasScannedPlan, HasFrameEnd, IsPlannedChunk}
use Rattle.wsn_plan.proofs.Recuts.{past_limit}

-- ---- the answer

none_open : (group : List Frame) → size_of_open group ≡ None → group ≡ []
none_open group none = grind arith

some_open : (group : List Frame) → size_of_open group ≢ None → group ≢ []
some_open group fact is = grind arith

answer_for : {A : Type 0} (role : Role) (limits : Limits) (came : List ℕ) (done : List Frame) (verdict : Verdict) (plan : List Step) (answer : PlanAnswer A)
    → IsVerdict role limits came done verdict → plan ≡ plan_of done → IsAnswerWith verdict plan answer → IsPlanFor done verdict answer
answer_for role limits came done (Accepted s) plan (Plan steps) is same (none, all) = (tt, none_open (unfinished done) (sym (ap (λ (u : Summary). u.unfinished) is.1) ∙ none), all ∙ same)
answer_for role limits came done (Accepted s) plan Unfinished is same some = (tt, some_open (unfinished done) (λ none. some (ap (λ (u : Summary). u.unfinished) is.1 ∙ none)))
answer_for role limits came done (Accepted s) plan (NotAccepted says) is same never = absurd never
answer_for {A} role limits came done (Cut s) plan answer is same says = subst (λ (a : PlanAnswer A). IsPlanFor done (Cut s) a) (sym says) (refl, λ no. no)
answer_for {A} role limits came done (Refused r) plan answer is same says = subst (λ (a : PlanAnswer A). IsPlanFor done (Refused r) a) (sym says) (refl, λ no. no)

-- ---- while planning

-- The scan has consumed all that came and not refused, and the plan is that of the frames that it has taken.
pub record HasPlanned (role : Role) (limits : Limits) (old new : Incoming) (chunks : ChunkReader) (scan : Scan) (plan : List Step) : Type 0 where
  pub came : List ℕ
  pub heads : List HeadInfo
  pub read : HasRead role limits old new chunks scan came heads
  pub planned : HasScannedPlan role limits scan came plan

module _ (role : Role) (limits : Limits) (old : Incoming) where
  pub begins : (chunks : ChunkReader) (scan : Scan) → HasCome limits old old chunks [] → HasScanned role limits scan [] [] [] BetweenFrames → HasPlanned role limits old old chunks scan []
  begins chunks scan come has_scanned = record {
    came = [];
    heads = [];
    read = read_none role limits old chunks scan come has_scanned;
    planned = record { frames = []; since = []; position = BetweenFrames; has_scanned = has_scanned; steps = refl };
  }

  module _ (mid : Incoming) (chunks : ChunkReader) (scan : Scan) (plan : List Step) (so_far : HasPlanned role limits old mid chunks scan plan) where
    -- a scan that has consumed something
    pub is_running : IsRunning scan
    is_running = record { role = role; limits = limits; bytes = so_far.came; heads = so_far.heads; taken = so_far.read.taken }

    -- no more is read
    pub is_stopped : {A : Type 0} (new : Incoming) (halted : Stop) → IsHaltOf limits old new so_far.came halted → IsPlanned {A = A} role limits old new (Err halted)
    is_stopped {A} new halted halt =
        let judged = stopped role limits old mid chunks scan so_far.came so_far.heads so_far.read new halted halt in
        record { came = halt.all; received = judged.received; of_bytes = by halted halt.stops judged.answer }
      where
        by : (h : Stop) → StopsAt limits new halt.all h → IsStopped role limits new halt.all h → IsPlanOf {A = A} role limits new halt.all (Err h)
        by h stops is = grind arith

    -- the input ended
    pub is_ended : {A : Type 0} (new : Incoming) (verdict : Verdict) (answer : PlanAnswer A) → IsEndOf limits old new so_far.came
        → ((bytes since : List ℕ) (fs : List Frame) (at : Position) → HasScanned role limits scan bytes fs since at → IsVerdict role limits bytes fs verdict) → refusal_judged verdict ≡ refusal_in scan
        → IsAnswerWith verdict plan answer → IsPlanned role limits old new (Ok answer)
    is_ended new verdict answer end verdict_is reported says = grind (arith, ended, received, answer_for)

    -- The scan got the next chunk.
    module _ (new : Incoming) (later : ChunkReader) (next : Scan) (chunk : List ℕ) (come : HasCome limits old new later (so_far.came ++ chunk)) (after : List Step) where
      -- it has consumed all of it
      pub has_more : IsPlannedChunk scan next chunk plan after (Ok None) → HasPlanned role limits old new later next after
      has_more (fed, plans) = record {
        came = so_far.came ++ chunk;
        heads = so_far.heads ++ fed.heads;
        read = goes_on role limits old mid chunks scan so_far.came so_far.heads so_far.read new later next chunk come fed;
        planned = subst (λ (bs : List ℕ). HasScannedPlan role limits next (so_far.came ++ bs) after) (take_all fed.count chunk (omega (arith, fed.all refl))) (plans role limits so_far.came so_far.planned);
      }

      -- it refused
      pub is_refused : {A : Type 0} → length chunk + length come.past ≤ chunk_size → (refusal : Refusal) → IsPlannedChunk scan next chunk plan after (Ok (Some refusal))
          → IsPlanned {A = A} role limits old new (Ok (NotAccepted (Refused refusal)))
      is_refused short refusal (fed, plans) =
          let judged = refuses_input role limits old mid chunks scan so_far.came so_far.heads so_far.read new later next chunk come short refusal fed in
          let reached = judged.answer in
          let all = (so_far.came ++ chunk) ++ come.past in
          let is = subst (λ (bs : List ℕ). IsRefused role limits bs reached.0 refusal.offset refusal.reason) (append-nil all) (reached.1 []) in
          record { came = all; received = judged.received; of_bytes = (Refused refusal, reached.0, reached, is, (refl, λ no. no)) }

      -- an allocation failed
      pub is_out_of_memory : {A : Type 0} → HasFrameEnd scan chunk → IsPlanned {A = A} role limits old new (Err stop.Memory)
      is_out_of_memory has_end = record {
        came = (so_far.came ++ chunk) ++ come.past;
        received = received limits old new later (so_far.came ++ chunk) come;
        of_bytes = (
          subst (λ (bs : List ℕ). HasWholeFrame role limits bs) (sym (within_limit limits old new later (so_far.came ++ chunk) come)) (has_end role limits so_far.came so_far.heads so_far.read.taken),
          come.unfailed,
        );
      }

-- ---- of all the bytes

module _ {A : Type 0} (role : Role) (limits : Limits) where
  pub whole_plan : (old new : Incoming) (result : Result (PlanAnswer A) Stop) (all : List ℕ) → IsPlanned role limits old new result → old.remaining ≡ Some all → IsPlannedWhole role limits all result
  whole_plan old new result all did known =
      by_rest new.remaining refl (subst (λ (a : Option (List ℕ)). Consumes a new.remaining did.came) known did.received.consumed.consumed)
    where
      came : List ℕ
      came = did.came

      by_result : (rest : List ℕ) → new.remaining ≡ Some rest → all ≡ came ++ rest → (r : Result (PlanAnswer A) Stop) → IsPlanOf role limits new came r → IsPlannedWhole role limits all r
      by_result rest left is (Ok answer) (verdict, frames, reached, verdict_is, planned) =
          let here = of_all role limits new came rest frames verdict reached left verdict_is in (
            verdict,
            frames,
            subst (λ (bs : List ℕ). IsVerdict role limits bs frames verdict) (sym is) here.0,
            subst (λ (bs : List ℕ). IsWithinLimit limits bs verdict) (sym is) here.1,
            planned,
          )
      by_result rest left is (Err stop.InputLimit) says = past_limit role limits came rest all is says.0 says.1
      by_result rest left is _ says = tt

      by_rest : (rest : Option (List ℕ)) → new.remaining ≡ rest → Consumes (Some all) rest came → IsPlannedWhole role limits all result
      by_rest rest left consumed = grind (arith, by_result)
