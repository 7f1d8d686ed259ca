-- The plan of the frames that a scan takes of a chunk.
use Rattle.std.proofs.Common.{◌≡◌, ℕ, ◌+◌, ◌-◌, ◌<◌, ◌≤◌, true, false, Option, None, Ok, List, [], ◌∷◌, ◌++◌, length, take, drop, refl, sym, ap, ◌∙◌, subst, append_assoc, append-nil, take-append-drop, length-drop, arith}
use Rattle.std.proofs.lemmas.List.{map-append}
use Rattle.std.proofs.Math.Seq.{take-add}
use borrow.Rule.Slice.PartMut.{mid_of, put_mid, put_same}
use Rattle.wsn_wire.specs.declared.endpoint.Role.{Role}
use Rattle.wsn_wire.specs.Frame.{Frame, IsBytes, stream}
use Rattle.wsn_rules.specs.declared.head_info.HeadInfo.{HeadInfo}
use Rattle.wsn_rules.specs.declared.step.Step.{Step}
use Rattle.wsn_rules.specs.declared.verdict.Refusal.{Refusal}
use Rattle.wsn_rules.specs.Heads.{info_of}
use Rattle.wsn_rules.specs.Limits.{Limits}
use Rattle.wsn_rules.specs.Recut.{plan_of}
use Rattle.wsn_scan.specs.declared.part.Part.{Part}
use Rattle.wsn_scan.specs.declared.part.Taken.{Taken}
use Rattle.wsn_scan.specs.declared.part.Taken.TheVariants as taken
use Rattle.wsn_scan.specs.declared.scan.Scan.{Scan}
use Rattle.wsn_scan.specs.Feeding.{HasScannedBytes, IsRunning, heads_in}
use Rattle.wsn_scan.specs.Parts.{Finds}
use Rattle.wsn_scan.specs.Positions.{Position}
use Rattle.wsn_scan.specs.Scans.{HasScanned, AdvancesFrom, room_of, refusal_in}
use Rattle.wsn_scan.proofs.FedChunks.{IsFedTo, bytes_after, share_is, fed_further}
use Rattle.wsn_scan.proofs.FoundHeads.{takes_by, takes_some, runs_on}
use Rattle.wsn_plan.specs.Gathering.{HasWholeFrame}
use Rattle.wsn_plan.specs.Planning.{HasScannedPlan, PlansPrefix, HasFrameEnd, IsPlannedChunk, step_of_head}

-- The scan has consumed the chunk up to this byte, and the plan has the steps of the frames that it took.
pub record IsPlannedTo (old scan : Scan) (chunk here : List ℕ) (before plan : List Step) (at : ℕ) : Type 0 where
  pub fed : IsFedTo old scan chunk here at
  pub plans : PlansPrefix old scan chunk at before plan

-- ---- a plan and a chunk

-- the plan of one frame more
one_more : (plan kept : List Step) (frames after : List Frame) (f : Frame) (offset : ℕ) (head : HeadInfo) (step : Step) → plan ≡ plan_of frames → head ≡ info_of offset f → step ≡ step_of_head head → kept ≡ plan ++ step ∷ []
    → after ≡ frames ++ f ∷ [] → kept ≡ plan_of after
one_more plan kept frames after f offset head step steps head_is step_is kept_is after_is = grind (arith, map-append)

no_frame : (before : List Frame) (f : Frame) → before ++ f ∷ [] ≡ [] → ⊥
no_frame [] f is = cc
no_frame (b ∷ before) f is = cc

-- a whole frame is one too if more bytes come
frame_longer : (role : Role) (limits : Limits) (bytes more all : List ℕ) → bytes ++ more ≡ all → HasWholeFrame role limits bytes → HasWholeFrame role limits all
frame_longer role limits bytes more all is h = grind (arith, append_assoc)

pub plans_none : (scan : Scan) (chunk : List ℕ) (plan : List Step) → PlansPrefix scan scan chunk 0 plan plan
plans_none scan chunk plan role limits bytes came = subst (λ (bs : List ℕ). HasScannedPlan role limits scan bs plan) (sym (append-nil bytes)) came

-- the bytes of two parts of a chunk
joined : (bytes chunk share : List ℕ) (at n : ℕ) → share ≡ drop at chunk → (bytes ++ take at chunk) ++ take n share ≡ bytes ++ take (at + n) chunk
joined bytes chunk fact at n is = grind (arith, append_assoc, take-add)

plans_further : (old mid new : Scan) (chunk share : List ℕ) (at n : ℕ) (before plan kept : List Step) → share ≡ drop at chunk → PlansPrefix old mid chunk at before plan → PlansPrefix mid new share n plan kept
    → PlansPrefix old new chunk (at + n) before kept
plans_further old mid new chunk fact at n before plan kept is first second role limits bytes came = grind (arith, joined)

-- ---- one call

same_frames : (found : Taken) (part : Part) (payload : List ℕ) (fs : List Frame) (at : Position) (frames : List Frame) (position : Position) → Finds found part payload fs at frames position → (found ≡ taken.Part → part.ends ≡ false)
    → frames ≡ fs
same_frames found part payload fs at frames position is none = grind arith

module _ (old new : Scan) (chunk after : List ℕ) (n : ℕ) (found : Taken) (part : Part) (advances : AdvancesFrom old.stage old new chunk after n found part) (in_bytes : IsBytes chunk) where
  -- no frame ends
  plans_same : (plan : List Step) → (found ≡ taken.Part → part.ends ≡ false) → PlansPrefix old new chunk n plan plan
  plans_same plan none role limits bytes came =
      let reached = (advances role limits bytes came.since came.frames came.position in_bytes came.has_scanned).0 in
      record {
        frames = reached.frames;
        since = reached.since;
        position = reached.position;
        has_scanned = reached.has_scanned;
        steps = came.steps ∙ ap (λ (fs : List Frame). plan_of fs) (sym (same_frames found part _ came.frames came.position reached.frames reached.position reached.found none));
      }

  -- a frame ends
  module _ (is : found ≡ taken.Part) (last : part.ends ≡ true) where
    -- the frames before it, and it
    record EndsOne (role : Role) (limits : Limits) (bytes : List ℕ) (before : List Frame) : Type 0 where
      pub frame : Frame
      pub head_is : part.head ≡ info_of (length (stream before)) frame
      pub since : List ℕ
      pub position : Position
      pub has_scanned : HasScanned role limits new bytes (before ++ frame ∷ []) since position

    ends_one : (role : Role) (limits : Limits) (bytes since : List ℕ) (before : List Frame) (at : Position) → HasScanned role limits old bytes before since at → EndsOne role limits (bytes ++ take n chunk) before
    ends_one role limits bytes since before at came = grind arith

    plans_one : (plan : List Step) (step : Step) (kept : List Step) → step ≡ step_of_head part.head → kept ≡ plan ++ step ∷ [] → PlansPrefix old new chunk n plan kept
    plans_one plan step kept step_is kept_is role limits bytes came =
        let one = ends_one role limits bytes came.since came.frames came.position came.has_scanned in
        record {
          frames = came.frames ++ one.frame ∷ [];
          since = one.since;
          position = one.position;
          has_scanned = one.has_scanned;
          steps = one_more plan kept came.frames (came.frames ++ one.frame ∷ []) one.frame _ part.head step came.steps one.head_is step_is kept_is refl;
        }

    has_frame : (role : Role) (limits : Limits) (bytes : List ℕ) (heads : List HeadInfo) → HasScannedBytes role limits old bytes heads → HasWholeFrame role limits (bytes ++ take n chunk)
    has_frame role limits bytes heads came =
        let one = ends_one role limits bytes came.since came.frames came.position came.has_scanned in
        record {
          frames = came.frames ++ one.frame ∷ [];
          lawful = one.has_scanned.has_consumed.lawful;
          some = no_frame came.frames one.frame;
          rest = one.since;
          whole = one.has_scanned.has_consumed.whole;
        }

-- nothing was consumed
pub stays : (old scan next : Scan) (chunk here share : List ℕ) (before plan : List Step) (at : ℕ) → IsPlannedTo old scan chunk here before plan at → (next ≡ scan) × (share ≡ mid_of at (length here - at) here)
    → IsPlannedTo old next chunk (put_mid at (length here - at) here share) before plan at
stays old scan next chunk here share before plan at so_far same =
    let back : put_mid at (length here - at) here share ≡ here = ap (λ (ys : List ℕ). put_mid at (length here - at) here ys) same.1 ∙ put_same at (length here - at) here in
    subst (λ (bs : List ℕ). IsPlannedTo old next chunk bs before plan at) (sym back) (subst (λ (s : Scan). IsPlannedTo old s chunk here before plan at) (sym same.0) so_far)

-- ---- one call more

module _ (old scan new : Scan) (chunk here after : List ℕ) (before plan : List Step) (at n : ℕ) (found : Taken) (part : Part) (so_far : IsPlannedTo old scan chunk here before plan at)
    (advances : AdvancesFrom scan.stage scan new (mid_of at (length here - at) here) after n found part) where
  abbrev share : List ℕ
  share = mid_of at (length here - at) here

  abbrev here_after : List ℕ
  here_after = put_mid at (length here - at) here after

  is_rest : share ≡ drop at chunk
  is_rest = share_is at here ∙ so_far.fed.kept

  in_share : IsBytes share
  in_share = subst IsBytes (sym is_rest) (bytes_after at chunk so_far.fed.in_bytes)

  module _ (fits : n ≤ length share) (same_size : length after ≡ length share) (kept : drop n after ≡ drop n share) (room : room_of new + n ≡ room_of scan) where
    planned_to : (more : List Step) → PlansPrefix scan new share n plan more → IsPlannedTo old new chunk here_after before more (at + n)
    planned_to more plans = record {
      fed = fed_further old scan new chunk here after at n so_far.fed fits same_size kept room (λ in_bytes. (heads_in found part, takes_by scan new share after n found part advances in_bytes));
      plans = plans_further old scan new chunk share at n before plan more is_rest so_far.plans plans;
    }

    -- no frame ended
    pub goes_on : (found ≡ taken.Part → part.ends ≡ false) → IsPlannedTo old new chunk here_after before plan (at + n)
    goes_on none = planned_to plan (plans_same scan new share after n found part advances in_share plan none)

    -- a frame ended, and its step is added
    pub ends : found ≡ taken.Part → part.ends ≡ true → (step : Step) (more : List Step) → step ≡ step_of_head part.head → more ≡ plan ++ step ∷ [] → IsPlannedTo old new chunk here_after before more (at + n)
    ends is last step more step_is more_is = planned_to more (plans_one scan new share after n found part advances in_share is last plan step more step_is more_is)

    -- it consumes a byte, if the chunk has one
    pub falls : IsRunning old → (found ≡ taken.Refused → ⊥) → at < length here → length chunk - (at + n) < length chunk - at
    falls running other more =
        let some : 0 < length share = omega (arith, ap (λ (bs : List ℕ). length bs) is_rest, length-drop at chunk, so_far.fed.size, more) in
        let on = runs_on old scan chunk at so_far.fed.consumes.0 running so_far.fed.consumes.1 in
        omega (arith, takes_some scan new share after n found part advances in_share on other some, so_far.fed.size, more)

  -- a frame ended, and its step isn't added
  pub no_memory : found ≡ taken.Part → part.ends ≡ true → HasFrameEnd old chunk
  no_memory is last role limits bytes heads came =
      let mid = so_far.fed.consumes.1 role limits bytes heads came in
      let all : ((bytes ++ take at chunk) ++ take n share) ++ drop (at + n) chunk ≡ bytes ++ chunk =
      ap (λ (bs : List ℕ). bs ++ drop (at + n) chunk) (joined bytes chunk share at n is_rest) ∙ append_assoc bytes (take (at + n) chunk) (drop (at + n) chunk) ∙ ap (λ (bs : List ℕ). bytes ++ bs) (take-append-drop (at + n) chunk) in
      frame_longer role limits ((bytes ++ take at chunk) ++ take n share) (drop (at + n) chunk) (bytes ++ chunk) all
      (has_frame scan new share after n found part advances in_share is last role limits (bytes ++ take at chunk) (heads ++ so_far.fed.consumes.0) mid)

-- ---- the end of the chunk

-- What the scan has consumed is all of the chunk, or it has refused.
pub planned_chunk : (old new : Scan) (chunk here : List ℕ) (before plan : List Step) (at : ℕ) (refusal : Option Refusal) → IsPlannedTo old new chunk here before plan at → (refusal ≡ None → at ≡ length chunk)
    → refusal ≡ refusal_in new → IsPlannedChunk old new chunk before plan (Ok refusal)
planned_chunk old new chunk here before plan at refusal so_far all answered = (
  record {
    count = at;
    within = so_far.fed.within;
    room = so_far.fed.room;
    heads = so_far.fed.consumes.0;
    consumes = so_far.fed.consumes.1;
    all = all;
    answered = answered;
  },
  so_far.plans,
)
