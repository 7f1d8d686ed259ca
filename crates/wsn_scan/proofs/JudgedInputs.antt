-- What a judge's answer says of the bytes that came, by what its scan has consumed of them.
use Rattle.std.proofs.Common.{◌≡◌, ℕ, ◌+◌, ◌<◌, ◌≤◌, Option, None, Some, Ok, Err, List, [], ◌++◌, length, take, drop, refl, sym, ap, ◌∙◌, subst, append_assoc, append-nil, take-append-drop, length-append, arith}
use Rattle.std.proofs.lemmas.List.{take_all, take-append-le}
use Rattle.std.specs.Io.KnownBytes.{Consumes, IsAtEnd}
use Rattle.wsn_wire.specs.declared.endpoint.Role.{Role}
use Rattle.wsn_wire.specs.Frame.{Frame}
use Rattle.wsn_io.specs.Transfer.{Incoming}
use Rattle.wsn_rules.specs.declared.head_info.HeadInfo.{HeadInfo}
use Rattle.wsn_rules.specs.declared.verdict.Refusal.{Refusal}
use Rattle.wsn_rules.specs.declared.verdict.Verdict.{Verdict}
use Rattle.wsn_rules.specs.declared.verdict.Verdict.TheVariants.{Accepted, Cut, Refused}
use Rattle.wsn_scan.specs.declared.scan.Scan.{Scan}
use Rattle.wsn_io.specs.declared.stop.Stop.{Stop}
use Rattle.wsn_io.specs.declared.stop.Stop.TheVariants as stop
use Rattle.wsn_rules.specs.Limits.{Limits}
use Rattle.wsn_rules.specs.Verdict.{IsRefused, IsVerdict, IsUnrefused}
use Rattle.wsn_scan.specs.Scans.{HasScanned, room_of, refusal_in, refusal_judged}
use Rattle.wsn_scan.specs.Positions.{BetweenFrames}
use Rattle.wsn_scan.specs.Feeding.{HasScannedBytes, HasFed}
use Rattle.wsn_scan.specs.declared.chunk_reader.ChunkReader.{ChunkReader}
use Rattle.wsn_scan.specs.ChunkReaders.{HasCome, IsEndOf, IsHaltOf, StopsAt}
use Rattle.wsn_scan.specs.Judging.{chunk_size, IsJudged, IsJudgedOf, IsReached, IsStopped}
use Rattle.wsn_rules.proofs.StaysRefused.{place_within}
use Rattle.wsn_scan.proofs.ChunksSoFar.{received}
use Rattle.wsn_scan.proofs.Unrefused.{unrefused, refused, unrefused_first, place_after}

-- The scan has consumed all that came, taken the frames with these heads and not refused.
pub record HasRead (role : Role) (limits : Limits) (old new : Incoming) (chunks : ChunkReader) (scan : Scan) (came : List ℕ) (heads : List HeadInfo) : Type 0 where
  pub come : HasCome limits old new chunks came
  pub taken : HasScannedBytes role limits scan came heads
  pub none : refusal_in scan ≡ None

module _ (role : Role) (limits : Limits) where
  pub room_is : (scan : Scan) (bytes : List ℕ) (heads : List HeadInfo) → HasScannedBytes role limits scan bytes heads → room_of scan + length bytes ≡ limits.input
  room_is scan bytes heads taken = taken.has_scanned.has_consumed.room

  -- nothing has come yet
  pub begins : (input : Incoming) (chunks : ChunkReader) (scan : Scan) → HasCome limits input input chunks [] → HasScanned role limits scan [] [] [] BetweenFrames → HasRead role limits input input chunks scan [] []
  begins input chunks scan come has_scanned =
      let taken : HasScannedBytes role limits scan [] [] = record { frames = []; since = []; position = BetweenFrames; has_scanned = has_scanned; heads_are = refl } in
      record { come = come; taken = taken; none = unrefused_first role limits scan [] taken }

  -- no more is read
  pub stopped_unrefused : (new : Incoming) (came all : List ℕ) (halted : Stop) → StopsAt limits new all halted → take limits.input all ≡ came → IsUnrefused role limits came → IsStopped role limits new all halted
  stopped_unrefused new came all stop.InputLimit stops within none = (stops.0, subst (IsUnrefused role limits) (sym within) none, stops.1)
  stopped_unrefused new came all stop.Read stops within none = (stops.1, stops.0, subst (IsUnrefused role limits) (sym within ∙ take_all limits.input all stops.0) none)
  stopped_unrefused new came all stop.Memory stops within none = absurd stops
  stopped_unrefused new came all stop.Write stops within none = absurd stops

  module _ (old mid : Incoming) (chunks : ChunkReader) (scan : Scan) (came : List ℕ) (heads : List HeadInfo) (read : HasRead role limits old mid chunks scan came heads) where
    pub none_refused : IsUnrefused role limits came
    none_refused = unrefused role limits scan came heads read.taken read.none

    pub stopped : (new : Incoming) (halted : Stop) (halt : IsHaltOf limits old new came halted) → IsJudgedOf role limits old new halt.all (Err halted)
    stopped new halted halt = record { received = halt.received; answer = stopped_unrefused new came halt.all halted halt.stops halt.within none_refused }

    -- the input ended
    pub ended : (new : Incoming) (verdict : Verdict) → IsEndOf limits old new came → IsVerdict role limits came read.taken.frames verdict → refusal_judged verdict ≡ refusal_in scan → IsJudgedOf role limits old new came (Ok verdict)
    ended new verdict end is reported = record { received = end.received; answer = by_verdict verdict is (reported ∙ read.none) }
      where
        by_verdict : (v : Verdict) → IsVerdict role limits came read.taken.frames v → refusal_judged v ≡ None → IsReached role limits new came v
        by_verdict (Accepted s) is_v none = (read.taken.frames, is_v, end.at_end, end.within, end.unfailed)
        by_verdict (Cut s) is_v none = (read.taken.frames, is_v, end.at_end, end.within, end.unfailed)
        by_verdict (Refused r) is_v none = absurd cc

    -- The scan got the next chunk.
    module _ (new : Incoming) (after : ChunkReader) (next : Scan) (chunk : List ℕ) (come : HasCome limits old new after (came ++ chunk)) where
      pub fits : length chunk ≤ room_of scan
      fits = omega (arith, come.counted.room, room_is scan came heads read.taken, length-append came chunk)

      -- it has consumed all of it
      pub taken_whole : (fed : HasFed scan next chunk None) → HasScannedBytes role limits next (came ++ chunk) (heads ++ fed.heads)
      taken_whole fed =
          subst (λ (bs : List ℕ). HasScannedBytes role limits next (came ++ bs) (heads ++ fed.heads)) (take_all fed.count chunk (omega (arith, fed.all refl))) (fed.consumes role limits came heads read.taken)

      pub goes_on : (fed : HasFed scan next chunk None) → HasRead role limits old new after next (came ++ chunk) (heads ++ fed.heads)
      goes_on fed = record { come = come; taken = taken_whole fed; none = sym fed.answered }

      -- what the scan has consumed, and what came after it
      pub parted : (count : ℕ) (later : List ℕ) → (came ++ take count chunk) ++ ((drop count chunk ++ come.past) ++ later) ≡ ((came ++ chunk) ++ come.past) ++ later
      parted count later =
          sym (append_assoc (came ++ take count chunk) (drop count chunk ++ come.past) later)
          ∙ ap (λ (bs : List ℕ). bs ++ later) (sym (append_assoc (came ++ take count chunk) (drop count chunk) come.past)
          ∙ ap (λ (bs : List ℕ). bs ++ come.past) (append_assoc came (take count chunk) (drop count chunk) ∙ ap (λ (bs : List ℕ). came ++ bs) (take-append-drop count chunk)))

      pub refuses_input : length chunk + length come.past ≤ chunk_size → (refusal : Refusal) → HasFed scan next chunk (Some refusal) → IsJudgedOf role limits old new ((came ++ chunk) ++ come.past) (Ok (Refused refusal))
      refuses_input short refusal fed =
          let taken = fed.consumes role limits came heads read.taken in
          let here = (refused role limits next (came ++ take fed.count chunk) (heads ++ fed.heads) refusal taken (sym fed.answered)).refused in
          let refused_all : (later : List ℕ) → IsRefused role limits (((came ++ chunk) ++ come.past) ++ later) taken.frames refusal.offset refusal.reason =
          λ later. subst (λ (bs : List ℕ). IsRefused role limits bs taken.frames refusal.offset refusal.reason) (parted fed.count later) (here ((drop fed.count chunk ++ come.past) ++ later)) in
          let following : length came ≤ refusal.offset =
          place_after role limits came (take fed.count chunk) taken.frames refusal.offset refusal.reason none_refused
          (subst (λ (bs : List ℕ). IsRefused role limits bs taken.frames refusal.offset refusal.reason) (append-nil (came ++ take fed.count chunk)) (here [])) in
          let before_end = place_within role limits taken.frames _ refusal.offset refusal.reason (here []).is_evident in
          let evident_whole : length ((came ++ take fed.count chunk) ++ []) ≡ length (came ++ take fed.count chunk) = ap (λ (bs : List ℕ). length bs) (append-nil (came ++ take fed.count chunk)) in
          record {
            received = received limits old new after (came ++ chunk) come;
            answer = (
              taken.frames,
              refused_all,
              omega (arith, following, short, length-append (came ++ chunk) come.past, length-append came chunk),
              omega (arith, room_is next (came ++ take fed.count chunk) (heads ++ fed.heads) taken, before_end, evident_whole),
              come.unfailed,
            );
          }

  -- ---- an input whose bytes are known

  -- the verdict is that on all of them
  pub whole_verdict : (old new : Incoming) (verdict : Verdict) (all : List ℕ) → IsJudged role limits old new (Ok verdict) → old.remaining ≡ Some all → (fs : List Frame) × IsVerdict role limits all fs verdict
  whole_verdict old new verdict all judged known = by_rest new.remaining refl (subst (λ (a : Option (List ℕ)). Consumes a new.remaining judged.0) known judged.1.received.consumed.consumed)
    where
      by_verdict : (rest : List ℕ) → new.remaining ≡ Some rest → all ≡ judged.0 ++ rest → (v : Verdict) → IsReached role limits new judged.0 v → (fs : List Frame) × IsVerdict role limits all fs v
      by_verdict rest left is (Refused refusal) reached =
          (reached.0, subst (λ (bs : List ℕ). IsRefused role limits bs reached.0 refusal.offset refusal.reason) (sym is) (reached.1 rest))
      by_verdict rest left is (Accepted s) reached =
          let nothing : rest ≡ [] = subst IsAtEnd left reached.2 in
          let same : judged.0 ≡ all = sym (is ∙ ap (λ (bs : List ℕ). judged.0 ++ bs) nothing ∙ append-nil judged.0) in
          (reached.0, subst (λ (bs : List ℕ). IsVerdict role limits bs reached.0 (Accepted s)) same reached.1)
      by_verdict rest left is (Cut s) reached =
          let nothing : rest ≡ [] = subst IsAtEnd left reached.2 in
          let same : judged.0 ≡ all = sym (is ∙ ap (λ (bs : List ℕ). judged.0 ++ bs) nothing ∙ append-nil judged.0) in
          (reached.0, subst (λ (bs : List ℕ). IsVerdict role limits bs reached.0 (Cut s)) same reached.1)

      by_rest : (rest : Option (List ℕ)) → new.remaining ≡ rest → Consumes (Some all) rest judged.0 → (fs : List Frame) × IsVerdict role limits all fs verdict
      by_rest None left consumed = absurd consumed
      by_rest (Some rest) left consumed = by_verdict rest left consumed verdict judged.1.answer

  -- more bytes are left than the limit allows, and those within it are not refused
  pub whole_limit : (old new : Incoming) (all : List ℕ) → IsJudged role limits old new (Err stop.InputLimit) → old.remaining ≡ Some all
      → (limits.input < length all) × IsUnrefused role limits (take limits.input all)
  whole_limit old new all judged known = by_rest new.remaining (subst (λ (a : Option (List ℕ)). Consumes a new.remaining judged.0) known judged.1.received.consumed.consumed)
    where
      by_rest : (rest : Option (List ℕ)) → Consumes (Some all) rest judged.0 → (limits.input < length all) × IsUnrefused role limits (take limits.input all)
      by_rest None consumed = absurd consumed
      by_rest (Some rest) consumed =
          let size : length all ≡ length judged.0 + length rest = ap (λ (bs : List ℕ). length bs) consumed ∙ length-append judged.0 rest in
          let more : length judged.0 ≡ limits.input + 1 = judged.1.answer.0 in
          let front : take limits.input all ≡ take limits.input judged.0 = ap (λ (bs : List ℕ). take limits.input bs) consumed ∙ take-append-le limits.input judged.0 rest (omega arith) in
          (omega arith, subst (λ (bs : List ℕ). IsUnrefused role limits bs) (sym front) judged.1.answer.1)
