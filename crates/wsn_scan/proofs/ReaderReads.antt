-- What one read means for a reader of frames that has scanned all that came.
use Rattle.std.specs.Prelude.{◌↔◌}
use Rattle.std.specs.List.{slice_range}
use Rattle.std.proofs.Common.{◌≡◌, ℕ, ◌+◌, ◌≤◌, Bool, true, false, Option, None, Result, Ok, Err, List, [], ◌++◌, length, take, refl, sym, ap, ◌∙◌, subst, arith, append_assoc, append-nil, length-append}
use Rattle.std.proofs.lemmas.List.{take_all}
use Rattle.std.specs.Io.KnownBytes.{IsAtEnd}
use Rattle.wsn_wire.specs.declared.endpoint.Role.{Role}
use Rattle.wsn_wire.specs.Frame.{Frame}
use Rattle.wsn_io.specs.Transfer.{Incoming, IsConsumed}
use Rattle.wsn_io.proofs.Received.{consumed_none}
use Rattle.wsn_wire.proofs.FrameLemmas.{IsBytes-append}
use Rattle.wsn_rules.specs.declared.verdict.Verdict.{Verdict}
use Rattle.wsn_rules.specs.declared.verdict.Verdict.TheVariants.{Accepted, Cut, Refused}
use Rattle.wsn_wire.specs.declared.length_encoding.Lengths.TheVariants.{Shortest}
use Rattle.wsn_rules.specs.Limits.{Limits}
use Rattle.wsn_rules.specs.Verdict.{IsVerdict, IsUnrefused}
use Rattle.wsn_rules.specs.Heads.{heads_of}
use Rattle.wsn_scan.specs.declared.chunk_reader.ChunkReader.{ChunkReader}
use Rattle.wsn_scan.specs.declared.frame_reader.FrameReader.{FrameReader}
use Rattle.wsn_scan.specs.declared.scan.Scan.{Scan}
use Rattle.wsn_io.specs.declared.stop.Stop.{Stop}
use Rattle.wsn_io.specs.declared.stop.Stop.TheVariants as stop
use Rattle.wsn_scan.specs.ChunkReaders.{HasCounted, HasCome, IsChunkOf, IsHaltOf}
use Rattle.wsn_scan.specs.Feeding.{HasScannedBytes}
use Rattle.wsn_scan.specs.Positions.{Position, begun_at}
use Rattle.wsn_scan.specs.Judging.{IsReached}
use Rattle.wsn_scan.specs.FrameReaders.{unread}
use Rattle.wsn_scan.specs.ReadParts.{AllTaken, IsJudgedAt, IsHaltedAt, IsUsed, IsFilled, IsFilledBy}
use Rattle.wsn_scan.specs.Scans.{HasScanned, refusal_in, refusal_judged}
use Rattle.wsn_scan.proofs.ChunksSoFar.{by_past, few_counted}
use Rattle.wsn_scan.proofs.HeadsSoFar.{heads_reported}
use Rattle.wsn_frame.proofs.HeadsAtOnce.{no_items}
use Rattle.wsn_scan.proofs.ReaderBuffers.{length_unread, within_is}
use Rattle.wsn_scan.proofs.Unrefused.{unrefused, not_refused}

-- at the input limit
abbrev pub IsLimit : Result (Option ℕ) Stop → Type 0
IsLimit result = result ≡ Err stop.InputLimit

pub not_passed : (past : Bool) (found : Option ℕ) → IsLimit (Ok found) ↔ (past ≡ true) → past ≡ false
not_passed past found exactly = by_past past (λ is. let both = exactly.1 is in absurd cc) (λ none. none)

-- limits under which a reader of chunks has only begun
abbrev pub room_left : ChunkReader → Limits
room_left chunks = record { message = 0; input = chunks.room; frames = None; lengths = Shortest }

pub nothing_yet : (now : Incoming) (chunks : ChunkReader) → chunks.past_limit ≡ false → now.failed ≡ false → HasCome (room_left chunks) now now chunks []
nothing_yet now chunks none unfailed = record {
  past = [];
  consumed = consumed_none now;
  counted = record { room = omega arith; full = λ is. (let both : true ≡ false = sym is ∙ none in absurd cc); none = λ _. refl };
  unfailed = unfailed;
}

module _ (role : Role) (limits : Limits) (reader : FrameReader) (came : List ℕ) (fs : List Frame) (at : Position) (used : IsUsed role limits reader came fs at) where
  abbrev scanned : List ℕ
  scanned = used.has_taken.scanned

  abbrev past : List ℕ
  past = used.has_taken.buffered.past

  none_unread : scanned ++ unread reader ≡ scanned
  none_unread =
      ap (λ (bs : List ℕ). scanned ++ bs) (no_items (unread reader) (length_unread limits reader came scanned used.has_taken.buffered ∙ omega (arith, used.all)))
      ∙ append-nil scanned

  -- all that came within the limit is scanned
  scanned_all : take limits.input came ≡ scanned
  scanned_all = within_is limits reader came scanned used.has_taken.buffered ∙ none_unread

  counted : HasCounted limits reader.chunks scanned past
  counted = subst (λ (bs : List ℕ). HasCounted limits reader.chunks bs past) none_unread used.has_taken.buffered.counted

  came_is : came ≡ scanned ++ past
  came_is = used.has_taken.buffered.whole ∙ ap (λ (bs : List ℕ). bs ++ past) none_unread

  all_came : reader.chunks.past_limit ≡ false → came ≡ scanned
  all_came none = came_is ∙ ap (λ (bs : List ℕ). scanned ++ bs) (counted.none none) ∙ append-nil scanned

  few : reader.chunks.past_limit ≡ false → length came ≤ limits.input
  few none = let size = ap (λ (bs : List ℕ). length bs) (all_came none) in let room = counted.room in omega (arith, size, room)

  unrefused_so_far : IsUnrefused role limits scanned
  unrefused_so_far =
      let taken : HasScannedBytes role limits reader.scan scanned (heads_of fs ++ begun_at at) =
      record { frames = fs; since = used.has_taken.since; position = at; has_scanned = used.has_taken.has_scanned; heads_are = refl } in
      unrefused role limits reader.scan scanned (heads_of fs ++ begun_at at) taken used.has_taken.unrefused

  verdict_so_far : (verdict : Verdict) × IsVerdict role limits (take limits.input came) fs verdict
  verdict_so_far =
      let found = not_refused role limits reader.scan scanned used.has_taken.since fs at used.has_taken.has_scanned used.has_taken.unrefused in
      (found.0, subst (λ (bs : List ℕ). IsVerdict role limits bs fs found.0) (sym scanned_all) found.1)

  -- all that was scanned is taken
  scanned_taken : AllTaken role limits scanned fs at
  scanned_taken = heads_reported role limits reader.scan scanned used.has_taken.since fs at used.has_taken.has_scanned

  taken_so_far : AllTaken role limits (take limits.input came) fs at
  taken_so_far = subst (λ (bs : List ℕ). AllTaken role limits bs fs at) (sym scanned_all) scanned_taken

  limit_passed : (new : Incoming) → reader.chunks.past_limit ≡ true → new.failed ≡ false → IsHaltedAt role limits new came fs at stop.InputLimit
  limit_passed new is unfailed =
      let size = ap (λ (bs : List ℕ). length bs) came_is in
      let full = counted.full is in
      let room = counted.room in (
        (omega (arith, size, length-append scanned past, full, room), subst (IsUnrefused role limits) (sym scanned_all) unrefused_so_far, unfailed),
        verdict_so_far,
        taken_so_far,
      )

  read_failed : (new : Incoming) → reader.chunks.past_limit ≡ false → new.failed ≡ true → IsHaltedAt role limits new came fs at stop.Read
  read_failed new none failed = ((failed, few none, subst (IsUnrefused role limits) (sym (all_came none)) unrefused_so_far), verdict_so_far, taken_so_far)

  pub input_ended : (new : Incoming) (verdict : Verdict) → reader.chunks.past_limit ≡ false → IsAtEnd new.remaining → new.failed ≡ false → IsVerdict role limits scanned fs verdict
      → refusal_judged verdict ≡ None → IsJudgedAt role limits new came fs at verdict
  input_ended new verdict none at_end unfailed is other = (by verdict is_done other, is_done, subst (λ (bs : List ℕ). AllTaken role limits bs fs at) (sym (all_came none)) scanned_taken)
    where
      is_done : IsVerdict role limits came fs verdict
      is_done = subst (λ (bs : List ℕ). IsVerdict role limits bs fs verdict) (sym (all_came none)) is

      by : (v : Verdict) → IsVerdict role limits came fs v → refusal_judged v ≡ None → IsReached role limits new came v
      by (Accepted summary) accepted reported = (fs, accepted, at_end, few none, unfailed)
      by (Cut summary) cut reported = (fs, cut, at_end, few none, unfailed)
      by (Refused refusal) refused reported = absurd cc

  -- nothing came, and this is the result
  pub nothing_more : (next : FrameReader) (old new : Incoming) → IsConsumed old new [] → (result : Result (Option Verdict) Stop) → IsFilledBy role limits new next came fs at result
      → IsFilled role limits old new next came fs at result
  nothing_more next old new consumed result is = record {
    more = [];
    consumed = consumed;
    few = subst (λ (bs : List ℕ). length bs ≤ limits.input + 1) (sym (append-nil came)) used.has_taken.buffered.few;
    next = subst (λ (bs : List ℕ). IsFilledBy role limits new next bs fs at result) (sym (append-nil came)) is;
  }

  -- no more is read
  pub halts : (next : FrameReader) (old new : Incoming) (halted : Stop) → old.failed ≡ false → IsLimit (Err halted) ↔ (reader.chunks.past_limit ≡ true) → (reader.chunks.past_limit ≡ true → new ≡ old)
      → ((l : Limits) (first : Incoming) (before : List ℕ) → HasCome l first old reader.chunks before → IsHaltOf l first new before halted) → IsFilled role limits old new next came fs at (Err halted)
  halts next old new halted unfailed limit kept halt =
      by_past reader.chunks.past_limit
      (λ is.
      let same : halted ≡ stop.InputLimit = (let both = limit.1 is in cc) in
      subst (λ (i : Incoming). IsFilled role limits old i next came fs at (Err halted)) (sym (kept is))
      (subst (λ (s : Stop). IsFilled role limits old old next came fs at (Err s)) (sym same) (nothing_more next old old (consumed_none old) (Err stop.InputLimit) (limit_passed old is unfailed))))
      (λ none. by halted limit none (halt (room_left reader.chunks) old [] (nothing_yet old reader.chunks none unfailed)))
    where
      by : (s : Stop) → IsLimit (Err s) ↔ (reader.chunks.past_limit ≡ true) → reader.chunks.past_limit ≡ false → IsHaltOf (room_left reader.chunks) old new [] s → IsFilled role limits old new next came fs at (Err s)
      by stop.Read exactly none it =
          let nothing : it.all ≡ [] = sym (take_all reader.chunks.room it.all it.stops.0) ∙ it.within in
          nothing_more next old new (subst (λ (bs : List ℕ). IsConsumed old new bs) nothing it.received.consumed) (Err stop.Read) (read_failed new none it.stops.1)
      by stop.InputLimit exactly none it = let both : true ≡ false = sym (exactly.0 refl) ∙ none in absurd cc
      by stop.Memory exactly none it = absurd it.stops
      by stop.Write exactly none it = absurd it.stops

  -- the next chunk came, and the reader keeps it
  pub goes_on : (next : FrameReader) (old new : Incoming) → IsChunkOf (room_left reader.chunks) old new next.chunks [] next.buffer next.end → reader.chunks.past_limit ≡ false → next.scan ≡ reader.scan → next.at ≡ 0
      → IsFilled role limits old new next came fs at (Ok None)
  goes_on next old new got none same_scan at_front =
      let chunk = take next.end next.buffer in
      let come = got.come in
      let front : unread next ≡ chunk = ap (λ (n : ℕ). slice_range next.buffer n next.end) at_front ∙ ap (λ (m : ℕ). take m next.buffer) (omega arith) in
      let all : came ++ (chunk ++ come.past) ≡ (scanned ++ unread next) ++ come.past =
      sym (append_assoc came chunk come.past) ∙ ap (λ (bs : List ℕ). (bs ++ chunk) ++ come.past) (all_came none) ∙ ap (λ (bs : List ℕ). (scanned ++ bs) ++ come.past) (sym front) in
      let now_counted : HasCounted limits next.chunks (scanned ++ unread next) come.past =
      record { room = omega (arith, counted.room, come.counted.room, length-append scanned (unread next), ap (λ (bs : List ℕ). length bs) front); full = come.counted.full; none = come.counted.none } in
      let now_few : length (came ++ (chunk ++ come.past)) ≤ limits.input + 1 = subst (λ (bs : List ℕ). length bs ≤ limits.input + 1) (sym all) (few_counted limits next.chunks (scanned ++ unread next) come.past now_counted) in
      record {
        more = chunk ++ come.past;
        consumed = come.consumed;
        few = now_few;
        next = (
          record {
            scanned = scanned;
            since = used.has_taken.since;
            has_scanned = subst (λ (s : Scan). HasScanned role limits s scanned fs used.has_taken.since at) (sym same_scan) used.has_taken.has_scanned;
            unrefused = ap (λ (s : Scan). refusal_in s) same_scan ∙ used.has_taken.unrefused;
            buffered = record {
              past = come.past;
              whole = all;
              counted = now_counted;
              few = now_few;
              small = omega (arith, got.short, next.size);
              in_bytes = IsBytes-append came (chunk ++ come.past) used.has_taken.buffered.in_bytes got.in_bytes;
            };
          },
          come.unfailed,
        );
      }
