-- What one call of the scan means for a reader of frames.
use Rattle.std.specs.Prelude.{◌↔◌, IsSome}
use Rattle.std.specs.List.{slice_range}
use Rattle.std.proofs.Common.{◌≡◌, ℕ, ◌+◌, ◌-◌, ◌≤◌, true, Option, None, Some, List, [], ◌++◌, length, take, drop, refl, sym, ap, ◌∙◌, subst, arith, append_assoc, append-nil, length-append}
use Rattle.std.proofs.lemmas.List.{take-take, drop-take, drop-drop, length-take-le}
use Rattle.wsn_wire.specs.declared.endpoint.Role.{Role}
use Rattle.wsn_wire.specs.Frame.{Frame, IsBytes}
use Rattle.wsn_rules.specs.declared.verdict.Refusal.{Refusal}
use Rattle.wsn_rules.specs.Limits.{Limits}
use Rattle.wsn_rules.specs.Verdict.{IsRefused}
use Rattle.wsn_rules.specs.Heads.{heads_of}
use Rattle.wsn_scan.specs.ReadParts.{AllTaken, StepsOn, IsUsed, HasRefused}
use Rattle.wsn_scan.specs.declared.part.Part.{Part}
use Rattle.wsn_scan.specs.declared.part.Taken.{Taken}
use Rattle.wsn_scan.specs.declared.part.Taken.TheVariants as taken
use Rattle.wsn_scan.specs.declared.frame_reader.FrameReader.{FrameReader}
use Rattle.wsn_scan.specs.Feeding.{HasScannedBytes}
use Rattle.wsn_scan.specs.Parts.{IsPart, Finds, Consumes}
use Rattle.wsn_scan.specs.Positions.{Position, begun_at}
use Rattle.wsn_scan.specs.FrameReaders.{HasTaken, IsBuffered, unread, held_payload}
use Rattle.wsn_scan.specs.Scans.{HasScanned, HasNoRest, AdvancesFrom, IsReachedBy, IsRefusedThere, room_of, refusal_in}
use Rattle.wsn_scan.proofs.ReaderBuffers.{length_unread, length_came, within, buffered_on}
use Rattle.wsn_scan.proofs.Unrefused.{unrefused, refused, place_after}

-- A call of the scan, which got the unscanned part of the buffer and consumed n bytes of it.
pub record IsCall (old new : FrameReader) (part : Part) (n : ℕ) (found : Taken) : Type 0 where
  pub in_bytes : IsBytes (unread old)
  pub advances : AdvancesFrom old.scan.stage old.scan new.scan (unread old) (slice_range new.buffer old.at old.end) n found part
  pub kept : slice_range new.buffer (old.at + n) old.end ≡ slice_range old.buffer (old.at + n) old.end
  pub room : room_of new.scan + n ≡ room_of old.scan
  pub reported : IsSome (refusal_in new.scan) ↔ (found ≡ taken.Refused)
  pub start : found ≡ taken.Part → part.start ≤ n
  pub from_is : found ≡ taken.Part → new.from ≡ old.at + part.start
  pub at_is : new.at ≡ old.at + n
  pub end_is : new.end ≡ old.end
  pub chunks_is : new.chunks ≡ old.chunks
  pub whole : found ≡ taken.Part → part.ends ≡ true → HasNoRest new.scan

-- a scan that a call finds no refusal in has not refused
unrefused_by : (found : Taken) (refusal : Option Refusal) → IsSome refusal ↔ (found ≡ taken.Refused) → (found ≡ taken.Refused → ⊥) → refusal ≡ None
unrefused_by found None exactly other = refl
unrefused_by found (Some refusal) exactly other = absurd (other (exactly.0 refl))

-- the refusal of a scan that has refused
pub refusal_by : (refusal : Option Refusal) → IsSome refusal → (r : Refusal) × (refusal ≡ Some r)
refusal_by None some = absurd cc
refusal_by (Some r) some = (r, refl)

module _ (role : Role) (limits : Limits) (old new : FrameReader) (part : Part) (n : ℕ) (came : List ℕ) (fs : List Frame) (at : Position) (h : HasTaken role limits old came fs at) where
  abbrev share : List ℕ
  share = take n (unread old)

  -- these bytes after the call
  abbrev after : List ℕ
  after = take n (slice_range new.buffer old.at old.end)

  unread_size : length (unread old) ≡ old.end - old.at
  unread_size = length_unread limits old came h.scanned h.buffered

  module _ (found : Taken) (call : IsCall old new part n found) where
    in_unread : old.at + n ≤ old.end
    in_unread = within old new n call.kept call.at_is call.end_is

    length-share : length share ≡ n
    length-share = length-take-le n (unread old) (omega (arith, unread_size, in_unread))

    -- the part's payload is what the reader holds
    payload_is : found ≡ taken.Part → drop part.start after ≡ held_payload new
    payload_is is =
        let start = part.start in
        let count = n - start in
        let back = drop old.at new.buffer in
        let sum : n ≡ start + count = omega (arith, call.start is) in
        let from : new.from ≡ old.at + start = call.from_is is in
        let size : new.at - new.from ≡ count = omega (arith, from, call.at_is) in
        ap (λ (bs : List ℕ). drop start bs) (take-take n (old.end - old.at) back (omega (arith, in_unread)))
        ∙ ap (λ (m : ℕ). drop start (take m back)) sum ∙ drop-take start count back ∙ ap (λ (bs : List ℕ). take count bs) (drop-drop start old.at new.buffer)
        ∙ sym (ap (λ (m : ℕ). take m (drop new.from new.buffer)) size ∙ ap (λ (m : ℕ). take count (drop m new.buffer)) from)

    reached : IsReachedBy role limits new.scan (h.scanned ++ share) (Finds found part (drop part.start after) fs at) × Consumes found part (length (unread old)) n
    reached = call.advances role limits h.scanned h.since fs at call.in_bytes h.has_scanned

    buffered : IsBuffered limits new came (h.scanned ++ share)
    buffered = buffered_on old new n call.kept call.at_is call.end_is limits came h.scanned call.chunks_is h.buffered

    taken_to : (found ≡ taken.Refused → ⊥) → (frames : List Frame) (since : List ℕ) (position : Position) → HasScanned role limits new.scan (h.scanned ++ share) frames since position → HasTaken role limits new came frames position
    taken_to other frames since position has_scanned = record {
      scanned = h.scanned ++ share;
      since = since;
      has_scanned = has_scanned;
      unrefused = unrefused_by found (refusal_in new.scan) call.reported other;
      buffered = buffered;
    }

    -- all of the buffer was consumed, and nothing was taken
    used : (found ≡ taken.Refused → ⊥) → (frames : List Frame) (since : List ℕ) (position : Position) → HasScanned role limits new.scan (h.scanned ++ share) frames since position → frames ≡ fs → position ≡ at
        → n ≡ length (unread old) → IsUsed role limits new came fs at
    used other frames since position has_scanned frames_are position_is all = record {
      has_taken = subst (λ (p : Position). HasTaken role limits new came fs p) position_is
          (subst (λ (gs : List Frame). HasTaken role limits new came gs position) frames_are (taken_to other frames since position has_scanned));
      all = omega (arith, call.at_is, call.end_is, all, unread_size, old.left);
    }

  has_refused : IsCall old new part n taken.Refused → HasRefused role limits new came fs at
  has_refused call =
      let at_it = (reached taken.Refused call).0 in
      let is = refusal_by (refusal_in new.scan) (call.reported.1 refl) in
      let refusal = is.0 in
      let following = h.scanned ++ share in
      let taken_there : HasScannedBytes role limits new.scan following (heads_of at_it.frames ++ begun_at at_it.position) =
      record { frames = at_it.frames; since = at_it.since; position = at_it.position; has_scanned = at_it.has_scanned; heads_are = refl } in
      let there : IsRefusedThere role limits refusal following fs at =
      subst (λ (p : Position). IsRefusedThere role limits refusal following fs p) at_it.found.1
      (subst (λ (gs : List Frame). IsRefusedThere role limits refusal following gs at_it.position) at_it.found.0 (refused role limits new.scan following (heads_of at_it.frames ++ begun_at at_it.position) refusal taken_there is.1)) in
      let taken_before : HasScannedBytes role limits old.scan h.scanned (heads_of fs ++ begun_at at) = record { frames = fs; since = h.since; position = at; has_scanned = h.has_scanned; heads_are = refl } in
      let has_no_evidence = unrefused role limits old.scan h.scanned (heads_of fs ++ begun_at at) taken_before h.unrefused in
      let size : length following ≡ length h.scanned + n = length-append h.scanned share ∙ ap (λ (k : ℕ). length h.scanned + k) (length-share taken.Refused call) in
      let past_it : length h.scanned ≤ refusal.offset =
      place_after role limits h.scanned share fs refusal.offset refusal.reason has_no_evidence (subst (λ (bs : List ℕ). IsRefused role limits bs fs refusal.offset refusal.reason) (append-nil following) (there.refused [])) in
      let on = goes_on call in
      record {
        refusal = refusal;
        reported = is.1;
        refused_by = record {
          refused = λ later.
              subst (λ (bs : List ℕ). IsRefused role limits bs fs refusal.offset refusal.reason)
              (sym (append_assoc following on.0 later) ∙ ap (λ (bs : List ℕ). bs ++ later) (sym on.1)) (there.refused (on.0 ++ later));
          soon = omega (arith, length_came limits old came h.scanned h.buffered, past_it, h.buffered.small);
          within = omega (arith, there.offset, at_it.has_scanned.has_consumed.room);
          all_taken = subst (λ (bs : List ℕ). AllTaken role limits bs fs at) (sym on.1) (there.heads on.0);
        };
      }
    where
      -- what came continues what was scanned
      goes_on : IsCall old new part n taken.Refused → (more : List ℕ) × (came ≡ (h.scanned ++ share) ++ more)
      goes_on c = let b = buffered taken.Refused c in (unread new ++ b.past, b.whole ∙ append_assoc (h.scanned ++ share) (unread new) b.past)

  pub steps : (found : Taken) → IsCall old new part n found → StepsOn role limits new part came fs at found
  steps taken.Part call =
      let there = (reached taken.Part call).0 in
      record {
        frames = there.frames;
        position = there.position;
        is_part = subst (λ (payload : List ℕ). IsPart fs at part payload there.frames there.position) (payload_is taken.Part call refl) there.found;
        has_taken = taken_to taken.Part call (λ is. cc) there.frames there.since there.position there.has_scanned;
        soon = λ ends.
            let consumed = there.has_scanned.has_consumed in
            let came_is = length_came limits new came (h.scanned ++ share) (buffered taken.Part call) in
            omega (arith, call.whole refl ends, consumed.used, consumed.room, ap (λ (l : Limits). l.input) consumed.under, came_is, (buffered taken.Part call).small);
      }
  steps taken.More call =
      let there = reached taken.More call in
      used taken.More call (λ is. cc) there.0.frames there.0.since there.0.position there.0.has_scanned there.0.found.0 there.0.found.1 there.1
  steps taken.Closed call =
      let there = reached taken.Closed call in
      used taken.Closed call (λ is. cc) there.0.frames there.0.since there.0.position there.0.has_scanned there.0.found.0 there.0.found.1 there.1
  steps taken.Refused call = has_refused call
