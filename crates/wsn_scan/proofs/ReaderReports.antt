-- What a reader of frames has taken is in the bytes that came.
use Rattle.std.proofs.Common.{◌≡◌, ℕ, ◌≤◌, None, List, ◌++◌, length, take, sym, ap, ◌∙◌, subst, arith, append_assoc}
use Rattle.std.proofs.lemmas.List.{take_all, take-append-le, length-take}
use Rattle.wsn_wire.specs.declared.endpoint.Role.{Role}
use Rattle.wsn_wire.specs.Frame.{Frame, stream}
use Rattle.wsn_rules.specs.declared.head_info.HeadInfo.{HeadInfo}
use Rattle.wsn_rules.specs.Limits.{Limits}
use Rattle.wsn_rules.specs.AfterClose.{HasNoClose}
use Rattle.wsn_rules.specs.Group.{unfinished}
use Rattle.wsn_rules.specs.Evidence.{HasNoEvidence}
use Rattle.wsn_scan.specs.declared.frame_reader.FrameReader.{FrameReader}
use Rattle.wsn_scan.specs.declared.stage.Inside.{Inside}
use Rattle.wsn_scan.specs.declared.stage.Stage.{Stage}
use Rattle.wsn_scan.specs.declared.stage.Stage.TheVariants as stages
use Rattle.wsn_scan.specs.Positions.{Position, BetweenFrames, InFrame, IsBegunBy, IsTakenOf}
use Rattle.wsn_scan.specs.FrameReaders.{HasTaken, unread, parts_ahead}
use Rattle.wsn_frame.specs.PartialHeads.{info_at}
use Rattle.wsn_frame.specs.Payloads.{unmasked_by}
use Rattle.wsn_scan.specs.Scans.{IsAt, IsInPayload, refusal_at}
use Rattle.wsn_rules.proofs.HeadsGoOn.{begins_longer}
use Rattle.wsn_scan.proofs.HeadsReported.{head_begins_at, front_without_evidence}
use Rattle.wsn_frame.proofs.PayloadMore.{length-unmasked_by}
use Rattle.wsn_scan.proofs.ReaderBuffers.{within_is}

-- a payload that was taken came
pub payload_within : (info : HeadInfo) (payload following : List ℕ) → payload ≡ unmasked_by info.key 0 (take (length payload) following) → length payload ≤ length following
payload_within info payload following is =
    let size : length payload ≡ length (take (length payload) following) = ap (λ (bs : List ℕ). length bs) is ∙ length-unmasked_by info.key 0 (take (length payload) following) in
    omega (arith, size, length-take (length payload) following)

module _ (role : Role) (limits : Limits) where
  -- more bytes after a frame that has begun
  begun_longer : (fs : List Frame) (rest more : List ℕ) (at : Position) → IsBegunBy role limits fs rest at → IsBegunBy role limits fs (rest ++ more) at
  unfolding begins_longer
  begun_longer fs rest more BetweenFrames begun = tt
  begun_longer fs rest more (InFrame info payload) begun =
      let begins = begun.2.0 in
      let came : take (length payload) (begins.following ++ more) ≡ take (length payload) begins.following = take-append-le (length payload) begins.following more (payload_within info payload begins.following begun.2.1) in
      (begun.0, begun.1, (begins_longer role limits fs rest more info begins, begun.2.1 ∙ ap (λ (bs : List ℕ). unmasked_by info.key 0 bs) (sym came)))

  -- a payload that is coming
  payload_begins : (fs : List Frame) (inside : Inside) (since payload : List ℕ) → HasNoClose fs → IsInPayload role limits (unfinished fs) inside since payload
      → IsBegunBy role limits fs since (InFrame (info_at (length (stream fs)) inside.head) payload)
  payload_begins fs inside since payload no_close p =
      let holds = p.holds in
      let has_no_evidence = front_without_evidence role limits (unfinished fs) holds.head_bytes p.wire (subst (HasNoEvidence role limits (unfinished fs)) holds.whole holds.has_no_evidence) in
      let begins = head_begins_at role limits fs inside.head holds.head_bytes p.wire since holds.is_head has_no_evidence holds.whole in
      let size : length payload ≡ length p.wire = ap (λ (bs : List ℕ). length bs) p.unmasked ∙ length-unmasked_by inside.head.key 0 p.wire in
      let front : take (length payload) begins.0.following ≡ p.wire = ap (λ (bs : List ℕ). take (length payload) bs) begins.1 ∙ take_all (length payload) p.wire (omega (arith, size)) in
      let short = p.short in
      (no_close, omega (arith, size, short), (begins.0, p.unmasked ∙ ap (λ (bs : List ℕ). unmasked_by inside.head.key 0 bs) (sym front)))

  module _ (reader : FrameReader) (came : List ℕ) (fs : List Frame) (at : Position) (h : HasTaken role limits reader came fs at) where
    -- the bytes after the frames that were taken
    begun : IsBegunBy role limits fs h.since at
    begun = of reader.scan.stage h.unrefused h.has_scanned.is_at
      where
        between : at ≡ BetweenFrames → IsBegunBy role limits fs h.since at
        between is = subst (IsBegunBy role limits fs h.since) (sym is) tt

        of : (stage : Stage) → refusal_at stage ≡ None → IsAt role limits stage h.scanned fs h.since at → IsBegunBy role limits fs h.since at
        of stages.Between none is = between is.2
        of (stages.Head part) none is = between is.2
        of (stages.Payload inside) none is = subst (IsBegunBy role limits fs h.since) (sym is.1.2) (payload_begins fs inside h.since is.1.0 is.0 is.1.1)
        of (stages.Closed code) none is = between is.2
        of (stages.Refused refusal) none is = absurd cc

    pub reported_of : IsTakenOf role limits came fs at
    reported_of = record {
      in_range = h.has_scanned.has_consumed.in_range;
      in_bytes = h.buffered.in_bytes;
      few = h.buffered.few;
      lawful = h.has_scanned.has_consumed.lawful;
      rest = h.since ++ unread reader;
      whole = within_is limits reader came h.scanned h.buffered ∙ ap (λ (bs : List ℕ). bs ++ unread reader) h.has_scanned.has_consumed.whole ∙ append_assoc (stream fs) h.since (unread reader);
      begun = begun_longer fs h.since (unread reader) at begun;
    }

    -- each part takes a byte at least of those within the limit
    pub left_few : parts_ahead reader ≤ limits.input
    left_few = omega (arith, h.has_scanned.has_consumed.room)
