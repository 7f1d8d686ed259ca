-- What one call of the scan adds to what was shown.
use Rattle.std.proofs.Common.{◌≡◌, ℕ, ◌+◌, ◌-◌, ◌<◌, ◌^◌, true, false, Option, None, Some, List, [], ◌∷◌, ◌++◌, length, take, drop, inl, inr, refl, sym, ap, ◌∙◌, subst, append-nil, arith, length-append}
use Rattle.std.specs.Prelude.{IsSome}
use Rattle.std.proofs.lemmas.List.{take_all, drop_at, length-take}
use Rattle.wsn_io.specs.Transfer.{Outgoing}
use Rattle.wsn_wire.specs.declared.endpoint.Role.{Role}
use Rattle.wsn_wire.specs.declared.refusal.Reason.{Reason}
use Rattle.wsn_wire.specs.declared.refusal.Reason.TheVariants.{ReservedBits, ReservedOpcode, ControlNotFinal, NothingToContinue, MessageOpen, MaskMissing, MaskPresent, ControlTooLong, CloseOneByte, LengthTopBit, LengthNotMinimal, MessageTooBig, CloseCode, CloseReason, TextBad, TextCut, TooManyFrames}
use Rattle.wsn_wire.specs.Frame.{Frame, IsBytes, stream, wire_payload}
use Rattle.wsn_rules.specs.declared.detail.Detail.{Detail}
use Rattle.wsn_rules.specs.declared.head_info.HeadInfo.{HeadInfo}
use Rattle.wsn_rules.specs.declared.verdict.Refusal.{Refusal}
use Rattle.wsn_rules.specs.BadCharacter.{BadCharacter}
use Rattle.wsn_rules.specs.Evidence.{EndsBad}
use Rattle.wsn_rules.specs.Group.{unfinished, payload_of}
use Rattle.wsn_rules.specs.Limits.{Limits}
use Rattle.wsn_rules.specs.Heads.{heads_of, BeginsWithHead, IsBegun}
use Rattle.wsn_rules.specs.ShownStream.{Shown, shown_after, interrupted, IsShownEvidence}
use Rattle.wsn_rules.specs.ShownStream.Item.{RefusedFrame}
use Rattle.wsn_rules.specs.Verdict.{IsRefused}
use Rattle.wsn_rules.proofs.BadCharacters.{ends_bad, of_data}
use Rattle.wsn_rules.proofs.HeadsGoOn.{begins_longer}
use Rattle.wsn_rules.proofs.Prefixes.{append_cancel}
use Rattle.wsn_frame.proofs.HeadsAtOnce.{no_items}
use Rattle.wsn_frame.specs.Payloads.{unmasked_by}
use Rattle.wsn_frame.proofs.PayloadMore.{unmasked_by-joined}
use Rattle.wsn_scan.specs.declared.part.Part.{Part}
use Rattle.wsn_scan.specs.declared.part.Taken.{Taken}
use Rattle.wsn_scan.specs.declared.part.Taken.TheVariants as taken
use Rattle.wsn_scan.specs.declared.scan.Scan.{Scan}
use Rattle.wsn_scan.specs.Parts.{IsPartAt, Finds, Consumes, unmasked_at}
use Rattle.wsn_scan.specs.Positions.{Position, BetweenFrames, InFrame, begun_at}
use Rattle.wsn_scan.specs.Scans.{HasScanned, IsReachedBy, IsRefusedThere, refusal_in}
use Rattle.wsn_scan.proofs.Unrefused.{place_after}
use Rattle.wsn_show.specs.declared.entry_context.EntryContext.{EntryContext}
use Rattle.wsn_show.specs.declared.stream_parts.StreamParts.{StreamParts}
use Rattle.wsn_scan.specs.FollowedScans.{HasFollowed, IsCall, IsTaken}
use Rattle.wsn_show.specs.HeldParts.{HasFirst}
use Rattle.wsn_show.specs.LastPayloads.{GoesWrong, GoesWrongAt, character_at}
use Rattle.wsn_show.specs.ShownItems.{Prints}
use Rattle.wsn_show.specs.ShownSoFar.{HasShownFrames, HasShownRefusal, ShowsMore}
use Rattle.wsn_show.specs.StreamParts.{KeepsStream, held_at}
use Rattle.wsn_show.specs.TakenParts.{ShowsPart}
use Rattle.wsn_show.proofs.PrintedItems.{prints_nothing}
use Rattle.wsn_scan.proofs.FollowedScans.{wire_payload_is, few, few_open, rest_few, lawful_done, unrefused_so_far, in_frame, size_in_frame, size_of_share, reached, few_more, same_follows, is_between, reach, part_taken, part_follows, refused_there, refused_begun}
use Rattle.wsn_show.proofs.FramesSoFar.{items_after, are_so_far}

module _ (role : Role) (limits : Limits) (old new : Scan) (chunk after : List ℕ) (n : ℕ) (part : Part) (came : List ℕ) (shown : List Shown) (parts parts_after : StreamParts) (context : EntryContext) (out out_after : Outgoing)
    (frames : HasShownFrames context.style role limits old parts came shown) where
  abbrev share : List ℕ
  share = take n chunk

  abbrev detail : Detail
  detail = context.style.detail

  abbrev done : List Frame
  done = frames.done

  abbrev longer : List ℕ
  longer = frames.rest ++ take n chunk

  -- Neither a part nor a refusal.
  module _ (found : Taken) (call : IsCall old new chunk after n found part) where
    abbrev all : IsReachedBy role limits new (came ++ take n chunk) (Finds found part (drop part.start (take n after)) done frames.at) × Consumes found part (length chunk) n
    all = reached role limits old new chunk after n found part came done frames.at frames.rest frames.followed call

    quiet : (found ≡ taken.Refused → ⊥) → all.0.frames ≡ done → all.0.position ≡ frames.at → 0 < n
        → ((rest : List ℕ) → length rest + n < 2 ^ 64 → KeepsStream context.style.view parts done BetweenFrames rest → KeepsStream context.style.view parts_after done BetweenFrames (rest ++ share)) → ShowsMore role limits new parts_after context out out (came ++ share) shown
    quiet other same there some adds =
        let g = same_follows role limits old new chunk after n found part came done frames.at frames.rest frames.followed call same there other in
        let between = is_between role limits old new chunk after n found part came done frames.at frames.rest frames.followed call same there other some in
        let small = few_more role limits old new chunk after n found part came done frames.at frames.rest frames.followed call in
        let keeps = adds frames.rest small (subst (λ (p : Position). KeepsStream context.style.view parts done p frames.rest) between frames.keeps) in
        let now : HasShownFrames context.style role limits new parts_after (came ++ share) shown = record {
          done = done;
          at = frames.at;
          rest = longer;
          followed = g;
          keeps = subst (λ (p : Position). KeepsStream context.style.view parts_after done p longer) (sym between) keeps;
          is = frames.is;
        } in
        record {
          extra = [];
          has = inl (subst (HasShownFrames context.style role limits new parts_after (came ++ share)) (sym (append-nil shown)) now);
          printed = prints_nothing context out;
        }

  pub more_step : IsCall old new chunk after n taken.More part → 0 < length chunk
      → ((rest : List ℕ) → length rest + n < 2 ^ 64 → KeepsStream context.style.view parts done BetweenFrames rest → KeepsStream context.style.view parts_after done BetweenFrames (rest ++ share)) → ShowsMore role limits new parts_after context out out (came ++ share) shown
  more_step call some adds =
      let r = reached role limits old new chunk after n taken.More part came done frames.at frames.rest frames.followed call in
      let size = r.1 in
      quiet taken.More call (λ same. cc) r.0.found.0 r.0.found.1 (omega (arith, size, some)) adds

  pub closed_step : IsCall old new chunk after n taken.Closed part → 0 < length chunk
      → ((rest : List ℕ) → length rest + n < 2 ^ 64 → KeepsStream context.style.view parts done BetweenFrames rest → KeepsStream context.style.view parts_after done BetweenFrames (rest ++ share)) → ShowsMore role limits new parts_after context out out (came ++ share) shown
  closed_step call some adds =
      let r = reached role limits old new chunk after n taken.Closed part came done frames.at frames.rest frames.followed call in
      let size = r.1 in
      quiet taken.Closed call (λ same. cc) r.0.found.0 r.0.found.1 (omega (arith, size, some)) adds

  -- ---- a part

  pub part_step : IsCall old new chunk after n taken.Part part
      → ((ended : List Frame) (to : Position) (before since : List ℕ) → IsPartAt frames.at part before → IsTaken role limits done frames.rest before part (take (length (take n after) - part.start) (drop part.start (take n after))) share ended to since
      → KeepsStream context.style.view parts done frames.at frames.rest → ShowsPart done frames.at ended to since parts_after context out out_after)
      → ShowsMore role limits new parts_after context out out_after (came ++ share) shown
  part_step call takes =
      let r = reach role limits old new chunk after n part came done frames.at frames.rest frames.followed call in
      let s = takes r.frames r.position r.found.before r.since r.found.is_at (part_taken role limits old new chunk after n part came done frames.at frames.rest frames.followed call) frames.keeps in
      let now : HasShownFrames context.style role limits new parts_after (came ++ share) (shown ++ s.extra) = record {
        done = r.frames;
        at = r.position;
        rest = r.since;
        followed = part_follows role limits old new chunk after n part came done frames.at frames.rest frames.followed call;
        keeps = s.keeps;
        is = ap (λ (ss : List Shown). ss ++ s.extra) frames.is ∙ s.is;
      } in
      record { extra = s.extra; has = inl now; printed = s.printed }

  -- ---- a refusal

  module _ (refusal : Refusal) (is : refusal_in new ≡ Some refusal) (call : IsCall old new chunk after n taken.Refused part) where
    reaches : (scanned : HasScanned role limits new (came ++ share) done longer frames.at) × IsRefusedThere role limits refusal (came ++ share) done frames.at
    reaches = refused_there role limits old new chunk after n part came done frames.at frames.rest frames.followed refusal is call

    begun : IsBegun role limits done longer (begun_at frames.at)
    begun = refused_begun role limits old new chunk after n part came done frames.at frames.rest frames.followed refusal is call

    -- The offending byte is one of this call's.
    some : 0 < n
    some =
        let before = unrefused_so_far role limits old came done frames.at frames.rest frames.followed in
        let refused = subst (λ (bs : List ℕ). IsRefused role limits bs done refusal.offset refusal.reason) (append-nil (came ++ share)) (reaches.1.refused []) in
        let offset = reaches.1.offset in
        let own = size_of_share role limits old new chunk after n taken.Refused part came done frames.at frames.rest frames.followed call in
        omega (arith, place_after role limits came share done refusal.offset refusal.reason before refused, offset, own, length-append came share)

    abbrev evidence : List ℕ
    evidence = held_at frames.at frames.rest ++ take n after

    unmasked : take n after ≡ unmasked_at frames.at share
    unmasked = call.refused refl role limits came frames.rest done frames.at frames.followed.has_scanned

    more_payload : (info : HeadInfo) (payload : List ℕ) (here : frames.at ≡ InFrame info payload)
        → payload ++ take n after ≡ wire_payload info.key ((in_frame role limits old came done frames.at frames.rest frames.followed info payload here).begins.following ++ take n chunk)
    more_payload info payload here =
        let own = in_frame role limits old came done frames.at frames.rest frames.followed info payload here in
        let following = own.begins.following in
        let size = own.size in
        let same : take n after ≡ unmasked_by info.key (length following) share = unmasked ∙ ap (λ (p : Position). unmasked_at p share) here ∙ ap (λ (m : ℕ). unmasked_by info.key m share) (sym size) in
        (λ i. (own.payload_is ∙ wire_payload_is info.key following) i ++ same i) ∙ sym (unmasked_by-joined info.key following share) ∙ sym (wire_payload_is info.key (following ++ share))

    evident : (p : Position) → frames.at ≡ p → IsBegun role limits done longer (begun_at p)
        → IsShownEvidence role limits done refusal.reason longer (held_at p frames.rest ++ take n after) (character_at refusal.reason done p (take n after))
    unfolding begins_longer
    evident BetweenFrames here (inl closed) = absurd ((reaches.1.refused []).no_close closed.1.0 [] closed.1.1 closed.1.3 closed.1.2)
    evident BetweenFrames here (inr (inr begun)) = let both : begun.1.0 ∷ [] ≡ [] = sym begun.1.1 in absurd cc
    evident BetweenFrames here (inr (inl nothing)) =
        let same : take n after ≡ share = unmasked ∙ ap (λ (p : Position). unmasked_at p share) here in
        inr (λ info begun. absurd (nothing.2 info begun), ap (λ (bs : List ℕ). frames.rest ++ bs) same, refl)
    evident (InFrame info payload) here is_begun =
        let own = in_frame role limits old came done frames.at frames.rest frames.followed info payload here in
        let b = begins_longer role limits done frames.rest share info own.begins in
        let following = own.begins.following in
        let bytes = size_of_share role limits old new chunk after n taken.Refused part came done frames.at frames.rest frames.followed call in
        let is = more_payload info payload here in
        inl (info, b, (λ none. let zero_bytes : length (following ++ share) ≡ 0 = ap (λ (bs : List ℕ). length bs) none in omega (arith, zero_bytes, length-append following share, bytes, some)), is, refl)

    pub small_evidence : length (held_at frames.at frames.rest) + n < 2 ^ 64
    small_evidence = by frames.at refl
      where
        by : (p : Position) → frames.at ≡ p → length (held_at p frames.rest) + n < 2 ^ 64
        by BetweenFrames here = few_more role limits old new chunk after n taken.Refused part came done frames.at frames.rest frames.followed call
        by (InFrame info payload) here =
            let size = size_in_frame role limits old came done frames.at frames.rest frames.followed info payload here in
            let more = few_more role limits old new chunk after n taken.Refused part came done frames.at frames.rest frames.followed call in
            omega (arith, size, more)

    abbrev character : Option BadCharacter
    character = character_at refusal.reason done frames.at (take n after)

    module _ (info : HeadInfo) (payload : List ℕ) (here : frames.at ≡ InFrame info payload) (is_bad : refusal.reason ≡ TextBad) where
      bad : IsRefused role limits (came ++ take n chunk) done refusal.offset TextBad
      bad = subst (IsRefused role limits (came ++ share) done refusal.offset) is_bad (subst (λ (bs : List ℕ). IsRefused role limits bs done refusal.offset refusal.reason) (append-nil (came ++ share)) (reaches.1.refused []))

      -- The offending byte is the last one.
      seen_is : bad.is_evident.seen ≡ frames.rest ++ take n chunk
      seen_is =
          let seen = bad.is_evident.seen in
          let later = bad.is_evident.later in
          let stops = bad.is_evident.at_offset in
          let offset = reaches.1.offset in
          let all : length (came ++ share) ≡ length (stream done) + (length seen + length later) =
          ap (λ (bs : List ℕ). length bs) bad.is_evident.whole ∙ length-append (stream done) (seen ++ later) ∙ ap (λ (m : ℕ). length (stream done) + m) (length-append seen later) in
          let none : later ≡ [] = no_items later (omega (arith, stops, offset, all)) in
          sym (append-nil seen) ∙ ap (λ (bs : List ℕ). seen ++ bs) (sym none) ∙ append_cancel (stream done) (seen ++ later) longer (sym bad.is_evident.whole ∙ reaches.0.has_consumed.whole)

      begins_seen : (b : BeginsWithHead role limits done bad.is_evident.seen info) × (b.following ≡ (in_frame role limits old came done frames.at frames.rest frames.followed info payload here).begins.following ++ take n chunk)
      unfolding begins_longer
      begins_seen =
          let b = begins_longer role limits done frames.rest share info (in_frame role limits old came done frames.at frames.rest frames.followed info payload here).begins in (
            record {
              head = b.head;
              following = b.following;
              whole = seen_is ∙ b.whole;
              offset = b.offset;
              encoded = b.encoded;
              key = b.key;
              form = b.form;
              size = b.size;
              has_no_evidence = b.has_no_evidence;
            },
            refl,
          )

      payload_is : payload ++ take n after ≡ wire_payload info.key ((in_frame role limits old came done frames.at frames.rest frames.followed info payload here).begins.following ++ take n chunk)
      payload_is = more_payload info payload here

      in_bytes : IsBytes (came ++ take n chunk)
      in_bytes = reaches.0.has_consumed.in_bytes

      of_text : GoesWrong done info payload frames.rest (take n after)
      of_text =
          let b = begins_seen.0 in
          let size = size_in_frame role limits old came done frames.at frames.rest frames.followed info payload here in
          let offset = (in_frame role limits old came done frames.at frames.rest frames.followed info payload here).begins.offset in
          let few_open = few_open role limits old came done frames.at frames.rest frames.followed in
          let most = few role limits old came done frames.at frames.rest frames.followed in
          let came_is = rest_few role limits old came done frames.at frames.rest frames.followed in
          let room = call.room in
          let all = frames.followed.has_scanned.has_consumed.room in
          let input = frames.followed.has_scanned.has_consumed.in_range.input in
          let taken = length-take n after in
          let wire : wire_payload info.key b.following ≡ payload ++ take n after = ap (λ (bs : List ℕ). wire_payload info.key bs) begins_seen.1 ∙ sym payload_is in
          record {
            data_frame = of_data role limits (came ++ share) done refusal.offset in_bytes bad info b;
            sized = omega (arith, size, offset);
            ends_bad = subst (λ (bs : List ℕ). EndsBad (payload_of (unfinished done) ++ bs)) wire (ends_bad role limits (came ++ share) done refusal.offset in_bytes bad info b);
            small = omega (arith, came_is, most, room, all, input, taken);
            few_bytes = omega (arith, few_open, size, came_is, most, room, all, input, taken);
          }

    -- If the refusal is for a bad character, the text of the frame goes wrong with the offending byte.
    pub goes_wrong : GoesWrongAt refusal.reason done frames.at frames.rest (take n after)
    goes_wrong = by refusal.reason frames.at refl refl
      where
        by : (reason : Reason) (p : Position) → refusal.reason ≡ reason → frames.at ≡ p → GoesWrongAt reason done p frames.rest (take n after)
        by TextBad (InFrame info payload) is_bad here = of_text info payload here is_bad
        by TextBad BetweenFrames is_bad here = tt
        by ReservedBits p is_bad here = tt
        by ReservedOpcode p is_bad here = tt
        by ControlNotFinal p is_bad here = tt
        by NothingToContinue p is_bad here = tt
        by MessageOpen p is_bad here = tt
        by MaskMissing p is_bad here = tt
        by MaskPresent p is_bad here = tt
        by ControlTooLong p is_bad here = tt
        by CloseOneByte p is_bad here = tt
        by LengthTopBit p is_bad here = tt
        by LengthNotMinimal p is_bad here = tt
        by MessageTooBig p is_bad here = tt
        by CloseCode p is_bad here = tt
        by CloseReason p is_bad here = tt
        by TextCut p is_bad here = tt
        by TooManyFrames p is_bad here = tt

    pub refused_step : HasFirst parts_after.rest [] → Prints context out out_after (interrupted detail done ++ RefusedFrame (length (stream done)) refusal evidence character ∷ [])
        → ShowsMore role limits new parts_after context out out_after (came ++ share) shown
    refused_step first printed =
        let there = reaches.1 in
        let items = interrupted detail done ++ RefusedFrame (length (stream done)) refusal evidence character ∷ [] in
        let extra = shown_after (refusal.offset + 1) items in
        let whole = reaches.0.has_consumed.whole in
        let at_end = there.offset in
        let seen : drop (length (stream done)) (take (refusal.offset + 1) (came ++ share)) ≡ longer =
        ap (λ (bs : List ℕ). drop (length (stream done)) bs) (take_all (refusal.offset + 1) (came ++ share) (omega (arith, at_end)) ∙ whole) ∙ drop_at (stream done) longer (length (stream done)) refl in
        let now : HasShownRefusal detail role limits new parts_after (came ++ share) (shown ++ extra) = record {
          done = done;
          refusal = refusal;
          read = came ++ share;
          unread = [];
          heads = heads_of done ++ begun_at frames.at;
          whole = sym (append-nil (came ++ share));
          scanned = record { frames = done; since = longer; position = frames.at; has_scanned = reaches.0; heads_are = refl };
          reported = is;
          refused = there.refused;
          offset = there.offset;
          first = first;
          of_frames = shown;
          are_of_frames = are_so_far detail role limits (came ++ share) longer done frames.at shown (lawful_done role limits old came done frames.at frames.rest frames.followed) whole begun frames.is;
          of_refusal = extra;
          is_of_refusal = record { evidence = evidence; character = character; is_evidence = subst (λ (bs : List ℕ). IsShownEvidence role limits done refusal.reason bs evidence character) (sym seen) (evident frames.at refl begun); is = refl };
          is = refl;
        } in
        record {
          extra = extra;
          has = inr now;
          printed = subst (Prints context out out_after) (sym (items_after (refusal.offset + 1) items)) printed;
        }

-- A call with bytes consumes some, unless it refuses.
pub consumes_some : (role : Role) (limits : Limits) (old new : Scan) (chunk after : List ℕ) (n : ℕ) (found : Taken) (part : Part) (came : List ℕ) (done : List Frame) (at : Position) (rest : List ℕ)
    → HasFollowed role limits old came done at rest → IsCall old new chunk after n found part → 0 < length chunk → refusal_in new ≡ None → 0 < n
consumes_some role limits old new chunk after n found part came done at rest h call some none = by found call.reported.1 (reached role limits old new chunk after n found part came done at rest h call).1
  where
    by : (f : Taken) → (f ≡ taken.Refused → IsSome (refusal_in new)) → Consumes f part (length chunk) n → 0 < n
    by taken.More refused is = omega (arith, is, some)
    by taken.Part refused is = is.0 some
    by taken.Closed refused is = omega (arith, is, some)
    by taken.Refused refused is = let both : false ≡ true = subst IsSome none (refused refl) in cc
