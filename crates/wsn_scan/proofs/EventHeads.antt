-- The heads of a run of frames that each end an event.
use Rattle.std.proofs.Common.{◌≡◌, ℕ, ◌+◌, ◌<◌, List, [], ◌∷◌, ◌++◌, length, take, inl, inr, refl, sym, ap, ◌∙◌, subst, arith, append_assoc, append-nil, length-append}
use Rattle.std.proofs.lemmas.Bool.{cases_eq}
use Rattle.wsn_wire.specs.declared.endpoint.Role.{Role}
use Rattle.wsn_wire.specs.Frame.{Frame, frame_bytes, stream}
use Rattle.wsn_rules.specs.declared.head_info.HeadInfo.{HeadInfo}
use Rattle.wsn_rules.specs.Limits.{Limits}
use Rattle.wsn_rules.specs.Heads.{info_of, heads_from, heads_of}
use Rattle.wsn_rules.proofs.Walk.{AreSpellable, spellable_of_lawful, walk}
use Rattle.wsn_frame.proofs.HeadsAtOnce.{no_items}
use Rattle.wsn_scan.specs.declared.scan.Scan.{Scan}
use Rattle.wsn_scan.specs.declared.stage.Stage.{Stage}
use Rattle.wsn_scan.specs.declared.stage.Stage.TheVariants as stages
use Rattle.wsn_scan.specs.Positions.{Position, BetweenFrames, begun_at}
use Rattle.wsn_scan.specs.Scans.{IsAt, HasScanned}
use Rattle.wsn_scan.specs.Feeding.{ConsumesPrefix, IsRunning}
use Rattle.wsn_scan.specs.declared.scan.events.EventFrame.{EventFrame}
use Rattle.wsn_scan.specs.EventFrames.{IsIdle, TakesEvents, info_found}
use Rattle.wsn_scan.proofs.EventRuns.{TakesEvent}
use Rattle.wsn_scan.proofs.HeadsReported.{heads_push}
use Rattle.wsn_scan.proofs.FrameEnds.{frames_few}
use Rattle.wsn_scan.proofs.FedChunks.{takes_none}

heads_from-append : (offset : ℕ) (fs gs : List Frame) (next : ℕ) → offset + length (stream fs) ≡ next → heads_from offset (fs ++ gs) ≡ heads_from offset fs ++ heads_from next gs
heads_from-append offset [] gs next is = let same : offset ≡ next = omega (arith, is) in ap (λ (n : ℕ). heads_from n gs) same
heads_from-append offset (f ∷ fs) gs next is =
    let size : length (stream (f ∷ fs)) ≡ length (frame_bytes f) + length (stream fs) = length-append (frame_bytes f) (stream fs) in
    ap (λ (heads : List HeadInfo). info_of offset f ∷ heads) (heads_from-append (offset + length (frame_bytes f)) fs gs next (omega (arith, is, size)))

-- frames without a byte are none
none_of : (fs : List Frame) → length (stream fs) ≡ 0 → fs ≡ []
none_of [] is = refl
none_of (f ∷ fs) is = let few = frames_few (f ∷ fs) in let size : length (f ∷ fs) ≡ 1 + length fs = omega arith in absurd (omega (arith, is, few, size))

-- frames that go on from others
spellable_after : (fs gs : List Frame) → AreSpellable (fs ++ gs) → AreSpellable gs
spellable_after fs gs all before after f is = all (fs ++ before) after f (ap (λ (hs : List Frame). fs ++ hs) is ∙ sym (append_assoc fs before (f ∷ after)))

-- frames that spell more bytes than others go on from them
further : (fs gs : List Frame) (came : List ℕ) → AreSpellable fs → AreSpellable gs → stream gs ≡ stream fs ++ came → (more : List Frame) × (gs ≡ fs ++ more) × (came ≡ stream more)
further fs gs came first second is =
    elim (walk fs gs came [] first second (sym is ∙ sym (append-nil (stream gs)))) [
      | inl p ↦ (p.0, p.1, p.2 ∙ append-nil (stream p.0))
      | inr p ↦
          let size : 0 ≡ length (stream p.0) + length came = ap (λ (bs : List ℕ). length bs) p.2 ∙ length-append (stream p.0) came in
          let nothing : p.0 ≡ [] = none_of p.0 (omega (arith, size)) in
          let same : gs ≡ fs ++ [] = sym (append-nil gs) ∙ ap (λ (hs : List Frame). gs ++ hs) (sym nothing) ∙ sym p.1 ∙ sym (append-nil fs) in
          let gone : length came ≡ 0 = omega (arith, size) in
          ([], same, no_items came gone)
    ]

-- the same bytes are the same frames
alike : (fs gs : List Frame) → AreSpellable fs → AreSpellable gs → stream fs ≡ stream gs → fs ≡ gs
alike fs gs first second is =
    let more = further fs gs [] first second (sym is ∙ sym (append-nil (stream fs))) in
    let size : 0 ≡ length (stream more.0) = ap (λ (bs : List ℕ). length bs) more.2 in
    sym (more.1 ∙ ap (λ (hs : List Frame). fs ++ hs) (none_of more.0 (sym size)) ∙ append-nil fs)

module _ (old new : Scan) (chunk after : List ℕ) (n : ℕ) (idle : IsIdle old) (takes : TakesEvents old new chunk after n) where
  -- What was taken after these frames: some frames more, whose bytes are these.
  record IsMore (role : Role) (limits : Limits) (bytes : List ℕ) (fs : List Frame) : Type 0 where
    pub more : List Frame
    pub spells : take n chunk ≡ stream more
    pub spellable : AreSpellable more
    pub offset : length bytes ≡ length (stream fs)
    pub has_scanned : HasScanned role limits new (bytes ++ take n chunk) (fs ++ more) [] BetweenFrames

  more_of : (role : Role) (limits : Limits) (bytes since : List ℕ) (fs : List Frame) (at : Position) → HasScanned role limits old bytes fs since at → IsMore role limits bytes fs × (at ≡ BetweenFrames)
  more_of role limits bytes since fs at has =
      let is : IsAt role limits stages.Between bytes fs since at = subst (λ (stage : Stage). IsAt role limits stage bytes fs since at) idle.0 has.is_at in
      let one = takes role limits bytes since fs at has in
      let before : bytes ≡ stream fs = has.has_consumed.whole ∙ ap (λ (bs : List ℕ). stream fs ++ bs) is.1 ∙ append-nil (stream fs) in
      let whole : stream one.frames ≡ stream fs ++ take n chunk =
      sym (append-nil (stream one.frames)) ∙ sym one.has_scanned.has_consumed.whole ∙ ap (λ (bs : List ℕ). bs ++ take n chunk) before in
      let second = spellable_of_lawful role limits one.frames one.has_scanned.has_consumed.lawful in
      let on = further fs one.frames (take n chunk) (spellable_of_lawful role limits fs has.has_consumed.lawful) second whole in (
        record {
          more = on.0;
          spells = on.2;
          spellable = spellable_after fs on.0 (subst (λ (hs : List Frame). AreSpellable hs) on.1 second);
          offset = ap (λ (bs : List ℕ). length bs) before;
          has_scanned = subst (λ (hs : List Frame). HasScanned role limits new (bytes ++ take n chunk) hs [] BetweenFrames) on.1 one.has_scanned;
        },
        is.2,
      )

  pub events_prefix : IsRunning old → (more : List HeadInfo) × ConsumesPrefix old new chunk n more
  events_prefix running = (heads_from offset first.more, prefix)
    where
      first : IsMore running.role running.limits running.bytes running.taken.frames
      first = (more_of running.role running.limits running.bytes running.taken.since running.taken.frames running.taken.position running.taken.has_scanned).0

      offset : ℕ
      offset = length running.bytes

      prefix : ConsumesPrefix old new chunk n (heads_from offset first.more)
      prefix role limits bytes heads taken =
          let fs = taken.frames in
          let both = more_of role limits bytes taken.since fs taken.position taken.has_scanned in
          let here = both.0 in
          let same : here.more ≡ first.more = alike here.more first.more here.spellable first.spellable (sym here.spells ∙ first.spells) in
          let input : limits.input ≡ running.limits.input = ap (λ (l : Limits). l.input) (sym taken.has_scanned.has_consumed.under ∙ running.taken.has_scanned.has_consumed.under) in
          let room = taken.has_scanned.has_consumed.room in
          let own_room = running.taken.has_scanned.has_consumed.room in
          let sizes : length bytes ≡ offset = omega (arith, room, own_room, input) in
          let next : 0 + length (stream fs) ≡ offset = omega (arith, here.offset, sizes) in
          let before : heads ≡ heads_of fs = taken.heads_are ∙ ap (λ (p : Position). heads_of fs ++ begun_at p) both.1 ∙ append-nil (heads_of fs) in
          let all : heads_of (fs ++ here.more) ≡ heads ++ heads_from offset first.more =
          heads_from-append 0 fs here.more offset next ∙ (λ i. sym before i ++ heads_from offset (same i)) in
          record {
            frames = fs ++ here.more;
            since = [];
            position = BetweenFrames;
            has_scanned = here.has_scanned;
            heads_are = sym all ∙ sym (append-nil (heads_of (fs ++ here.more)));
          }

-- the same if it may take none
pub events_taken : (old new : Scan) (chunk after : List ℕ) (n : ℕ) → (0 < n → IsIdle old × TakesEvents old new chunk after n) → (n ≡ 0 → (new ≡ old) × (after ≡ chunk)) → IsRunning old
    → (more : List HeadInfo) × ConsumesPrefix old new chunk n more
events_taken old new chunk after n some none running =
    elim (cases_eq n 0) [
      | inl zero ↦
          let same = (none zero).0 in
          ([], subst (λ (scan : Scan). ConsumesPrefix old scan chunk n []) (sym same) (subst (λ (k : ℕ). ConsumesPrefix old old chunk k []) (sym zero) (takes_none old chunk)))
      | inr more ↦ let took = some (omega (arith, more)) in events_prefix old new chunk after n took.0 took.1 running
    ]

-- ---- one frame

-- Whatever the scan has consumed, it consumes the frame at the start of the chunk too, and takes its head.
pub event_head : (old new : Scan) (chunk after : List ℕ) (found : EventFrame) → IsIdle old → TakesEvent old new chunk after found → ConsumesPrefix old new chunk found.size (info_found old.used found ∷ [])
event_head old new chunk after found idle takes role limits bytes heads taken =
    let fs = taken.frames in
    let has = taken.has_scanned in
    let is : IsAt role limits stages.Between bytes fs taken.since taken.position = subst (λ (stage : Stage). IsAt role limits stage bytes fs taken.since taken.position) idle.0 has.is_at in
    let one = takes role limits bytes taken.since fs taken.position has in
    let ends = one.ends in
    let before : heads ≡ heads_of fs = taken.heads_are ∙ ap (λ (p : Position). heads_of fs ++ begun_at p) is.2 ∙ append-nil (heads_of fs) in
    let head : info_found old.used found ≡ info_of (length (stream fs)) ends.frame =
    λ i. record { offset = has.has_consumed.used i; fin = sym ends.final i; op = sym ends.op_is i; key = sym ends.key_is i; form = sym ends.form_is i; len = sym ends.size i } in
    record {
      frames = fs ++ ends.frame ∷ [];
      since = [];
      position = BetweenFrames;
      has_scanned = one.has_scanned;
      heads_are = (λ i. before i ++ head i ∷ []) ∙ sym (heads_push fs ends.frame) ∙ sym (append-nil (heads_of (fs ++ ends.frame ∷ [])));
    }
