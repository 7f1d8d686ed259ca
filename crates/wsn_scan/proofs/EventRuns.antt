-- Frames that each end an event, consumed one after the other.
use Rattle.std.proofs.Common.{◌≡◌, ℕ, ◌+◌, ◌-◌, ◌<◌, ◌≤◌, ◌^◌, Bool, true, false, cond, not, Option, List, [], ◌∷◌, ◌++◌, length, take, drop, map, refl, sym, ap, ◌∙◌, subst, arith, append_assoc, append-nil, length-append}
use Rattle.std.proofs.lemmas.List.{map-append, length-take-le, take-append-le}
use Rattle.std.proofs.Math.Seq.{take-add, take-append-add}
use borrow.Rule.Slice.PartMut.{put_mid, post_of}
use Rattle.wsn_wire.specs.declared.endpoint.Role.{Role}
use Rattle.wsn_wire.specs.declared.opcode.Op.TheVariants.{Close}
use Rattle.wsn_wire.specs.Frame.{Frame, IsBytes, is_control, frame_bytes, stream}
use Rattle.wsn_wire.proofs.FrameLemmas.{IsBytes-append}
use Rattle.wsn_frame.specs.declared.counts.Counts.{Counts}
use Rattle.wsn_frame.specs.declared.kept_message.OpenMessage.{OpenMessage}
use Rattle.wsn_frame.specs.Counts.{AreCounts}
use Rattle.wsn_frame.specs.KeptMessages.{IsOpenMessage}
use Rattle.wsn_rules.specs.Limits.{Limits}
use Rattle.wsn_rules.specs.Group.{unfinished}
use Rattle.wsn_rules.specs.AfterClose.{HasNoClose}
use Rattle.wsn_rules.specs.Meaning.{MeantEvent, event_at, meaning}
use Rattle.wsn_rules.specs.NormalForm.{normal_frame, normal_form}
use Rattle.wsn_rules.proofs.Groups.{meaning_push, unfinished_control, unfinished_final}
use Rattle.wsn_rules.proofs.LawfulLists.{lawful_push, no_close_push}
use Rattle.wsn_rules.proofs.Walk.{stream-append, stream_push}
use Rattle.wsn_scan.specs.declared.scan.Scan.{Scan}
use Rattle.wsn_scan.specs.declared.scan.events.EventFrame.{EventFrame}
use Rattle.wsn_scan.specs.declared.stage.Stage.{Stage}
use Rattle.wsn_scan.specs.declared.stage.Stage.TheVariants as stages
use Rattle.wsn_scan.specs.EventFrames.{EndsEventAt, IsEventFrame, IsIdle, TakesEvents}
use Rattle.wsn_scan.specs.Positions.{Position, BetweenFrames}
use Rattle.wsn_scan.specs.Scans.{IsAt, HasScanned, HasScannedAt}
use Rattle.wsn_scan.proofs.FrameEnds.{frames_few}
use Rattle.wsn_rules.proofs.PlanTheory.MessageFrames.{bytes_take}

-- ---- the normal form of more events

pub normal_form-append : (role : Role) (events more : List MeantEvent) → normal_form role (events ++ more) ≡ normal_form role events ++ normal_form role more
normal_form-append role events more =
    ap stream (map-append (normal_frame role) events more) ∙ stream-append (map (normal_frame role) events) (map (normal_frame role) more)

pub normal_form_push : (role : Role) (events : List MeantEvent) (e : MeantEvent) → normal_form role (events ++ e ∷ []) ≡ normal_form role events ++ frame_bytes (normal_frame role e)
normal_form_push role events e =
    normal_form-append role events (e ∷ []) ∙ ap (λ (bs : List ℕ). normal_form role events ++ bs) (append-nil (frame_bytes (normal_frame role e)))

-- ---- the scan after a part of the chunk

-- The scan after `at` bytes of frames without a message open, with these counts.
abbrev pub after_frames : Scan → ℕ → Counts → Scan
after_frames scan at counts = record scan { room = scan.room - at; used = scan.context.limits.input - (scan.room - at); counts = counts }

-- what a call wrote to the start of a part is the chunk's next bytes
pub taken_with : (at n : ℕ) (here new : List ℕ) → at ≤ length here → n ≤ length new → take (at + n) (put_mid at (length here - at) here new) ≡ take at here ++ take n new
taken_with at n here new within fits =
    let size : length (take at here) ≡ at = length-take-le at here within in
    ap (λ (k : ℕ). take (k + n) (put_mid at (length here - at) here new)) (sym size)
    ∙ take-append-add (take at here) (new ++ post_of at (length here - at) here) n
    ∙ ap (λ (bs : List ℕ). take at here ++ bs) (take-append-le n new (post_of at (length here - at) here) fits)

-- no message is open after a final frame
none_open : (fs : List Frame) (f : Frame) → unfinished fs ≡ [] → f.fin ≡ true → unfinished (fs ++ f ∷ []) ≡ []
none_open fs f none final = by (is_control f.op) refl
  where
    by : (control : Bool) → is_control f.op ≡ control → unfinished (fs ++ f ∷ []) ≡ []
    by true is = unfinished_control fs f (ap not is) ∙ none
    by false is = unfinished_final fs f (ap not is) final

-- The scan is past the found frame, which ends an event, and stays between frames without an open message.
pub record IsPastEvent (old new : Scan) (found : EventFrame) : Type 0 where
  pub idle : IsIdle new
  pub sender : new.context.role ≡ old.context.role
  pub under : new.context.limits ≡ old.context.limits
  pub room : new.room + found.size ≡ old.room
  pub used : new.used ≡ old.context.limits.input - new.room
  pub counts : (fs : List Frame) (f : Frame) → AreCounts old.counts fs → length fs < 2 ^ 63 → f.fin ≡ true → f.op ≡ found.op → AreCounts new.counts (fs ++ f ∷ [])

-- The scan has consumed one frame more.
module _ (role : Role) (limits : Limits) (old new : Scan) (bytes chunk after : List ℕ) (fs : List Frame) (found : EventFrame) (pos : Position) where
  one_more : HasScannedAt role limits old stages.Between bytes fs [] pos → unfinished fs ≡ [] → (ends : EndsEventAt role limits fs chunk after found) → (found.op ≡ Close → ⊥) → found.size ≤ length chunk → IsBytes chunk → IsPastEvent old new found
      → HasScanned role limits new (bytes ++ take found.size chunk) (fs ++ ends.frame ∷ []) [] BetweenFrames
  one_more has none ends no_more within in_chunk past =
      let hc = has.has_consumed in
      let f = ends.frame in
      let all = fs ++ f ∷ [] in
      let came = take found.size chunk in
      let whole : bytes ++ came ≡ stream all =
      ap (λ (bs : List ℕ). bs ++ came) (hc.whole ∙ append-nil (stream fs)) ∙ ap (λ (bs : List ℕ). stream fs ++ bs) (sym ends.bytes_are) ∙ sym (stream_push fs f) in
      let size : length (bytes ++ came) ≡ length bytes + length came = length-append bytes came in
      let size_came : length came ≡ found.size = length-take-le found.size chunk within in
      let size_whole : length (bytes ++ came) ≡ length (stream all) = ap (λ (bs : List ℕ). length bs) whole in
      let size_done : length bytes ≡ length (stream fs) = ap (λ (bs : List ℕ). length bs) (hc.whole ∙ append-nil (stream fs)) in
      let input : old.context.limits.input ≡ limits.input = ap (λ (b : Limits). b.input) hc.under in
      let most = hc.in_range.input in
      let few : length fs < 2 ^ 63 = omega (arith, frames_few fs, size_done, hc.room, most) in
      record {
        has_consumed = record {
          sender = past.sender ∙ hc.sender;
          under = past.under ∙ hc.under;
          in_range = hc.in_range;
          lawful = lawful_push role limits fs f hc.lawful no_close ends.law;
          whole = whole ∙ sym (append-nil (stream all));
          in_bytes = IsBytes-append bytes came hc.in_bytes (bytes_take found.size chunk in_chunk);
          room = omega (arith, hc.room, size, size_came, past.room);
          used = omega (arith, hc.room, size, size_came, size_whole, input, past.room, past.used);
          counts = past.counts fs f hc.counts few ends.final ends.op_is;
          message = subst (λ (m : Option OpenMessage). IsOpenMessage m (unfinished all)) (sym past.idle.1) (none_open fs f none ends.final);
        };
        is_at = subst (λ (stage : Stage). IsAt role limits stage (bytes ++ came) all [] BetweenFrames) (sym past.idle.0) (no_close_push fs f no_close (λ close. no_more (sym ends.op_is ∙ close)), refl, refl);
      }
    where
      no_close : HasNoClose fs
      no_close = has.is_at.0

-- After the frames fs, which leave no message open, the scan has consumed one frame more, up to the end of these bytes.
-- It is the found frame.
pub record ConsumesEvent (role : Role) (limits : Limits) (new : Scan) (bytes : List ℕ) (fs : List Frame) (chunk after : List ℕ) (found : EventFrame) : Type 0 where
  pub none_before : unfinished fs ≡ []
  pub ends : EndsEventAt role limits fs chunk after found
  pub has_scanned : HasScanned role limits new bytes (fs ++ ends.frame ∷ []) [] BetweenFrames

-- Whatever the scan has consumed, it consumes the frame at the start of the chunk, which ends an event.
abbrev pub TakesEvent : Scan → Scan → List ℕ → List ℕ → EventFrame → Type 0
TakesEvent old new chunk after found =
    (role : Role) (limits : Limits) (bytes since : List ℕ) (fs : List Frame) (pos : Position) →
    HasScanned role limits old bytes fs since pos → ConsumesEvent role limits new (bytes ++ take found.size chunk) fs chunk after found

pub takes_event : (old new : Scan) (chunk after : List ℕ) (found : EventFrame) → IsIdle old → IsPastEvent old new found → found.size ≤ length chunk → IsBytes chunk → IsEventFrame old.context.role old.context.limits chunk after found
    → TakesEvent old new chunk after found
takes_event old new chunk after found idle past within in_chunk is role limits bytes since fs pos has =
    let hc = has.has_consumed in
    let at : IsAt role limits stages.Between bytes fs since pos = subst (λ (stage : Stage). IsAt role limits stage bytes fs since pos) idle.0 has.is_at in
    let none : unfinished fs ≡ [] = subst (λ (m : Option OpenMessage). IsOpenMessage m (unfinished fs)) idle.1 hc.message in
    let between : HasScannedAt role limits old stages.Between bytes fs [] pos =
    subst (λ (rest : List ℕ). HasScannedAt role limits old stages.Between bytes fs rest pos) at.1 (record { has_consumed = hc; is_at = at }) in
    let of_role : IsEventFrame role old.context.limits chunk after found = subst (λ (r : Role). IsEventFrame r old.context.limits chunk after found) hc.sender is in
    let event : IsEventFrame role limits chunk after found = subst (λ (b : Limits). IsEventFrame role b chunk after found) hc.under of_role in
    let ends = event.1 fs hc.in_range hc.lawful at.0 none in
    record { none_before = none; ends = ends; has_scanned = one_more role limits old new bytes chunk after fs found pos between none ends event.0 within in_chunk past }

-- ---- a run

module _ (scan : Scan) (idle : IsIdle scan) (chunk : List ℕ) where
  -- nothing consumed yet
  begun : (role : Role) (limits : Limits) (bytes since : List ℕ) (fs : List Frame) (pos : Position) → HasScanned role limits scan bytes fs since pos
      → HasScanned role limits (after_frames scan 0 scan.counts) (bytes ++ take 0 chunk) fs [] BetweenFrames
  begun role limits bytes since fs pos has =
      let hc = has.has_consumed in
      let at : IsAt role limits stages.Between bytes fs since pos = subst (λ (stage : Stage). IsAt role limits stage bytes fs since pos) idle.0 has.is_at in
      let same : bytes ++ take 0 chunk ≡ bytes = append-nil bytes in
      let whole : bytes ++ take 0 chunk ≡ stream fs ++ [] = same ∙ hc.whole ∙ ap (λ (bs : List ℕ). stream fs ++ bs) at.1 in
      let size : length bytes ≡ length (stream fs) = ap (λ (bs : List ℕ). length bs) (sym same ∙ whole ∙ append-nil (stream fs)) in
      let size_too : length (bytes ++ take 0 chunk) ≡ length bytes = ap (λ (bs : List ℕ). length bs) same in
      let input : scan.context.limits.input ≡ limits.input = ap (λ (b : Limits). b.input) hc.under in
      record {
        has_consumed = record {
          sender = hc.sender;
          under = hc.under;
          in_range = hc.in_range;
          lawful = hc.lawful;
          whole = whole;
          in_bytes = subst IsBytes (sym same) hc.in_bytes;
          room = omega (arith, hc.room, size_too);
          used = omega (arith, hc.room, size, input);
          counts = hc.counts;
          message = hc.message;
        };
        is_at = subst (λ (stage : Stage). IsAt role limits stage (bytes ++ take 0 chunk) fs [] BetweenFrames) (sym idle.0) (at.0, refl, refl);
      }

  pub begins : TakesEvents scan (after_frames scan 0 scan.counts) chunk chunk 0
  begins role limits bytes since fs pos has = record {
    frames = fs;
    events = [];
    has_scanned = begun role limits bytes since fs pos has;
    none_open = subst (λ (m : Option OpenMessage). IsOpenMessage m (unfinished fs)) idle.1 has.has_consumed.message;
    means = sym (append-nil (meaning fs));
    normal_is = refl;
  }

  -- one frame more
  pub goes_on : (here share new after : List ℕ) (at : ℕ) (counts next : Counts) (found : EventFrame) → TakesEvents scan (after_frames scan at counts) chunk here at
      → share ≡ drop at chunk → TakesEvent (after_frames scan at counts) (after_frames scan (at + found.size) next) share new found
      → take (at + found.size) after ≡ take at here ++ take found.size new → TakesEvents scan (after_frames scan (at + found.size) next) chunk after (at + found.size)
  goes_on here share new after at counts next found so_far is takes after_is role limits bytes since fs pos has =
      let sofar = so_far role limits bytes since fs pos has in
      let done = sofar.frames in
      let one = takes role limits (bytes ++ take at chunk) [] done BetweenFrames sofar.has_scanned in
      let ends = one.ends in
      let f = ends.frame in
      let all = done ++ f ∷ [] in
      let n = found.size in
      let joined : bytes ++ take (at + n) chunk ≡ (bytes ++ take at chunk) ++ take n share =
      ap (λ (bs : List ℕ). bytes ++ bs) (take-add at n chunk ∙ ap (λ (bs : List ℕ). take at chunk ++ take n bs) (sym is)) ∙ sym (append_assoc bytes (take at chunk) (take n share)) in
      let e = event_at done f in
      record {
        frames = all;
        events = sofar.events ++ e ∷ [];
        has_scanned = subst (λ (bs : List ℕ). HasScanned role limits (after_frames scan (at + n) next) bs all [] BetweenFrames) (sym joined) one.has_scanned;
        none_open = none_open done f one.none_before ends.final;
        means = meaning_push done f ∙ ap (λ (b : Bool). meaning done ++ cond b (e ∷ []) []) ends.final ∙ ap (λ (es : List MeantEvent). es ++ e ∷ []) sofar.means ∙ append_assoc (meaning fs) sofar.events (e ∷ []);
        normal_is = after_is ∙ ap (λ (bs : List ℕ). bs ++ take n new) sofar.normal_is ∙ ap (λ (bs : List ℕ). normal_form role sofar.events ++ bs) ends.normal ∙ sym (normal_form_push role sofar.events e);
      }
