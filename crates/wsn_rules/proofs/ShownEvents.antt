-- The events of a stream as they are shown: how many there are, and the one at an index.
use Rattle.std.proofs.Common.{◌≡◌, ℕ, zero, suc, ◌≤◌, Bool, true, false, cond, not, Option, None, Some, List, [], ◌∷◌, ◌++◌, length, nat_lt, slice_get, if◌then◌else◌, inl, inr, refl, sym, ap, ◌∙◌, subst, append-nil, length-append, arith}
use Rattle.std.specs.List.{flat_map}
use Rattle.std.proofs.lemmas.Bool.{cases_Bool, cond-true, cond-false}
use Rattle.std.proofs.lemmas.List.Elements.{filter-append}
use Rattle.std.proofs.lemmas.List.Concat.{flat_map-append}
use Rattle.std.proofs.lemmas.Option.{slice_get_past}
use Rattle.wsn_wire.specs.declared.endpoint.Role.{Role}
use Rattle.wsn_wire.specs.Frame.{Frame, stream}
use Rattle.wsn_rules.specs.declared.detail.Detail.TheVariants.{Events}
use Rattle.wsn_rules.specs.declared.verdict.Summary.{Summary}
use Rattle.wsn_rules.specs.declared.verdict.Verdict.{Verdict}
use Rattle.wsn_rules.specs.declared.verdict.Verdict.TheVariants.{Accepted}
use Rattle.wsn_rules.specs.declared.without.Without.{Without}
use Rattle.wsn_rules.specs.Group.{unfinished}
use Rattle.wsn_rules.specs.LeftOut.{is_left_out, events_without}
use Rattle.wsn_rules.specs.Lawful.{IsLawful}
use Rattle.wsn_rules.specs.Limits.{Limits}
use Rattle.wsn_rules.specs.Meaning.{MeantEvent, event_at, meaning}
use Rattle.wsn_rules.specs.Summary.{is_close}
use Rattle.wsn_rules.specs.Verdict.{IsVerdict}
use Rattle.wsn_rules.specs.ShownStream.{Item, Shown, shown_after, open_items, items_of_final, event_offset, event_frames, shown_at, shown_of, IsShownStream, event_in, events_shown}
use Rattle.wsn_rules.specs.ShownStream.Item.{Event, Head, Unfinished, UnfinishedHead, RefusedFrame, Unread, Tail}
use Rattle.wsn_rules.specs.ShownEvents.{event_item, event_items, IsShownAt, ShowsEvent}
use Rattle.wsn_rules.proofs.Prefixes.{push-append}
use Rattle.wsn_rules.proofs.OneVerdict.{all_of_verdict, all_go_on}
use Rattle.wsn_rules.proofs.ShownStreams.{shown_of-append, events_of, one_shown, events_are_meaning}

get_at : {X : Type 0} → (xs : List X) (y : X) (ys : List X) → slice_get (xs ++ y ∷ ys) (length xs) ≡ Some y
get_at [] y ys = refl
get_at (x ∷ xs) y ys = get_at xs y ys

module _ (without : Without) where
  items-append : (xs ys : List Shown) → event_items without (xs ++ ys) ≡ event_items without xs ++ event_items without ys
  items-append xs ys = flat_map-append (λ (s : Shown). event_item without s.item) xs ys

  -- ---- as many as there are events

  one_or_none : (b : Bool) (item : Item) (event : MeantEvent) → length (cond b [] (item ∷ [])) ≡ length (cond (not b) (event ∷ []) [])
  one_or_none true item event = refl
  one_or_none false item event = refl

  as_many_in : (item : Item) → length (event_item without item) ≡ length (events_without without (event_in item))
  as_many_in (Event offset event frames) = one_or_none (is_left_out without event) (Event offset event frames) event
  as_many_in (Head info) = refl
  as_many_in (Unfinished offset event frames lacks) = refl
  as_many_in (UnfinishedHead offset) = refl
  as_many_in (RefusedFrame offset refusal evidence character) = refl
  as_many_in (Unread offset bytes) = refl
  as_many_in (Tail offset bytes) = refl

  as_many : (shown : List Shown) → length (event_items without shown) ≡ length (events_without without (events_shown shown))
  as_many [] = refl
  as_many (s ∷ shown) =
      let parts : events_without without (event_in s.item ++ events_shown shown) ≡ events_without without (event_in s.item) ++ events_without without (events_shown shown) =
      filter-append (λ (event : MeantEvent). not (is_left_out without event)) (event_in s.item) (events_shown shown) in
      let left = length-append (event_item without s.item) (event_items without shown) in
      let right = ap (λ (es : List MeantEvent). length es) parts ∙ length-append (events_without without (event_in s.item)) (events_without without (events_shown shown)) in
      omega (arith, left, right, as_many_in s.item, as_many shown)

  pub as_many_of : (fs : List Frame) → length (event_items without (shown_of [] fs)) ≡ length (events_without without (meaning fs))
  as_many_of fs = as_many (shown_of [] fs) ∙ ap (λ (es : List MeantEvent). length (events_without without es)) (events_of [] fs)

  -- ---- the event at an index

  shows_in_front : (b : Bool) (offset : ℕ) (event : MeantEvent) (frames : ℕ) (items : List Item) (events : List MeantEvent)
      → ((k : ℕ) → ShowsEvent (slice_get items k) (slice_get events k)) → (k : ℕ) → ShowsEvent (slice_get (cond b [] (Event offset event frames ∷ []) ++ items) k) (slice_get (cond (not b) (event ∷ events) events) k)
  shows_in_front true offset event frames items events rest k = rest k
  shows_in_front false offset event frames items events rest zero = refl
  shows_in_front false offset event frames items events rest (suc k) = rest k

  shows_with : (item : Item) (shown : List Shown) → ((k : ℕ) → ShowsEvent (slice_get (event_items without shown) k) (slice_get (events_without without (events_shown shown)) k))
      → (k : ℕ) → ShowsEvent (slice_get (event_item without item ++ event_items without shown) k) (slice_get (events_without without (event_in item ++ events_shown shown)) k)
  shows_with (Event offset event frames) shown rest k = shows_in_front (is_left_out without event) offset event frames (event_items without shown) (events_without without (events_shown shown)) rest k
  shows_with (Head info) shown rest k = rest k
  shows_with (Unfinished offset event frames lacks) shown rest k = rest k
  shows_with (UnfinishedHead offset) shown rest k = rest k
  shows_with (RefusedFrame offset refusal evidence character) shown rest k = rest k
  shows_with (Unread offset bytes) shown rest k = rest k
  shows_with (Tail offset bytes) shown rest k = rest k

  shows : (shown : List Shown) (k : ℕ) → ShowsEvent (slice_get (event_items without shown) k) (slice_get (events_without without (events_shown shown)) k)
  shows [] k = tt
  shows (s ∷ shown) k = shows_with s.item shown (shows shown) k

  -- ---- the event that a final frame ends

  of_items : (n : ℕ) (items : List Item) → event_items without (shown_after n items) ≡ flat_map (event_item without) items
  of_items n [] = refl
  of_items n (item ∷ items) = ap (λ (is : List Item). event_item without item ++ is) (of_items n items)

  none_open : (fs : List Frame) (lacks : Option ℕ) → flat_map (event_item without) (open_items fs lacks) ≡ []
  none_open fs lacks =
      elim (cases_Bool (nat_lt 0 (length (unfinished fs)))) [
        | inl some ↦ ap (flat_map (event_item without)) (cond-true (nat_lt 0 (length (unfinished fs))) _ [] some)
        | inr none ↦ ap (flat_map (event_item without)) (cond-false (nat_lt 0 (length (unfinished fs))) _ [] none)
      ]

  abbrev item_at : List Frame → Frame → Item
  item_at before f = Event (event_offset before f) (event_at before f) (event_frames before f)

  of_final : (before : List Frame) (f : Frame) → is_left_out without (event_at before f) ≡ false → flat_map (event_item without) (items_of_final before f) ≡ item_at before f ∷ []
  of_final before f kept =
      let interrupted = if is_close f.op then open_items before (Some 0) else [] in
      let none : flat_map (event_item without) interrupted ≡ [] =
      elim (cases_Bool (is_close f.op)) [
        | inl close ↦ ap (flat_map (event_item without)) (cond-true (is_close f.op) (open_items before (Some 0)) [] close) ∙ none_open before (Some 0)
        | inr other ↦ ap (flat_map (event_item without)) (cond-false (is_close f.op) (open_items before (Some 0)) [] other)
      ] in
      let one : flat_map (event_item without) (item_at before f ∷ []) ≡ item_at before f ∷ [] =
      append-nil (event_item without (item_at before f)) ∙ cond-false (is_left_out without (event_at before f)) [] (item_at before f ∷ []) kept in
      flat_map-append (event_item without) interrupted (item_at before f ∷ []) ∙ ap (λ (is : List Item). is ++ flat_map (event_item without) (item_at before f ∷ [])) none ∙ one

  of_frame : (before : List Frame) (f : Frame) → f.fin ≡ true → is_left_out without (event_at before f) ≡ false → event_items without (shown_at before f) ≡ item_at before f ∷ []
  of_frame before f final kept =
      let n = length (stream (before ++ f ∷ [])) in
      ap (event_items without) (cond-true f.fin (shown_after n (items_of_final before f)) [] final) ∙ of_items n (items_of_final before f) ∙ of_final before f kept

  -- An event is at the index that is the number of those before it.
  pub stands : (before : List Frame) (f : Frame) (extra : List Frame) → f.fin ≡ true → is_left_out without (event_at before f) ≡ false
      → slice_get (event_items without (shown_of [] (before ++ f ∷ extra))) (length (events_without without (meaning before))) ≡ Some (item_at before f)
  stands before f extra final kept =
      let later = event_items without (shown_of (before ++ f ∷ []) extra) in
      let front = event_items without (shown_of [] before) in
      let parts : event_items without (shown_of [] (before ++ f ∷ extra)) ≡ front ++ item_at before f ∷ later =
      ap (event_items without) (shown_of-append [] before (f ∷ extra)) ∙ items-append (shown_of [] before) (shown_at before f ++ shown_of (before ++ f ∷ []) extra)
      ∙ ap (λ (is : List Item). front ++ is) (items-append (shown_at before f) (shown_of (before ++ f ∷ []) extra) ∙ ap (λ (is : List Item). is ++ later) (of_frame before f final kept)) in
      ap (λ (is : List Item). slice_get is (length (events_without without (meaning before)))) parts
      ∙ ap (λ (n : ℕ). slice_get (front ++ item_at before f ∷ later) n) (sym (as_many_of before)) ∙ get_at front (item_at before f) later

  -- ---- of an accepted stream

  module _ (role : Role) (limits : Limits) where
    pub shown_of_accepted : (bytes : List ℕ) (fs : List Frame) (summary : Summary) → IsVerdict role limits bytes fs (Accepted summary) → IsShownStream Events role limits bytes (shown_of [] fs)
    shown_of_accepted bytes fs summary is = record {
      frames = fs;
      verdict = Accepted summary;
      is_verdict = is;
      of_frames = shown_of [] fs;
      are_of_frames = refl;
      of_verdict = [];
      is_of_verdict = refl;
      all = sym (append-nil (shown_of [] fs));
    }

    -- The event that the frame f ends after the frames before it.
    pub shown_in_accepted : (bytes : List ℕ) (fs : List Frame) (summary : Summary) → IsVerdict role limits bytes fs (Accepted summary) → (before : List Frame) (f : Frame) (rest : List ℕ) (k : ℕ)
        → IsLawful role limits (before ++ f ∷ []) → bytes ≡ stream (before ++ f ∷ []) ++ rest → f.fin ≡ true → is_left_out without (event_at before f) ≡ false → k ≡ length (events_without without (meaning before))
        → IsShownAt without role limits bytes k (Some (Event (event_offset before f) (event_at before f) (event_frames before f)))
    shown_in_accepted bytes fs summary is before f rest k lawful whole final kept index =
        let on = all_go_on role limits bytes (before ++ f ∷ []) fs rest lawful whole (all_of_verdict role limits bytes fs (Accepted summary) is) in
        let frames : fs ≡ before ++ f ∷ on.0 = on.1 ∙ push-append before f on.0 in
        record {
          shown = shown_of [] fs;
          is_shown = shown_of_accepted bytes fs summary is;
          is =
              sym (ap (λ (gs : List Frame). slice_get (event_items without (shown_of [] gs)) k) frames
              ∙ ap (λ (n : ℕ). slice_get (event_items without (shown_of [] (before ++ f ∷ on.0))) n) index ∙ stands before f on.0 final kept);
        }

    -- There are no more.
    pub none_in_accepted : (bytes : List ℕ) (fs : List Frame) (summary : Summary) → IsVerdict role limits bytes fs (Accepted summary) → (k : ℕ) → length (events_without without (meaning fs)) ≤ k → IsShownAt without role limits bytes k None
    none_in_accepted bytes fs summary is k past = record {
      shown = shown_of [] fs;
      is_shown = shown_of_accepted bytes fs summary is;
      is = sym (slice_get_past (event_items without (shown_of [] fs)) k (omega (arith, as_many_of fs, past)));
    }

    -- ---- the laws

    pub one_shown_at : (bytes : List ℕ) (k : ℕ) (item other : Option Item) → IsShownAt without role limits bytes k item → IsShownAt without role limits bytes k other → item ≡ other
    one_shown_at bytes k item other p q =
        p.is ∙ ap (λ (ss : List Shown). slice_get (event_items without ss) k) (one_shown role limits Events bytes p.shown q.shown p.is_shown q.is_shown) ∙ sym q.is

    pub shown_is_meant : (bytes : List ℕ) (fs : List Frame) (verdict : Verdict) (k : ℕ) (item : Option Item) → IsVerdict role limits bytes fs verdict → IsShownAt without role limits bytes k item
        → ShowsEvent item (slice_get (events_without without (meaning fs)) k)
    shown_is_meant bytes fs verdict k item is p =
        subst (λ (i : Option Item). ShowsEvent i (slice_get (events_without without (meaning fs)) k)) (sym p.is)
        (subst (λ (es : List MeantEvent). ShowsEvent (slice_get (event_items without p.shown) k) (slice_get (events_without without es) k)) (events_are_meaning role limits bytes fs verdict p.shown is p.is_shown) (shows p.shown k))
