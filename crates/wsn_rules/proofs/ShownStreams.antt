-- What is shown of a stream is one list of items, and a longer stream continues it.
use Rattle.std.proofs.Common.{◌≡◌, ℕ, ◌+◌, ◌<◌, ◌≤◌, true, false, Option, Some, List, [], ◌∷◌, ◌++◌, ◌⊎◌, length, take, drop, map, filter, nat_lt, if◌then◌else◌, refl, sym, ap, ◌∙◌, subst, inl, inr, append-nil, append_assoc, length-append, arith}
use Rattle.std.specs.List.{AllByRecursion, flat_map}
use Rattle.std.proofs.lemmas.Bool.{cases_Bool, cond-true, cond-false, cases_lt}
use Rattle.std.proofs.lemmas.List.{take-append-le, map-append}
use Rattle.std.proofs.lemmas.List.Elements.{filter-append}
use Rattle.std.proofs.lemmas.List.Concat.{flat_map-append}
use Rattle.wsn_wire.specs.declared.endpoint.Role.{Role}
use Rattle.wsn_wire.specs.declared.refusal.Reason.{Reason}
use Rattle.wsn_wire.specs.Frame.{Frame, frame_bytes, stream, wire_payload}
use Rattle.wsn_rules.specs.declared.detail.Detail.{Detail}
use Rattle.wsn_rules.specs.declared.detail.Detail.TheVariants.{Events, Frames}
use Rattle.wsn_rules.specs.declared.head_info.HeadInfo.{HeadInfo}
use Rattle.wsn_rules.specs.declared.verdict.Refusal.{Refusal}
use Rattle.wsn_rules.specs.declared.verdict.Summary.{Summary}
use Rattle.wsn_rules.specs.declared.verdict.Verdict.{Verdict}
use Rattle.wsn_rules.specs.declared.verdict.Verdict.TheVariants.{Accepted, Cut, Refused}
use Rattle.wsn_rules.specs.Limits.{Limits}
use Rattle.wsn_rules.specs.Group.{unfinished}
use Rattle.wsn_rules.specs.Heads.{AreHeads}
use Rattle.wsn_rules.specs.Meaning.{MeantEvent, event_at, events_after, meaning}
use Rattle.wsn_rules.specs.Summary.{is_close}
use Rattle.wsn_rules.specs.Verdict.{IsRefused, IsVerdict}
use Rattle.wsn_rules.specs.ShownStream.{Item, Shown, shown_after, open_items, items_of_final, shown_at, shown_of, shown_head, AreShownFrames, interrupted, IsShownEvidence, IsShownRefusal, IsShownVerdict, IsShownStream, event_in, events_shown, head_in, heads_shown}
use Rattle.wsn_rules.specs.ShownStream.Item.{RefusedFrame}
use Rattle.wsn_rules.specs.ShownCapture.{beyond}
use Rattle.wsn_rules.specs.BadCharacter.{BadCharacter, character_of}
use Rattle.wsn_rules.proofs.AllOfList.{all_append}
use Rattle.wsn_rules.proofs.Prefixes.{push-append, append_cancel, GoesOn, two_fronts}
use Rattle.wsn_rules.proofs.Walk.{stream-append}
use Rattle.wsn_rules.proofs.OneVerdict.{AreAll, all_of_verdict, all_go_on, one_verdict}
use Rattle.wsn_rules.proofs.StaysRefused.{place_within, refused_alike, stays_refused}
use Rattle.wsn_rules.proofs.OneHead.{one_begun, one_following}
use Rattle.wsn_rules.proofs.HeadsGoOn.{end_of, one_heads, heads_stay, heads_in_bytes, heads_go_on}

-- ---- frames that follow others

pub shown_of-append : (before fs gs : List Frame) → shown_of before (fs ++ gs) ≡ shown_of before fs ++ shown_of (before ++ fs) gs
shown_of-append before [] gs = ap (λ (hs : List Frame). shown_of hs gs) (sym (append-nil before))
shown_of-append before (f ∷ fs) gs =
    let here = shown_at before f in
    ap (λ es. here ++ es) (shown_of-append (before ++ f ∷ []) fs gs ∙ ap (λ (hs : List Frame). shown_of (before ++ f ∷ []) fs ++ shown_of hs gs) (push-append before f fs))
    ∙ sym (append_assoc here (shown_of (before ++ f ∷ []) fs) (shown_of (before ++ f ∷ fs) gs))

-- ---- with how many bytes items are shown

all_after : (P : ℕ → Type 0) (n : ℕ) (items : List Item) → P n → AllByRecursion (λ (s : Shown). P s.after) (shown_after n items)
all_after P n [] p = tt
all_after P n (item ∷ items) p = (p, all_after P n items p)

all_at : (P : ℕ → Type 0) (before : List Frame) (f : Frame) → P (length (stream (before ++ f ∷ []))) → AllByRecursion (λ (s : Shown). P s.after) (shown_at before f)
all_at P before f p =
    let n = length (stream (before ++ f ∷ [])) in
    let items = shown_after n (items_of_final before f) in
    elim (cases_Bool f.fin) [
      | inl final ↦ subst (λ (ss : List Shown). AllByRecursion (λ (s : Shown). P s.after) ss) (sym (cond-true f.fin items [] final)) (all_after P n (items_of_final before f) p)
      | inr more ↦ subst (λ (ss : List Shown). AllByRecursion (λ (s : Shown). P s.after) ss) (sym (cond-false f.fin items [] more)) tt
    ]

stream_grows : (before fs : List Frame) → length (stream before) ≤ length (stream (before ++ fs))
stream_grows before fs =
    let joined : length (stream (before ++ fs)) ≡ length (stream before) + length (stream fs) = ap (λ (bs : List ℕ). length bs) (stream-append before fs) ∙ length-append (stream before) (stream fs) in
    omega arith

-- Everything is shown with at most the frames' bytes.
shown_within : (before fs : List Frame) (n : ℕ) → length (stream (before ++ fs)) ≤ n → AllByRecursion (λ (s : Shown). s.after ≤ n) (shown_of before fs)
shown_within before [] n within = tt
shown_within before (f ∷ fs) n within =
    let rest : length (stream ((before ++ f ∷ []) ++ fs)) ≤ n = subst (λ (hs : List Frame). length (stream hs) ≤ n) (sym (push-append before f fs)) within in
    let grows = stream_grows (before ++ f ∷ []) fs in
    all_append (λ (s : Shown). s.after ≤ n) (shown_at before f) (shown_of (before ++ f ∷ []) fs)
    (all_at (λ k. k ≤ n) before f (omega arith))
    (shown_within (before ++ f ∷ []) fs n rest)

-- If the first of the frames ends past n bytes, everything is shown with more than n bytes.
shown_beyond : (before fs : List Frame) (n : ℕ) → ((f : Frame) (gs : List Frame) → fs ≡ f ∷ gs → n < length (stream (before ++ f ∷ []))) → AllByRecursion (λ (s : Shown). n < s.after) (shown_of before fs)
shown_beyond before [] n first = tt
shown_beyond before (f ∷ fs) n first =
    let past = first f fs refl in
    all_append (λ (s : Shown). n < s.after) (shown_at before f) (shown_of (before ++ f ∷ []) fs)
    (all_at (λ k. n < k) before f past)
    (shown_beyond (before ++ f ∷ []) fs n (λ g gs e. let grows = stream_grows (before ++ f ∷ []) (g ∷ []) in omega (arith, past)))

-- ---- what is beyond a number of bytes

less_is : (a b : ℕ) → a < b → nat_lt a b ≡ true
less_is a b less = grind (arith)

not_less : (a b : ℕ) → b ≤ a → nat_lt a b ≡ false
not_less a b le = grind (arith)

filter_none : (n : ℕ) (shown : List Shown) → AllByRecursion (λ (s : Shown). s.after ≤ n) shown → filter (λ (s : Shown). nat_lt n s.after) shown ≡ []
filter_none n [] all = refl
filter_none n (s ∷ shown) all =
    cond-false (nat_lt n s.after) (s ∷ filter (λ (t : Shown). nat_lt n t.after) shown) (filter (λ (t : Shown). nat_lt n t.after) shown) (not_less n s.after all.0)
    ∙ filter_none n shown all.1

filter_all : (n : ℕ) (shown : List Shown) → AllByRecursion (λ (s : Shown). n < s.after) shown → filter (λ (s : Shown). nat_lt n s.after) shown ≡ shown
filter_all n [] all = refl
filter_all n (s ∷ shown) all =
    cond-true (nat_lt n s.after) (s ∷ filter (λ (t : Shown). nat_lt n t.after) shown) (filter (λ (t : Shown). nat_lt n t.after) shown) (less_is n s.after all.0)
    ∙ ap (λ (ss : List Shown). s ∷ ss) (filter_all n shown all.1)

-- ---- events

events_after_are : (n : ℕ) (items : List Item) → events_shown (shown_after n items) ≡ flat_map event_in items
events_after_are n [] = refl
events_after_are n (item ∷ items) = ap (λ (es : List MeantEvent). event_in item ++ es) (events_after_are n items)

no_open_event : (fs : List Frame) (lacks : Option ℕ) → flat_map event_in (open_items fs lacks) ≡ []
no_open_event fs lacks =
    elim (cases_Bool (nat_lt 0 (length (unfinished fs)))) [
      | inl some ↦ ap (flat_map event_in) (cond-true (nat_lt 0 (length (unfinished fs))) _ [] some)
      | inr none ↦ ap (flat_map event_in) (cond-false (nat_lt 0 (length (unfinished fs))) _ [] none)
    ]

one_event : (before : List Frame) (f : Frame) → flat_map event_in (items_of_final before f) ≡ event_at before f ∷ []
one_event before f =
    let interrupted = if is_close f.op then open_items before (Some 0) else [] in
    let none : flat_map event_in interrupted ≡ [] =
    elim (cases_Bool (is_close f.op)) [
      | inl close ↦ ap (flat_map event_in) (cond-true (is_close f.op) (open_items before (Some 0)) [] close) ∙ no_open_event before (Some 0)
      | inr other ↦ ap (flat_map event_in) (cond-false (is_close f.op) (open_items before (Some 0)) [] other)
    ] in
    flat_map-append event_in interrupted _ ∙ ap (λ (es : List MeantEvent). es ++ event_at before f ∷ []) none

events_at : (before : List Frame) (f : Frame) → events_shown (shown_at before f) ≡ (if f.fin then event_at before f ∷ [] else [])
events_at before f =
    let n = length (stream (before ++ f ∷ [])) in
    let items = shown_after n (items_of_final before f) in
    elim (cases_Bool f.fin) [
      | inl final ↦ ap events_shown (cond-true f.fin items [] final) ∙ events_after_are n (items_of_final before f) ∙ one_event before f ∙ sym (cond-true f.fin (event_at before f ∷ []) [] final)
      | inr more ↦ ap events_shown (cond-false f.fin items [] more) ∙ sym (cond-false f.fin (event_at before f ∷ []) [] more)
    ]

pub events_of : (before fs : List Frame) → events_shown (shown_of before fs) ≡ events_after before fs
events_of before [] = refl
events_of before (f ∷ fs) =
    flat_map-append (λ (s : Shown). event_in s.item) (shown_at before f) (shown_of (before ++ f ∷ []) fs)
    ∙ ap (λ (es : List MeantEvent). es ++ events_shown (shown_of (before ++ f ∷ []) fs)) (events_at before f)
    ∙ ap (λ (es : List MeantEvent). (if f.fin then event_at before f ∷ [] else []) ++ es) (events_of (before ++ f ∷ []) fs)

-- ---- heads

head_items : (heads : List HeadInfo) → heads_shown (map shown_head heads) ≡ heads
head_items [] = refl
head_items (info ∷ heads) = ap (λ (hs : List HeadInfo). info ∷ hs) (head_items heads)

all_mapped : (P : ℕ → Type 0) (heads : List HeadInfo) → AllByRecursion (λ (info : HeadInfo). P (end_of info)) heads → AllByRecursion (λ (s : Shown). P s.after) (map shown_head heads)
all_mapped P [] all = tt
all_mapped P (info ∷ heads) all = (all.0, all_mapped P heads all.1)

-- ---- one list of items

module _ (role : Role) (limits : Limits) where
  one_evidence : (fs : List Frame) (reason : Reason) (seen shown other : List ℕ) (character another : Option BadCharacter) → IsShownEvidence role limits fs reason seen shown character → IsShownEvidence role limits fs reason seen other another
      → (shown ≡ other) × (character ≡ another)
  one_evidence fs reason seen shown other character another (inl p) (inl q) =
      let same = one_begun role limits fs seen p.0 q.0 p.1 q.1 in
      let bytes = one_following role limits fs seen p.0 q.0 p.1 q.1 in
      let shown_is : shown ≡ other = p.3 ∙ ap (λ (h : HeadInfo). wire_payload h.key p.1.following) same ∙ ap (λ (bs : List ℕ). wire_payload q.0.key bs) bytes ∙ sym q.3 in
      (shown_is, p.4 ∙ ap (λ (h : HeadInfo). character_of reason fs h shown) same ∙ ap (λ (bs : List ℕ). character_of reason fs q.0 bs) shown_is ∙ sym q.4)
  one_evidence fs reason seen shown other character another (inl p) (inr q) = absurd (p.2 (q.0 p.0 p.1))
  one_evidence fs reason seen shown other character another (inr p) (inl q) = absurd (q.2 (p.0 q.0 q.1))
  one_evidence fs reason seen shown other character another (inr p) (inr q) = (p.1 ∙ sym q.1, p.2 ∙ sym q.2)

  one_of_frames : (detail : Detail) (bytes : List ℕ) (fs : List Frame) (shown other : List Shown) → AreShownFrames detail role limits bytes fs shown → AreShownFrames detail role limits bytes fs other → shown ≡ other
  one_of_frames Events bytes fs shown other p q = p ∙ sym q
  one_of_frames Frames bytes fs shown other p q = p.2 ∙ ap (map shown_head) (one_heads role limits bytes fs p.0 q.0 p.1 q.1) ∙ sym q.2

  module _ (detail : Detail) where
    one_refusal_shown : (bytes : List ℕ) (fs : List Frame) (refusal : Refusal) (shown other : List Shown) → IsShownRefusal detail role limits bytes fs refusal shown → IsShownRefusal detail role limits bytes fs refusal other → shown ≡ other
    one_refusal_shown bytes fs refusal shown other p q =
        let same = one_evidence fs refusal.reason (drop (length (stream fs)) (take (refusal.offset + 1) bytes)) p.evidence q.evidence p.character q.character p.is_evidence q.is_evidence in
        p.is ∙ ap (λ (bs : List ℕ). shown_after (refusal.offset + 1) (interrupted detail fs ++ RefusedFrame (length (stream fs)) refusal bs p.character ∷ [])) same.0
        ∙ ap (λ (c : Option BadCharacter). shown_after (refusal.offset + 1) (interrupted detail fs ++ RefusedFrame (length (stream fs)) refusal q.evidence c ∷ [])) same.1 ∙ sym q.is

    one_of_verdict : (bytes : List ℕ) (fs : List Frame) (v : Verdict) (shown other : List Shown) → IsShownVerdict detail role limits bytes fs v shown → IsShownVerdict detail role limits bytes fs v other → shown ≡ other
    one_of_verdict bytes fs (Accepted s) shown other p q = p ∙ sym q
    one_of_verdict bytes fs (Cut s) shown other p q = p ∙ sym q
    one_of_verdict bytes fs (Refused r) shown other p q = one_refusal_shown bytes fs r shown other p q

    pub one_shown : (bytes : List ℕ) (shown other : List Shown) → IsShownStream detail role limits bytes shown → IsShownStream detail role limits bytes other → shown ≡ other
    one_shown bytes shown other p q =
        let same = one_verdict role limits bytes p.frames q.frames p.verdict q.verdict p.is_verdict q.is_verdict in
        let moved : IsShownVerdict detail role limits bytes q.frames q.verdict p.of_verdict =
        subst (λ (v : Verdict). IsShownVerdict detail role limits bytes q.frames v p.of_verdict) same.1 (subst (λ (fs : List Frame). IsShownVerdict detail role limits bytes fs p.verdict p.of_verdict) same.0 p.is_of_verdict) in
        let first = one_of_frames detail bytes q.frames p.of_frames q.of_frames (subst (λ (fs : List Frame). AreShownFrames detail role limits bytes fs p.of_frames) same.0 p.are_of_frames) q.are_of_frames in
        let last = one_of_verdict bytes q.frames q.verdict p.of_verdict q.of_verdict moved q.is_of_verdict in
        p.all ∙ ap (λ (ss : List Shown). ss ++ p.of_verdict) first ∙ ap (λ (ss : List Shown). q.of_frames ++ ss) last ∙ sym q.all

  no_event_of_verdict : (bytes : List ℕ) (fs : List Frame) (v : Verdict) (shown : List Shown) → IsShownVerdict Events role limits bytes fs v shown → events_shown shown ≡ []
  no_event_of_verdict bytes fs (Accepted s) shown p = ap events_shown p
  no_event_of_verdict bytes fs (Cut s) shown p = ap events_shown p
  no_event_of_verdict bytes fs (Refused r) shown p =
      let refused = RefusedFrame (length (stream fs)) r p.evidence p.character ∷ [] in
      ap events_shown p.is ∙ events_after_are (r.offset + 1) (open_items fs (Some 0) ++ refused)
      ∙ flat_map-append event_in (open_items fs (Some 0)) refused ∙ ap (λ (es : List MeantEvent). es ++ []) (no_open_event fs (Some 0))

  pub events_are_meaning : (bytes : List ℕ) (fs : List Frame) (v : Verdict) (shown : List Shown) → IsVerdict role limits bytes fs v → IsShownStream Events role limits bytes shown → events_shown shown ≡ meaning fs
  events_are_meaning bytes fs v shown is p =
      let same = one_verdict role limits bytes p.frames fs p.verdict v p.is_verdict is in
      ap events_shown p.all ∙ flat_map-append (λ (s : Shown). event_in s.item) p.of_frames p.of_verdict
      ∙ ap (λ (es : List MeantEvent). events_shown p.of_frames ++ es) (no_event_of_verdict bytes p.frames p.verdict p.of_verdict p.is_of_verdict)
      ∙ append-nil (events_shown p.of_frames) ∙ ap events_shown p.are_of_frames ∙ events_of [] p.frames ∙ ap meaning same.0

  no_head_of_verdict : (bytes : List ℕ) (fs : List Frame) (v : Verdict) (shown : List Shown) → IsShownVerdict Frames role limits bytes fs v shown → heads_shown shown ≡ []
  no_head_of_verdict bytes fs (Accepted s) shown p = ap heads_shown p
  no_head_of_verdict bytes fs (Cut s) shown p = ap heads_shown p
  no_head_of_verdict bytes fs (Refused r) shown p = ap heads_shown p.is

  pub heads_are_reported : (bytes : List ℕ) (fs : List Frame) (v : Verdict) (heads : List HeadInfo) (shown : List Shown) → IsVerdict role limits bytes fs v → AreHeads role limits bytes fs heads
      → IsShownStream Frames role limits bytes shown → heads_shown shown ≡ heads
  heads_are_reported bytes fs v heads shown is are p =
      let same = one_verdict role limits bytes p.frames fs p.verdict v p.is_verdict is in
      let own = p.are_of_frames in
      ap heads_shown p.all ∙ flat_map-append (λ (s : Shown). head_in s.item) p.of_frames p.of_verdict
      ∙ ap (λ (hs : List HeadInfo). heads_shown p.of_frames ++ hs) (no_head_of_verdict bytes p.frames p.verdict p.of_verdict p.is_of_verdict)
      ∙ append-nil (heads_shown p.of_frames) ∙ ap heads_shown own.2 ∙ head_items own.0
      ∙ one_heads role limits bytes fs own.0 heads (subst (λ (gs : List Frame). AreHeads role limits bytes gs own.0) same.0 own.1) are

-- ---- a stream with more bytes

module _ (role : Role) (limits : Limits) where
  -- The bytes end inside the next frame.
  next_is_beyond : (bytes more : List ℕ) (fs extra : List Frame) (f : Frame) → AreAll role limits bytes fs → AreAll role limits (bytes ++ more) (fs ++ f ∷ extra) → length bytes < length (stream (fs ++ f ∷ []))
  next_is_beyond bytes more fs extra f a b =
      elim (cases_lt (length bytes) (length (stream (fs ++ f ∷ [])))) [
        | inl past ↦ past
        | inr within ↦ absurd (inside (two_fronts bytes (stream (fs ++ f ∷ [])) more (stream extra ++ b.rest) parts) within)
      ]
    where
      parts : bytes ++ more ≡ stream (fs ++ f ∷ []) ++ (stream extra ++ b.rest)
      parts =
          b.whole ∙ ap (λ (hs : List Frame). stream hs ++ b.rest) (sym (push-append fs f extra))
          ∙ ap (λ (bs : List ℕ). bs ++ b.rest) (stream-append (fs ++ f ∷ []) extra) ∙ append_assoc (stream (fs ++ f ∷ [])) (stream extra) b.rest

      pushed : stream (fs ++ f ∷ []) ≡ stream fs ++ frame_bytes f
      pushed = stream-append fs (f ∷ []) ∙ ap (λ (bs : List ℕ). stream fs ++ bs) (append-nil (frame_bytes f))

      -- The whole frame would be in the bytes.
      complete : (r : List ℕ) → bytes ≡ stream (fs ++ f ∷ []) ++ r → ⊥
      complete r whole =
          let rest : a.rest ≡ frame_bytes f ++ r =
          append_cancel (stream fs) a.rest (frame_bytes f ++ r)
          (sym a.whole ∙ whole ∙ ap (λ (bs : List ℕ). bs ++ r) pushed ∙ append_assoc (stream fs) (frame_bytes f) r) in
          a.last f extra r b.lawful rest

      inside : GoesOn bytes more (stream (fs ++ f ∷ [])) (stream extra ++ b.rest) ⊎ GoesOn (stream (fs ++ f ∷ [])) (stream extra ++ b.rest) bytes more → length (stream (fs ++ f ∷ [])) ≤ length bytes → ⊥
      inside (inr p) within = complete p.0 p.1
      inside (inl p) within =
          let count : length (stream (fs ++ f ∷ [])) ≡ length bytes + length p.0 = ap (λ (bs : List ℕ). length bs) p.1 ∙ length-append bytes p.0 in
          let none : p.0 ≡ [] = nil_of_length p.0 (omega (arith, count)) in
          complete [] (sym (p.1 ∙ ap (λ (bs : List ℕ). bytes ++ bs) none ∙ append-nil bytes) ∙ sym (append-nil (stream (fs ++ f ∷ []))))
        where
          nil_of_length : (xs : List ℕ) → length xs ≡ 0 → xs ≡ []
          nil_of_length [] e = refl
          nil_of_length (x ∷ xs) e = absurd (omega (arith, e))

  -- The items of a longer stream: those of the bytes, and extra ones that are shown with more than these bytes.
  pub record ShowsMore (bytes : List ℕ) (shown longer : List Shown) : Type 0 where
    pub extra : List Shown
    pub all : longer ≡ shown ++ extra
    pub within : AllByRecursion (λ (s : Shown). s.after ≤ length bytes) shown
    pub past : AllByRecursion (λ (s : Shown). length bytes < s.after) extra

  frames_within : (bytes : List ℕ) (fs : List Frame) (v : Verdict) → IsVerdict role limits bytes fs v → length (stream fs) ≤ length bytes
  frames_within bytes fs v is =
      let a = all_of_verdict role limits bytes fs v is in
      let count : length bytes ≡ length (stream fs) + length a.rest = ap (λ (bs : List ℕ). length bs) a.whole ∙ length-append (stream fs) a.rest in
      omega arith

  -- ---- what is shown of frames

  items_within : (detail : Detail) (bytes : List ℕ) (fs : List Frame) (shown : List Shown) → length (stream fs) ≤ length bytes → AreShownFrames detail role limits bytes fs shown
      → AllByRecursion (λ (s : Shown). s.after ≤ length bytes) shown
  items_within Events bytes fs shown before are = subst (λ (ss : List Shown). AllByRecursion (λ (s : Shown). s.after ≤ length bytes) ss) (sym are) (shown_within [] fs (length bytes) before)
  items_within Frames bytes fs shown before are =
      subst (λ (ss : List Shown). AllByRecursion (λ (s : Shown). s.after ≤ length bytes) ss) (sym are.2)
      (all_mapped (λ n. n ≤ length bytes) are.0 (heads_in_bytes role limits bytes fs are.0 are.1))

  -- After a refusal it stays the same.
  pub frames_stay : (detail : Detail) (bytes more : List ℕ) (fs : List Frame) (r : Refusal) (shown : List Shown) → IsRefused role limits bytes fs r.offset r.reason → AreShownFrames detail role limits bytes fs shown
      → AreShownFrames detail role limits (bytes ++ more) fs shown
  frames_stay Events bytes more fs r shown refused are = are
  frames_stay Frames bytes more fs r shown refused are = (are.0, heads_stay role limits bytes more fs r.offset r.reason are.0 refused are.1, are.2)

  frames_go_on : (detail : Detail) (bytes more : List ℕ) (fs extra : List Frame) (shown longer : List Shown) → AreAll role limits bytes fs → AreAll role limits (bytes ++ more) (fs ++ extra)
      → AreShownFrames detail role limits bytes fs shown → AreShownFrames detail role limits (bytes ++ more) (fs ++ extra) longer → length (stream fs) ≤ length bytes → ShowsMore bytes shown longer
  frames_go_on Events bytes more fs extra shown longer a b p q before = record {
    extra = shown_of fs extra;
    all = q ∙ shown_of-append [] fs extra ∙ ap (λ (ss : List Shown). ss ++ shown_of fs extra) (sym p);
    within = items_within Events bytes fs shown before p;
    past =
        shown_beyond fs extra (length bytes) (λ f gs e. next_is_beyond bytes more fs gs f a
        (subst (λ (hs : List Frame). AreAll role limits (bytes ++ more) hs) (ap (λ (hs : List Frame). fs ++ hs) e) b));
  }
  frames_go_on Frames bytes more fs extra shown longer a b p q before =
      let m = heads_go_on role limits bytes more fs p.0 p.1 extra q.0 q.1 (λ f gs e. next_is_beyond bytes more fs gs f a
      (subst (λ (hs : List Frame). AreAll role limits (bytes ++ more) hs) (ap (λ (hs : List Frame). fs ++ hs) e) b)) in
      record {
        extra = map shown_head m.extra;
        all = q.2 ∙ ap (map shown_head) m.all ∙ map-append shown_head p.0 m.extra ∙ ap (λ (ss : List Shown). ss ++ map shown_head m.extra) (sym p.2);
        within = items_within Frames bytes fs shown before p;
        past = all_mapped (λ n. length bytes < n) m.extra m.past;
      }

  module _ (detail : Detail) where
    -- Nothing is shown of the verdict, since the bytes aren't refused: the longer stream continues the frames.
    unrefused_goes_on : (bytes more : List ℕ) (shown longer : List Shown) (p : IsShownStream detail role limits bytes shown) (q : IsShownStream detail role limits (bytes ++ more) longer) → p.of_verdict ≡ []
        → ((offset : ℕ) (reason : Reason) → IsRefused role limits bytes q.frames offset reason → ⊥) → ShowsMore bytes shown longer
    unrefused_goes_on bytes more shown longer p q none unrefused =
        let a = all_of_verdict role limits bytes p.frames p.verdict p.is_verdict in
        let b = all_of_verdict role limits (bytes ++ more) q.frames q.verdict q.is_verdict in
        let on = all_go_on role limits (bytes ++ more) p.frames q.frames (a.rest ++ more) a.lawful (ap (λ (bs : List ℕ). bs ++ more) a.whole ∙ append_assoc (stream p.frames) a.rest more) b in
        let mine : shown ≡ p.of_frames = p.all ∙ ap (λ (ss : List Shown). p.of_frames ++ ss) none ∙ append-nil p.of_frames in
        let before = frames_within bytes p.frames p.verdict p.is_verdict in
        let f =
        frames_go_on detail bytes more p.frames on.0 p.of_frames q.of_frames a (subst (λ (fs : List Frame). AreAll role limits (bytes ++ more) fs) on.1 b) p.are_of_frames
        (subst (λ (fs : List Frame). AreShownFrames detail role limits (bytes ++ more) fs q.of_frames) on.1 q.are_of_frames) before in
        record {
          extra = f.extra ++ q.of_verdict;
          all =
              q.all ∙ ap (λ (ss : List Shown). ss ++ q.of_verdict) f.all ∙ append_assoc p.of_frames f.extra q.of_verdict
              ∙ ap (λ (ss : List Shown). ss ++ (f.extra ++ q.of_verdict)) (sym mine);
          within = subst (λ (ss : List Shown). AllByRecursion (λ (s : Shown). s.after ≤ length bytes) ss) (sym mine) f.within;
          past = all_append (λ (s : Shown). length bytes < s.after) f.extra q.of_verdict f.past (of_verdict_beyond q.verdict q.is_verdict q.is_of_verdict);
        }
      where
        of_verdict_beyond : (w : Verdict) → IsVerdict role limits (bytes ++ more) q.frames w → IsShownVerdict detail role limits (bytes ++ more) q.frames w q.of_verdict → AllByRecursion (λ (s : Shown). length bytes < s.after) q.of_verdict
        of_verdict_beyond (Accepted s) is e = subst (λ (ss : List Shown). AllByRecursion (λ (s : Shown). length bytes < s.after) ss) (sym e) tt
        of_verdict_beyond (Cut s) is e = subst (λ (ss : List Shown). AllByRecursion (λ (s : Shown). length bytes < s.after) ss) (sym e) tt
        of_verdict_beyond (Refused r) is e =
            elim (cases_lt (length bytes) (r.offset + 1)) [
              | inl past ↦ subst (λ (ss : List Shown). AllByRecursion (λ (s : Shown). length bytes < s.after) ss) (sym e.is) (all_after (λ n. length bytes < n) (r.offset + 1) _ past)
              | inr inside ↦ absurd (unrefused r.offset r.reason (refused_alike role limits q.frames (bytes ++ more) bytes r.offset r.reason (sym (take-append-le (r.offset + 1) bytes more inside)) is))
            ]

    -- A refusal is all that is shown, whatever follows.
    refused_goes_on : (bytes more : List ℕ) (shown longer : List Shown) (fs : List Frame) (r : Refusal) → IsRefused role limits bytes fs r.offset r.reason → (p : IsShownStream detail role limits bytes shown) → IsShownStream detail role limits (bytes ++ more) longer → ShowsMore bytes shown longer
    refused_goes_on bytes more shown longer fs r refused p q =
        let offset = place_within role limits fs bytes r.offset r.reason refused.is_evident in
        let same = one_verdict role limits bytes p.frames fs p.verdict (Refused r) p.is_verdict refused in
        let moved : IsShownRefusal detail role limits bytes fs r p.of_verdict =
        subst (λ (v : Verdict). IsShownVerdict detail role limits bytes fs v p.of_verdict) same.1 (subst (λ (gs : List Frame). IsShownVerdict detail role limits bytes gs p.verdict p.of_verdict) same.0 p.is_of_verdict) in
        let of_frames = subst (λ (gs : List Frame). AreShownFrames detail role limits bytes gs p.of_frames) same.0 p.are_of_frames in
        let front = take-append-le (r.offset + 1) bytes more offset in
        let as_longer : IsShownStream detail role limits (bytes ++ more) shown = record {
          frames = fs;
          verdict = Refused r;
          is_verdict = stays_refused role limits fs bytes more r.offset r.reason refused;
          of_frames = p.of_frames;
          are_of_frames = frames_stay detail bytes more fs r p.of_frames refused of_frames;
          of_verdict = p.of_verdict;
          is_of_verdict = record {
            evidence = moved.evidence;
            character = moved.character;
            is_evidence = subst (λ (bs : List ℕ). IsShownEvidence role limits fs r.reason (drop (length (stream fs)) bs) moved.evidence moved.character) (sym front) moved.is_evidence;
            is = moved.is;
          };
          all = p.all;
        } in
        let one = one_shown role limits detail (bytes ++ more) longer shown q as_longer in
        let before = frames_within bytes fs (Refused r) refused in
        record {
          extra = [];
          all = one ∙ sym (append-nil shown);
          within =
              subst (λ (ss : List Shown). AllByRecursion (λ (s : Shown). s.after ≤ length bytes) ss) (sym p.all)
              (all_append (λ (s : Shown). s.after ≤ length bytes) p.of_frames p.of_verdict
              (items_within detail bytes fs p.of_frames before of_frames)
              (subst (λ (ss : List Shown). AllByRecursion (λ (s : Shown). s.after ≤ length bytes) ss) (sym moved.is) (all_after (λ n. n ≤ length bytes) (r.offset + 1) _ offset)));
          past = tt;
        }

    goes_on_by : (bytes more : List ℕ) (shown longer : List Shown) (p : IsShownStream detail role limits bytes shown) (q : IsShownStream detail role limits (bytes ++ more) longer) (v : Verdict) → p.verdict ≡ v → ShowsMore bytes shown longer
    goes_on_by bytes more shown longer p q (Refused r) e =
        refused_goes_on bytes more shown longer p.frames r (subst (λ (v : Verdict). IsVerdict role limits bytes p.frames v) e p.is_verdict) p q
    goes_on_by bytes more shown longer p q (Accepted s) e =
        unrefused_goes_on bytes more shown longer p q (subst (λ (v : Verdict). IsShownVerdict detail role limits bytes p.frames v p.of_verdict) e p.is_of_verdict)
        (λ offset reason refused.
        let same = one_verdict role limits bytes p.frames q.frames p.verdict (Refused (record { offset = offset; reason = reason })) p.is_verdict refused in
        accepted_no_refusal s offset reason (sym e ∙ same.1))
      where
        accepted_no_refusal : (s : Summary) (offset : ℕ) (reason : Reason) → Accepted s ≡ Refused (record { offset = offset; reason = reason }) → ⊥
        accepted_no_refusal s offset reason e = cc
    goes_on_by bytes more shown longer p q (Cut s) e =
        unrefused_goes_on bytes more shown longer p q (subst (λ (v : Verdict). IsShownVerdict detail role limits bytes p.frames v p.of_verdict) e p.is_of_verdict)
        (λ offset reason refused.
        let same = one_verdict role limits bytes p.frames q.frames p.verdict (Refused (record { offset = offset; reason = reason })) p.is_verdict refused in
        cut_no_refusal s offset reason (sym e ∙ same.1))
      where
        cut_no_refusal : (s : Summary) (offset : ℕ) (reason : Reason) → Cut s ≡ Refused (record { offset = offset; reason = reason }) → ⊥
        cut_no_refusal s offset reason e = cc

    pub shown_goes_on : (bytes more : List ℕ) (shown longer : List Shown) → IsShownStream detail role limits bytes shown → IsShownStream detail role limits (bytes ++ more) longer →
        (extra : List Shown) × (longer ≡ shown ++ extra) × AllByRecursion (λ (s : Shown). s.after ≤ length bytes) shown × AllByRecursion (λ (s : Shown). length bytes < s.after) extra
        × (beyond (length bytes) longer ≡ map (λ (s : Shown). s.item) extra)
    shown_goes_on bytes more shown longer p q =
        let m = goes_on_by bytes more shown longer p q p.verdict refl in
        let tests = λ (s : Shown). nat_lt (length bytes) s.after in
        let left : filter tests longer ≡ m.extra =
        ap (filter tests) m.all ∙ filter-append tests shown m.extra ∙ ap (λ (ss : List Shown). ss ++ filter tests m.extra) (filter_none (length bytes) shown m.within) ∙ filter_all (length bytes) m.extra m.past in
        (m.extra, m.all, m.within, m.past, ap (map (λ (s : Shown). s.item)) left)
