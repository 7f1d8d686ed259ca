-- What is shown of streams that are alike is alike.
use Rattle.std.proofs.Common.{◌≡◌, ℕ, suc, ◌+◌, ◌-◌, ◌<◌, Bool, true, false, Option, None, Some, List, [], ◌∷◌, ◌++◌, length, take, drop, if◌then◌else◌, inl, inr, refl, sym, ap, ◌∙◌, subst, append_assoc, take-append-drop, length-append, length-drop, arith}
use Rattle.std.specs.Prelude.{map, nat_lt, not, ◌&&◌}
use Rattle.std.specs.List.{fold}
use Rattle.wsn_wire.specs.declared.endpoint.Role.{Role}
use Rattle.wsn_wire.specs.Frame.{Frame, is_control, frame_bytes, stream, wire_payload}
use Rattle.wsn_wire.proofs.FrameLemmas.{length-wire_payload}
use Rattle.wsn_rules.specs.declared.detail.Detail.{Detail}
use Rattle.wsn_rules.specs.declared.detail.Detail.TheVariants.{Events, Frames}
use Rattle.wsn_rules.specs.declared.head_info.HeadInfo.{HeadInfo}
use Rattle.wsn_rules.specs.declared.verdict.Verdict.{Verdict}
use Rattle.wsn_rules.specs.declared.verdict.Verdict.TheVariants.{Accepted, Cut, Refused}
use Rattle.wsn_rules.specs.Limits.{Limits}
use Rattle.wsn_rules.specs.AfterClose.{HasNoClose, EndsWithClose}
use Rattle.wsn_rules.specs.Group.{is_data, unfinished, kind_at, kind_of, payload_of}
use Rattle.wsn_rules.specs.Heads.{info_of, heads_from, heads_of, BeginsWithHead, IsBegun, AreHeads}
use Rattle.wsn_rules.specs.Meaning.{event_at}
use Rattle.wsn_rules.specs.Meaning.MeantEvent.{Message, Control}
use Rattle.wsn_rules.specs.Recut.{step_of, plan_of}
use Rattle.wsn_rules.specs.Summary.{is_close}
use Rattle.wsn_rules.specs.declared.step.Step.TheVariants as Step
use Rattle.wsn_rules.specs.BadCharacter.{BadCharacter, character_of}
use Rattle.wsn_rules.specs.Evidence.{Evidence, EvidentByPayload, IsOfText}
use Rattle.wsn_rules.specs.ShownStream.{Item, Shown, items_of_bytes, frame_so_far, items_of_part, items_of_head, IsLeftOfRest, IsLeftOf, IsLeftOver, shown_after, since_with, since_open, open_offset, open_item, open_items, event_offset, event_frames, items_of_final, shown_at, shown_of, shown_head, AreShownFrames, interrupted, IsShownEvidence, IsShownVerdict, IsShownStream}
use Rattle.wsn_rules.specs.ShownStream.Item.{Event, Unfinished, UnfinishedHead, RefusedFrame, Unread, Tail}
use Rattle.wsn_rules.specs.Verdict.{IsVerdict, IsRefused, judged_bytes}
use Rattle.wsn_rules.proofs.HeadsGoOn.{begins_longer}
use Rattle.wsn_rules.proofs.OneHead.{one_begun, one_following}
use Rattle.wsn_frame.proofs.HeadsAtOnce.{no_items}
use Rattle.std.proofs.lemmas.Bool.{cases_lt, cond-true, lt-ltb}
use Rattle.std.proofs.lemmas.List.{take_at, drop_at, take-append-le}
use Rattle.wsn_wire.specs.declared.refusal.Reason.{Reason}
use Rattle.wsn_wire.specs.declared.refusal.Reason.TheVariants.{TextBad}
use Rattle.wsn_wire.specs.Frame.{first_byte}
use Rattle.wsn_wire.proofs.FrameLemmas.{first_byte_fields}
use Rattle.wsn_redact.specs.Redaction.{is_of_text}
use Rattle.wsn_rules.proofs.OneVerdict.{one_verdict}
use Rattle.wsn_rules.proofs.Prefixes.{append_cancel}
use Rattle.wsn_redact.specs.Redaction.{with_payload}
use Rattle.wsn_laws.specs.AlikeStreams.{AreAlikeBegun, AreAlikeRests, AreAlikeStreams}
use Rattle.wsn_laws.specs.AlikeItems.{AreAlikeItems, AreAlikeBadCharacters, AreAlikeInTurn, AreShownAlike}
use Rattle.wsn_laws.proofs.AlikeSizes.{frame_size}
use Rattle.wsn_laws.proofs.AlikeBadCharacters.{texts_of, characters_alike}
use Rattle.wsn_redact.proofs.RefusedEvidence.{in_payload, of_text_is}
use Rattle.wsn_redact.proofs.RedactedSteps.{may_begun}
use Rattle.wsn_laws.proofs.AlikeRedactions.{AreLikewise, likewise_push, open_likewise, same_first, same_earlier, payload_size, frames_likewise}

-- ---- frames that differ in nothing but their payloads

pub stream_size : (fs gs : List Frame) → AreLikewise fs gs → length (stream fs) ≡ length (stream gs)
stream_size [] [] are = refl
stream_size (f ∷ fs) (g ∷ gs) are =
    let first = frame_size f g are.0 are.1 in
    let rest = stream_size fs gs are.2 in
    omega (arith, first, rest, length-append (frame_bytes f) (stream fs), length-append (frame_bytes g) (stream gs))
stream_size _ _ are = absurd are

pub count_size : (fs gs : List Frame) → AreLikewise fs gs → length fs ≡ length gs
count_size [] [] are = refl
count_size (f ∷ fs) (g ∷ gs) are = ap suc (count_size fs gs are.2)
count_size _ _ are = absurd are

since_with_likewise : (since others : List Frame) (f g : Frame) → AreLikewise since others → g ≡ with_payload f g.payload → length f.payload ≡ length g.payload → AreLikewise (since_with since f) (since_with others g)
since_with_likewise [] [] f g are is size =
    subst (λ (h : Frame). AreLikewise (since_with [] f) (if is_data h && not h.fin then g ∷ [] else [])) (sym is) (by (is_data f) f.fin)
  where
    by : (data_frame final : Bool) → AreLikewise (if data_frame && not final then f ∷ [] else []) (if data_frame && not final then g ∷ [] else [])
    by true true = tt
    by true false = (is, size, tt)
    by false final = tt
since_with_likewise (x ∷ since) (y ∷ others) f g are is size =
    subst (λ (h : Frame). AreLikewise (since_with (x ∷ since) f) (if is_data h && h.fin then [] else y ∷ (others ++ g ∷ []))) (sym is) (by (is_data f && f.fin))
  where
    by : (ends : Bool) → AreLikewise (if ends then [] else x ∷ (since ++ f ∷ [])) (if ends then [] else y ∷ (others ++ g ∷ []))
    by true = tt
    by false = likewise_push (x ∷ since) (y ∷ others) f g are is size
since_with_likewise _ _ f g are is size = absurd are

since_likewise : (fs gs since others : List Frame) → AreLikewise fs gs → AreLikewise since others → AreLikewise (fold since_with since fs) (fold since_with others gs)
since_likewise [] [] since others are so_far = so_far
since_likewise (f ∷ fs) (g ∷ gs) since others are so_far =
    since_likewise fs gs (since_with since f) (since_with others g) are.2 (since_with_likewise since others f g so_far are.0 are.1)
since_likewise _ _ since others are so_far = absurd are

pub same_open_offset : (fs gs : List Frame) → AreLikewise fs gs → open_offset fs ≡ open_offset gs
same_open_offset fs gs are = λ i. stream_size fs gs are i - stream_size (since_open fs) (since_open gs) (since_likewise fs gs [] [] are tt) i

same_kind : (group others : List Frame) → AreLikewise group others → kind_of group ≡ kind_of others
same_kind group others are = ap kind_at (sym (same_first group others are))

-- ---- events

pub open_alike : (fs gs group others : List Frame) (lacks : Option ℕ) → AreLikewise fs gs → AreLikewise group others → AreAlikeItems (open_item fs group lacks) (open_item gs others lacks)
open_alike fs gs group others lacks are groups = (same_open_offset fs gs are, (same_kind group others groups, same_earlier group others groups), count_size group others groups, refl)

pub open_in_turn : (fs gs : List Frame) (lacks : Option ℕ) → AreLikewise fs gs → AreAlikeInTurn (open_items fs lacks) (open_items gs lacks)
open_in_turn fs gs lacks are =
    subst (λ (n : ℕ). AreAlikeInTurn (open_items fs lacks) (if nat_lt 0 n then open_item gs (unfinished gs) lacks ∷ [] else [])) (count_size (unfinished fs) (unfinished gs) (open_likewise fs gs are)) (by (nat_lt 0 (length (unfinished fs))))
  where
    by : (c : Bool) → AreAlikeInTurn (if c then open_item fs (unfinished fs) lacks ∷ [] else []) (if c then open_item gs (unfinished gs) lacks ∷ [] else [])
    by true = (open_alike fs gs (unfinished fs) (unfinished gs) lacks are (open_likewise fs gs are), tt)
    by false = tt

pub turn_append : (items others more rest : List Item) → AreAlikeInTurn items others → AreAlikeInTurn more rest → AreAlikeInTurn (items ++ more) (others ++ rest)
turn_append [] [] more rest are also = also
turn_append (i ∷ items) (o ∷ others) more rest are also = (are.0, turn_append items others more rest are.1 also)
turn_append _ _ more rest are also = absurd are

pub shown_append : (shown others more rest : List Shown) → AreShownAlike shown others → AreShownAlike more rest → AreShownAlike (shown ++ more) (others ++ rest)
shown_append [] [] more rest are also = also
shown_append (s ∷ shown) (o ∷ others) more rest are also = (are.0, are.1, shown_append shown others more rest are.2 also)
shown_append _ _ more rest are also = absurd are

shown_with : (n m : ℕ) (items others : List Item) → n ≡ m → AreAlikeInTurn items others → AreShownAlike (shown_after n items) (shown_after m others)
shown_with n m [] [] same are = tt
shown_with n m (i ∷ items) (o ∷ others) same are = (same, are.0, shown_with n m items others same are.1)
shown_with n m _ _ same are = absurd are

module _ (before others : List Frame) (are : AreLikewise before others) (f : Frame) (payload : List ℕ) (size : length f.payload ≡ length payload) where
  abbrev g : Frame
  g = with_payload f payload

  pushed : AreLikewise (unfinished before ++ f ∷ []) (unfinished others ++ with_payload f payload ∷ [])
  pushed = likewise_push (unfinished before) (unfinished others) f g (open_likewise before others are) refl size

  event_alike : AreAlikeItems (Event (event_offset before f) (event_at before f) (event_frames before f)) (Event (event_offset others (with_payload f payload)) (event_at others (with_payload f payload)) (event_frames others (with_payload f payload)))
  event_alike = by (is_control f.op)
    where
      by : (c : Bool) → AreAlikeItems
          (Event (if c then length (stream before) else open_offset before) (if c then Control f.op f.payload else Message (kind_of (unfinished before ++ f ∷ [])) (payload_of (unfinished before ++ f ∷ []))) (if c then 1 else length (unfinished before ++ f ∷ [])))
          (Event (if c then length (stream others) else open_offset others) (if c then Control f.op payload else Message (kind_of (unfinished others ++ with_payload f payload ∷ [])) (payload_of (unfinished others ++ with_payload f payload ∷ []))) (if c then 1 else length (unfinished others ++ with_payload f payload ∷ [])))
      by true = (stream_size before others are, (refl, size), refl)
      by false = (same_open_offset before others are, (same_kind (unfinished before ++ f ∷ []) (unfinished others ++ g ∷ []) pushed, same_earlier (unfinished before ++ f ∷ []) (unfinished others ++ g ∷ []) pushed), count_size (unfinished before ++ f ∷ []) (unfinished others ++ g ∷ []) pushed)

  final_alike : AreAlikeInTurn (items_of_final before f) (items_of_final others (with_payload f payload))
  final_alike = turn_append (if is_close f.op then open_items before (Some 0) else []) (if is_close f.op then open_items others (Some 0) else []) _ _ (by (is_close f.op)) (event_alike, tt)
    where
      by : (c : Bool) → AreAlikeInTurn (if c then open_items before (Some 0) else []) (if c then open_items others (Some 0) else [])
      by true = open_in_turn before others (Some 0) are
      by false = tt

  frame_alike : AreShownAlike (shown_at before f) (shown_at others (with_payload f payload))
  frame_alike = by f.fin
    where
      by : (c : Bool) → AreShownAlike (if c then shown_after (length (stream (before ++ f ∷ []))) (items_of_final before f) else []) (if c then shown_after (length (stream (others ++ with_payload f payload ∷ []))) (items_of_final others (with_payload f payload)) else [])
      by true = shown_with (length (stream (before ++ f ∷ []))) (length (stream (others ++ g ∷ []))) (items_of_final before f) (items_of_final others g) (stream_size (before ++ f ∷ []) (others ++ g ∷ []) (likewise_push before others f g are refl size)) final_alike
      by false = tt

pub events_alike : (before others fs gs : List Frame) → AreLikewise before others → AreLikewise fs gs → AreShownAlike (shown_of before fs) (shown_of others gs)
events_alike before others [] [] are fits = tt
events_alike before others (f ∷ fs) (g ∷ gs) are fits =
    shown_append (shown_at before f) (shown_at others g) (shown_of (before ++ f ∷ []) fs) (shown_of (others ++ g ∷ []) gs)
    (subst (λ (h : Frame). AreShownAlike (shown_at before f) (shown_at others h)) (sym fits.0) (frame_alike before others are f g.payload fits.1))
    (events_alike (before ++ f ∷ []) (others ++ g ∷ []) fs gs (likewise_push before others f g are fits.0 fits.1) fits.2)
events_alike before others _ _ are fits = absurd fits

-- ---- heads and plans

heads_alike : (offset other_place : ℕ) (fs gs : List Frame) → offset ≡ other_place → AreLikewise fs gs → heads_from offset fs ≡ heads_from other_place gs
heads_alike offset other_place [] [] same are = refl
heads_alike offset other_place (f ∷ fs) (g ∷ gs) same are =
    let size = are.1 in
    let sizes = frame_size f g are.0 are.1 in
    let head : info_of offset f ≡ info_of other_place g = (λ i. record { offset = same i; fin = f.fin; op = f.op; key = f.key; form = f.form; len = size i }) ∙ ap (λ (h : Frame). record { offset = other_place; fin = h.fin; op = h.op; key = h.key; form = h.form; len = length g.payload }) (sym are.0) in
    let rest = heads_alike (offset + length (frame_bytes f)) (other_place + length (frame_bytes g)) fs gs (λ i. same i + sizes i) are.2 in
    λ i. head i ∷ rest i
heads_alike offset other_place _ _ same are = absurd are

pub same_heads : (fs gs : List Frame) → AreLikewise fs gs → heads_of fs ≡ heads_of gs
same_heads fs gs are = heads_alike 0 0 fs gs refl are

step_alike : (f g : Frame) → g ≡ with_payload f g.payload → length f.payload ≡ length g.payload → step_of f ≡ step_of g
step_alike f g is size = ap (λ (n : ℕ). if is_control f.op then Step.Control f.key else (if f.fin then Step.Last f.key f.form else Step.Piece n f.key f.form)) size ∙ ap (λ (h : Frame). step_of h) (sym is)

pub same_plan : (fs gs : List Frame) → AreLikewise fs gs → plan_of fs ≡ plan_of gs
same_plan [] [] are = refl
same_plan (f ∷ fs) (g ∷ gs) are =
    let first = step_alike f g are.0 are.1 in
    let rest = same_plan fs gs are.2 in
    λ i. first i ∷ rest i
same_plan _ _ are = absurd are

heads_shown_alike : (heads : List HeadInfo) → AreShownAlike (map shown_head heads) (map shown_head heads)
heads_shown_alike [] = tt
heads_shown_alike (h ∷ heads) = (refl, refl, heads_shown_alike heads)

bytes_in_turn : (item : ℕ → List ℕ → Item) → ((offset : ℕ) (xs ys : List ℕ) → length xs ≡ length ys → AreAlikeItems (item offset xs) (item offset ys)) → (n m : ℕ) (xs ys : List ℕ) → n ≡ m → length xs ≡ length ys → AreAlikeInTurn (items_of_bytes item n xs) (items_of_bytes item m ys)
bytes_in_turn item alike n m [] [] same size = tt
bytes_in_turn item alike n m [] (y ∷ ys) same size = absurd (omega (arith, size))
bytes_in_turn item alike n m (x ∷ xs) [] same size = absurd (omega (arith, size))
bytes_in_turn item alike n m (x ∷ xs) (y ∷ ys) same size = (subst (λ (k : ℕ). AreAlikeItems (item n (x ∷ xs)) (item k (y ∷ ys))) same (alike n (x ∷ xs) (y ∷ ys) size), tt)

-- ---- what follows the frames

module _ (role : Role) (limits : Limits) where
  closed_or_not : (fs : List Frame) → EndsWithClose fs → HasNoClose fs → ⊥
  closed_or_not fs closed none = none closed.0 [] closed.1 closed.3 closed.2

  begun_closed : (fs : List Frame) (rest : List ℕ) (begun : List HeadInfo) → EndsWithClose fs → IsBegun role limits fs rest begun → begun ≡ []
  begun_closed fs rest begun ends (inl closed) = closed.0
  begun_closed fs rest begun ends (inr (inl none)) = none.0
  begun_closed fs rest begun ends (inr (inr some)) = absurd (closed_or_not fs ends some.0)

  begun_none : (fs : List Frame) (rest : List ℕ) (begun : List HeadInfo) → ((info : HeadInfo) → BeginsWithHead role limits fs rest info → ⊥) → IsBegun role limits fs rest begun → begun ≡ []
  begun_none fs rest begun no_head (inl closed) = closed.0
  begun_none fs rest begun no_head (inr (inl none)) = none.0
  begun_none fs rest begun no_head (inr (inr some)) = absurd (no_head some.1.0 some.1.2)

  begun_some : (fs : List Frame) (rest : List ℕ) (begun : List HeadInfo) (info : HeadInfo) → HasNoClose fs → BeginsWithHead role limits fs rest info → IsBegun role limits fs rest begun → begun ≡ info ∷ []
  begun_some fs rest begun info no_close b (inl closed) = absurd (closed_or_not fs closed.1 no_close)
  begun_some fs rest begun info no_close b (inr (inl none)) = absurd (none.2 info b)
  begun_some fs rest begun info no_close b (inr (inr some)) = some.1.1 ∙ ap (λ (i : HeadInfo). i ∷ []) (one_begun role limits fs rest some.1.0 info some.1.2 b)

  same_begun : (fs gs : List Frame) (rest other : List ℕ) (begun other_begun : List HeadInfo) → AreAlikeRests role limits fs gs rest other → IsBegun role limits fs rest begun → IsBegun role limits gs other other_begun → begun ≡ other_begun
  same_begun fs gs rest other begun other_begun (inl (closed, other_closed, size)) r s = begun_closed fs rest begun closed r ∙ sym (begun_closed gs other other_begun other_closed s)
  same_begun fs gs rest other begun other_begun (inr (inl (opened, other_opened, no_head, same))) r s = begun_none fs rest begun no_head.0 r ∙ sym (begun_none gs other other_begun no_head.1 s)
  same_begun fs gs rest other begun other_begun (inr (inr (opened, other_opened, a))) r s = begun_some fs rest begun a.info opened a.begins r ∙ sym (begun_some gs other other_begun a.info other_opened a.other_begins s)

  -- A head at the front of bytes whose first ones are evidence is at the front of these.
  head_in_seen : (fs : List Frame) (seen later : List ℕ) (reason : Reason) (info : HeadInfo) → Evidence role limits (unfinished fs) reason seen → BeginsWithHead role limits fs (seen ++ later) info → BeginsWithHead role limits fs seen info
  head_in_seen fs seen later reason info evidence b =
      let n = length b.head in
      elim (cases_lt n (length seen)) [
        | inl short ↦
            let front : b.head ≡ take n seen = sym (take_at b.head b.following n refl) ∙ ap (λ (bs : List ℕ). take n bs) (sym b.whole) ∙ take-append-le n seen later (omega (arith, short)) in
            record {
              head = b.head;
              following = drop n seen;
              whole = sym (take-append-drop n seen) ∙ ap (λ (bs : List ℕ). bs ++ drop n seen) (sym front);
              offset = b.offset;
              encoded = b.encoded;
              key = b.key;
              form = b.form;
              size = b.size;
              has_no_evidence = b.has_no_evidence;
            }
        | inr long ↦
            let k = length seen in
            let front : take k b.head ≡ seen = sym (take-append-le k b.head b.following long) ∙ ap (λ (bs : List ℕ). take k bs) (sym b.whole) ∙ take_at seen later k refl in
            let split : b.head ≡ seen ++ drop k b.head = sym (take-append-drop k b.head) ∙ ap (λ (bs : List ℕ). bs ++ drop k b.head) front in
            absurd (b.has_no_evidence.none seen (drop k b.head) reason split evidence)
      ]

  seen_begun : (fs : List Frame) (seen later : List ℕ) (reason : Reason) (begun : List HeadInfo) → Evidence role limits (unfinished fs) reason seen → IsBegun role limits fs (seen ++ later) begun → IsBegun role limits fs seen begun
  seen_begun fs seen later reason begun evidence (inl closed) = inl closed
  seen_begun fs seen later reason begun evidence (inr (inl none)) = inr (inl (none.0, none.1, λ info b. none.2 info (begins_longer role limits fs seen later info b)))
  seen_begun fs seen later reason begun evidence (inr (inr some)) = inr (inr (some.0, (some.1.0, some.1.1, head_in_seen fs seen later reason some.1.0 evidence some.1.2)))

  -- The heads that are reported, by the bytes of which the verdict takes account.
  record HasHeads (bytes : List ℕ) (fs : List Frame) (v : Verdict) (heads : List HeadInfo) : Type 0 where
    begun : List HeadInfo
    is_begun : IsBegun role limits fs (drop (length (stream fs)) (judged_bytes v bytes)) begun
    all : heads ≡ heads_of fs ++ begun

  heads_judged : (bytes : List ℕ) (fs : List Frame) (v : Verdict) (heads : List HeadInfo) → IsVerdict role limits bytes fs v → AreHeads role limits bytes fs heads → HasHeads bytes fs v heads
  heads_judged bytes fs v heads is h = by v is
    where
      rest_is : drop (length (stream fs)) bytes ≡ h.rest
      rest_is = ap (λ (bs : List ℕ). drop (length (stream fs)) bs) h.whole ∙ drop_at (stream fs) h.rest (length (stream fs)) refl

      all_of_it : IsBegun role limits fs (drop (length (stream fs)) bytes) h.begun
      all_of_it = subst (λ (bs : List ℕ). IsBegun role limits fs bs h.begun) (sym rest_is) h.is_begun

      by : (w : Verdict) → IsVerdict role limits bytes fs w → HasHeads bytes fs w heads
      by (Accepted s) is_w = record { begun = h.begun; is_begun = all_of_it; all = h.all }
      by (Cut s) is_w = record { begun = h.begun; is_begun = all_of_it; all = h.all }
      by (Refused q) is_w =
          let e = is_w.is_evident in
          let stop = e.at_offset in
          let split : bytes ≡ (stream fs ++ e.seen) ++ e.later = e.whole ∙ sym (append_assoc (stream fs) e.seen e.later) in
          let seen_is : drop (length (stream fs)) (take (q.offset + 1) bytes) ≡ e.seen =
          ap (λ (bs : List ℕ). drop (length (stream fs)) (take (q.offset + 1) bs)) split ∙ ap (λ (bs : List ℕ). drop (length (stream fs)) bs) (take_at (stream fs ++ e.seen) e.later (q.offset + 1) (omega (arith, stop, length-append (stream fs) e.seen))) ∙ drop_at (stream fs) e.seen (length (stream fs)) refl in
          let both : h.rest ≡ e.seen ++ e.later = append_cancel (stream fs) h.rest (e.seen ++ e.later) (sym h.whole ∙ e.whole) in
          record {
            begun = h.begun;
            is_begun = subst (λ (bs : List ℕ). IsBegun role limits fs bs h.begun) (sym seen_is) (seen_begun fs e.seen e.later q.reason h.begun e.evidence (subst (λ (bs : List ℕ). IsBegun role limits fs bs h.begun) both h.is_begun));
            all = h.all;
          }

  -- ---- the evidence of a refusal

  begun_size : (fs gs : List Frame) (rest other : List ℕ) (a : AreAlikeBegun role limits fs gs rest other) → length a.begins.following ≡ length a.other_begins.following
  begun_size fs gs rest other a =
      let size = payload_size (unfinished fs) (unfinished gs) a.info.op (wire_payload a.info.key a.begins.following) (wire_payload a.info.key a.other_begins.following) a.payloads in
      sym (length-wire_payload a.info.key a.begins.following) ∙ size ∙ length-wire_payload a.info.key a.other_begins.following

  begun_rest_size : (fs gs : List Frame) (rest other : List ℕ) → AreAlikeBegun role limits fs gs rest other → length rest ≡ length other
  begun_rest_size fs gs rest other a =
      let size = begun_size fs gs rest other a in
      let head = ap (λ (bs : List ℕ). length bs) (a.begins.encoded ∙ sym a.other_begins.encoded) in
      let mine = ap (λ (bs : List ℕ). length bs) a.begins.whole in
      let its = ap (λ (bs : List ℕ). length bs) a.other_begins.whole in
      omega (arith, size, head, mine, its, length-append a.begins.head a.begins.following, length-append a.other_begins.head a.other_begins.following)

  -- What is shown of evidence that begins with a head.
  shown_size : (fs : List Frame) (reason : Reason) (seen shown : List ℕ) (c : Option BadCharacter) (info : HeadInfo) (b : BeginsWithHead role limits fs seen info) → IsShownEvidence role limits fs reason seen shown c → length shown ≡ (if nat_lt 0 (length b.following) then length b.following else length seen)
  shown_size fs reason seen shown c info b (inl (own, begun, some, is, bad)) =
      let same : begun.following ≡ b.following = one_following role limits fs seen own info begun b in
      let more : 0 < length b.following = elim (cases_lt 0 (length b.following)) [ inl more ↦ more | inr empty ↦ absurd (some (same ∙ no_items b.following (omega (arith, empty)))) ] in
      ap (λ (bs : List ℕ). length bs) is ∙ length-wire_payload own.key begun.following ∙ ap (λ (bs : List ℕ). length bs) same ∙ sym (cond-true (nat_lt 0 (length b.following)) (length b.following) (length seen) (lt-ltb 0 (length b.following) more))
  shown_size fs reason seen shown c info b (inr (none, is, bad)) =
      let empty : length b.following ≡ 0 = ap (λ (bs : List ℕ). length bs) (none info b) in
      ap (λ (bs : List ℕ). length bs) is ∙ sym (ap (λ (n : ℕ). if nat_lt 0 n then length b.following else length seen) empty)

  bare_size : (fs : List Frame) (reason : Reason) (seen shown : List ℕ) (c : Option BadCharacter) → ((info : HeadInfo) → BeginsWithHead role limits fs seen info → ⊥) → IsShownEvidence role limits fs reason seen shown c → shown ≡ seen
  bare_size fs reason seen shown c no_head (inl (own, begun, some, is, bad)) = absurd (no_head own begun)
  bare_size fs reason seen shown c no_head (inr (none, is, bad)) = is

  evidence_size : (fs gs : List Frame) (reason : Reason) (seen other shown other_shown : List ℕ) (c d : Option BadCharacter) → HasNoClose fs → AreAlikeRests role limits fs gs seen other → IsShownEvidence role limits fs reason seen shown c → IsShownEvidence role limits gs reason other other_shown d → length shown ≡ length other_shown
  evidence_size fs gs reason seen other shown other_shown c d no_close (inl (closed, other_closed, size)) r s = absurd (closed_or_not fs closed no_close)
  evidence_size fs gs reason seen other shown other_shown c d no_close (inr (inl (opened, other_opened, no_head, same))) r s =
      ap (λ (bs : List ℕ). length bs) (bare_size fs reason seen shown c no_head.0 r ∙ same ∙ sym (bare_size gs reason other other_shown d no_head.1 s))
  evidence_size fs gs reason seen other shown other_shown c d no_close (inr (inr (opened, other_opened, a))) r s =
      let size = begun_size fs gs seen other a in
      let all = begun_rest_size fs gs seen other a in
      shown_size fs reason seen shown c a.info a.begins r ∙ (λ i. if nat_lt 0 (size i) then size i else all i) ∙ sym (shown_size gs reason other other_shown d a.info a.other_begins s)

  -- ---- the bad character

  -- A refusal for a bad text is for a frame of a text message.
  of_text : (fs : List Frame) (reason : Reason) (seen : List ℕ) (info : HeadInfo) (b : BeginsWithHead role limits fs seen info) → 0 < length b.following → Evidence role limits (unfinished fs) reason seen → reason ≡ TextBad → is_of_text (unfinished fs) info.op ≡ true
  of_text fs reason seen info b some evidence is =
      let row = in_payload role limits fs seen info b some reason evidence in
      let own = subst (λ (r : Reason). EvidentByPayload (unfinished fs) r (first_byte info.fin info.op) info.len (wire_payload info.key b.following)) is row in
      of_text_is (unfinished fs) info.op (may_begun role limits fs seen info b) (subst (IsOfText (unfinished fs)) (first_byte_fields info.fin info.op).opcode_is own.0)

  none_of : (following other : List ℕ) → length following ≡ length other → other ≡ [] → following ≡ []
  none_of following other size none = no_items following (size ∙ ap (λ (bs : List ℕ). length bs) none)

  bad_characters : (fs gs : List Frame) (reason : Reason) (seen other shown other_shown : List ℕ) (c d : Option BadCharacter) → HasNoClose fs → AreLikewise fs gs → Evidence role limits (unfinished fs) reason seen → AreAlikeRests role limits fs gs seen other → IsShownEvidence role limits fs reason seen shown c → IsShownEvidence role limits gs reason other other_shown d → AreAlikeBadCharacters c d
  bad_characters fs gs reason seen other shown other_shown c d no_close are evidence (inl (closed, other_closed, size)) r s = absurd (closed_or_not fs closed no_close)
  bad_characters fs gs reason seen other shown other_shown c d no_close are evidence (inr (inl (opened, other_opened, no_head, same))) (inl (own, begun, some, is, bad)) s = absurd (no_head.0 own begun)
  bad_characters fs gs reason seen other shown other_shown c d no_close are evidence (inr (inl (opened, other_opened, no_head, same))) (inr r) (inl (own, begun, some, is, bad)) = absurd (no_head.1 own begun)
  bad_characters fs gs reason seen other shown other_shown c d no_close are evidence (inr (inl (opened, other_opened, no_head, same))) (inr r) (inr s) =
      subst (λ (x : Option BadCharacter). AreAlikeBadCharacters x d) (sym r.2) (subst (AreAlikeBadCharacters None) (sym s.2) tt)
  bad_characters fs gs reason seen other shown other_shown c d no_close are evidence (inr (inr (opened, other_opened, a))) (inr r) (inr s) =
      subst (λ (x : Option BadCharacter). AreAlikeBadCharacters x d) (sym r.2) (subst (AreAlikeBadCharacters None) (sym s.2) tt)
  bad_characters fs gs reason seen other shown other_shown c d no_close are evidence (inr (inr (opened, other_opened, a))) (inl (own, begun, some, is, bad)) (inr s) =
      let mine : begun.following ≡ a.begins.following = one_following role limits fs seen own a.info begun a.begins in
      absurd (some (mine ∙ none_of a.begins.following a.other_begins.following (begun_size fs gs seen other a) (s.0 a.info a.other_begins)))
  bad_characters fs gs reason seen other shown other_shown c d no_close are evidence (inr (inr (opened, other_opened, a))) (inr r) (inl (own, begun, some, is, bad)) =
      let its : begun.following ≡ a.other_begins.following = one_following role limits gs other own a.info begun a.other_begins in
      absurd (some (its ∙ none_of a.other_begins.following a.begins.following (sym (begun_size fs gs seen other a)) (r.0 a.info a.begins)))
  bad_characters fs gs reason seen other shown other_shown c d no_close are evidence (inr (inr (opened, other_opened, a))) (inl (info, begun, some, is, bad)) (inl (other_info, other_begun, other_some, also, other_bad)) =
      let one : info ≡ a.info = one_begun role limits fs seen info a.info begun a.begins in
      let two : other_info ≡ a.info = one_begun role limits gs other other_info a.info other_begun a.other_begins in
      let mine : begun.following ≡ a.begins.following = one_following role limits fs seen info a.info begun a.begins in
      let its : other_begun.following ≡ a.other_begins.following = one_following role limits gs other other_info a.info other_begun a.other_begins in
      let part = wire_payload a.info.key a.begins.following in
      let other_part = wire_payload a.info.key a.other_begins.following in
      let x : c ≡ character_of reason fs a.info part = bad ∙ (λ i. character_of reason fs (one i) (is i)) ∙ ap (λ (bs : List ℕ). character_of reason fs a.info bs) (λ i. wire_payload (one i).key (mine i)) in
      let y : d ≡ character_of reason gs a.info other_part = other_bad ∙ (λ i. character_of reason gs (two i) (also i)) ∙ ap (λ (bs : List ℕ). character_of reason gs a.info bs) (λ i. wire_payload (two i).key (its i)) in
      let size = payload_size (unfinished fs) (unfinished gs) a.info.op part other_part a.payloads in
      let more : 0 < length a.begins.following = elim (cases_lt 0 (length a.begins.following)) [ inl more ↦ more | inr empty ↦ absurd (some (mine ∙ no_items a.begins.following (omega (arith, empty)))) ] in
      let it = characters_alike reason fs gs a.info part other_part are size (λ textbad. texts_of (unfinished fs) (unfinished gs) a.info.op part other_part (of_text fs reason seen a.info a.begins more evidence textbad) a.payloads) in
      subst (λ (z : Option BadCharacter). AreAlikeBadCharacters z d) (sym x) (subst (AreAlikeBadCharacters (character_of reason fs a.info part)) (sym y) it)

  -- The bytes up to the offending one, after the frames.
  seen_evidence : (bytes : List ℕ) (fs : List Frame) (offset : ℕ) (reason : Reason) → IsRefused role limits bytes fs offset reason → Evidence role limits (unfinished fs) reason (drop (length (stream fs)) (take (offset + 1) bytes))
  seen_evidence bytes fs offset reason is =
      let e = is.is_evident in
      let stop = e.at_offset in
      let split : bytes ≡ (stream fs ++ e.seen) ++ e.later = e.whole ∙ sym (append_assoc (stream fs) e.seen e.later) in
      let seen_is : drop (length (stream fs)) (take (offset + 1) bytes) ≡ e.seen =
      ap (λ (bs : List ℕ). drop (length (stream fs)) (take (offset + 1) bs)) split ∙ ap (λ (bs : List ℕ). drop (length (stream fs)) bs) (take_at (stream fs ++ e.seen) e.later (offset + 1) (omega (arith, stop, length-append (stream fs) e.seen))) ∙ drop_at (stream fs) e.seen (length (stream fs)) refl in
      subst (Evidence role limits (unfinished fs) reason) (sym seen_is) e.evidence

  -- ---- a stream

  pub alike_heads : (bytes other : List ℕ) (fs gs : List Frame) (v w : Verdict) (heads other_heads : List HeadInfo) → AreAlikeStreams role limits bytes other → IsVerdict role limits bytes fs v → IsVerdict role limits other gs w → AreHeads role limits bytes fs heads → AreHeads role limits other gs other_heads → heads ≡ other_heads
  alike_heads bytes other fs gs v w heads other_heads a is also h k =
      let mine = one_verdict role limits bytes fs a.frames v a.verdict is a.is_verdict in
      let its = one_verdict role limits other gs a.other_frames w a.verdict also a.other_verdict in
      let x = heads_judged bytes a.frames a.verdict heads a.is_verdict (subst (λ (hs : List Frame). AreHeads role limits bytes hs heads) mine.0 h) in
      let y = heads_judged other a.other_frames a.verdict other_heads a.other_verdict (subst (λ (hs : List Frame). AreHeads role limits other hs other_heads) its.0 k) in
      let are = frames_likewise [] [] a.frames a.other_frames tt a.frames_alike in
      let begun = same_begun a.frames a.other_frames (drop (length (stream a.frames)) (judged_bytes a.verdict bytes)) (drop (length (stream a.other_frames)) (judged_bytes a.verdict other)) x.begun y.begun a.rests_alike x.is_begun y.is_begun in
      x.all ∙ (λ i. same_heads a.frames a.other_frames are i ++ begun i) ∙ sym y.all

  pub alike_plan : (bytes other : List ℕ) (fs gs : List Frame) (v w : Verdict) → AreAlikeStreams role limits bytes other → IsVerdict role limits bytes fs v → IsVerdict role limits other gs w → plan_of fs ≡ plan_of gs
  alike_plan bytes other fs gs v w a is also =
      let mine = one_verdict role limits bytes fs a.frames v a.verdict is a.is_verdict in
      let its = one_verdict role limits other gs a.other_frames w a.verdict also a.other_verdict in
      ap plan_of mine.0 ∙ same_plan a.frames a.other_frames (frames_likewise [] [] a.frames a.other_frames tt a.frames_alike) ∙ sym (ap plan_of its.0)

  frames_shown_alike : (detail : Detail) (bytes other : List ℕ) (a : AreAlikeStreams role limits bytes other) (shown others : List Shown) → AreShownFrames detail role limits bytes a.frames shown → AreShownFrames detail role limits other a.other_frames others → AreShownAlike shown others
  frames_shown_alike Events bytes other a shown others r s =
      let it = events_alike [] [] a.frames a.other_frames tt (frames_likewise [] [] a.frames a.other_frames tt a.frames_alike) in
      subst (λ (x : List Shown). AreShownAlike x others) (sym r) (subst (AreShownAlike (shown_of [] a.frames)) (sym s) it)
  frames_shown_alike Frames bytes other a shown others (heads, are, is) (other_heads, also, is_too) =
      let same = alike_heads bytes other a.frames a.other_frames a.verdict a.verdict heads other_heads a a.is_verdict a.other_verdict are also in
      subst (λ (x : List Shown). AreShownAlike x others) (sym is) (subst (AreShownAlike (map shown_head heads)) (ap (λ (hs : List HeadInfo). map shown_head hs) same ∙ sym is_too) (heads_shown_alike heads))

  interrupted_alike : (detail : Detail) (fs gs : List Frame) → AreLikewise fs gs → AreAlikeInTurn (interrupted detail fs) (interrupted detail gs)
  interrupted_alike Events fs gs are = open_in_turn fs gs (Some 0) are
  interrupted_alike Frames fs gs are = tt

  verdicts_shown_alike : (detail : Detail) (bytes other : List ℕ) (fs gs : List Frame) (v : Verdict) (shown others : List Shown) → IsVerdict role limits bytes fs v → AreLikewise fs gs → AreAlikeRests role limits fs gs (drop (length (stream fs)) (judged_bytes v bytes)) (drop (length (stream gs)) (judged_bytes v other))
      → IsShownVerdict detail role limits bytes fs v shown → IsShownVerdict detail role limits other gs v others → AreShownAlike shown others
  verdicts_shown_alike detail bytes other fs gs (Accepted summary) shown others is are rests r s = subst (λ (x : List Shown). AreShownAlike x others) (sym r) (subst (AreShownAlike []) (sym s) tt)
  verdicts_shown_alike detail bytes other fs gs (Cut summary) shown others is are rests r s = subst (λ (x : List Shown). AreShownAlike x others) (sym r) (subst (AreShownAlike []) (sym s) tt)
  verdicts_shown_alike detail bytes other fs gs (Refused q) shown others is are rests r s =
      let size = evidence_size fs gs q.reason (drop (length (stream fs)) (take (q.offset + 1) bytes)) (drop (length (stream gs)) (take (q.offset + 1) other)) r.evidence s.evidence r.character s.character is.no_close rests r.is_evidence s.is_evidence in
      let bad = bad_characters fs gs q.reason (drop (length (stream fs)) (take (q.offset + 1) bytes)) (drop (length (stream gs)) (take (q.offset + 1) other)) r.evidence s.evidence r.character s.character is.no_close are (seen_evidence bytes fs q.offset q.reason is) rests r.is_evidence s.is_evidence in
      let frame : AreAlikeInTurn (RefusedFrame (length (stream fs)) q r.evidence r.character ∷ []) (RefusedFrame (length (stream gs)) q s.evidence s.character ∷ []) = ((stream_size fs gs are, refl, size, bad), tt) in
      let it = shown_with (q.offset + 1) (q.offset + 1) _ _ refl (turn_append (interrupted detail fs) (interrupted detail gs) _ _ (interrupted_alike detail fs gs are) frame) in
      subst (λ (x : List Shown). AreShownAlike x others) (sym r.is) (subst (AreShownAlike (shown_after (q.offset + 1) (interrupted detail fs ++ RefusedFrame (length (stream fs)) q r.evidence r.character ∷ []))) (sym s.is) it)

  pub alike_shown : (detail : Detail) (bytes other : List ℕ) (shown others : List Shown) → AreAlikeStreams role limits bytes other → IsShownStream detail role limits bytes shown → IsShownStream detail role limits other others → AreShownAlike shown others
  alike_shown detail bytes other shown others a r s =
      let mine = one_verdict role limits bytes r.frames a.frames r.verdict a.verdict r.is_verdict a.is_verdict in
      let its = one_verdict role limits other s.frames a.other_frames s.verdict a.verdict s.is_verdict a.other_verdict in
      let x = subst (λ (hs : List Frame). AreShownFrames detail role limits bytes hs r.of_frames) mine.0 r.are_of_frames in
      let y = subst (λ (hs : List Frame). AreShownFrames detail role limits other hs s.of_frames) its.0 s.are_of_frames in
      let frames = frames_shown_alike detail bytes other a r.of_frames s.of_frames x y in
      let p = subst (λ (v : Verdict). IsShownVerdict detail role limits bytes a.frames v r.of_verdict) mine.1 (subst (λ (hs : List Frame). IsShownVerdict detail role limits bytes hs r.verdict r.of_verdict) mine.0 r.is_of_verdict) in
      let q = subst (λ (v : Verdict). IsShownVerdict detail role limits other a.other_frames v s.of_verdict) its.1 (subst (λ (hs : List Frame). IsShownVerdict detail role limits other hs s.verdict s.of_verdict) its.0 s.is_of_verdict) in
      let verdict = verdicts_shown_alike detail bytes other a.frames a.other_frames a.verdict r.of_verdict s.of_verdict a.is_verdict (frames_likewise [] [] a.frames a.other_frames tt a.frames_alike) a.rests_alike p q in
      subst (λ (z : List Shown). AreShownAlike z others) (sym r.all) (subst (AreShownAlike (r.of_frames ++ r.of_verdict)) (sym s.all) (shown_append r.of_frames s.of_frames r.of_verdict s.of_verdict frames verdict))

  -- ---- what is left over

  data_part : (info : HeadInfo) (part other : List ℕ) → length part ≡ length other → frame_so_far info other ≡ with_payload (frame_so_far info part) (frame_so_far info other).payload
  data_part info part other size = refl

  part_in_turn : (fs gs : List Frame) (info : HeadInfo) (part other : List ℕ) → AreLikewise fs gs → length part ≡ length other → AreAlikeInTurn (items_of_part fs info part) (items_of_part gs info other)
  part_in_turn fs gs info part other are size = by (is_control info.op)
    where
      by : (c : Bool) → AreAlikeInTurn
          (if c then open_items fs (Some 0) ++ Unfinished info.offset (Control info.op part) 1 (Some (info.len - length part)) ∷ [] else open_item fs (unfinished fs ++ frame_so_far info part ∷ []) (Some (info.len - length part)) ∷ [])
          (if c then open_items gs (Some 0) ++ Unfinished info.offset (Control info.op other) 1 (Some (info.len - length other)) ∷ [] else open_item gs (unfinished gs ++ frame_so_far info other ∷ []) (Some (info.len - length other)) ∷ [])
      by true = turn_append (open_items fs (Some 0)) (open_items gs (Some 0)) _ _ (open_in_turn fs gs (Some 0) are) ((refl, (refl, size), refl, ap (λ (n : ℕ). Some (info.len - n)) size), tt)
      by false =
          let groups = likewise_push (unfinished fs) (unfinished gs) (frame_so_far info part) (frame_so_far info other) (open_likewise fs gs are) (data_part info part other size) size in
          let group = unfinished fs ++ frame_so_far info part ∷ [] in
          let other_group = unfinished gs ++ frame_so_far info other ∷ [] in
          ((same_open_offset fs gs are, (same_kind group other_group groups, same_earlier group other_group groups), count_size group other_group groups, ap (λ (n : ℕ). Some (info.len - n)) size), tt)

  head_in_turn : (fs gs : List Frame) (rest : List ℕ) → AreLikewise fs gs → AreAlikeInTurn (items_of_head fs rest) (items_of_head gs rest)
  head_in_turn fs gs [] are = open_in_turn fs gs (Some 0) are
  head_in_turn fs gs (b ∷ rest) are =
      subst (λ (n : ℕ). AreAlikeInTurn (items_of_head fs (b ∷ rest)) (if nat_lt 0 n then open_items gs None else UnfinishedHead (length (stream gs)) ∷ [])) (count_size (unfinished fs) (unfinished gs) (open_likewise fs gs are)) (by (nat_lt 0 (length (unfinished fs))))
    where
      by : (c : Bool) → AreAlikeInTurn (if c then open_items fs None else UnfinishedHead (length (stream fs)) ∷ []) (if c then open_items gs None else UnfinishedHead (length (stream gs)) ∷ [])
      by true = open_in_turn fs gs None are
      by false = (stream_size fs gs are, tt)

  rest_in_turn : (fs gs : List Frame) (rest other : List ℕ) (items others : List Item) → HasNoClose fs → AreLikewise fs gs → AreAlikeRests role limits fs gs rest other → IsLeftOfRest role limits fs rest items → IsLeftOfRest role limits gs other others → AreAlikeInTurn items others
  rest_in_turn fs gs rest other items others no_close are (inl closed) r s = absurd (closed_or_not fs closed.0 no_close)
  rest_in_turn fs gs rest other items others no_close are (inr (inl (opened, other_opened, no_head, same))) (inl (info, begun, is)) s = absurd (no_head.0 info begun)
  rest_in_turn fs gs rest other items others no_close are (inr (inl (opened, other_opened, no_head, same))) (inr r) (inl (info, begun, is)) = absurd (no_head.1 info begun)
  rest_in_turn fs gs rest other items others no_close are (inr (inl (opened, other_opened, no_head, same))) (inr r) (inr s) =
      subst (λ (x : List Item). AreAlikeInTurn x others) (sym r.1) (subst (AreAlikeInTurn (items_of_head fs rest)) (ap (λ (bs : List ℕ). items_of_head gs bs) same ∙ sym s.1) (head_in_turn fs gs rest are))
  rest_in_turn fs gs rest other items others no_close are (inr (inr (opened, other_opened, a))) (inr r) s = absurd (r.0 a.info a.begins)
  rest_in_turn fs gs rest other items others no_close are (inr (inr (opened, other_opened, a))) (inl r) (inr s) = absurd (s.0 a.info a.other_begins)
  rest_in_turn fs gs rest other items others no_close are (inr (inr (opened, other_opened, a))) (inl (info, begun, is)) (inl (other_info, other_begun, also)) =
      let one : info ≡ a.info = one_begun role limits fs rest info a.info begun a.begins in
      let two : other_info ≡ a.info = one_begun role limits gs other other_info a.info other_begun a.other_begins in
      let mine : begun.following ≡ a.begins.following = one_following role limits fs rest info a.info begun a.begins in
      let its : other_begun.following ≡ a.other_begins.following = one_following role limits gs other other_info a.info other_begun a.other_begins in
      let size = payload_size (unfinished fs) (unfinished gs) a.info.op (wire_payload a.info.key a.begins.following) (wire_payload a.info.key a.other_begins.following) a.payloads in
      let it = part_in_turn fs gs a.info (wire_payload a.info.key a.begins.following) (wire_payload a.info.key a.other_begins.following) are size in
      let x : items ≡ items_of_part fs a.info (wire_payload a.info.key a.begins.following) = is ∙ (λ i. items_of_part fs (one i) (wire_payload (one i).key (mine i))) in
      let y : others ≡ items_of_part gs a.info (wire_payload a.info.key a.other_begins.following) = also ∙ (λ i. items_of_part gs (two i) (wire_payload (two i).key (its i))) in
      subst (λ (z : List Item). AreAlikeInTurn z others) (sym x) (subst (AreAlikeInTurn (items_of_part fs a.info (wire_payload a.info.key a.begins.following))) (sym y) it)

  left_in_turn : (bytes other : List ℕ) (fs gs : List Frame) (v : Verdict) (items others : List Item) → length bytes ≡ length other → IsVerdict role limits bytes fs v → AreLikewise fs gs → AreAlikeRests role limits fs gs (drop (length (stream fs)) (judged_bytes v bytes)) (drop (length (stream gs)) (judged_bytes v other))
      → IsLeftOf role limits bytes fs v items → IsLeftOf role limits other gs v others → AreAlikeInTurn items others
  left_in_turn bytes other fs gs (Accepted summary) items others size is are rests r s =
      let streams = stream_size fs gs are in
      let it = bytes_in_turn Tail (λ offset xs ys same. (refl, same)) (length (stream fs)) (length (stream gs)) (drop (length (stream fs)) bytes) (drop (length (stream gs)) other) streams (omega (arith, size, streams, length-drop (length (stream fs)) bytes, length-drop (length (stream gs)) other)) in
      subst (λ (x : List Item). AreAlikeInTurn x others) (sym r) (subst (AreAlikeInTurn (items_of_bytes Tail (length (stream fs)) (drop (length (stream fs)) bytes))) (sym s) it)
  left_in_turn bytes other fs gs (Cut summary) items others size is are rests r s = rest_in_turn fs gs (drop (length (stream fs)) bytes) (drop (length (stream gs)) other) items others is.0.no_close are rests r s
  left_in_turn bytes other fs gs (Refused q) items others size is are rests r s =
      let it = bytes_in_turn Unread (λ offset xs ys same. (refl, same)) (q.offset + 1) (q.offset + 1) (drop (q.offset + 1) bytes) (drop (q.offset + 1) other) refl (omega (arith, size, length-drop (q.offset + 1) bytes, length-drop (q.offset + 1) other)) in
      subst (λ (x : List Item). AreAlikeInTurn x others) (sym r) (subst (AreAlikeInTurn (items_of_bytes Unread (q.offset + 1) (drop (q.offset + 1) bytes))) (sym s) it)

  pub alike_left : (bytes other : List ℕ) (items others : List Item) → AreAlikeStreams role limits bytes other → IsLeftOver role limits bytes items → IsLeftOver role limits other others → AreAlikeInTurn items others
  alike_left bytes other items others a r s =
      let mine = one_verdict role limits bytes r.frames a.frames r.verdict a.verdict r.is_verdict a.is_verdict in
      let its = one_verdict role limits other s.frames a.other_frames s.verdict a.verdict s.is_verdict a.other_verdict in
      let p = subst (λ (v : Verdict). IsLeftOf role limits bytes a.frames v items) mine.1 (subst (λ (hs : List Frame). IsLeftOf role limits bytes hs r.verdict items) mine.0 r.is) in
      let q = subst (λ (v : Verdict). IsLeftOf role limits other a.other_frames v others) its.1 (subst (λ (hs : List Frame). IsLeftOf role limits other hs s.verdict others) its.0 s.is) in
      left_in_turn bytes other a.frames a.other_frames a.verdict items others a.same_size a.is_verdict (frames_likewise [] [] a.frames a.other_frames tt a.frames_alike) a.rests_alike p q
