-- Where the open message begins, as frames come.
use Rattle.std.proofs.Common.{◌≡◌, ◌≢◌, ℕ, ◌+◌, ◌⊎◌, Bool, true, false, not, ◌&&◌, true≢false, List, [], ◌∷◌, ◌++◌, length, filter, inl, inr, refl, sym, ap, ◌∙◌, subst, append-nil, arith, length-append, if◌then◌else◌}
use Rattle.std.specs.List.{fold}
use Rattle.std.proofs.lemmas.List.Sums.{fold_push}
use Rattle.wsn_wire.specs.Frame.{Frame, frame_bytes, stream}
use Rattle.wsn_rules.specs.Group.{is_data, with_frame, unfinished}
use Rattle.wsn_rules.specs.ShownStream.{since_with, since_open, open_offset}
use Rattle.wsn_rules.proofs.Walk.{stream_push}

-- ---- a message is open by both counts, or by none

is_some : List Frame → Bool
is_some [] = false
is_some (f ∷ fs) = true

some_push : (fs : List Frame) (f : Frame) → is_some (fs ++ f ∷ []) ≡ true
unfolding is_some
some_push [] f = refl
some_push (g ∷ fs) f = refl

some_with : (group : List Frame) (f : Frame) → is_some (with_frame group f) ≡ (if is_data f then not f.fin else is_some group)
unfolding is_some
some_with group f = by (is_data f) f.fin
  where
    by : (data_frame final : Bool) → is_some (if data_frame then (if final then [] else group ++ f ∷ []) else group) ≡ (if data_frame then not final else is_some group)
    by true true = refl
    by true false = some_push group f
    by false final = refl

some_since_with : (since : List Frame) (f : Frame) → is_some (since_with since f) ≡ (if is_data f then not f.fin else is_some since)
unfolding is_some
some_since_with [] f = by (is_data f) f.fin
  where
    by : (data_frame final : Bool) → is_some (if data_frame && not final then f ∷ [] else []) ≡ (if data_frame then not final else false)
    by true true = refl
    by true false = refl
    by false final = refl
some_since_with (g ∷ since) f = by (is_data f) f.fin
  where
    by : (data_frame final : Bool) → is_some (if data_frame && final then [] else g ∷ (since ++ f ∷ [])) ≡ (if data_frame then not final else true)
    by true true = refl
    by true false = refl
    by false final = refl

some_in_both : (fs group since : List Frame) → is_some group ≡ is_some since → is_some (fold with_frame group fs) ≡ is_some (fold since_with since fs)
some_in_both [] group since same = same
some_in_both (f ∷ fs) group since same =
    some_in_both fs (with_frame group f) (since_with since f)
    (some_with group f ∙ ap (λ (b : Bool). if is_data f then not f.fin else b) same ∙ sym (some_since_with since f))

none_by_test : (fs : List Frame) → is_some fs ≡ false → fs ≡ []
unfolding is_some
none_by_test [] test = refl
none_by_test (f ∷ fs) test = absurd (true≢false test)

some_since : (fs : List Frame) → unfinished fs ≢ [] → since_open fs ≢ []
unfolding is_some
some_since fs some none = some (none_by_test (unfinished fs) (some_in_both fs [] [] refl ∙ ap is_some none))

none_since : (fs : List Frame) → unfinished fs ≡ [] → since_open fs ≡ []
unfolding is_some
none_since fs none = none_by_test (since_open fs) (sym (some_in_both fs [] [] refl) ∙ ap is_some none)

-- ---- one more frame

-- A control frame while a message is open, or a fragment.
joins_control : (since : List Frame) (f : Frame) → is_data f ≡ false → since ≢ [] → since_with since f ≡ since ++ f ∷ []
joins_control [] f control some = absurd (some refl)
joins_control (g ∷ since) f control some = ap (λ (b : Bool). if b && f.fin then [] else g ∷ (since ++ f ∷ [])) control

joins_fragment : (since : List Frame) (f : Frame) → is_data f ≡ true → f.fin ≡ false → since_with since f ≡ since ++ f ∷ []
joins_fragment [] f data_frame more = (λ i. if data_frame i && not (more i) then f ∷ [] else [])
joins_fragment (g ∷ since) f data_frame more = (λ i. if data_frame i && more i then [] else g ∷ (since ++ f ∷ []))

-- ---- the offset of the open message

pub offset_of_none : (fs : List Frame) → unfinished fs ≡ [] → open_offset fs ≡ length (stream fs)
offset_of_none fs none = let nothing : length (stream (since_open fs)) ≡ 0 = ap (λ (gs : List Frame). length (stream gs)) (none_since fs none) in omega (arith, nothing)

same_offset : (fs : List Frame) (f : Frame) → since_open (fs ++ f ∷ []) ≡ since_open fs ++ f ∷ [] → open_offset (fs ++ f ∷ []) ≡ open_offset fs
same_offset fs f is =
    let all : length (stream (fs ++ f ∷ [])) ≡ length (stream fs) + length (frame_bytes f) = ap (λ (bs : List ℕ). length bs) (stream_push fs f) ∙ length-append (stream fs) (frame_bytes f) in
    let part : length (stream (since_open (fs ++ f ∷ []))) ≡ length (stream (since_open fs)) + length (frame_bytes f) =
    ap (λ (gs : List Frame). length (stream gs)) is ∙ ap (λ (bs : List ℕ). length bs) (stream_push (since_open fs) f) ∙ length-append (stream (since_open fs)) (frame_bytes f) in
    omega (arith, all, part)

pub offset_after_control : (fs : List Frame) (f : Frame) → is_data f ≡ false → unfinished fs ≢ [] → open_offset (fs ++ f ∷ []) ≡ open_offset fs
offset_after_control fs f control some = same_offset fs f (fold_push since_with [] fs f ∙ joins_control (since_open fs) f control (some_since fs some))

pub offset_after_fragment : (fs : List Frame) (f : Frame) → is_data f ≡ true → f.fin ≡ false → open_offset (fs ++ f ∷ []) ≡ open_offset fs
offset_after_fragment fs f data_frame more = same_offset fs f (fold_push since_with [] fs f ∙ joins_fragment (since_open fs) f data_frame more)

-- no frame is open exactly if their number is 0
pub none_open : (fs : List Frame) (n : ℕ) → n ≡ length (unfinished fs) → n ≡ 0 → unfinished fs ≡ []
none_open fs n is zero_is = by (unfinished fs) (sym is ∙ zero_is)
  where
    by : (gs : List Frame) → length gs ≡ 0 → gs ≡ []
    by [] e = refl
    by (g ∷ gs) e = absurd (omega (arith, e))
