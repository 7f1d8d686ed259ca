-- Lawful lists of frames: with one more frame, their prefixes, and the frames after a prefix.
use Rattle.std.proofs.Common.{◌≡◌, List, [], ◌∷◌, ◌++◌, ◌⊎◌, ◌↔◌, refl, sym, ap, ◌∙◌, subst, inl, inr, append-nil}
use Rattle.wsn_wire.specs.declared.endpoint.Role.{Role}
use Rattle.wsn_wire.specs.declared.opcode.Op.{Op}
use Rattle.wsn_wire.specs.declared.opcode.Op.TheVariants.{Continue, Text, Binary, Close, Ping, Pong}
use Rattle.wsn_wire.specs.Frame.{Frame, stream}
use Rattle.wsn_rules.specs.Limits.{Limits}
use Rattle.wsn_rules.specs.Group.{unfinished}
use Rattle.wsn_rules.specs.Lawful.{LawAt, IsLawful, AreLawfulAfter}
use Rattle.wsn_rules.specs.AfterClose.{HasNoClose, EndsWithClose}
use Rattle.wsn_rules.specs.Accepted.{IsAccepted}
use Rattle.wsn_rules.proofs.Prefixes.{nil-push, nil-cons, split_push, push-append, tail_same, head_same}

unfoldable pub close_or_not : (op : Op) → (op ≡ Close) ⊎ (op ≡ Close → ⊥)
close_or_not Close = inl refl
close_or_not _ = inr (λ e. cc)

pub no_close_nil : HasNoClose []
no_close_nil before after f e c = nil-push before f after e

pub no_close_push : (fs : List Frame) (f : Frame) → HasNoClose fs → (f.op ≡ Close → ⊥) → HasNoClose (fs ++ f ∷ [])
no_close_push fs f none other before after g e c =
    elim (split_push fs f before g after e) [
      | inl p ↦ other (subst (λ (h : Frame). h.op ≡ Close) p.1 c)
      | inr p ↦ none before p.0 g p.1 c
    ]

pub no_close_front : (fs gs : List Frame) → HasNoClose (fs ++ gs) → HasNoClose fs
no_close_front fs gs none before after f e c =
    none before (after ++ gs) f (ap (λ (hs : List Frame). hs ++ gs) e ∙ append_middle before f after gs) c
  where
    append_middle : (before : List Frame) (f : Frame) (after gs : List Frame) → (before ++ f ∷ after) ++ gs ≡ before ++ f ∷ (after ++ gs)
    append_middle [] f after gs = refl
    append_middle (b ∷ before) f after gs = ap (λ (hs : List Frame). b ∷ hs) (append_middle before f after gs)

module _ (role : Role) (limits : Limits) where
  pub lawful_nil : IsLawful role limits []
  lawful_nil = record {
    each = λ before after f e. absurd (nil-push before f after e);
    close_last = λ before after f e c. absurd (nil-push before f after e);
  }

  pub lawful_push : (fs : List Frame) (f : Frame) → IsLawful role limits fs → HasNoClose fs → LawAt role limits fs f → IsLawful role limits (fs ++ f ∷ [])
  lawful_push fs f lawful none here = record {
    each = λ before after g e. elim (split_push fs f before g after e) [
      | inl p ↦ subst (λ (h : Frame). LawAt role limits before h) (sym p.1) (subst (λ (hs : List Frame). LawAt role limits hs f) (sym p.0) here)
      | inr p ↦ lawful.each before p.0 g p.1
    ];
    close_last = λ before after g e c. elim (split_push fs f before g after e) [
      | inl p ↦ p.2
      | inr p ↦ absurd (none before p.0 g p.1 c)
    ];
  }

  pub lawful_front : (fs gs : List Frame) → IsLawful role limits (fs ++ gs) → IsLawful role limits fs
  lawful_front fs gs lawful = record {
    each = λ before after f e. lawful.each before (after ++ gs) f (split_front fs gs before f after e);
    close_last = λ before after f e c. none_after after gs (lawful.close_last before (after ++ gs) f (split_front fs gs before f after e) c);
  }
    where
      split_front : (fs gs before : List Frame) (f : Frame) (after : List Frame) → fs ≡ before ++ f ∷ after → fs ++ gs ≡ before ++ f ∷ (after ++ gs)
      split_front fs gs [] f after e = ap (λ (hs : List Frame). hs ++ gs) e
      split_front [] gs (b ∷ before) f after e = absurd (nil-push (b ∷ before) f after e)
      split_front (g ∷ fs) gs (b ∷ before) f after e =
          let rest = split_front fs gs before f after (tail_same g b fs (before ++ f ∷ after) e) in
          let first = head_same g b fs (before ++ f ∷ after) e in
          cc

      none_after : (xs ys : List Frame) → xs ++ ys ≡ [] → xs ≡ []
      none_after [] ys e = refl
      none_after (x ∷ xs) ys e = absurd (nil-cons x (xs ++ ys) (sym e))

  pub law_at_split : (fs : List Frame) (f : Frame) (gs : List Frame) → IsLawful role limits (fs ++ f ∷ gs) → LawAt role limits fs f
  law_at_split fs f gs lawful = lawful.each fs gs f refl

  -- No frame follows a Close, so no Close comes before a frame.
  pub no_close_before : (fs : List Frame) (f : Frame) (gs : List Frame) → IsLawful role limits (fs ++ f ∷ gs) → HasNoClose fs
  no_close_before fs f gs lawful before after g e c =
      nil-push after f gs (sym (lawful.close_last before (after ++ f ∷ gs) g (split_middle fs before g after f gs e) c))
    where
      split_middle : (fs before : List Frame) (g : Frame) (after : List Frame) (f : Frame) (gs : List Frame) → fs ≡ before ++ g ∷ after → fs ++ f ∷ gs ≡ before ++ g ∷ (after ++ f ∷ gs)
      split_middle fs [] g after f gs e = ap (λ (hs : List Frame). hs ++ f ∷ gs) e
      split_middle [] (b ∷ before) g after f gs e = absurd (nil-push (b ∷ before) g after e)
      split_middle (h ∷ fs) (b ∷ before) g after f gs e =
          let rest = split_middle fs before g after f gs (tail_same h b fs (before ++ g ∷ after) e) in
          let first = head_same h b fs (before ++ g ∷ after) e in
          cc

  -- A lawful list has no Close, or ends with one.
  pub close_is_last : (fs : List Frame) → IsLawful role limits fs → HasNoClose fs ⊎ EndsWithClose fs
  close_is_last fs lawful = from_front fs [] lawful no_close_nil
    where
      from_front : (fs before : List Frame) → IsLawful role limits (before ++ fs) → HasNoClose before → HasNoClose (before ++ fs) ⊎ EndsWithClose (before ++ fs)
      from_front [] before lawful none = inl (subst HasNoClose (sym (append-nil before)) none)
      from_front (f ∷ fs) before lawful none =
          elim (close_or_not f.op) [
            | inl c ↦ inr (before, f, c, ap (λ (hs : List Frame). before ++ f ∷ hs) (lawful.close_last before fs f refl c))
            | inr o ↦
                let moved = push-append before f fs in
                subst (λ (hs : List Frame). HasNoClose hs ⊎ EndsWithClose hs) moved (from_front fs (before ++ f ∷ []) (subst (IsLawful role limits) (sym moved) lawful) (no_close_push before f none o))
          ]

  -- ---- frame by frame, after the frames before

  pub lawful_after : (before fs : List Frame) → IsLawful role limits (before ++ fs) → AreLawfulAfter role limits before fs
  lawful_after before [] lawful = tt
  lawful_after before (f ∷ fs) lawful =
      (law_at_split before f fs lawful, lawful.close_last before fs f refl, lawful_after (before ++ f ∷ []) fs (subst (IsLawful role limits) (sym (push-append before f fs)) lawful))

  pub lawful_from_front : (before fs : List Frame) → IsLawful role limits before → HasNoClose before → AreLawfulAfter role limits before fs → IsLawful role limits (before ++ fs)
  lawful_from_front before [] lawful none following = subst (IsLawful role limits) (sym (append-nil before)) lawful
  lawful_from_front before (f ∷ fs) lawful none following =
      let with_f = lawful_push before f lawful none following.0 in
      elim (close_or_not f.op) [
        | inl c ↦ subst (λ (hs : List Frame). IsLawful role limits (before ++ f ∷ hs)) (sym (following.1 c)) with_f
        | inr o ↦ subst (IsLawful role limits) (push-append before f fs) (lawful_from_front (before ++ f ∷ []) fs with_f (no_close_push before f none o) following.2)
      ]

  pub came_on : (fs : List Frame) (f : Frame) → IsLawful role limits (fs ++ f ∷ []) → IsLawful role limits fs × HasNoClose fs × LawAt role limits fs f
  came_on fs f lawful = (lawful_front fs (f ∷ []) lawful, no_close_before fs f [] lawful, law_at_split fs f [] lawful)

  pub lawful_iff_from_front : (fs : List Frame) → IsLawful role limits fs ↔ AreLawfulAfter role limits [] fs
  lawful_iff_from_front fs = (λ lawful. lawful_after [] fs lawful, λ following. lawful_from_front [] fs lawful_nil no_close_nil following)

  pub finished_is_accepted : (fs : List Frame) → IsLawful role limits fs → unfinished fs ≡ [] → IsAccepted role limits (stream fs) fs
  finished_is_accepted fs lawful finished = record {
    lawful = lawful;
    ends = elim (close_is_last fs lawful) [
      | inl none ↦ inl (none, finished, refl)
      | inr close ↦ inr (close, ([], sym (append-nil (stream fs))))
    ];
  }
