-- The unfinished group, and the meaning, of a list of frames that continues; the group of a lawful list.
use Rattle.std.proofs.Common.{◌≡◌, ◌≢◌, ◌≤◌, Bool, true, false, cond, not, ◌||◌, List, [], ◌∷◌, ◌++◌, ◌⊎◌, length, filter, refl, sym, ap, ◌∙◌, subst, inl, inr, append-nil, append_assoc, true≢false, if◌then◌else◌, zero-le}
use Rattle.std.proofs.lemmas.Bool.{cases_Bool, cond-true, cond-false}
use Rattle.std.specs.Option.{ForSome}
use Rattle.std.proofs.lemmas.List.Sums.{fold_push}
use Rattle.wsn_wire.specs.declared.endpoint.Role.{Role}
use Rattle.wsn_wire.specs.declared.opcode.Op.{Op}
use Rattle.wsn_wire.specs.declared.opcode.Op.TheVariants.{Continue, Text, Binary, Close, Ping, Pong}
use Rattle.wsn_wire.specs.Frame.{Frame, is_control}
use Rattle.wsn_text.specs.Utf8.{BeginsText}
use Rattle.wsn_rules.specs.Limits.{Limits}
use Rattle.wsn_rules.specs.Group.{is_data, with_frame, unfinished, first_op, payload_of}
use Rattle.wsn_rules.specs.MessageLaw.{GroupLaw}
use Rattle.wsn_rules.specs.Lawful.{LawAt, IsLawful}
use Rattle.wsn_rules.specs.Meaning.{event_at, events_after, meaning}
use Rattle.wsn_rules.proofs.Prefixes.{push-append, nil-push}
use Rattle.wsn_rules.proofs.LawfulLists.{law_at_split}

-- ---- the unfinished group after one more frame

unfinished_push : (fs : List Frame) (f : Frame) → unfinished (fs ++ f ∷ []) ≡ with_frame (unfinished fs) f
unfinished_push fs f = fold_push with_frame [] fs f

pub unfinished_control : (fs : List Frame) (f : Frame) → is_data f ≡ false → unfinished (fs ++ f ∷ []) ≡ unfinished fs
unfinished_control fs f left_out = unfinished_push fs f ∙ cond-false (is_data f) (if f.fin then [] else unfinished fs ++ f ∷ []) (unfinished fs) left_out

pub unfinished_final : (fs : List Frame) (f : Frame) → is_data f ≡ true → f.fin ≡ true → unfinished (fs ++ f ∷ []) ≡ []
unfinished_final fs f kept final =
    unfinished_push fs f ∙ cond-true (is_data f) (if f.fin then [] else unfinished fs ++ f ∷ []) (unfinished fs) kept ∙ cond-true f.fin [] (unfinished fs ++ f ∷ []) final

pub unfinished_more : (fs : List Frame) (f : Frame) → is_data f ≡ true → f.fin ≡ false → unfinished (fs ++ f ∷ []) ≡ unfinished fs ++ f ∷ []
unfinished_more fs f kept more =
    unfinished_push fs f ∙ cond-true (is_data f) (if f.fin then [] else unfinished fs ++ f ∷ []) (unfinished fs) kept ∙ cond-false f.fin [] (unfinished fs ++ f ∷ []) more

-- ---- the meaning of a list that continues

pub events-append : (before fs gs : List Frame) → events_after before (fs ++ gs) ≡ events_after before fs ++ events_after (before ++ fs) gs
events-append before [] gs = ap (λ (hs : List Frame). events_after hs gs) (sym (append-nil before))
events-append before (f ∷ fs) gs =
    let here = if f.fin then event_at before f ∷ [] else [] in
    ap (λ es. here ++ es) (events-append (before ++ f ∷ []) fs gs ∙ ap (λ (hs : List Frame). events_after (before ++ f ∷ []) fs ++ events_after hs gs) (push-append before f fs))
    ∙ sym (append_assoc here (events_after (before ++ f ∷ []) fs) (events_after (before ++ f ∷ fs) gs))

pub meaning-append : (fs gs : List Frame) → meaning (fs ++ gs) ≡ meaning fs ++ events_after fs gs
meaning-append fs gs = events-append [] fs gs

pub meaning_push : (fs : List Frame) (f : Frame) → meaning (fs ++ f ∷ []) ≡ meaning fs ++ (if f.fin then event_at fs f ∷ [] else [])
meaning_push fs f = meaning-append fs (f ∷ []) ∙ ap (λ es. meaning fs ++ es) (append-nil (if f.fin then event_at fs f ∷ [] else []))

-- ---- the group of a lawful list

-- The properties of an unfinished group.
pub record IsGroup (limits : Limits) (group : List Frame) : Type 0 where
  pub size : length (payload_of group) ≤ limits.message
  pub count : ForSome limits.frames (λ most. length group ≤ most)
  pub begins : first_op group ≡ Text → BeginsText (payload_of group)
  -- It begins with Text or Binary.
  pub kind : group ≢ [] → (first_op group ≡ Text) ⊎ (first_op group ≡ Binary)

pub is_group_nil : (limits : Limits) → IsGroup limits []
is_group_nil limits = record {
  size = zero-le;
  count = λ most e. zero-le;
  begins = λ e. cc;
  kind = λ some. absurd (some refl);
}

pub data_kind : (op : Op) → not (is_control op) ≡ true → (op ≡ Continue → ⊥) → (op ≡ Text) ⊎ (op ≡ Binary)
data_kind Continue is_data other = absurd (other refl)
data_kind Text is_data other = inl refl
data_kind Binary is_data other = inr refl
data_kind _ is_data other = absurd (true≢false (sym is_data))

group_kind : (limits : Limits) (group : List Frame) (f : Frame) → IsGroup limits group → is_data f ≡ true → GroupLaw limits group f → (first_op (group ++ f ∷ []) ≡ Text) ⊎ (first_op (group ++ f ∷ []) ≡ Binary)
group_kind limits [] f earlier is_data law = data_kind f.op is_data (λ e. law.continues.0 e refl)
group_kind limits (g ∷ group) f earlier is_data law = earlier.kind (λ e. nil-push [] g group (sym e))

pub is_group_push : (limits : Limits) (group : List Frame) (f : Frame) → IsGroup limits group → is_data f ≡ true → GroupLaw limits group f → IsGroup limits (group ++ f ∷ [])
is_group_push limits group f earlier is_data law = record {
  size = law.size;
  count = law.count;
  begins = law.begins;
  kind = λ some. group_kind limits group f earlier is_data law;
}

group_of_push : (role : Role) (limits : Limits) (fs : List Frame) (f : Frame) → IsGroup limits (unfinished fs) → LawAt role limits fs f → IsGroup limits (unfinished (fs ++ f ∷ []))
group_of_push role limits fs f earlier law =
    elim (cases_Bool (is_data f)) [
      | inl data_frame ↦ elim (cases_Bool f.fin) [
        | inl final ↦ subst (IsGroup limits) (sym (unfinished_final fs f data_frame final)) (is_group_nil limits)
        | inr more ↦ subst (IsGroup limits) (sym (unfinished_more fs f data_frame more)) (is_group_push limits (unfinished fs) f earlier data_frame (law.group data_frame))
      ]
      | inr control ↦ subst (IsGroup limits) (sym (unfinished_control fs f control)) earlier
    ]

pub group_of_lawful : (role : Role) (limits : Limits) (fs : List Frame) → IsLawful role limits fs → IsGroup limits (unfinished fs)
group_of_lawful role limits fs lawful = from_front fs [] lawful (is_group_nil limits)
  where
    from_front : (fs before : List Frame) → IsLawful role limits (before ++ fs) → IsGroup limits (unfinished before) → IsGroup limits (unfinished (before ++ fs))
    from_front [] before lawful earlier = subst (λ (hs : List Frame). IsGroup limits (unfinished hs)) (sym (append-nil before)) earlier
    from_front (f ∷ fs) before lawful earlier =
        let moved = push-append before f fs in
        let with_f = group_of_push role limits before f earlier (law_at_split role limits before f fs lawful) in
        subst (λ (hs : List Frame). IsGroup limits (unfinished hs)) moved (from_front fs (before ++ f ∷ []) (subst (IsLawful role limits) (sym moved) lawful) with_f)
