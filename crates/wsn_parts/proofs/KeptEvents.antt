-- What is kept of the event that begins at an offset, as frames begin, go on and end.
use Rattle.std.proofs.Common.{◌≡◌, ◌≢◌, ℕ, ◌+◌, ◌<◌, ◌≤◌, ◌↔◌, ◌⊎◌, Bool, true, false, not, None, Some, List, [], ◌∷◌, ◌++◌, length, if◌then◌else◌, inl, inr, refl, sym, ap, ◌∙◌, subst, append-nil, append_assoc, arith, length-append, eqb-true, eq-eqb}
use Rattle.std.specs.Prelude.{nat_eq}
use Rattle.std.proofs.lemmas.Bool.{cases_Bool, cond-true, cond-false}
use Rattle.wsn_wire.specs.declared.endpoint.Role.{Role}
use Rattle.wsn_wire.specs.declared.opcode.Op.{Op}
use Rattle.wsn_wire.specs.declared.opcode.Op.TheVariants.{Continue, Text, Binary, Close, Ping, Pong}
use Rattle.wsn_wire.specs.Frame.{Frame, is_control, stream}
use Rattle.wsn_rules.specs.declared.head_info.HeadInfo.{HeadInfo}
use Rattle.wsn_rules.specs.Limits.{Limits}
use Rattle.wsn_rules.specs.Group.{is_data, unfinished, IsOpen, first_op, payload_of}
use Rattle.wsn_rules.specs.Heads.{info_of}
use Rattle.wsn_rules.specs.Lawful.{IsLawful}
use Rattle.wsn_rules.specs.Meaning.{event_at, payload_in}
use Rattle.wsn_rules.specs.ShownStream.{open_offset, event_offset, frame_so_far}
use Rattle.wsn_rules.proofs.Groups.{unfinished_control, unfinished_final, unfinished_more}
use Rattle.wsn_rules.proofs.MessageText.{text_of_push}
use Rattle.wsn_rules.proofs.OpenOffsets.{offset_of_none, offset_after_control, offset_after_fragment}
use Rattle.wsn_scan.specs.Positions.{BetweenFrames, InFrame}
use Rattle.wsn_parts.specs.declared.answer.EventStart.{EventStart}
use Rattle.wsn_parts.specs.declared.event_at.EventAt.{EventAt}
use Rattle.wsn_parts.specs.EventsAt.{IsOpenAt, IsBegunAt, end_of, EndBefore, IsElsewhere, EndsEvent}
use Rattle.wsn_parts.specs.Following.{KeepsOpen, KeepsFrame, HasBegunAt, KeepsEventAt, MayBegin, own_part}
use Rattle.wsn_scan.proofs.FrameEnds.{first_alike}
use Rattle.wsn_parts.proofs.OpenMessages.{open_or_not, open_before, offset_of_control, offset_of_data, offset_within, content_of_control, content_of_data, apart_from_control, first_of_more, control_is_final, frame_end}

no_false : {A : Type 0} (b : Bool) → b ≡ true → b ≡ false → A
no_false b holds fails = let both : true ≡ false = sym holds ∙ fails in absurd cc

data_op : (op : Op) → is_control op ≡ false → (op ≡ Continue) ⊎ ((op ≡ Text) ⊎ (op ≡ Binary))
data_op Continue is = inl refl
data_op Text is = inr (inl refl)
data_op Binary is = inr (inr refl)
data_op Close is = cc
data_op Ping is = cc
data_op Pong is = cc

control_other : (op : Op) → is_control op ≡ true → (op ≢ Text) × (op ≢ Binary)
control_other Close is = (λ same. cc, λ same. cc)
control_other Ping is = (λ same. cc, λ same. cc)
control_other Pong is = (λ same. cc, λ same. cc)
control_other Continue is = cc
control_other Text is = cc
control_other Binary is = cc

continue_other : (op : Op) → op ≡ Continue → (op ≢ Text) × (op ≢ Binary)
continue_other op is = (λ same. let both : Continue ≡ Text = sym is ∙ same in cc, λ same. let both : Continue ≡ Binary = sym is ∙ same in cc)

-- ---- a frame begins

-- What the code has of it: the first frame of the open message, and that of the frame's event.
pub record HasStarts (kept : EventAt) (info : HeadInfo) (message start : EventStart) : Type 0 where
  pub first : (info.op ≡ Text) ⊎ (info.op ≡ Binary) → (message.op ≡ info.op) × (message.offset ≡ info.offset)
  pub other : info.op ≢ Text → info.op ≢ Binary → message ≡ kept.message
  pub op : start.op ≡ (if is_control info.op then info.op else message.op)
  pub offset : start.offset ≡ (if is_control info.op then info.offset else message.offset)

module _ (kept : EventAt) (at : ℕ) (fs : List Frame) (info : HeadInfo) (text : List ℕ) (may : MayBegin fs info) (k : KeepsEventAt kept at fs BetweenFrames text)
    (message start : EventStart) (s : HasStarts kept info message start) where
  abbrev f : Frame
  f = frame_so_far info []

  -- the same message as before
  same_open : message ≡ kept.message → IsOpen fs → (message.offset ≡ open_offset fs) × (message.op ≡ first_op (unfinished fs))
  same_open same some =
      (ap (λ (m : EventStart). m.offset) same ∙ (k.frame.0 some).0, ap (λ (m : EventStart). m.op) same ∙ (k.frame.0 some).1)

  joined : is_control info.op ≡ false → (message.offset ≡ open_offset fs) × (message.op ≡ first_op (unfinished fs ++ f ∷ []))
  joined data_frame = by (data_op info.op data_frame)
    where
      by : (info.op ≡ Continue) ⊎ ((info.op ≡ Text) ⊎ (info.op ≡ Binary)) → (message.offset ≡ open_offset fs) × (message.op ≡ first_op (unfinished fs ++ f ∷ []))
      by (inl continues) =
          let some = may.continues continues in
          let differs = continue_other info.op continues in
          let same = same_open (s.other differs.0 differs.1) some in
          (same.0, same.1 ∙ sym (first_of_more (unfinished fs) f some))
      by (inr begins) =
          let none = may.begins begins in
          let is = s.first begins in
          (is.1 ∙ may.offset ∙ sym (offset_of_none fs none), is.0 ∙ ap (λ (gs : List Frame). first_op (gs ++ f ∷ [])) (sym none))

  kept_open : is_control info.op ≡ true → IsOpen fs → (message.offset ≡ open_offset fs) × (message.op ≡ first_op (unfinished fs))
  kept_open control = let differs = control_other info.op control in same_open (s.other differs.0 differs.1)

  offset_is : start.offset ≡ event_offset fs f
  offset_is =
      elim (cases_Bool (is_control info.op)) [
        | inl control ↦ s.offset ∙ cond-true (is_control info.op) info.offset message.offset control ∙ may.offset ∙ sym (offset_of_control fs f control)
        | inr other ↦ s.offset ∙ cond-false (is_control info.op) info.offset message.offset other ∙ (joined other).0 ∙ sym (offset_of_data fs f other)
      ]

  op_is : start.op ≡ (if is_control info.op then info.op else first_op (unfinished fs ++ f ∷ []))
  op_is =
      elim (cases_Bool (is_control info.op)) [
        | inl control ↦ s.op ∙ cond-true (is_control info.op) info.op message.op control ∙ sym (cond-true (is_control info.op) info.op (first_op (unfinished fs ++ f ∷ [])) control)
        | inr other ↦ s.op ∙ cond-false (is_control info.op) info.op message.op other ∙ (joined other).1 ∙ sym (cond-false (is_control info.op) info.op (first_op (unfinished fs ++ f ∷ [])) other)
      ]

  -- the next frame is after the offset, or the event hasn't begun
  module _ (own : Bool) (own_is : own ≡ nat_eq start.offset kept.at) where
    own_frame : (own ≡ true) ↔ (event_offset fs f ≡ at)
    own_frame = (
      λ holds. sym offset_is ∙ eqb-true start.offset kept.at (sym own_is ∙ holds) ∙ k.sought,
      λ same. own_is ∙ eq-eqb start.offset kept.at (offset_is ∙ same ∙ sym k.sought),
    )

    frame_kept : (begun : Bool) → KeepsFrame (record { at = kept.at; message = message; own = own; begun = begun; next = None }) fs (InFrame info []) at
    frame_kept begun = (kept_open, joined, own_frame)

    -- the frame belongs to the event
    pub begins_own : own ≡ true → KeepsEventAt (record { at = kept.at; message = message; own = own; begun = true; next = None }) at fs (InFrame info []) text
    begins_own holds = record { sought = k.sought; frame = frame_kept true; next = refl; begun = inr (begins, by kept.begun k.begun) }
      where
        begins : event_offset fs f ≡ at
        begins = own_frame.0 holds

        by : (b : Bool) → HasBegunAt b fs BetweenFrames at text → text ≡ payload_in (event_at fs f)
        by true is =
            elim (cases_Bool (is_control info.op)) [
              | inl control ↦ absurd (apart_from_control fs f at control is.some is.begins begins)
              | inr other ↦ is.payload_is ∙ sym (append-nil (payload_of (unfinished fs))) ∙ sym (content_of_data fs f other)
            ]
        by false is =
            elim (cases_Bool (is_control info.op)) [
              | inl control ↦ is.1 ∙ sym (content_of_control fs f control)
              | inr other ↦ elim (open_or_not fs) [
                | inl none ↦ is.1 ∙ sym (content_of_data fs f other ∙ ap (λ (gs : List Frame). payload_of gs ++ []) none)
                | inr some ↦ absurd (let before = open_before fs some in let there = is.0 in omega (arith, before, there, begins, offset_of_data fs f other))
              ]
            ]

    -- it doesn't, and the event has begun
    pub begins_other : own ≡ false → kept.begun ≡ true → KeepsEventAt (record { at = kept.at; message = message; own = own; begun = kept.begun; next = None }) at fs (InFrame info []) text
    begins_other fails begun = record { sought = k.sought; frame = frame_kept kept.begun; next = refl; begun = subst (λ (b : Bool). HasBegunAt b fs (InFrame info []) at text) (sym begun) within }
      where
        open_at : IsOpenAt fs at text
        open_at = subst (λ (b : Bool). HasBegunAt b fs BetweenFrames at text) begun k.begun

        within : IsBegunAt fs (InFrame info []) at text
        within =
            elim (cases_Bool (is_control info.op)) [
              | inl control ↦ inl (control, open_at)
              | inr other ↦ no_false own (own_frame.1 (offset_of_data fs f other ∙ open_at.begins)) fails
            ]

    -- it ends before the offset
    pub begins_before : kept.begun ≡ false → end_of info ≤ kept.at → KeepsEventAt (record { at = kept.at; message = message; own = own; begun = kept.begun; next = None }) at fs (InFrame info []) text
    begins_before none ends =
        let was : EndBefore fs BetweenFrames at × (text ≡ []) = subst (λ (b : Bool). HasBegunAt b fs BetweenFrames at text) none k.begun in
        record { sought = k.sought; frame = frame_kept kept.begun; next = refl; begun = subst (λ (b : Bool). HasBegunAt b fs (InFrame info []) at text) (sym none) (subst (λ (n : ℕ). end_of info ≤ n) k.sought ends, was.1) }

    -- the offset is in it
    pub begins_elsewhere : own ≡ false → kept.begun ≡ false → kept.at < end_of info → IsElsewhere fs info at start × (text ≡ [])
    begins_elsewhere fails none ends =
        let was : EndBefore fs BetweenFrames at × (text ≡ []) = subst (λ (b : Bool). HasBegunAt b fs BetweenFrames at text) none k.begun in
        let there = was.0 in (
          record {
            from = let offset = may.offset in omega (arith, there, offset);
            to = subst (λ (n : ℕ). n < end_of info) k.sought ends;
            is_start = record { op = op_is; offset = offset_is };
            other = λ same. no_false own (own_frame.1 (sym offset_is ∙ same)) fails;
          },
          was.1,
        )

-- ---- a frame goes on

module _ (kept : EventAt) (at : ℕ) (fs : List Frame) (info : HeadInfo) (part more text : List ℕ) where
  abbrev here : Frame
  here = frame_so_far info part

  abbrev longer : Frame
  longer = frame_so_far info (part ++ more)

  -- the content of a longer frame
  content_on : payload_in (event_at fs longer) ≡ payload_in (event_at fs here) ++ more
  content_on =
      elim (cases_Bool (is_control info.op)) [
        | inl control ↦ content_of_control fs longer control ∙ ap (λ (bs : List ℕ). bs ++ more) (sym (content_of_control fs here control))
        | inr other ↦
            content_of_data fs longer other ∙ sym (append_assoc (payload_of (unfinished fs)) part more)
            ∙ ap (λ (bs : List ℕ). bs ++ more) (sym (content_of_data fs here other))
      ]

  pub goes_on : info.offset ≡ length (stream fs) → KeepsEventAt kept at fs (InFrame info part) text → KeepsEventAt kept at fs (InFrame info (part ++ more)) (text ++ own_part kept more)
  goes_on offset k = record {
    sought = k.sought;
    frame = (k.frame.0, λ other. ((k.frame.1 other).0, (k.frame.1 other).1 ∙ first_alike (unfinished fs) here longer refl), k.frame.2);
    next = k.next;
    begun = by kept.begun k.begun;
  }
    where
      none_more : kept.own ≡ false → text ++ own_part kept more ≡ text
      none_more fails = ap (λ (bs : List ℕ). text ++ bs) (cond-false kept.own more [] fails) ∙ append-nil text

      not_own : (event_offset fs here ≡ at → ⊥) → kept.own ≡ false
      not_own other = elim (cases_Bool kept.own) [ inl holds ↦ absurd (other (k.frame.2.0 holds)) | inr fails ↦ fails ]

      begun_on : IsBegunAt fs (InFrame info part) at text → IsBegunAt fs (InFrame info (part ++ more)) at (text ++ own_part kept more)
      begun_on (inl is) =
          inl (is.0, subst (IsOpenAt fs at) (sym (none_more (not_own (λ same. apart_from_control fs here at is.0 is.1.some is.1.begins same)))) is.1)
      begun_on (inr is) =
          inr (is.0, ap (λ (bs : List ℕ). text ++ bs) (cond-true kept.own more [] (k.frame.2.1 is.0)) ∙ ap (λ (bs : List ℕ). bs ++ more) is.1 ∙ sym content_on)

      by : (b : Bool) → HasBegunAt b fs (InFrame info part) at text → HasBegunAt b fs (InFrame info (part ++ more)) at (text ++ own_part kept more)
      by true is = begun_on is
      by false is =
          let ends = is.0 in
          let within = offset_within fs here in
          (is.0, none_more (not_own (λ same. omega (arith, ends, within, same, offset))) ∙ is.1)

-- ---- a frame ends

module _ (role : Role) (limits : Limits) (kept : EventAt) (at : ℕ) (fs : List Frame) (f : Frame) (text : List ℕ) (lawful : IsLawful role limits (fs ++ f ∷ []))
    (k : KeepsEventAt kept at fs (InFrame (info_of (length (stream fs)) f) f.payload) text) where
  abbrev info : HeadInfo
  info = info_of (length (stream fs)) f

  -- before its end, the offset isn't after it
  not_after : event_offset fs f ≡ at → EndBefore fs (InFrame info f.payload) at → ⊥
  not_after same ends =
      let within = offset_within fs f in
      omega (arith, ends, within, same)

  pub content_whole : event_offset fs f ≡ at → text ≡ payload_in (event_at fs f)
  content_whole same = by kept.begun k.begun
    where
      by : (b : Bool) → HasBegunAt b fs (InFrame info f.payload) at text → text ≡ payload_in (event_at fs f)
      by true (inl is) = absurd (apart_from_control fs f at is.0 is.1.some is.1.begins same)
      by true (inr is) = is.1
      by false is = absurd (not_after same is.0)

  pub ends_own : kept.own ≡ true → f.fin ≡ true → EndsEvent fs f at text
  ends_own holds final = let same = k.frame.2.0 holds in record { final = final; begins = same; payload_is = content_whole same }

  -- a data frame that isn't final belongs to the open message
  fragment_open : is_data f ≡ true → f.fin ≡ false → IsOpen (fs ++ f ∷ [])
  fragment_open data_frame more none =
      let both : length (unfinished fs) + 1 ≡ 0 = sym (length-append (unfinished fs) (f ∷ [])) ∙ ap (λ (gs : List Frame). length gs) (sym (unfinished_more fs f data_frame more) ∙ none) in
      omega (arith, both)

  pub begun_own : event_offset fs f ≡ at → f.fin ≡ false → IsOpenAt (fs ++ f ∷ []) at text
  begun_own same more =
      elim (cases_Bool (is_control f.op)) [
        | inl control ↦ no_false f.fin (control_is_final role limits fs f lawful control) more
        | inr other ↦
            let data_frame : is_data f ≡ true = ap not other in
            record {
              some = fragment_open data_frame more;
              begins = offset_after_fragment fs f data_frame more ∙ sym (offset_of_data fs f other) ∙ same;
              payload_is = content_whole same ∙ content_of_data fs f other ∙ sym (ap payload_of (unfinished_more fs f data_frame more) ∙ text_of_push (unfinished fs) f);
            }
      ]

  -- the open message after the frame
  open_after : KeepsOpen kept (fs ++ f ∷ [])
  open_after some = by (cases_Bool (is_control f.op)) (cases_Bool f.fin)
    where
      by : (is_control f.op ≡ true) ⊎ (is_control f.op ≡ false) → (f.fin ≡ true) ⊎ (f.fin ≡ false) → (kept.message.offset ≡ open_offset (fs ++ f ∷ [])) × (kept.message.op ≡ first_op (unfinished (fs ++ f ∷ [])))
      by (inl control) any =
          let other : is_data f ≡ false = ap not control in
          let same = unfinished_control fs f other in
          let was : IsOpen fs = λ none. some (same ∙ none) in
          let is = k.frame.0 control was in
          (is.0 ∙ sym (offset_after_control fs f other was), is.1 ∙ ap first_op (sym same))
      by (inr other) (inl final) = absurd (some (unfinished_final fs f (ap not other) final))
      by (inr other) (inr more) =
          let data_frame : is_data f ≡ true = ap not other in
          let is = k.frame.1 other in
          (is.0 ∙ sym (offset_after_fragment fs f data_frame more), is.1 ∙ ap first_op (sym (unfinished_more fs f data_frame more)))

  abbrev after : EventAt
  after = record kept { own = false; next = Some (end_of info) }

  pub ends_other : (kept.own ≡ true → f.fin ≡ false) → KeepsEventAt after at (fs ++ f ∷ []) BetweenFrames text
  ends_other unless = record { sought = k.sought; frame = (open_after, refl); next = ap Some (frame_end fs f); begun = by kept.begun k.begun }
    where
      begun_after : IsBegunAt fs (InFrame info f.payload) at text → IsOpenAt (fs ++ f ∷ []) at text
      begun_after (inl is) =
          let other : is_data f ≡ false = ap not is.0 in
          let same = unfinished_control fs f other in
          record {
            some = λ none. is.1.some (sym same ∙ none);
            begins = offset_after_control fs f other is.1.some ∙ is.1.begins;
            payload_is = is.1.payload_is ∙ ap payload_of (sym same);
          }
      begun_after (inr is) = begun_own is.0 (unless (k.frame.2.1 is.0))

      by : (b : Bool) → HasBegunAt b fs (InFrame info f.payload) at text → HasBegunAt b (fs ++ f ∷ []) BetweenFrames at text
      by true is = begun_after is
      by false is = (let ends = is.0 in omega (arith, ends, frame_end fs f), is.1)
