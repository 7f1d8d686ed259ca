-- What a part of a frame prints, what is kept after it, and what it adds to what was shown.
use Rattle.std.proofs.Common.{◌≡◌, ℕ, ◌+◌, ◌<◌, ◌^◌, true, false, not, List, [], ◌∷◌, ◌++◌, length, inl, inr, refl, sym, ap, ◌∙◌, subst, append_assoc, append-nil, arith, length-append}
use Rattle.std.proofs.lemmas.Bool.{cases_Bool, cond-true, cond-false}
use Rattle.wsn_io.specs.Transfer.{Outgoing}
use Rattle.wsn_wire.specs.declared.endpoint.Role.{Role}
use Rattle.wsn_wire.specs.Frame.{Frame, is_control, stream}
use Rattle.wsn_rules.specs.declared.detail.Detail.{Detail}
use Rattle.wsn_rules.specs.declared.head_info.HeadInfo.{HeadInfo}
use Rattle.wsn_rules.specs.Group.{unfinished, first_op, payload_of}
use Rattle.wsn_rules.specs.Heads.{info_of}
use Rattle.wsn_rules.specs.Lawful.{IsLawful}
use Rattle.wsn_rules.specs.Limits.{Limits}
use Rattle.wsn_rules.specs.ShownStream.{Shown}
use Rattle.wsn_rules.proofs.LawfulLists.{law_at_split}
use Rattle.wsn_rules.proofs.MessageText.{text_of_push}
use Rattle.wsn_rules.proofs.OpenOffsets.{offset_of_none, none_open}
use Rattle.wsn_rules.proofs.Prefixes.{append_cancel}
use Rattle.wsn_print.specs.declared.shown.ShownEvent.{ShownEvent}
use Rattle.wsn_print.proofs.HeldParts.{whole_held}
use Rattle.wsn_scan.specs.declared.part.Part.{Part}
use Rattle.wsn_scan.specs.Positions.{Position, BetweenFrames, InFrame}
use Rattle.wsn_show.specs.declared.entry_context.EntryContext.{EntryContext}
use Rattle.wsn_show.specs.declared.message_so_far.MessageSoFar.{MessageSoFar}
use Rattle.wsn_show.specs.declared.stream_parts.StreamParts.{StreamParts}
use Rattle.wsn_show.specs.ShownItems.{Prints, IsEventOf, items_of_begun, items_of_ended, items_of_end}
use Rattle.wsn_show.specs.ShownSoFar.{items_in, shown_so_far}
use Rattle.wsn_show.specs.StreamParts.{KeepsMessage, KeepsStream}
use Rattle.wsn_scan.specs.FollowedScans.{IsTaken}
use Rattle.wsn_show.specs.TakenParts.{IsAlone, ShowsPart}
use Rattle.wsn_show.proofs.FramesSoFar.{items_in-append, shown_begun, shown_ended, begun_items, ended_items, unended_items, same_so_far, begun_so_far, ended_so_far}
use Rattle.wsn_show.proofs.HeldItems.{represents_message, represents_control, kind_of_data}
use Rattle.wsn_show.proofs.OpenMessages.{kept_after_control, kept_after_whole}
use Rattle.wsn_show.proofs.PrintedItems.{prints_nothing, prints_both}
use Rattle.wsn_show.proofs.PrintedParts.{control_event, message_event}

-- ---- a frame that is an event by itself

-- After the frames fs the lawful frame f came, whole: this is its head, and this is its payload.
pub record IsWholeFrame (role : Role) (limits : Limits) (fs : List Frame) (f : Frame) (head : HeadInfo) (payload : List ℕ) : Type 0 where
  pub lawful : IsLawful role limits (fs ++ f ∷ [])
  pub head_is : head ≡ info_of (length (stream fs)) f
  pub payload_is : payload ≡ f.payload

module _ (role : Role) (limits : Limits) (fs : List Frame) (f : Frame) (head : HeadInfo) (payload : List ℕ) (w : IsWholeFrame role limits fs f head payload) where
  fin_is : f.fin ≡ head.fin
  fin_is = sym (ap (λ (h : HeadInfo). h.fin) w.head_is)

  op_is : f.op ≡ head.op
  op_is = sym (ap (λ (h : HeadInfo). h.op) w.head_is)

  offset_is : head.offset ≡ length (stream fs)
  offset_is = ap (λ (h : HeadInfo). h.offset) w.head_is

  -- ---- a frame that is an event by itself

  pub alone_final : (message : MessageSoFar) → IsAlone message head → f.fin ≡ true
  alone_final message (inl control) = ((law_at_split role limits fs f [] w.lawful).frame.encoded.control (ap is_control op_is ∙ control)).final
  alone_final message (inr (final, none)) = fin_is ∙ final

  alone_none : (n : ℕ) (message : MessageSoFar) → IsAlone message head → KeepsMessage n message fs [] → is_control f.op ≡ false → unfinished fs ≡ []
  alone_none n message (inl control) kept other = let both : true ≡ false = sym (ap is_control op_is ∙ control) ∙ other in absurd cc
  alone_none n message (inr (final, none)) kept other = none_open fs message.frames kept.frames none

  -- It leaves no message open, or that which was.
  pub alone_kept : (n : ℕ) (message : MessageSoFar) → IsAlone message head → KeepsMessage n message fs [] → KeepsMessage n message (fs ++ f ∷ []) []
  alone_kept n message alone kept =
      elim (cases_Bool (is_control f.op)) [
        | inl control ↦ kept_after_control n message fs f (ap not control) kept
        | inr other ↦ kept_after_whole n message fs f (ap not other) (alone_final message alone) (alone_none n message alone kept other) kept
      ]

  -- The event that it is, which this represents.
  pub alone_event : (n : ℕ) (message : MessageSoFar) → IsAlone message head → KeepsMessage n message fs [] → (shown : ShownEvent) → shown.op ≡ head.op → shown.bytes ≡ length payload → shown.held.now ≡ payload → shown.frames ≡ 1
      → IsEventOf n fs f head.offset shown
  alone_event n message alone kept shown op bytes held frames =
      elim (cases_Bool (is_control f.op)) [
        | inl control ↦
            let represents = represents_control n shown f.op f.payload control own_op size own_held in
            control_event role limits fs f w.lawful n head.offset shown control own_op represents frames offset_is
        | inr other ↦
            let none = alone_none n message alone kept other in
            let group = unfinished fs ++ f ∷ [] in
            let payload_is : payload_of group ≡ f.payload = text_of_push (unfinished fs) f ∙ ap (λ (gs : List Frame). payload_of gs ++ f.payload) none in
            let begins : shown.op ≡ first_op group = own_op ∙ sym (ap (λ (gs : List Frame). first_op (gs ++ f ∷ [])) none) in
            let represents = represents_message n shown group (payload_of group) (kind_of_data role limits fs f w.lawful other) begins (size ∙ ap (λ (bs : List ℕ). length bs) (sym payload_is))
            (whole_held n (payload_of group) shown.held.now (own_held ∙ sym payload_is)) in
            message_event role limits fs f w.lawful n head.offset shown other begins represents (frames ∙ sym (ap (λ (gs : List Frame). length (gs ++ f ∷ [])) none)) (offset_is ∙ sym (offset_of_none fs none))
      ]
    where
      own_op : shown.op ≡ f.op
      own_op = op ∙ sym op_is

      size : shown.bytes ≡ length f.payload
      size = bytes ∙ ap (λ (bs : List ℕ). length bs) w.payload_is

      own_held : shown.held.now ≡ f.payload
      own_held = held ∙ w.payload_is

pub end_is : (detail : Detail) (fs : List Frame) (f : Frame) → f.fin ≡ true → items_of_end detail fs f ≡ items_of_ended detail fs f
end_is detail fs f final = cond-true f.fin (items_of_ended detail fs f) [] final

pub no_end : (detail : Detail) (fs : List Frame) (f : Frame) → f.fin ≡ false → items_of_end detail fs f ≡ []
no_end detail fs f more = cond-false f.fin (items_of_ended detail fs f) [] more

-- ---- what is shown

end_items : (detail : Detail) (fs : List Frame) (f : Frame) → items_in (shown_ended detail fs f) ≡ items_of_end detail fs f
end_items detail fs f =
    elim (cases_Bool f.fin) [
      | inl final ↦ ended_items detail fs f final ∙ sym (end_is detail fs f final)
      | inr more ↦ unended_items detail fs f more ∙ sym (no_end detail fs f more)
    ]

-- ---- a part

module _ (role : Role) (limits : Limits) (fs : List Frame) (rest before : List ℕ) (part : Part) (payload share : List ℕ) (frames : List Frame) (position : Position) (since : List ℕ)
    (t : IsTaken role limits fs rest before part payload share frames position since) where
  abbrev at : Position
  at = InFrame part.head before

  same_bytes : length (stream fs) + (length rest + length share) ≡ length (stream frames) + length since
  same_bytes =
      let all = ap (λ (bs : List ℕ). length bs) t.whole in
      omega (arith, all, length-append (stream fs) (rest ++ share), length-append rest share, length-append (stream frames) since)

  -- The part ends the frame.
  pub record Ends : Type 0 where
    pub frame : Frame
    pub is : IsWholeFrame role limits fs frame part.head (before ++ payload)
    pub position_is : InFrame part.head (before ++ payload) ≡ InFrame (info_of (length (stream fs)) frame) frame.payload
    pub size : length (stream (fs ++ frame ∷ [])) ≡ length (stream fs) + (length rest + length share)
    pub small : length (stream (fs ++ frame ∷ [])) < 2 ^ 64
    pub shows : (parts : StreamParts) (context : EntryContext) (old new : Outgoing) → KeepsStream context.style.view parts (fs ++ frame ∷ []) BetweenFrames [] → Prints context old new (items_of_end context.style.detail fs frame)
        → ShowsPart fs at frames position since parts context old new

  pub ends : part.ends ≡ true → Ends
  ends is =
      let g = t.goes_on.ends is in
      let f = g.0 in
      let none = t.no_rest is in
      let frames_is = g.3 in
      let small = t.small in
      let size : length (stream (fs ++ f ∷ [])) ≡ length (stream fs) + (length rest + length share) =
      omega (arith, same_bytes, ap (λ (gs : List Frame). length (stream gs)) frames_is, ap (λ (bs : List ℕ). length bs) none) in
      let there : InFrame part.head (before ++ payload) ≡ InFrame (info_of (length (stream fs)) f) f.payload = λ i. InFrame (g.1 i) (sym g.2 i) in
      record {
        frame = f;
        is = record { lawful = subst (IsLawful role limits) frames_is t.lawful; head_is = g.1; payload_is = sym g.2 };
        position_is = there;
        size = size;
        small = omega (arith, size, small);
        shows = λ parts context old new keeps printed.
            let detail = context.style.detail in
            record {
              extra = shown_ended detail fs f;
              is =
                  ap (λ (ss : List Shown). ss ++ shown_ended detail fs f) (same_so_far detail fs at (InFrame (info_of (length (stream fs)) f) f.payload) (ap (λ (h : HeadInfo). h ∷ []) g.1))
                  ∙ ended_so_far detail fs f ∙ (λ i. shown_so_far detail (sym frames_is i) (sym g.4 i));
              printed = subst (Prints context old new) (sym (end_items detail fs f)) printed;
              keeps = subst (λ (bs : List ℕ). KeepsStream context.style.view parts frames position bs) (sym none)
                  (subst (λ (p : Position). KeepsStream context.style.view parts frames p []) (sym g.4) (subst (λ (gs : List Frame). KeepsStream context.style.view parts gs BetweenFrames []) (sym frames_is) keeps));
            };
      }

  -- It doesn't.
  pub within : part.ends ≡ false → (parts : StreamParts) (context : EntryContext) (out : Outgoing) → KeepsStream context.style.view parts fs (InFrame part.head (before ++ payload)) (rest ++ share)
      → ShowsPart fs at frames position since parts context out out
  within is parts context out keeps =
      let g = t.goes_on.within is in
      let detail = context.style.detail in
      let since_is : since ≡ rest ++ share = sym (append_cancel (stream fs) (rest ++ share) since (t.whole ∙ ap (λ (gs : List Frame). stream gs ++ since) g.0)) in
      record {
        extra = [];
        is = append-nil (shown_so_far detail fs at) ∙ same_so_far detail fs at (InFrame part.head (before ++ payload)) refl ∙ (λ i. shown_so_far detail (sym g.0 i) (sym g.1 i));
        printed = prints_nothing context out;
        keeps = subst (λ (bs : List ℕ). KeepsStream context.style.view parts frames position bs) (sym since_is)
            (subst (λ (p : Position). KeepsStream context.style.view parts frames p (rest ++ share)) (sym g.1) (subst (λ (gs : List Frame). KeepsStream context.style.view parts gs (InFrame part.head (before ++ payload)) (rest ++ share)) (sym g.0) keeps));
      }

-- The head is shown first.
pub shows_first : (fs : List Frame) (head : HeadInfo) (frames : List Frame) (position : Position) (since : List ℕ) (parts : StreamParts) (context : EntryContext) (old mid new : Outgoing)
    → Prints context old mid (items_of_begun context.style.detail head) → ShowsPart fs (InFrame head []) frames position since parts context mid new → ShowsPart fs BetweenFrames frames position since parts context old new
shows_first fs head frames position since parts context old mid new printed s =
    let detail = context.style.detail in
    let first = shown_begun detail head in
    record {
      extra = first ++ s.extra;
      is = sym (append_assoc (shown_so_far detail fs BetweenFrames) first s.extra) ∙ ap (λ (ss : List Shown). ss ++ s.extra) (begun_so_far detail fs head) ∙ s.is;
      printed = subst (Prints context old new) (sym (items_in-append first s.extra))
          (prints_both context old mid new (items_in first) (items_in s.extra) (subst (Prints context old mid) (sym (begun_items detail head)) printed) s.printed);
      keeps = s.keeps;
    }
