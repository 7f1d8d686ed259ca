-- The items that are printed of what is kept.
use Rattle.std.proofs.Common.{◌≡◌, ℕ, ◌-◌, ◌<◌, true, false, Option, None, Some, List, [], ◌∷◌, ◌++◌, length, inl, inr, refl, sym, ap, ◌∙◌, subst, arith, nat_lt}
use Rattle.std.proofs.lemmas.Bool.{cond-true, cond-false, lt-ltb, le-ltb}
use Rattle.wsn_wire.specs.declared.opcode.Op.{Op}
use Rattle.wsn_wire.specs.declared.opcode.Op.TheVariants.{Continue, Text, Binary, Close, Ping, Pong}
use Rattle.wsn_wire.specs.declared.endpoint.Role.{Role}
use Rattle.wsn_wire.specs.Frame.{Frame, is_control, stream}
use Rattle.wsn_rules.specs.declared.head_info.HeadInfo.{HeadInfo}
use Rattle.wsn_rules.specs.Group.{unfinished, first_op, kind_of, payload_of}
use Rattle.wsn_rules.specs.Lawful.{IsLawful}
use Rattle.wsn_rules.specs.Limits.{Limits}
use Rattle.wsn_rules.specs.Meaning.{Message, Control}
use Rattle.wsn_rules.specs.Summary.{is_close}
use Rattle.wsn_rules.specs.ShownStream.{Item, open_offset, open_item, open_items, items_of_bytes, frame_so_far, items_of_part, items_of_head}
use Rattle.wsn_rules.specs.ShownStream.Item.{Unfinished, UnfinishedHead}
use Rattle.wsn_rules.proofs.LawfulMeaning.{event_of_control, event_of_data}
use Rattle.wsn_scan.specs.Positions.{Position, BetweenFrames, InFrame}
use Rattle.wsn_print.specs.declared.shown.ShownEvent.{ShownEvent}
use Rattle.wsn_print.specs.ShownParts.{Represents, HasText}
use Rattle.wsn_show.specs.ShownItems.{IsEventOf}
use Rattle.wsn_show.specs.StreamParts.{HasKind, head_at}
use Rattle.wsn_show.proofs.HeldItems.{kind_of_data, text_of_data, text_reason}
use Rattle.wsn_show.proofs.TextsSoFar.{text_payload}

-- ---- complete events

no_close : (op : Op) → HasKind op → is_close op ≡ false
no_close op (inl text) = ap is_close text
no_close op (inr binary) = ap is_close binary

no_close_of_data : (op : Op) → is_control op ≡ false → is_close op ≡ false
no_close_of_data Close is = cc
no_close_of_data Continue is = refl
no_close_of_data Text is = refl
no_close_of_data Binary is = refl
no_close_of_data Ping is = refl
no_close_of_data Pong is = refl

module _ (role : Role) (limits : Limits) (fs : List Frame) (f : Frame) (lawful : IsLawful role limits (fs ++ f ∷ [])) (n offset : ℕ) (shown : ShownEvent) where
  pub control_event : is_control f.op ≡ true → shown.op ≡ f.op → Represents n shown (Control f.op f.payload) → shown.frames ≡ 1 → offset ≡ length (stream fs) → IsEventOf n fs f offset shown
  control_event control op represents frames at = record {
    close = ap is_close op;
    represents = subst (Represents n shown) (sym (event_of_control fs f control)) represents;
    text = subst HasText (sym (event_of_control fs f control)) (text_reason role limits fs f lawful);
    offset_is = at ∙ sym (cond-true (is_control f.op) (length (stream fs)) (open_offset fs) control);
    frames = frames ∙ sym (cond-true (is_control f.op) 1 (length (unfinished fs ++ f ∷ [])) control);
  }

  abbrev group : List Frame
  group = unfinished fs ++ f ∷ []

  pub message_event : is_control f.op ≡ false → shown.op ≡ first_op group → Represents n shown (Message (kind_of group) (payload_of group)) → shown.frames ≡ length group → offset ≡ open_offset fs → IsEventOf n fs f offset shown
  message_event other op represents frames at = record {
    close = ap is_close op ∙ no_close (first_op group) (kind_of_data role limits fs f lawful other) ∙ sym (no_close_of_data f.op other);
    represents = subst (Represents n shown) (sym (event_of_data fs f other)) represents;
    text = subst HasText (sym (event_of_data fs f other)) (text_payload group (text_of_data role limits fs f lawful other));
    offset_is = at ∙ sym (cond-false (is_control f.op) (length (stream fs)) (open_offset fs) other);
    frames = frames ∙ sym (cond-false (is_control f.op) 1 (length group) other);
  }

-- ---- what is left over

module _ (fs : List Frame) (head : HeadInfo) (part : List ℕ) where
  pub part_of_control_is : is_control head.op ≡ true → items_of_part fs head part ≡ open_items fs (Some 0) ++ Unfinished head.offset (Control head.op part) 1 (Some (head.len - length part)) ∷ []
  part_of_control_is control = cond-true (is_control head.op) _ _ control

  pub part_of_data_is : is_control head.op ≡ false → items_of_part fs head part ≡ open_item fs (unfinished fs ++ frame_so_far head part ∷ []) (Some (head.len - length part)) ∷ []
  part_of_data_is other = cond-false (is_control head.op) _ _ other

pub head_none : (fs : List Frame) (rest : List ℕ) → length rest ≡ 0 → items_of_head fs rest ≡ open_items fs (Some 0)
head_none fs [] none = refl
head_none fs (b ∷ rest) none = absurd (omega (arith, none))

pub head_of_message : (fs : List Frame) (rest : List ℕ) → 0 < length rest → 0 < length (unfinished fs) → items_of_head fs rest ≡ open_items fs None
head_of_message fs [] some more = absurd (omega (arith, some))
head_of_message fs (b ∷ rest) some more = cond-true (nat_lt 0 (length (unfinished fs))) _ _ (lt-ltb 0 (length (unfinished fs)) more)

pub head_alone : (fs : List Frame) (rest : List ℕ) → 0 < length rest → length (unfinished fs) ≡ 0 → items_of_head fs rest ≡ UnfinishedHead (length (stream fs)) ∷ []
head_alone fs [] some none = absurd (omega (arith, some))
head_alone fs (b ∷ rest) some none = cond-false (nat_lt 0 (length (unfinished fs))) _ _ (le-ltb 0 (length (unfinished fs)) (omega (arith, none)))

pub bytes_none : (item : ℕ → List ℕ → Item) (offset : ℕ) (bytes : List ℕ) → length bytes ≡ 0 → items_of_bytes item offset bytes ≡ []
bytes_none item offset [] none = refl
bytes_none item offset (b ∷ bytes) none = absurd (omega (arith, none))

pub bytes_some : (item : ℕ → List ℕ → Item) (offset : ℕ) (bytes : List ℕ) → 0 < length bytes → items_of_bytes item offset bytes ≡ item offset bytes ∷ []
bytes_some item offset [] some = absurd (omega (arith, some))
bytes_some item offset (b ∷ bytes) some = refl

-- ---- positions

pub in_frame_at : (at : Position) (head : HeadInfo) (held : Option HeadInfo) → held ≡ head_at at → held ≡ Some head → (part : List ℕ) × (at ≡ InFrame head part)
in_frame_at BetweenFrames head held is some = let both : None ≡ Some head = sym is ∙ some in absurd cc
in_frame_at (InFrame own part) head held is some =
    let both : Some own ≡ Some head = sym is ∙ some in
    let same : own ≡ head = cc in
    (part, ap (λ (h : HeadInfo). InFrame h part) same)

pub between_at : (at : Position) (held : Option HeadInfo) → held ≡ head_at at → held ≡ None → at ≡ BetweenFrames
between_at BetweenFrames held is none = refl
between_at (InFrame own part) held is none = let both : Some own ≡ None = sym is ∙ none in absurd cc
