-- What is held of an item is enough to print it.
use Rattle.std.proofs.Common.{◌≡◌, ◌≢◌, ℕ, ◌+◌, ◌-◌, ◌/◌, ◌<◌, ◌≤◌, ◌⊎◌, true, false, not, Option, List, [], ◌∷◌, ◌++◌, length, take, drop, min, inl, inr, refl, sym, ap, ◌∙◌, subst, arith, length-append, length-drop, nat_lt}
use Rattle.std.proofs.lemmas.Bool.{cases_lt, cond-true, cond-false, lt-ltb, le-ltb}
use Rattle.std.proofs.lemmas.List.{take-take, take-append-le, length-take, length-take-le}
use Rattle.wsn_wire.specs.declared.endpoint.Role.{Role}
use Rattle.wsn_wire.specs.declared.opcode.Op.{Op}
use Rattle.wsn_wire.specs.declared.opcode.Op.TheVariants.{Continue, Text, Binary, Close, Ping, Pong}
use Rattle.wsn_wire.specs.Frame.{Frame, is_control}
use Rattle.wsn_text.proofs.Scalars.{text_is_utf8}
use Rattle.wsn_rules.specs.Limits.{Limits}
use Rattle.wsn_rules.specs.Group.{unfinished, first_op, kind_at, kind_of, payload_of}
use Rattle.wsn_rules.specs.Lawful.{LawAt, IsLawful}
use Rattle.wsn_rules.specs.Meaning.{Message, Control}
use Rattle.wsn_rules.specs.ShownStream.{open_items, open_item}
use Rattle.wsn_rules.proofs.Groups.{group_of_lawful, is_group_push}
use Rattle.wsn_rules.proofs.LawfulLists.{law_at_split, lawful_front}
use Rattle.wsn_rules.proofs.MessageText.{text_of_push, reason_is_text}
use Rattle.wsn_print.specs.declared.shown.ShownEvent.{ShownEvent}
use Rattle.wsn_print.specs.declared.shown.HeldBytes.{HeldBytes}
use Rattle.wsn_print.proofs.HeldParts.{first_held, first_held_in}
use Rattle.wsn_print.specs.ShownParts.{HoldsFirst, IsFrontOf, IsEndOf, event_of, Represents, HasTextReason}
use Rattle.wsn_show.specs.declared.first_bytes.FirstBytes.{FirstBytes}
use Rattle.wsn_show.specs.declared.last_bytes.LastBytes.{LastBytes}
use Rattle.wsn_show.specs.declared.message_so_far.MessageSoFar.{MessageSoFar}
use Rattle.wsn_show.specs.HeldParts.{HasFirst, HasLast}
use Rattle.wsn_show.specs.StreamParts.{BeginsIfText, KeepsMessage, HasJoined}

-- ---- bytes

-- The first bytes of `all` among the first bytes of `all` and of more.
pub front_held : (n room count : ℕ) (all more held : List ℕ) → n ≤ room → held ≡ take room (all ++ more) → count ≡ length all → HoldsFirst n all (take (min count (length held)) held)
front_held n room count all more held few is counts =
    let size : length held ≡ min room (length (all ++ more)) = ap (λ (bs : List ℕ). length bs) is ∙ length-take room (all ++ more) in
    let both : length (all ++ more) ≡ length all + length more = length-append all more in
    let k = min count (length held) in
    let own : length (take k held) ≡ k = length-take-le k held (omega arith) in
    let front : take k held ≡ take k all =
    ap (λ (bs : List ℕ). take k bs) is ∙ take-take k room (all ++ more) (omega (arith, size)) ∙ take-append-le k all more (omega (arith, counts)) in
    (front ∙ ap (λ (m : ℕ). take m all) (sym own), enough (length (take k held)) (omega (arith, own, counts)) size both)
  where
    enough : (a : ℕ) → a ≡ min (length all) (length held) → length held ≡ min room (length (all ++ more)) → length (all ++ more) ≡ length all + length more → (n ≤ a) ⊎ (a ≡ length all)
    enough a is_min size both =
        elim (cases_lt (length held) (length all)) [
          | inl less ↦ inl (omega (arith, is_min, size, both, less, few))
          | inr more_held ↦ inr (omega (arith, is_min, more_held))
        ]

pub evidence_held : (n : ℕ) (all : List ℕ) (last : LastBytes) (bytes : HeldBytes) → n ≤ 4096 → HasLast last all → bytes.bytes ≡ last.count → bytes.held.now ≡ last.held → IsEndOf (n / 2) all bytes
evidence_held n all last bytes few is count held =
    let items : bytes.held.now ≡ drop (length all - 2048) all = held ∙ is.held in
    let size : length bytes.held.now ≡ length all - (length all - 2048) = ap (λ (bs : List ℕ). length bs) items ∙ length-drop (length all - 2048) all in
    let at : length all - 2048 ≡ length all - length bytes.held.now = omega (arith, size) in
    (count ∙ is.count, (items ∙ ap (λ (m : ℕ). drop m all) at, enough (length bytes.held.now) size))
  where
    enough : (a : ℕ) → a ≡ length all - (length all - 2048) → (n / 2 ≤ a) ⊎ (a ≡ length all)
    enough a size =
        elim (cases_lt (length all) 2048) [
          | inl less ↦ inr (omega (arith, size, less))
          | inr more ↦ inl (omega (arith, size, more, few))
        ]

pub front_of_bytes : (n : ℕ) (all : List ℕ) (first : FirstBytes) (bytes : HeldBytes) → n ≤ 4096 → HasFirst first all → bytes.bytes ≡ first.count → bytes.held.now ≡ first.held → IsFrontOf (n / 2) all bytes
front_of_bytes n all first bytes few is count held = (count ∙ is.count, first_held (n / 2) all bytes.held.now (omega (arith, few)) (held ∙ is.held))

-- ---- events

-- The message with this opcode.
pub message_is : (op : Op) (payload : List ℕ) → (op ≡ Text) ⊎ (op ≡ Binary) → Message (kind_at op) payload ≡ event_of op payload
message_is Text payload kind = refl
message_is Binary payload kind = refl
message_is Continue payload (inl is) = cc
message_is Continue payload (inr is) = cc
message_is Close payload (inl is) = cc
message_is Close payload (inr is) = cc
message_is Ping payload (inl is) = cc
message_is Ping payload (inr is) = cc
message_is Pong payload (inl is) = cc
message_is Pong payload (inr is) = cc

pub control_is : (op : Op) (body : List ℕ) → is_control op ≡ true → Control op body ≡ event_of op body
control_is Close body is = refl
control_is Ping body is = refl
control_is Pong body is = refl
control_is Continue body is = cc
control_is Text body is = cc
control_is Binary body is = cc

-- A message of this group is represented.
pub represents_message : (n : ℕ) (shown : ShownEvent) (group : List Frame) (payload : List ℕ) → (first_op group ≡ Text) ⊎ (first_op group ≡ Binary) → shown.op ≡ first_op group → shown.bytes ≡ length payload
    → HoldsFirst n payload shown.held.now → Represents n shown (Message (kind_of group) payload)
represents_message n shown group payload kind op bytes held = record {
  payload = payload;
  is = message_is (first_op group) payload kind ∙ ap (λ (o : Op). event_of o payload) (sym op);
  size = bytes;
  holds = held;
}

-- A control is represented.
pub represents_control : (n : ℕ) (shown : ShownEvent) (op : Op) (body : List ℕ) → is_control op ≡ true → shown.op ≡ op → shown.bytes ≡ length body → shown.held.now ≡ body → Represents n shown (Control op body)
represents_control n shown op body control is bytes held = record {
  payload = body;
  is = control_is op body control ∙ ap (λ (o : Op). event_of o body) (sym is);
  size = bytes;
  holds = held;
}

-- All of a control's payload is held.
pub control_held : (last : LastBytes) (body held : List ℕ) → HasLast last body → length body ≤ 125 → held ≡ last.held → held ≡ body
control_held last body held has short is = let none : length body - 2048 ≡ 0 = omega (arith, short) in is ∙ has.held ∙ ap (λ (m : ℕ). drop m body) none

-- ---- the open message

pub open_is : (fs : List Frame) (lacks : Option ℕ) → 0 < length (unfinished fs) → open_items fs lacks ≡ open_item fs (unfinished fs) lacks ∷ []
open_is fs lacks some = cond-true (nat_lt 0 (length (unfinished fs))) _ [] (lt-ltb 0 (length (unfinished fs)) some)

pub none_is : (fs : List Frame) (lacks : Option ℕ) → length (unfinished fs) ≡ 0 → open_items fs lacks ≡ []
none_is fs lacks none = cond-false (nat_lt 0 (length (unfinished fs))) _ [] (le-ltb 0 (length (unfinished fs)) (omega (arith, none)))

pub group_some : (fs : List Frame) → 0 < length (unfinished fs) → unfinished fs ≢ []
group_some fs some none = let size : length (unfinished fs) ≡ 0 = ap (λ (gs : List Frame). length gs) none in omega (arith, some, size)

-- The complete frames of the open message.
pub represents_open : (role : Role) (limits : Limits) (n : ℕ) (shown : ShownEvent) (message : MessageSoFar) (fs : List Frame) (part : List ℕ) → IsLawful role limits fs → 0 < length (unfinished fs) → KeepsMessage n message fs part
    → shown.op ≡ message.op → shown.bytes ≡ message.bytes → shown.held.now ≡ take (min message.bytes (length message.payload.held)) message.payload.held
    → Represents n shown (Message (kind_of (unfinished fs)) (payload_of (unfinished fs)))
represents_open role limits n shown message fs part lawful some kept op bytes held =
    let unended = group_some fs some in
    represents_message n shown (unfinished fs) (payload_of (unfinished fs)) ((group_of_lawful role limits fs lawful).kind unended) (op ∙ kept.op unended) (bytes ∙ kept.bytes)
    (subst (HoldsFirst n (payload_of (unfinished fs))) (sym held) (front_held n message.payload.size message.bytes (payload_of (unfinished fs)) part message.payload.held kept.payload.enough kept.payload.held kept.bytes))

-- The message to which the data frame f belongs.
pub represents_joined : (n : ℕ) (shown : ShownEvent) (message : MessageSoFar) (fs : List Frame) (f : Frame) → (first_op (unfinished fs ++ f ∷ []) ≡ Text) ⊎ (first_op (unfinished fs ++ f ∷ []) ≡ Binary)
    → KeepsMessage n message fs f.payload → HasJoined message fs f → shown.op ≡ message.op → shown.bytes ≡ message.payload.count → shown.held.now ≡ message.payload.held
    → Represents n shown (Message (kind_of (unfinished fs ++ f ∷ [])) (payload_of (unfinished fs ++ f ∷ [])))
represents_joined n shown message fs f kind kept joined op bytes held =
    let text : payload_of (unfinished fs ++ f ∷ []) ≡ payload_of (unfinished fs) ++ f.payload = text_of_push (unfinished fs) f in
    represents_message n shown (unfinished fs ++ f ∷ []) (payload_of (unfinished fs ++ f ∷ [])) kind (op ∙ joined.op) (bytes ∙ kept.payload.count ∙ ap (λ (bs : List ℕ). length bs) (sym text))
    (first_held_in n message.payload.size (payload_of (unfinished fs ++ f ∷ [])) shown.held.now kept.payload.enough (held ∙ kept.payload.held ∙ ap (λ (bs : List ℕ). take message.payload.size bs) (sym text)))

-- ---- complete events

module _ (role : Role) (limits : Limits) (fs : List Frame) (f : Frame) (lawful : IsLawful role limits (fs ++ f ∷ [])) where
  law : LawAt role limits fs f
  law = law_at_split role limits fs f [] lawful

  pub kind_of_data : is_control f.op ≡ false → (first_op (unfinished fs ++ f ∷ []) ≡ Text) ⊎ (first_op (unfinished fs ++ f ∷ []) ≡ Binary)
  kind_of_data other = (is_group_push limits (unfinished fs) f (group_of_lawful role limits fs (lawful_front role limits fs (f ∷ []) lawful)) (ap not other) (law.group (ap not other))).kind (some (unfinished fs))
    where
      some : (group : List Frame) → group ++ f ∷ [] ≢ []
      some [] is = cc
      some (g ∷ group) is = cc

  pub text_of_data : is_control f.op ≡ false → BeginsIfText (unfinished fs ++ f ∷ [])
  text_of_data other = (law.group (ap not other)).begins

  pub control_short : is_control f.op ≡ true → length f.payload ≤ 125
  control_short control = (law.frame.encoded.control control).short

  reason_of : (op : Op) → f.op ≡ op → HasTextReason (Control op f.payload)
  reason_of Close is = (text_is_utf8 (drop 2 f.payload)).0 (reason_is_text f.payload (law.frame.close is))
  reason_of Continue is = tt
  reason_of Text is = tt
  reason_of Binary is = tt
  reason_of Ping is = tt
  reason_of Pong is = tt

  pub text_reason : HasTextReason (Control f.op f.payload)
  text_reason = reason_of f.op refl
