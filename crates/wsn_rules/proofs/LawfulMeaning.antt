-- The meaning of lawful frames is lawful: each event that a final frame completes, and all of them.
use Rattle.std.proofs.Common.{◌≡◌, ℕ, ◌<◌, ◌≤◌, ◌^◌, Bool, true, false, cond, not, List, [], ◌∷◌, ◌++◌, length, filter, refl, sym, ap, subst, inl, inr, arith, if◌then◌else◌}
use Rattle.std.proofs.lemmas.Bool.{cases_Bool, cond-true, cond-false}
use Rattle.std.specs.List.{AllByRecursion, fold}
use Rattle.wsn_wire.specs.declared.endpoint.Role.{Role}
use Rattle.wsn_wire.specs.declared.opcode.Op.{Op}
use Rattle.wsn_wire.specs.declared.opcode.Op.TheVariants.{Continue, Text, Binary, Close, Ping, Pong}
use Rattle.wsn_wire.specs.declared.opcode.Kind.TheVariants as kind
use Rattle.wsn_wire.specs.Frame.{Frame, IsBytes, is_control}
use Rattle.wsn_wire.proofs.FrameLemmas.{IsBytes-append}
use Rattle.wsn_rules.specs.Limits.{Limits, InRange}
use Rattle.wsn_rules.specs.Group.{is_data, with_frame, unfinished, first_op, kind_at, kind_of, payload_of}
use Rattle.wsn_rules.specs.MessageLaw.{GroupLaw}
use Rattle.wsn_rules.specs.Lawful.{LawAt, IsLawful, AreLawfulAfter, FrameLaw}
use Rattle.wsn_rules.specs.Meaning.{MeantEvent, Message, Control, event_at, events_after, meaning}
use Rattle.wsn_rules.proofs.Prefixes.{push-append}
use Rattle.wsn_rules.proofs.LawfulLists.{lawful_after, lawful_front, law_at_split}
use Rattle.wsn_rules.proofs.MessageText.{text_of_push}
use Rattle.wsn_rules.specs.LawfulEvents.{IsLawfulMessage, IsLawfulControl, IsLawfulEvent, IsWithin, AreLawful}

-- ---- the payload of a group is bytes

-- The payload of each frame is bytes.
abbrev HaveBytes : List Frame → Type 0
HaveBytes = AllByRecursion (λ f. IsBytes f.payload)

have_bytes_push : (fs : List Frame) (f : Frame) → HaveBytes fs → IsBytes f.payload → HaveBytes (fs ++ f ∷ [])
have_bytes_push [] f each here = (here, tt)
have_bytes_push (g ∷ fs) f each here = (each.0, have_bytes_push fs f each.1 here)

group_has_bytes : (fs : List Frame) → HaveBytes fs → HaveBytes (unfinished fs)
group_has_bytes fs each = from_front fs [] each tt
  where
    from_front : (fs group : List Frame) → HaveBytes fs → HaveBytes group → HaveBytes (fold with_frame group fs)
    from_front [] group each so_far = so_far
    from_front (f ∷ fs) group each so_far = from_front fs (with_frame group f) each.1 (by (is_data f) f.fin)
      where
        by : (data_frame final : Bool) → HaveBytes (if data_frame then (if final then [] else group ++ f ∷ []) else group)
        by true true = tt
        by true false = have_bytes_push group f so_far each.0
        by false final = so_far

lawful_have_bytes : (role : Role) (limits : Limits) (before fs : List Frame) → AreLawfulAfter role limits before fs → HaveBytes fs
lawful_have_bytes role limits before [] following = tt
lawful_have_bytes role limits before (f ∷ fs) following = (following.0.frame.encoded.encodable.payload, lawful_have_bytes role limits (before ++ f ∷ []) fs following.2)

text_in_bytes : (fs : List Frame) → HaveBytes fs → IsBytes (payload_of fs)
text_in_bytes [] each = tt
text_in_bytes (f ∷ fs) each = IsBytes-append f.payload (payload_of fs) each.0 (text_in_bytes fs each.1)

-- ---- one event

-- Only Text begins text.
text_of_kind : (op : Op) → kind_at op ≡ kind.Text → op ≡ Text
text_of_kind Text is = refl
text_of_kind _ is = cc

-- A message within a limit has a length below 2^63.
below_2^63 : (size most : ℕ) → size ≤ most → most ≤ 16777216 → size < 2 ^ 63
below_2^63 size most within range = omega arith

lawful_control : (role : Role) (limits : Limits) (f : Frame) → FrameLaw role limits.lengths f → is_control f.op ≡ true → IsLawfulControl f.op f.payload
lawful_control role limits f law control = record {
  control = control;
  in_bytes = law.encoded.encodable.payload;
  size = (law.encoded.control control).short;
  close = law.close;
}

lawful_message : (limits : Limits) (group : List Frame) (f : Frame) → InRange limits → HaveBytes group → IsBytes f.payload → f.fin ≡ true → GroupLaw limits group f
    → IsLawfulMessage (kind_of (group ++ f ∷ [])) (payload_of (group ++ f ∷ []))
lawful_message limits group f range earlier here final law = record {
  in_bytes = subst IsBytes (sym (text_of_push group f)) (IsBytes-append (payload_of group) f.payload (text_in_bytes group earlier) here);
  size = below_2^63 (length (payload_of (group ++ f ∷ []))) limits.message law.size range.message;
  utf8 = λ is. law.text (text_of_kind (first_op (group ++ f ∷ [])) is) final;
}

-- The event that a final frame completes, by the kind of the frame.
pub event_of_control : (before : List Frame) (f : Frame) → is_control f.op ≡ true → event_at before f ≡ Control f.op f.payload
event_of_control before f control =
    cond-true (is_control f.op) (Control f.op f.payload) (Message (kind_of (unfinished before ++ f ∷ [])) (payload_of (unfinished before ++ f ∷ []))) control

pub event_of_data : (before : List Frame) (f : Frame) → is_control f.op ≡ false → event_at before f ≡ Message (kind_of (unfinished before ++ f ∷ [])) (payload_of (unfinished before ++ f ∷ []))
event_of_data before f other =
    cond-false (is_control f.op) (Control f.op f.payload) (Message (kind_of (unfinished before ++ f ∷ [])) (payload_of (unfinished before ++ f ∷ []))) other

pub lawful_event : (role : Role) (limits : Limits) (before : List Frame) (f : Frame) → InRange limits → IsLawful role limits (before ++ f ∷ []) → f.fin ≡ true → IsLawfulEvent (event_at before f)
lawful_event role limits before f range lawful final =
    let law = law_at_split role limits before f [] lawful in
    let bytes = lawful_have_bytes role limits [] before (lawful_after role limits [] before (lawful_front role limits before (f ∷ []) lawful)) in
    elim (cases_Bool (is_control f.op)) [
      | inl control ↦ subst IsLawfulEvent (sym (event_of_control before f control)) (lawful_control role limits f law.frame control)
      | inr other ↦ subst IsLawfulEvent (sym (event_of_data before f other))
          (lawful_message limits (unfinished before) f range (group_has_bytes before bytes) law.frame.encoded.encodable.payload final (law.group (ap not other)))
    ]

-- ---- all of them

within : (role : Role) (limits : Limits) (before : List Frame) (f : Frame) (later : List MeantEvent) → LawAt role limits before f → (f.op ≡ Close → later ≡ []) → IsWithin limits.message (event_at before f) later
within role limits before f later law last =
    elim (cases_Bool (is_control f.op)) [
      | inl control ↦ subst (λ (e : MeantEvent). IsWithin limits.message e later) (sym (event_of_control before f control)) last
      | inr other ↦ subst (λ (e : MeantEvent). IsWithin limits.message e later) (sym (event_of_data before f other)) (law.group (ap not other)).size
    ]

lawful_events : (role : Role) (limits : Limits) (before fs : List Frame) → InRange limits → IsLawful role limits (before ++ fs) → AreLawful limits.message (events_after before fs)
lawful_events role limits before [] range lawful = tt
lawful_events role limits before (f ∷ fs) range lawful =
    let moved = subst (IsLawful role limits) (sym (push-append before f fs)) lawful in
    let rest = lawful_events role limits (before ++ f ∷ []) fs range moved in
    let later = events_after (before ++ f ∷ []) fs in
    elim (cases_Bool f.fin) [
      | inl final ↦ subst (λ (b : Bool). AreLawful limits.message (cond b (event_at before f ∷ []) [] ++ later)) (sym final) (
        lawful_event role limits before f range (lawful_front role limits (before ++ f ∷ []) fs moved) final,
        within role limits before f later (law_at_split role limits before f fs lawful) (λ close. ap (events_after (before ++ f ∷ [])) (lawful.close_last before fs f refl close)),
        rest,
      )
      | inr more ↦ subst (λ (b : Bool). AreLawful limits.message (cond b (event_at before f ∷ []) [] ++ later)) (sym more) rest
    ]

pub lawful_meaning : (role : Role) (limits : Limits) (fs : List Frame) → IsLawful role limits fs → InRange limits → AreLawful limits.message (meaning fs)
lawful_meaning role limits fs lawful range = lawful_events role limits [] fs range lawful
